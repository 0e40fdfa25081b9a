-- The first test of a certificate that fails, and where it fails (docs/LANGUAGE.md, "Certificates").
use Rattle.std.specs.Prelude.{◌≡◌, ℕ, ◌<◌, List, Some, slice_get}
use Rattle.wy_types.specs.Program.{Program, Scope}
use Rattle.wy_types.specs.Core.{IsCore}
use Rattle.wy_cert.specs.declared.certificate.CertScope.{CertScope}
use Rattle.wy_proving.specs.declared.proof.CertTest.{CertTest}
use Rattle.wy_proving.specs.declared.proof.CertTest.TheVariants.{Scopes, Types, Pairs, Plain, Lines, Nodes}
use Rattle.wy_proving.specs.Certified.{types_of}
use Rattle.wy_proving.specs.Reading.{bodies_fail}
use Rattle.wy_proving.specs.Proving.{TypeStands, TypesHold, PairStands, PairsHold, PlainStands, PlainPairsHold, RuleStands, scope_rules, LinesHold, nodes_read, ScopesHold, ProvesScope, IsProof}

-- the first of a list that has not the property, by its number
pub record IsFirstWithout {X : Type 0} (P : X → Type 0) (xs : List X) (i : ℕ) : Type 0 where
  pub element : X
  pub there : slice_get xs i ≡ Some element
  pub fails : P element → ⊥
  pub before : (j : ℕ) (x : X) → j < i → slice_get xs j ≡ Some x → P x

-- the scope of a number in a program, and what a certificate says of it
module _ (p : Program) (k : ℕ) (s : Scope) (c : CertScope) where
  -- the test fails at this number of its types, pairs, rules or nodes first
  abbrev pub FailsAt : CertTest → ℕ → Type 0
  FailsAt Scopes i = ⊥
  FailsAt Types i = IsFirstWithout (TypeStands p s) (types_of c) i
  FailsAt Pairs i = IsFirstWithout (PairStands p k s c) c.pairs i
  FailsAt Plain i = IsFirstWithout (PlainStands p k s c) c.plain i
  FailsAt Lines i = IsFirstWithout (RuleStands p k s c) (scope_rules s) i
  FailsAt Nodes i = nodes_read p k s c ≡ bodies_fail i

  -- the scope's tests before this one hold
  abbrev pub HoldsBefore : CertTest → Type 0
  HoldsBefore Scopes = Unit {0}
  HoldsBefore Types = Unit {0}
  HoldsBefore Pairs = TypesHold p k s c
  HoldsBefore Plain = TypesHold p k s c × PairsHold p k s c
  HoldsBefore Lines = TypesHold p k s c × PairsHold p k s c × PlainPairsHold p k s c
  HoldsBefore Nodes = TypesHold p k s c × PairsHold p k s c × PlainPairsHold p k s c × LinesHold p k s c

-- a test fails first in a scope, all that come before it hold there, and so do all tests in the scopes before it
pub record FailsInScope (p : Program) (cert : List CertScope) (k : ℕ) (test : CertTest) (i : ℕ) : Type 0 where
  pub number : ScopesHold p cert
  pub scope : Scope
  pub part : CertScope
  pub scope_there : slice_get p.scopes k ≡ Some scope
  pub part_there : slice_get cert k ≡ Some part
  pub scopes_before : (j : ℕ) → j < k → ProvesScope p cert j
  pub tests_before : HoldsBefore p k scope part test
  pub fails : FailsAt p k scope part test i

-- the first test that fails, in the first scope where one does, and at which number it fails first; C-Scopes has no scope
abbrev pub IsFirstUnproved : Program → List CertScope → ℕ → CertTest → ℕ → Type 0
IsFirstUnproved p cert k Scopes i = (ScopesHold p cert → ⊥) × (k ≡ 0) × (i ≡ 0)
IsFirstUnproved p cert k Types i = FailsInScope p cert k Types i
IsFirstUnproved p cert k Pairs i = FailsInScope p cert k Pairs i
IsFirstUnproved p cert k Plain i = FailsInScope p cert k Plain i
IsFirstUnproved p cert k Lines i = FailsInScope p cert k Lines i
IsFirstUnproved p cert k Nodes i = FailsInScope p cert k Nodes i

------------------------------------------------------------
-- Laws

-- a certificate with a first failure proves nothing
abbrev pub UnprovedIsNoProof : Type 0
UnprovedIsNoProof = (p : Program) (cert : List CertScope) → IsCore p → (k : ℕ) (test : CertTest) (i : ℕ) → IsFirstUnproved p cert k test i → IsProof p cert → ⊥

-- it has one
abbrev pub OneUnproved : Type 0
OneUnproved =
    (p : Program) (cert : List CertScope) → IsCore p → (k k' : ℕ) (test test' : CertTest) (i i' : ℕ) → IsFirstUnproved p cert k test i → IsFirstUnproved p cert k' test' i' →
    (k ≡ k') × (test ≡ test') × (i ≡ i')
