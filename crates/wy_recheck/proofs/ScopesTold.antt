-- A test of a scope that fails, all before it holding, is the first of a certificate where the scopes before it are proved.
use Rattle.std.proofs.Common.{◌≡◌, ℕ, zero, suc, ◌<◌, List, [], ◌∷◌, length, refl, arith, Some}
use Rattle.std.specs.Prelude.{slice_get}
use Rattle.wy_types.specs.Program.{Program, Scope}
use Rattle.wy_cert.specs.declared.certificate.CertScope.{CertScope}
use Rattle.wy_proving.specs.declared.proof.CertTest.{CertTest}
use Rattle.wy_proving.specs.declared.proof.CertTest.TheVariants.{Scopes, Types, Pairs, Plain, Lines, Nodes}
use Rattle.wy_proving.specs.Proving.{ScopesHold, ProvesScope}
use Rattle.wy_proving.specs.Unproved.{FailsAt, HoldsBefore, FailsInScope, IsFirstUnproved}
use Rattle.wy_recheck.specs.declared.failure.Failure.{Failure}
use Rattle.wy_recheck.specs.declared.failure.Failure.TheVariants.{At, Memory as NoMemory}
use Rattle.wy_recheck.specs.declared.rechecking.Stop.{Stop}
use Rattle.wy_recheck.specs.declared.rechecking.Stop.TheVariants as stop
use Rattle.wy_recheck.specs.Standing.{FailsFirst}
use Rattle.wy_recheck.specs.Rechecked.{stop_of, unproved, StopsIn, StopsAt}

-- what stands at a number in a list
pub found_at : {X : Type 0} (xs : List X) (i : ℕ) → i < length xs → (x : X) × (slice_get xs i ≡ Some x)
found_at [] i lt = absurd (omega arith)
found_at (x ∷ xs) zero lt = (x, refl)
found_at (x ∷ xs) (suc i) lt = found_at xs i (omega arith)

module _ (p : Program) (k : ℕ) (s : Scope) (c : CertScope) where
  -- a test fails, those before it holding
  pub stops : (test : CertTest) → HoldsBefore p k s c test → (f : Failure) → FailsFirst (FailsAt p k s c test) f → StopsIn p k s c (stop_of test f)
  stops test before (At i) h = (before, h)
  stops test before NoMemory h = tt

  module _ (cert : List CertScope) (number : ScopesHold p cert) (there : slice_get p.scopes k ≡ Some s) (part : slice_get cert k ≡ Some c) (before : (j : ℕ) → j < k → ProvesScope p cert j) where
    in_scope : (test : CertTest) (i : ℕ) → HoldsBefore p k s c test → FailsAt p k s c test i → FailsInScope p cert k test i
    in_scope test i h f = record { number = number; scope = s; part = c; scope_there = there; part_there = part; scopes_before = before; tests_before = h; fails = f }

    first : (test : CertTest) (i : ℕ) → HoldsBefore p k s c test → FailsAt p k s c test i → IsFirstUnproved p cert k test i
    first Scopes i h f = absurd f
    first Types i h f = in_scope Types i h f
    first Pairs i h f = in_scope Pairs i h f
    first Plain i h f = in_scope Plain i h f
    first Lines i h f = in_scope Lines i h f
    first Nodes i h f = in_scope Nodes i h f

    -- the certificate is refused by it
    pub stops_at : (v : Stop) → StopsIn p k s c v → StopsAt p cert (unproved k v)
    stops_at (stop.Fails test i) h = first test i h.0 h.1
    stops_at stop.Memory h = tt
