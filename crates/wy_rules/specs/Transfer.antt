-- When a scope that holds in one program holds in another: where the types that it reaches have the same methods there
-- (docs/LANGUAGE.md, "Typing of bodies").
use Rattle.std.specs.Prelude.{◌≡◌, ℕ, [], ◌∷◌, ◌++◌, Some, Bool as Truth, map, slice_get}
use Rattle.wy_text.specs.Members.{In}
use Rattle.wy_types.specs.declared.types.TypeRef.{TypeRef}
use Rattle.wy_types.specs.declared.types.TypeRef.TheVariants.{Int, Bool, Text, Unit as Nothing, Named, At, Own}
use Rattle.wy_types.specs.declared.resolved.TypeDecl.{TypeDecl}
use Rattle.wy_types.specs.declared.resolved.OwnName.{OwnName}
use Rattle.wy_types.specs.Program.{Program, Scope, Body}
use Rattle.wy_types.specs.Types.{is_plain, signature, methods_of}
use Rattle.wy_types.specs.Bounds.{bounds_of}
use Rattle.wy_types.specs.Core.{ScopeFits}
use Rattle.wy_types.specs.Written.{block_types}
use Rattle.wy_types.specs.Reached.{start_types}
use Rattle.wy_types.specs.Signature.{Signature}
use Rattle.wy_rules.specs.Typing.{field_types, ScopeHolds}
use Rattle.wy_rules.specs.Acceptance.{scope_reading, Accepted}
use Rattle.wy_rules.specs.Reached.{EachReached}

-- another program has the same methods for each type that the scope reaches
abbrev pub AgreesIn : Program → Program → ℕ → Scope → Truth → Type 0
AgreesIn p other k s plain = EachReached (λ t. methods_of p k t ≡ methods_of other k t) p k s plain

-- what holds of a scope in one program holds in another that agrees with it there, and where its atoms have the same bounds
abbrev pub ScopesHoldWhereMethodsAgree : Type 0
ScopesHoldWhereMethodsAgree =
    (p other : Program) (k : ℕ) (s : Scope) → ScopeFits p s → bounds_of p k ≡ bounds_of other k → AgreesIn p other k s (is_plain s.kind) →
    ScopeHolds (scope_reading p k s) s → ScopeHolds (scope_reading other k s) s

------------------------------------------------------------
-- Programs that differ in one declared type, which the scope does not write

-- it is not the declared type of this number
abbrev pub NamesNot : ℕ → TypeRef → Type 0
NamesNot i Int = Unit {0}
NamesNot i Bool = Unit {0}
NamesNot i Text = Unit {0}
NamesNot i Nothing = Unit {0}
NamesNot i (Named d es) = d ≡ i → ⊥
NamesNot i (At d e) = d ≡ i → ⊥
NamesNot i (Own l) = Unit {0}

-- nothing in the scope is of that type
pub record WritesNot (i : ℕ) (s : Scope) : Type 0 where
  pub fields : (l : ℕ) (t : TypeRef) → In t (field_types s l) → NamesNot i t
  pub params : (b : Body) → In b s.bodies → (t : TypeRef) → In t b.signature.params → NamesNot i t
  pub results : (b : Body) → In b s.bodies → NamesNot i b.signature.result
  pub names : (n : OwnName) → In n s.names → NamesNot i n.typ
  pub start : (t : TypeRef) → In t (start_types s.start) → NamesNot i t
  pub bodies : (b : Body) → In b s.bodies → (t : TypeRef) → In t (block_types b.block) → NamesNot i t

-- the programs have the same scopes and, but for the one of that number, the same declarations, which do not name it
pub record DiffersAt (i : ℕ) (p other : Program) : Type 0 where
  pub scopes : p.scopes ≡ other.scopes
  pub declarations : (d : ℕ) → (d ≡ i → ⊥) → slice_get p.declarations d ≡ slice_get other.declarations d
  pub named_not : (d : ℕ) (a : TypeDecl) → (d ≡ i → ⊥) → slice_get p.declarations d ≡ Some a → (m : Signature TypeRef) → In m (map signature a.methods) → (t : TypeRef) → In t (m.params ++ m.result ∷ []) → NamesNot i t

-- a scope that does not write the type holds in the other program where it holds in the one
abbrev pub ScopesHoldWithoutType : Type 0
ScopesHoldWithoutType =
    (i : ℕ) (p other : Program) (k : ℕ) (s : Scope) → DiffersAt i p other → slice_get p.scopes k ≡ Some s → ScopeFits p s → WritesNot i s →
    ScopeHolds (scope_reading p k s) s → ScopeHolds (scope_reading other k s) s

-- .. nor is the type that it is sealed at
pub record LeavesOut (i : ℕ) (p : Program) (s : Scope) : Type 0 where
  pub fits : ScopeFits p s
  pub writes : WritesNot i s
  pub sealed : (d : ℕ) → s.ascribed ≡ Some d → d ≡ i → ⊥

-- a program none of whose scopes writes the type is accepted where the other one is
abbrev pub AcceptedWithoutType : Type 0
AcceptedWithoutType =
    (i : ℕ) (p other : Program) → DiffersAt i p other → ((k : ℕ) (s : Scope) → slice_get p.scopes k ≡ Some s → LeavesOut i p s) → Accepted p → Accepted other
