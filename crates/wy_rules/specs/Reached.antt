-- The types that a derivation names, and those that are reached from what a scope writes (docs/LANGUAGE.md, "Typing of bodies" and "Limits").
use Rattle.std.specs.Prelude.{◌≡◌, ℕ, List, [], ◌∷◌, ◌⊎◌, Some, Bool as Truth, true, false, length, slice_get}
use Rattle.wy_text.specs.Members.{In}
use Rattle.wy_types.specs.declared.types.TypeRef.{TypeRef}
use Rattle.wy_types.specs.declared.types.TypeRef.TheVariants.{Int, Bool, Text, Unit as Nothing}
use Rattle.wy_types.specs.declared.resolved.OwnName.{OwnName}
use Rattle.wy_types.specs.Program.{Program, Scope, Body}
use Rattle.wy_types.specs.Types.{IsObject, is_plain}
use Rattle.wy_types.specs.Fitting.{FitsType}
use Rattle.wy_types.specs.Core.{ScopeFits, IsCore}
use Rattle.wy_types.specs.Written.{block_types}
use Rattle.wy_types.specs.Reached.{start_types, own_types, IsReached as IsCounted}
use Rattle.wy_types.specs.Signature.{Signature}
use Rattle.wy_rules.specs.Readings.{Reading, annotated_reading, plain_reading}
use Rattle.wy_rules.specs.Derivations.{Derivation, T-Lit, T-Var, T-This, T-Call, T-New, T-If, T-Set, T-Op, T-Asc, T-Sub, Derivations, none as no_derivations, more as one_more, BlockDerivation, Result, T-Seq, T-Val, Block-Sub, BodyDerivation, T-Body, T-Body-Init, ScopeDerivation}
use Rattle.wy_rules.specs.Typing.{field_types}
use Rattle.wy_rules.specs.Acceptance.{scope_reading}
use Rattle.wy_rules.specs.Canonical.{canonical_over, locals_of}

------------------------------------------------------------
-- The types that a derivation names: of a receiver, of a `val`, and of what stands below a T-Sub

module _ {K : Type 0} (P : K → Type 0) where
  -- each type of a list has the property
  abbrev pub Each : List K → Type 0
  Each [] = Unit {0}
  Each (t ∷ ts) = P t × Each ts

  abbrev mutual
    -- all types that a derivation names have the property
    pub Names : Derivation K → Type 0
    Names (T-Lit q) = Unit {0}
    Names (T-Var q) = Unit {0}
    Names (T-This q) = Unit {0}
    Names (T-Call q d k e ds) = Names d × P k × NamesAll ds
    Names (T-New q ds) = NamesAll ds
    Names (T-If q d e a f b g) = Names d × NamesBlock a × NamesBlock b
    Names (T-Set q d) = Names d
    Names (T-Op q r ds) = NamesAll ds
    Names (T-Asc q d) = Names d
    Names (T-Sub q d k e) = Names d × P k

    pub NamesAll : Derivations K → Type 0
    NamesAll no_derivations = Unit {0}
    NamesAll (one_more d e ds) = Names d × NamesAll ds

    pub NamesBlock : BlockDerivation K → Type 0
    NamesBlock (Result d) = Names d
    NamesBlock (T-Seq q d e ds f) = Names d × NamesBlock ds
    NamesBlock (T-Val q d k e ds f) = Names d × P k × NamesBlock ds
    NamesBlock (Block-Sub q ds k e) = NamesBlock ds × P k

  -- .. of a body, of bodies, and of a scope, whose `val`s have types
  abbrev pub NamesBody : BodyDerivation K → Type 0
  NamesBody (T-Body q d e) = NamesBlock d
  NamesBody (T-Body-Init q ds) = NamesAll ds

  abbrev pub NamesBodies : List (BodyDerivation K) → Type 0
  NamesBodies [] = Unit {0}
  NamesBodies (d ∷ ds) = NamesBody d × NamesBodies ds

  abbrev pub NamesScope : ScopeDerivation K → Type 0
  NamesScope d = Each d.locals × NamesBody d.start × NamesBodies d.bodies

------------------------------------------------------------
-- Reached types

-- a type that is reached: a base type, one of the scope's own, one that the scope writes, or one that a method of such a type names
pub data IsReached (y : Reading) (s : Scope) : y.Kind → Type 0 where
  of_number : IsReached y s (y.read Int)
  of_truth : IsReached y s (y.read Bool)
  of_text : IsReached y s (y.read Text)
  of_nothing : IsReached y s (y.read Nothing)
  of_own : (t : TypeRef) → In t (own_types s.kind (length s.literals)) → IsReached y s (y.read t)
  of_field : (l : ℕ) (t : TypeRef) → In t (field_types s l) → IsReached y s (y.read t)
  of_parameter : (b : Body) → In b s.bodies → (t : TypeRef) → In t b.signature.params → IsReached y s (y.read t)
  of_answer : (b : Body) → In b s.bodies → IsReached y s (y.read b.signature.result)
  of_name : (n : OwnName) → In n s.names → IsReached y s (y.read n.typ)
  of_start : (t : TypeRef) → In t (start_types s.start) → IsReached y s (y.read t)
  of_body : (b : Body) → In b s.bodies → (t : TypeRef) → In t (block_types b.block) → IsReached y s (y.read t)
  of_argument : (k : y.Kind) → IsReached y s k → (m : Signature y.Kind) → In m (y.methods k) → (t : y.Kind) → In t m.params → IsReached y s t
  of_result : (k : y.Kind) → IsReached y s k → (m : Signature y.Kind) → In m (y.methods k) → IsReached y s m.result

-- the types of `val`s that are found are reached, and over any that are reached the canonical derivation names reached types alone
abbrev pub CanonicalTypesAreReached : Type 0
CanonicalTypesAreReached =
    (p : Program) (k : ℕ) (s : Scope) → ScopeFits p s →
    let reached = IsReached (scope_reading p k s) s in
    Each reached (locals_of p k s) × ((locals : List (scope_reading p k s).Kind) → Each reached locals → NamesScope reached (canonical_over p k s locals))

------------------------------------------------------------
-- What each reached type is

-- each type that a scope reaches has the property, as its kind of scope reads types
abbrev pub EachReached : (TypeRef → Type 0) → Program → ℕ → Scope → Truth → Type 0
EachReached P p k s true = (t : TypeRef) → IsReached (plain_reading p k) s t → P t
EachReached P p k s false = (t : TypeRef) → IsReached (annotated_reading p k) s t → P t

-- a base type, or a type of those that the limit on types counts
abbrev pub IsBaseOrCounted : Program → ℕ → TypeRef → Type 0
IsBaseOrCounted p k t = (IsObject t → ⊥) ⊎ IsCounted p k t

-- each type that a scope of the program reaches is a base type, or one that the limit counts
abbrev pub ReachedTypesAreCounted : Type 0
ReachedTypesAreCounted = (p : Program) (k : ℕ) (s : Scope) → slice_get p.scopes k ≡ Some s → ScopeFits p s → EachReached (IsBaseOrCounted p k) p k s (is_plain s.kind)

-- a type that can be written, or one of the scope's own
abbrev pub IsWrittenOrOwn : Program → Scope → TypeRef → Type 0
IsWrittenOrOwn p s t = FitsType p 512 0 t ⊎ In t (own_types s.kind (length s.literals))

-- each type that a scope of a core reaches can be written or is one of its own; of the program's own object there is none
abbrev pub ReachedTypesAreWrittenOrOwn : Type 0
ReachedTypesAreWrittenOrOwn = (p : Program) (k : ℕ) (s : Scope) → IsCore p → slice_get p.scopes k ≡ Some s → EachReached (IsWrittenOrOwn p s) p k s (is_plain s.kind)
