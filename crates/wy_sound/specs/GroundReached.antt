-- The types that a run reaches, as a list that the program and its instances give, each once: from what each instance's scope writes, and its own
-- types, as the instance reads them, through methods of types of the run (docs/LANGUAGE.md, "Types of a run").
use Rattle.std.specs.Prelude.{ℕ, zero, suc, ◌+◌, List, [], ◌∷◌, ◌++◌, ◌↔◌, map, Bool as Truth, true, false, if◌then◌else◌, nat_eq, slice_get}
use Rattle.wy_text.specs.Members.{In, Apart}
use Rattle.wy_types.specs.declared.types.TypeRef.{TypeRef}
use Rattle.wy_types.specs.declared.linked.Instance.{Instance}
use Rattle.wy_types.specs.declared.path.Step.{Step}
use Rattle.wy_types.specs.Program.{Program, Scope}
use Rattle.wy_types.specs.Signature.{signature_types}
use Rattle.wy_types.specs.Paths.{Walks}
use Rattle.wy_types.specs.Reached.{scope_first_types}
use Rattle.wy_rules.specs.Acceptance.{Accepted}
use Rattle.wy_rules.specs.Canonical.{both, same_numbers, same_sets, canonical_locals, canonical_scope}
use Rattle.wy_rules.specs.Reached.{IsReached, Each, NamesScope}
use Rattle.wy_rules.specs.Typing.{DerivesScope}
use Rattle.wy_rules.specs.GroundTypes.{GroundType, Int, Bool, Text, Nothing, Named, At, Own, type_at, read_by, run_instances, ground_methods, ground_reading}
use Rattle.wy_rules.specs.GroundTyping.{IsInstanceOf}
use Rattle.wy_sound.specs.GroundRange.{IsOfRun, ground_bound}
use Rattle.wy_sound.specs.Programs.{IsResolved}

------------------------------------------------------------
-- Lists without a type twice

-- whether two types of a run are the same
abbrev pub same_ground : GroundType → GroundType → Truth
same_ground Int Int = true
same_ground Bool Bool = true
same_ground Text Text = true
same_ground Nothing Nothing = true
same_ground (Named d es) (Named e fs) = both (nat_eq d e) (same_sets es fs)
same_ground (At d e) (At f g) = both (nat_eq d f) (same_numbers e g)
same_ground (Own x l) (Own y k) = both (nat_eq x y) (nat_eq l k)
same_ground t u = false

abbrev pub is_among : GroundType → List GroundType → Truth
is_among t [] = false
is_among t (u ∷ us) = if same_ground u t then true else is_among t us

-- the list, and at its end those of the others that it lacks
abbrev pub with_others : List GroundType → List GroundType → List GroundType
with_others us [] = us
with_others us (t ∷ ts) = if is_among t us then with_others us ts else with_others (us ++ t ∷ []) ts

------------------------------------------------------------
-- Where a run begins, and what it reaches

-- the types that a scope's reaching begins with, as the instance reads them; of the instances from a number on
abbrev pub read_types : ℕ → Instance → List TypeRef → List GroundType
read_types x i ts = map (λ t. type_at x (read_by i.bound i.ground t)) ts

abbrev pub firsts_from : Program → ℕ → List Instance → List GroundType
firsts_from p x [] = []
firsts_from p x (i ∷ is) = read_types x i (scope_first_types (slice_get p.scopes i.scope)) ++ firsts_from p (x + 1) is

-- .. and the base types
abbrev pub ground_firsts : Program → List GroundType
ground_firsts p = Int ∷ Bool ∷ Text ∷ Nothing ∷ firsts_from p 0 (run_instances p)

-- a type is reached where a path leads to it from one of those
abbrev pub IsGroundReached : Program → GroundType → Type 0
IsGroundReached p t = (u : GroundType) × In u (ground_firsts p) × ((path : List Step) × Walks GroundType (ground_methods p) u path t)

------------------------------------------------------------
-- The list

-- the types that the methods of these types name
abbrev pub named_by : Program → List GroundType → List GroundType
named_by p [] = []
named_by p (t ∷ ts) = signature_types (ground_methods p t) ++ named_by p ts

-- so many times over: the list, and at its end those of the types that its methods name which it lacks
abbrev pub with_named : Program → ℕ → List GroundType → List GroundType
with_named p zero us = us
with_named p (suc n) us = with_named p n (with_others us (named_by p us))

-- there are no more types of a run than the bound, so none is lacking after as many times
unfoldable pub ground_reached : Program → List GroundType
ground_reached p = with_named p (ground_bound p + 1) (with_others [] (ground_firsts p))

abbrev pub IsListed : Program → GroundType → Type 0
IsListed p t = In t (ground_reached p)

------------------------------------------------------------
-- Laws

-- each type that a run reaches is in the list once, and no other type is; each is one of the types of a run
abbrev pub GroundReachedIs : Type 0
GroundReachedIs =
    (p : Program) → IsResolved p → Accepted p →
    Apart (ground_reached p) × ((t : GroundType) → IsListed p t ↔ IsGroundReached p t) × ((t : GroundType) → IsListed p t → IsOfRun p t)

-- no other type occurs in an instance: all that its scope reaches, as the instance reads types, are in the list, so are those of its `val`s that are
-- found one after the other, and over any types of `val`s that are in the list all that the canonical derivation names
pub record OccursListed (p : Program) (x : ℕ) (i : Instance) (s : Scope) : Type 0 where
  pub reached : (t : GroundType) → IsReached (ground_reading p x i) s t → IsListed p t
  pub locals : Each (IsListed p) (canonical_locals (ground_reading p x i) same_ground s)
  pub named : (locals : List GroundType) → Each (IsListed p) locals → NamesScope (IsListed p) (canonical_scope (ground_reading p x i) same_ground s locals)

abbrev pub NoOtherGroundTypeOccurs : Type 0
NoOtherGroundTypeOccurs = (p : Program) → IsResolved p → Accepted p → (x : ℕ) (i : Instance) (s : Scope) → IsInstanceOf p x i s → OccursListed p x i s

-- the canonical derivation of an instance's scope, over the types of its `val`s that are found one after the other, is one over the types of the run
abbrev pub GroundDerivationHolds : Type 0
GroundDerivationHolds =
    (p : Program) → IsResolved p → Accepted p → (x : ℕ) (i : Instance) (s : Scope) → IsInstanceOf p x i s →
    DerivesScope (ground_reading p x i) s (canonical_scope (ground_reading p x i) same_ground s (canonical_locals (ground_reading p x i) same_ground s))
