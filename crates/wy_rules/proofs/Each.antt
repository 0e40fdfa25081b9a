-- What holds of each element of a list that is written out, by its number or by its membership.
use Rattle.std.proofs.Common.{◌≡◌, ℕ, zero, suc, List, [], ◌∷◌, subst, inl, inr, Some}
use Rattle.std.specs.Prelude.{slice_get}
use Rattle.wy_text.specs.Members.{In}
use Rattle.wy_types.specs.declared.resolved.OwnName.{OwnName}
use Rattle.wy_types.specs.Program.{Program}
use Rattle.wy_types.specs.Ground.{member_set}
use Rattle.wy_rules.specs.Acceptance.{Handed, handed_to, parameters_of, argument_type, opened, AllHanded, HasMembers, LineHolds}

abbrev pub ByNumber : {X : Type 0} → (ℕ → X → Type 0) → List X → Type 0
ByNumber P [] = Unit {0}
ByNumber P (x ∷ xs) = P 0 x × ByNumber (λ k. P (suc k)) xs

pub by_number : {X : Type 0} (P : ℕ → X → Type 0) (xs : List X) → ByNumber P xs → (k : ℕ) (x : X) → slice_get xs k ≡ Some x → P k x
by_number P [] h k x e = absurd (cc)
by_number P (z ∷ xs) h zero x e = let same : z ≡ x = cc in subst (P 0) same h.0
by_number P (z ∷ xs) h (suc k) x e = by_number (λ j. P (suc j)) xs h.1 k x e

abbrev pub Each : {X : Type 0} → (X → Type 0) → List X → Type 0
Each P [] = Unit {0}
Each P (x ∷ xs) = P x × Each P xs

pub each : {X : Type 0} (P : X → Type 0) (xs : List X) → Each P xs → (x : X) → In x xs → P x
each P [] h x i = absurd i
each P (z ∷ xs) h x i = elim i [ inl e ↦ subst P e h.0 | inr j ↦ each P xs h.1 x j ]

-- what a line asks of each argument, and of each member that its parameter opens; and what is asked of each line
pub arguments_hold : (p : Program) (k : ℕ) (outer : List OwnName) (Holds : Handed → Type 0) (m : ℕ) (arguments : List ℕ) → Each Holds (handed_to (parameters_of p m) arguments) → AllHanded p k outer Holds m arguments
arguments_hold p k outer Holds m arguments h = each Holds (handed_to (parameters_of p m) arguments) h

pub members_hold : (p : Program) (k : ℕ) (outer : List OwnName) (h : Handed) →
    Each (λ member. (set : List ℕ) × (member_set p (argument_type p k outer h) member ≡ Some set)) (opened p h.parameter h.parameter.origin) → HasMembers p k outer h
members_hold p k outer h e = each (λ member. (set : List ℕ) × (member_set p (argument_type p k outer h) member ≡ Some set)) (opened p h.parameter h.parameter.origin) e

pub lines_hold : (p : Program) (k : ℕ) (names : List OwnName) → Each (λ (n : OwnName). LineHolds p k names n.origin) names → (n : OwnName) → In n names → LineHolds p k names n.origin
lines_hold p k names h = each (λ (n : OwnName). LineHolds p k names n.origin) names h
