-- The test of types says exactly whether they are the same.
use Rattle.std.proofs.Common.{◌≡◌, ℕ, List, [], ◌∷◌, refl, subst, Bool as Truth, true, false}
use Rattle.std.specs.Prelude.{nat_eq}
use Rattle.std.proofs.lemmas.Bool.{eqb-true, eq-eqb}
use Rattle.wy_types.specs.declared.types.TypeRef.{TypeRef}
use Rattle.wy_types.specs.declared.types.TypeRef.TheVariants.{Int, Bool, Text, Unit as Nothing, Named, At, Own}
use Rattle.wy_types.specs.Program.{Program}
use Rattle.wy_rules.specs.Acceptance.{reading_of}
use Rattle.wy_rules.specs.Canonical.{both, same_numbers, same_sets, same_type, same_read, TypesAreToldApart}
use Rattle.wy_rules.proofs.Writing.{Exact}

-- both are true, where the two together are
pub both_left : (a b : Truth) → both a b ≡ true → a ≡ true
both_left true b e = refl
both_left false b e = absurd (cc)

pub both_right : (a b : Truth) → both a b ≡ true → b ≡ true
both_right true b e = e
both_right false b e = absurd (cc)

both_true : (a b : Truth) → a ≡ true → b ≡ true → both a b ≡ true
both_true true b e f = f
both_true false b e f = absurd (cc)

number_exact : (a b : ℕ) → nat_eq a b ≡ true → a ≡ b
number_exact a b e = eqb-true a b e

number_itself : (a : ℕ) → nat_eq a a ≡ true
number_itself a = eq-eqb a a refl

pub numbers_exact : (e f : List ℕ) → same_numbers e f ≡ true → e ≡ f
numbers_exact [] [] h = refl
numbers_exact (a ∷ e) (b ∷ f) h =
    let i = number_exact a b (both_left (nat_eq a b) (same_numbers e f) h) in
    let j = numbers_exact e f (both_right (nat_eq a b) (same_numbers e f) h) in
    cc
numbers_exact [] (b ∷ f) h = absurd (cc)
numbers_exact (a ∷ e) [] h = absurd (cc)

numbers_itself : (e : List ℕ) → same_numbers e e ≡ true
numbers_itself [] = refl
numbers_itself (a ∷ e) = both_true (nat_eq a a) (same_numbers e e) (number_itself a) (numbers_itself e)

pub sets_exact : (e f : List (List ℕ)) → same_sets e f ≡ true → e ≡ f
sets_exact [] [] h = refl
sets_exact (a ∷ e) (b ∷ f) h =
    let i = numbers_exact a b (both_left (same_numbers a b) (same_sets e f) h) in
    let j = sets_exact e f (both_right (same_numbers a b) (same_sets e f) h) in
    cc
sets_exact [] (b ∷ f) h = absurd (cc)
sets_exact (a ∷ e) [] h = absurd (cc)

sets_itself : (e : List (List ℕ)) → same_sets e e ≡ true
sets_itself [] = refl
sets_itself (a ∷ e) = both_true (same_numbers a a) (same_sets e e) (numbers_itself a) (sets_itself e)

type_exact : (t u : TypeRef) → same_type t u ≡ true → t ≡ u
type_exact Int Int h = refl
type_exact Bool Bool h = refl
type_exact Text Text h = refl
type_exact Nothing Nothing h = refl
type_exact (Named d es) (Named e fs) h =
    let i = number_exact d e (both_left (nat_eq d e) (same_sets es fs) h) in
    let j = sets_exact es fs (both_right (nat_eq d e) (same_sets es fs) h) in
    cc
type_exact (At d e) (At f g) h =
    let i = number_exact d f (both_left (nat_eq d f) (same_numbers e g) h) in
    let j = numbers_exact e g (both_right (nat_eq d f) (same_numbers e g) h) in
    cc
type_exact (Own l) (Own k) h = let i = number_exact l k h in cc
type_exact t u h = absurd (cc)

type_itself : (t : TypeRef) → same_type t t ≡ true
type_itself Int = refl
type_itself Bool = refl
type_itself Text = refl
type_itself Nothing = refl
type_itself (Named d es) = both_true (nat_eq d d) (same_sets es es) (number_itself d) (sets_itself es)
type_itself (At d e) = both_true (nat_eq d d) (same_numbers e e) (number_itself d) (numbers_itself e)
type_itself (Own l) = number_itself l

-- the test says exactly whether two types of a scope are the same
pub kinds_exact : (p : Program) (k : ℕ) (plain : Truth) → Exact (reading_of p k plain) (same_read p k plain)
kinds_exact p k true = record { exact = type_exact; itself = type_itself; no_int = λ h. h; no_bool = λ h. h; no_text = λ h. h }
kinds_exact p k false = record { exact = type_exact; itself = type_itself; no_int = λ h. h; no_bool = λ h. h; no_text = λ h. h }

pub types_are_told_apart : TypesAreToldApart
types_are_told_apart t u = (type_exact t u, λ e. subst (λ v. same_type t v ≡ true) e (type_itself t))
