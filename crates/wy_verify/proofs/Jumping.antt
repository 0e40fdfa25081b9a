-- Marks of slots, targets by their addresses, and where jumps have led.
use Rattle.std.proofs.Common.{◌⊎◌, ◌≡◌, ℕ, zero, suc, ◌+◌, ◌<◌, ◌≤◌, Bool, true, false, List, [], ◌∷◌, length, take, drop, get_or, set, replicate, inl, inr, refl, sym, ap, ◌∙◌, subst, Option, Some, None, arith}
use Rattle.std.specs.Prelude.{slice_get, nat_eq, if◌then◌else◌}
use Rattle.std.proofs.lemmas.Bool.{eqb-true, cases_lt, cases_eq, eq-eqb, ne_eqb}
use Rattle.std.proofs.lemmas.List.{get_or-replicate, get_or_past, get_or-set_same, get_or-set_other, length-replicate}
use Rattle.wy_image.specs.declared.typing.Target.{Target}
use Rattle.wy_verified.specs.Passing.{set_at}
use Rattle.wy_verified.specs.declared.known.Jumped.{Jumped}
use Rattle.wy_verified.specs.Walking.{is_in, target_in}
use Rattle.wy_verified.proofs.Lists.{drop_at, length_set, some_same}
use Rattle.wy_text.specs.Members.{In}
use Rattle.wy_verify.specs.Sites.{AreFirst, AreNoted, AreMarked, IsAddressAt, target_of}

------------------------------------------------------------
-- Marks

pub none_marked : AreMarked [] []
none_marked k = refl

pub more_marked : (list : List ℕ) (marks : List Bool) (s : ℕ) → s < length marks → AreMarked list marks →
    AreMarked (s ∷ list) (set marks s true)
more_marked list marks s lt are k =
    elim (cases_eq s k) [
      | inl e ↦ ap (λ c. if c then true else is_in k list) (eq-eqb s k e) ∙
          sym (subst (λ k. get_or (set marks s true) k false ≡ true) e (get_or-set_same marks s true false lt))
      | inr ne ↦ ap (λ c. if c then true else is_in k list) (ne_eqb s k ne) ∙ are k ∙
          sym (get_or-set_other marks s k true false (λ e. ne (sym e)))
    ]

pub is_in-In : (s : ℕ) (rs : List ℕ) → is_in s rs ≡ true → In s rs
is_in-In s [] e = absurd cc
is_in-In s (r ∷ rs) e = of (λ e. is_in-In s rs e) (nat_eq r s) refl
  where
    of : (is_in s rs ≡ true → In s rs) → (c : Bool) → nat_eq r s ≡ c → In s (r ∷ rs)
    of later true f = inl (eqb-true r s f)
    of later false f = inr (later (sym (ap (λ c. if c then true else is_in s rs) f) ∙ e))

pub In-is_in : (s : ℕ) (rs : List ℕ) → In s rs → is_in s rs ≡ true
In-is_in s [] h = absurd h
In-is_in s (r ∷ rs) (inl e) = ap (λ c. if c then true else is_in s rs) (eq-eqb r s e)
In-is_in s (r ∷ rs) (inr h) = of (In-is_in s rs h) (nat_eq r s)
  where
    of : is_in s rs ≡ true → (c : Bool) → (if c then true else is_in s rs) ≡ true
    of later true = refl
    of later false = later

-- among one more of a list's first
pub In-next : {X : Type 0} (y : X) (xs : List X) (i : ℕ) (x : X) → slice_get xs i ≡ Some x → In y (take (i + 1) xs) →
    In y (take i xs) ⊎ (x ≡ y)
In-next y xs i x e h =
    let z : i + 1 ≡ suc i = omega arith in of xs i e (subst (λ n. In y (take n xs)) z h)
  where
    of : (xs : List _) (i : ℕ) → slice_get xs i ≡ Some x → In y (take (suc i) xs) → In y (take i xs) ⊎ (x ≡ y)
    of [] i e h = absurd cc
    of (w ∷ xs) zero e (inl f) = inr (sym (some_same e) ∙ f)
    of (w ∷ xs) zero e (inr h) = absurd h
    of (w ∷ xs) (suc i) e (inl f) = inl (inl f)
    of (w ∷ xs) (suc i) e (inr h) = elim (of xs i e h) [ inl g ↦ inl (inr g) | inr f ↦ inr f ]

------------------------------------------------------------
-- Targets

-- at each address the number of its first target among those from a number on
abbrev pub AreFirstFrom : List (Option ℕ) → List Target → ℕ → Type 0
AreFirstFrom numbers ts k =
    (to : ℕ) → to < length numbers → target_of ts (get_or numbers to None) ≡ target_in to (drop k ts)

nothing_left : {X : Type 0} (xs : List X) (at : ℕ) → length xs ≤ at → drop at xs ≡ []
nothing_left [] zero h = refl
nothing_left [] (suc at) h = refl
nothing_left (p ∷ ps) zero h = absurd (omega arith)
nothing_left (p ∷ ps) (suc at) h = nothing_left ps at (omega arith)

pub none_first : (count : ℕ) (ts : List Target) (k : ℕ) → length ts ≤ k → AreFirstFrom (replicate count None) ts k
none_first count ts k le to lt =
    let l = length-replicate count (let n : Option ℕ = None in n) in
    ap (target_of ts) (get_or-replicate count to None None (omega (arith, lt, l))) ∙
    sym (ap (target_in to) (nothing_left ts k le))

-- one target more at the front
pub put_first : (numbers : List (Option ℕ)) (ts : List Target) (k number address : ℕ) → number + 1 ≡ k →
    IsAddressAt ts number address → AreFirstFrom numbers ts k →
    AreFirstFrom (set numbers address (Some number)) ts number
put_first numbers ts k number address next is are to less =
    let z : k ≡ suc number = omega (arith, next) in
    let d = ap (target_in to) (drop_at ts number is.0 is.1) in
    let same = length_set numbers address (Some number) in
    let l : to < length numbers = omega (arith, less, same) in
    elim (cases_eq address to) [
      | inl e ↦ ap (target_of ts) (subst (λ t. get_or (set numbers address (Some number)) t None ≡ Some number) e
          (get_or-set_same numbers address (Some number) None (omega (arith, l, e)))) ∙ is.1 ∙
          sym (d ∙ ap (λ c. if c then Some is.0 else target_in to (drop (suc number) ts))
          (eq-eqb (is.0).address to (is.2 ∙ e)))
      | inr ne ↦ ap (target_of ts) (get_or-set_other numbers address to (Some number) None (λ e. ne (sym e))) ∙
          are to l ∙ ap (λ n. target_in to (drop n ts)) z ∙
          sym (d ∙ ap (λ c. if c then Some is.0 else target_in to (drop (suc number) ts))
          (ne_eqb (is.0).address to (λ e. ne (sym is.2 ∙ e))))
    ]

pub all_first : (numbers : List (Option ℕ)) (ts : List Target) → AreFirstFrom numbers ts 0 → AreFirst numbers ts
all_first numbers ts are = are

------------------------------------------------------------
-- Jumps

pub none_noted : (count : ℕ) → AreNoted (replicate count None) []
none_noted count to =
    let l = length-replicate count (let n : Option ℕ = None in n) in
    elim (cases_lt to count) [
      | inl lt ↦ get_or-replicate count to None None lt
      | inr le ↦ get_or_past (replicate count None) to None (omega (arith, le, l))
    ]

pub more_noted : (sets : List (Option ℕ)) (js : List Jumped) (j : Jumped) → j.address < length sets →
    AreNoted sets js → AreNoted (set sets j.address (Some j.set)) (j ∷ js)
more_noted sets js j lt are to =
    elim (cases_eq j.address to) [
      | inl e ↦ subst (λ t. get_or (set sets j.address (Some j.set)) t None ≡ Some j.set) e
          (get_or-set_same sets j.address (Some j.set) None lt) ∙
          sym (ap (λ c. if c then Some j.set else set_at to js) (eq-eqb j.address to e))
      | inr ne ↦ get_or-set_other sets j.address to (Some j.set) None (λ e. ne (sym e)) ∙ are to ∙
          sym (ap (λ c. if c then Some j.set else set_at to js) (ne_eqb j.address to ne))
    ]
