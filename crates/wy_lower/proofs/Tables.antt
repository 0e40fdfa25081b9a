-- Tables of texts and of method names: what is put in has a number, at which it is found.
use Rattle.std.proofs.Common.{◌≡◌, ℕ, suc, ◌+◌, Bool, true, false, ◌||◌, List, [], ◌∷◌, ◌++◌, Some, refl, ap, ◌∙◌, subst, inl, inr, arith}
use Rattle.std.specs.Prelude.{slice_get, bytes_eq, if◌then◌else◌}
use Rattle.std.proofs.lemmas.Slice.Eq.{bytes_eq-Decides}
use Rattle.wy_text.specs.Members.{In}
use Rattle.wy_lower.specs.Parts.{is_among, each_once_after, each_once, number_from, number_in}

-- the number of what is in a list, and that it is found there
record Numbered (k : ℕ) (x : List ℕ) (ys : List (List ℕ)) : Type 0 where
  place : ℕ
  number : number_from k x ys ≡ k + place
  found : slice_get ys place ≡ Some x

numbered_first : (k : ℕ) (x y : List ℕ) (ys : List (List ℕ)) → bytes_eq y x ≡ true → Numbered k x (y ∷ ys)
numbered_first k x y ys e = record {
  place = 0;
  number = ap (λ b. if b then k else number_from (k + 1) x ys) e ∙ (let z : k ≡ k + 0 = omega arith in z);
  found = ap (λ (z : List ℕ). Some z) ((bytes_eq-Decides y x).0 e);
}

numbered_later : (k : ℕ) (x y : List ℕ) (ys : List (List ℕ)) → bytes_eq y x ≡ false → Numbered (k + 1) x ys → Numbered k x (y ∷ ys)
numbered_later k x y ys e n = record {
  place = suc n.place;
  number = ap (λ b. if b then k else number_from (k + 1) x ys) e ∙ (let h = n.number in let z : number_from (k + 1) x ys ≡ k + suc n.place = omega arith in z);
  found = n.found;
}

-- of two cases, by the test of the first element
at_first : (k : ℕ) (x y : List ℕ) (ys : List (List ℕ)) (b : Bool) → bytes_eq y x ≡ b → (b ≡ false → Numbered (k + 1) x ys) → Numbered k x (y ∷ ys)
at_first k x y ys true e rest = numbered_first k x y ys e
at_first k x y ys false e rest = numbered_later k x y ys e (rest refl)

differs : (x y : List ℕ) → bytes_eq y x ≡ false → y ≡ x → ⊥
differs x y e same = let t : bytes_eq y x ≡ true = (bytes_eq-Decides y x).1 same in absurd cc

numbered : (k : ℕ) (x : List ℕ) (ys : List (List ℕ)) → In x ys → Numbered k x ys
numbered k x [] i = absurd i
numbered k x (y ∷ ys) i = at_first k x y ys (bytes_eq y x) refl (λ e. numbered (k + 1) x ys (later i e))
  where
    later : In x (y ∷ ys) → bytes_eq y x ≡ false → In x ys
    later (inl same) e = absurd (differs x y e same)
    later (inr j) e = j

-- what is in a list is found at its number
pub found_at_number : (x : List ℕ) (ys : List (List ℕ)) → In x ys → slice_get ys (number_in ys x) ≡ Some x
found_at_number x ys i =
    let n = numbered 0 x ys i in
    let z : number_in ys x ≡ n.place = n.number ∙ (let y : 0 + n.place ≡ n.place = omega arith in y) in
    ap (λ (k : ℕ). slice_get ys k) z ∙ n.found

------------------------------------------------------------
-- Lists in which each stands once

in_front : {X : Type 0} (x : X) (xs ys : List X) → In x xs → In x (xs ++ ys)
in_front x [] ys i = absurd i
in_front x (z ∷ xs) ys (inl e) = inl e
in_front x (z ∷ xs) ys (inr i) = inr (in_front x xs ys i)

in_end : {X : Type 0} (x : X) (xs ys : List X) → In x ys → In x (xs ++ ys)
in_end x [] ys i = i
in_end x (z ∷ xs) ys i = inr (in_end x xs ys i)

among_is_in : (x : List ℕ) (ys : List (List ℕ)) → is_among x ys ≡ true → In x ys
among_is_in x [] e = absurd cc
among_is_in x (y ∷ ys) e = of (among_is_in x ys) (bytes_eq y x) refl e
  where
    of : (is_among x ys ≡ true → In x ys) → (b : Bool) → bytes_eq y x ≡ b → (b || is_among x ys) ≡ true → In x (y ∷ ys)
    of rest true t e = inl ((bytes_eq-Decides y x).0 t)
    of rest false t e = inr (rest e)

either_holds : (x : List ℕ) (b : Bool) (xs ys : List (List ℕ)) → In x xs → In x ys → In x (if b then xs else ys)
either_holds x true xs ys i j = i
either_holds x false xs ys i j = j

-- what was seen stays
seen_stays : (x : List ℕ) (xs seen : List (List ℕ)) → In x seen → In x (each_once_after seen xs)
seen_stays x [] seen i = i
seen_stays x (y ∷ ys) seen i = either_holds x (is_among y seen) _ _ (seen_stays x ys seen i) (seen_stays x ys (seen ++ y ∷ []) (in_front x seen (y ∷ []) i))

all_kept : (x : List ℕ) (xs seen : List (List ℕ)) → In x xs → In x (each_once_after seen xs)
all_kept x [] seen i = absurd i
all_kept x (y ∷ ys) seen (inr j) = either_holds x (is_among y seen) _ _ (all_kept x ys seen j) (all_kept x ys (seen ++ y ∷ []) j)
all_kept x (y ∷ ys) seen (inl e) = of (is_among y seen) refl
  where
    of : (b : Bool) → is_among y seen ≡ b → In x (if b then each_once_after seen ys else each_once_after (seen ++ y ∷ []) ys)
    of true t = seen_stays x ys seen (subst (λ (z : List ℕ). In z seen) e (among_is_in y seen t))
    of false t = seen_stays x ys (seen ++ y ∷ []) (in_end x seen (y ∷ []) (inl e))

-- what was in the list is in the table, and is found there at its number
pub found_in_table : (x : List ℕ) (xs : List (List ℕ)) → In x xs → slice_get (each_once xs) (number_in (each_once xs) x) ≡ Some x
found_in_table x xs i = found_at_number x (each_once xs) (all_kept x xs [] i)
