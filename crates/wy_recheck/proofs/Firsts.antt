-- A list that is tested element after element, up to the first that has not a property.
use Rattle.std.proofs.Common.{◌≡◌, ℕ, zero, suc, ◌+◌, ◌<◌, ◌≤◌, List, [], ◌∷◌, ◌++◌, map, take, length, get_or, inl, inr, Some, refl, sym, ap, ◌∙◌, subst, arith}
use Rattle.std.specs.Prelude.{slice_get}
use Rattle.std.proofs.lemmas.List.{take_more, take_all, map-append, map-id}
use Rattle.wy_text.specs.Members.{In}
use Rattle.wy_text.proofs.Lists.{In-map, In-unmap, In-read, each_more, each_all}
use Rattle.wy_subtype.proofs.Places.{slice_get-mapped, slice_get-unmapped}
use Rattle.wy_proving.specs.Proving.{AllStand}
use Rattle.wy_proving.specs.Unproved.{IsFirstWithout}
use Rattle.wy_recheck.specs.Standing.{StandsAs}

in_before : {X : Type 0} (xs : List X) (i j : ℕ) (x : X) → j < i → slice_get xs j ≡ Some x → In x (take i xs)
in_before xs zero j x lt e = absurd (omega arith)
in_before [] (suc i) j x lt e = absurd (cc)
in_before (y ∷ xs) (suc i) zero x lt e = inl (cc)
in_before (y ∷ xs) (suc i) (suc j) x lt e = inr (in_before xs i j x (omega arith) e)

there_at : {X : Type 0} (xs : List X) (i : ℕ) (d : X) → i < length xs → slice_get xs i ≡ Some (get_or xs i d)
there_at [] i d lt = absurd (omega arith)
there_at (x ∷ xs) zero d lt = refl
there_at (x ∷ xs) (suc i) d lt = there_at xs i d (omega arith)

-- all elements before a place have the property, and the one at the place has it not
pub first_without : {X : Type 0} (P : X → Type 0) (xs : List X) (i : ℕ) (d x : X) → i < length xs → x ≡ get_or xs i d → ((z : X) → In z (take i xs) → P z) → (P x → ⊥) → IsFirstWithout P xs i
first_without {X} P xs i d x lt is before fails = record {
  element = x;
  there = there_at xs i d lt ∙ ap (λ (v : X). Some v) (sym is);
  fails = fails;
  before = λ j z l e. before z (in_before xs i j z l e);
}

-- what is known once so many elements were read
pub record Passed {X Y : Type 0} (f : X → Y) (P : Y → Type 0) (xs : List X) (i : ℕ) (ys : List Y) : Type 0 where
  pub same : ys ≡ map f (take i xs)
  pub stand : (x : X) → In x (take i xs) → P (f x)

module _ {X Y : Type 0} (f : X → Y) (P : Y → Type 0) (xs : List X) (i : ℕ) (ys : List Y) (g : Passed f P xs i ys) where
  -- the element that comes next
  module _ (d x : X) (lt : i < length xs) (is : x ≡ get_or xs i d) where
    -- it has the property
    pub passed_more : (y : Y) → StandsAs P (f x) (Some y) → (ys' : List Y) → ys' ≡ ys ++ y ∷ [] → Passed f P xs (i + 1) ys'
    passed_more y st ys' e =
        let read : map f (take (i + 1) xs) ≡ map f (take i xs) ++ f (get_or xs i d) ∷ [] = ap (map f) (take_more xs i d lt) ∙ map-append f (take i xs) (get_or xs i d ∷ []) in
        let last : y ≡ f (get_or xs i d) = st.0 ∙ ap f is in
        let Q : X → Type 0 = λ z. P (f z) in
        record {
          same = e ∙ ap (λ (l : List Y). l ++ y ∷ []) g.same ∙ ap (λ (v : Y). map f (take i xs) ++ v ∷ []) last ∙ sym read;
          stand = each_more Q xs i d lt g.stand (subst Q is st.1);
        }

    -- it has it not
    pub fails_first : (P (f x) → ⊥) → IsFirstWithout P (map f xs) i
    fails_first n = record {
      element = f x;
      there = slice_get-mapped f xs i x (there_at xs i d lt ∙ ap (λ (v : X). Some v) (sym is));
      fails = n;
      before = λ j y l e. (let u = slice_get-unmapped f xs j y e in subst P u.2 (g.stand u.0 (in_before xs i j u.0 l u.1)));
    }

    pub not_all : (P (f x) → ⊥) → AllStand P (map f xs) → ⊥
    not_all n h = n (h (f x) (In-map f x xs (In-read xs i d x lt is)))

  -- no element is left
  pub passed_all : length xs ≤ i → (ys ≡ map f xs) × AllStand P (map f xs)
  passed_all le = (
    g.same ∙ ap (map f) (take_all i xs le),
    λ y j.
        let r = In-unmap f y xs j in
        let Q : X → Type 0 = λ z. P (f z) in
        subst P r.2 (each_all Q xs i le g.stand r.0 r.1),
  )

-- elements that are read as they are
module _ {X : Type 0} (P : X → Type 0) (xs : List X) where
  pub all_as_read : (ys : List X) → (ys ≡ map (λ (x : X). x) xs) × AllStand P (map (λ (x : X). x) xs) → (ys ≡ xs) × AllStand P xs
  all_as_read ys h = let Q : List X → Type 0 = λ l. AllStand P l in (h.0 ∙ map-id xs, subst Q (map-id xs) h.1)

  pub not_as_read : (AllStand P (map (λ (x : X). x) xs) → ⊥) → AllStand P xs → ⊥
  not_as_read n h = let Q : List X → Type 0 = λ l. AllStand P l in n (subst Q (sym (map-id xs)) h)
