-- The first of a name, and the names before.
use Rattle.std.proofs.Common.{◌≡◌, ℕ, zero, suc, ◌+◌, ◌<◌, List, [], ◌∷◌, ◌++◌, length, take, get_or, Bool, true, false, cond, refl, sym, ap, ◌∙◌, subst, Option, Some, None, is_some, arith, rules, if◌then◌else◌}
use Rattle.std.specs.Prelude.{◌||◌, IfSome, map, slice_get}
use Rattle.wy_symbols.specs.declared.scoping.Meaning.{Meaning}
use Rattle.wy_symbols.specs.Declarations.{same_name, has_name, first_from}
use Rattle.wy_symbols.specs.Meanings.{meaning_names, meaning_of}

pub same_exact : (a b : List ℕ) → same_name a b ≡ true → b ≡ a
same_exact a b e = search rules

pub same_itself : (a : List ℕ) → same_name a a ≡ true
same_itself a = search rules

or_else : Option ℕ → Option ℕ → Option ℕ
or_else (Some a) b = Some a
or_else None b = b

one_of : ℕ → Bool → Option ℕ
one_of i b = if b then Some i else None

-- one name more
first_more : (ns : List (List ℕ)) (i k : ℕ) (n x : List ℕ) → i < length ns → n ≡ get_or ns i n → first_from k (take (i + 1) ns) x ≡ or_else (first_from k (take i ns) x) (one_of (k + i) (same_name n x))
unfolding or_else one_of
first_more [] i k n x lt at = absurd (omega arith)
first_more (m ∷ ns) zero k n x lt at =
    let zero_more : k + 0 ≡ k = omega arith in
    ap (λ (r : List ℕ). one_of k (same_name r x)) (sym at) ∙ ap (λ j. one_of j (same_name n x)) (sym zero_more)
first_more (m ∷ ns) (suc i) k n x lt at =
    let next : (k + 1) + i ≡ k + suc i = omega arith in
    let same : suc (i + 1) ≡ suc i + 1 = omega arith in
    let h = first_more ns i (k + 1) n x (omega arith) at ∙ ap (λ j. or_else (first_from (k + 1) (take i ns) x) (one_of j (same_name n x))) next in
    let P : ℕ → Type 0 = λ j. first_from k (take j (m ∷ ns)) x ≡ or_else (first_from k (take (suc i) (m ∷ ns)) x) (one_of (k + suc i) (same_name n x)) in
    let Q : Bool → Type 0 = λ b. (if b then Some k else first_from (k + 1) (take (i + 1) ns) x) ≡ or_else (if b then Some k else first_from (k + 1) (take i ns) x) (one_of (k + suc i) (same_name n x)) in
    subst P same (elim (same_name m x) as Q [ true ↦ refl | false ↦ h ])

or_none : (o : Option ℕ) → or_else o None ≡ o
unfolding or_else
or_none (Some a) = refl
or_none None = refl

or_some : (o : Option ℕ) (b : Option ℕ) → is_some o ≡ true → or_else o b ≡ o
unfolding or_else
or_some (Some a) b h = refl
or_some None b h = cc

or_new : (o : Option ℕ) (b : Option ℕ) → is_some o ≡ false → or_else o b ≡ b
unfolding or_else
or_new (Some a) b h = cc
or_new None b h = refl

module _ (ns : List (List ℕ)) (i : ℕ) (n : List ℕ) (lt : i < length ns) (at : n ≡ get_or ns i n) where
  -- the name was there
  pub first_kept : is_some (first_from 0 (take i ns) n) ≡ true → (x : List ℕ) → first_from 0 (take i ns) x ≡ first_from 0 (take (i + 1) ns) x
  unfolding one_of
  first_kept there x =
      let P : Bool → Type 0 = λ b. same_name n x ≡ b → first_from 0 (take i ns) x ≡ or_else (first_from 0 (take i ns) x) (one_of (0 + i) b) in
      let h = elim (same_name n x) as P [
        | true ↦ λ e. sym (or_some (first_from 0 (take i ns) x) _ (ap (λ y. is_some (first_from 0 (take i ns) y)) (same_exact n x e) ∙ there))
        | false ↦ λ e. sym (or_none (first_from 0 (take i ns) x))
      ] refl in
      h ∙ sym (first_more ns i 0 n x lt at)

  -- it was not
  pub first_new : is_some (first_from 0 (take i ns) n) ≡ false → (x : List ℕ) → cond (same_name n x) (Some i) (first_from 0 (take i ns) x) ≡ first_from 0 (take (i + 1) ns) x
  unfolding one_of
  first_new absent x =
      let start : 0 + i ≡ i = omega arith in
      let P : Bool → Type 0 = λ b. same_name n x ≡ b → cond b (Some i) (first_from 0 (take i ns) x) ≡ or_else (first_from 0 (take i ns) x) (one_of (0 + i) b) in
      let h = elim (same_name n x) as P [
        | true ↦ λ e. ap (λ (j : ℕ). Some j) (sym start) ∙ sym (or_new (first_from 0 (take i ns) x) _ (ap (λ y. is_some (first_from 0 (take i ns) y)) (same_exact n x e) ∙ absent))
        | false ↦ λ e. sym (or_none (first_from 0 (take i ns) x))
      ] refl in
      h ∙ sym (first_more ns i 0 n x lt at)

either_order : (a b c : Bool) → (a || b) || c ≡ a || (b || c)
either_order true b c = refl
either_order false b c = refl

-- the names with one more
pub has_more : (ns : List (List ℕ)) (n x : List ℕ) → has_name x ns || same_name n x ≡ has_name x (ns ++ n ∷ [])
has_more [] n x = (let P : Bool → Type 0 = λ b. b ≡ b || false in elim (same_name n x) as P [ true ↦ refl | false ↦ refl ])
has_more (m ∷ ns) n x = either_order (same_name m x) (has_name x ns) (same_name n x) ∙ ap (λ b. same_name m x || b) (has_more ns n x)

first_below : (k : ℕ) (ns : List (List ℕ)) (x : List ℕ) → IfSome (first_from k ns x) (λ r. r < k + length ns)
first_below k [] x = tt
first_below k (n ∷ ns) x =
    let P : Bool → Type 0 = λ b. IfSome (if b then Some k else first_from (k + 1) ns x) (λ r. r < k + suc (length ns)) in
    let below : k < k + suc (length ns) = omega arith in
    let same : (k + 1) + length ns ≡ k + suc (length ns) = omega arith in
    let Q : ℕ → Type 0 = λ m. IfSome (first_from (k + 1) ns x) (λ r. r < m) in
    elim (same_name n x) as P [ true ↦ below | false ↦ subst Q same (first_below (k + 1) ns x) ]

-- a name's number is below their number
pub number_below : (ns : List (List ℕ)) (x : List ℕ) → IfSome (first_from 0 ns x) (λ r. r < length ns)
number_below ns x =
    let start : 0 + length ns ≡ length ns = omega arith in
    let Q : ℕ → Type 0 = λ m. IfSome (first_from 0 ns x) (λ r. r < m) in
    subst Q start (first_below 0 ns x)

-- names with one more at their end
first_append : (k : ℕ) (ns : List (List ℕ)) (n x : List ℕ) → first_from k (ns ++ n ∷ []) x ≡ or_else (first_from k ns x) (one_of (k + length ns) (same_name n x))
unfolding or_else one_of
first_append k [] n x = (let start : k + 0 ≡ k = omega arith in ap (λ j. one_of j (same_name n x)) (sym start))
first_append k (m ∷ ns) n x =
    let next : (k + 1) + length ns ≡ k + suc (length ns) = omega arith in
    let P : Bool → Type 0 = λ b. (if b then Some k else first_from (k + 1) (ns ++ n ∷ []) x) ≡ or_else (if b then Some k else first_from (k + 1) ns x) (one_of (k + suc (length ns)) (same_name n x)) in
    elim (same_name m x) as P [
      | true ↦ refl
      | false ↦ first_append (k + 1) ns n x ∙ ap (λ j. or_else (first_from (k + 1) ns x) (one_of j (same_name n x))) next
    ]

-- that was there
pub first_again : (ns : List (List ℕ)) (n : List ℕ) → is_some (first_from 0 ns n) ≡ true → (x : List ℕ) → first_from 0 ns x ≡ first_from 0 (ns ++ n ∷ []) x
unfolding one_of
first_again ns n there x =
    let P : Bool → Type 0 = λ b. same_name n x ≡ b → first_from 0 ns x ≡ or_else (first_from 0 ns x) (one_of (0 + length ns) b) in
    let h = elim (same_name n x) as P [
      | true ↦ λ e. sym (or_some (first_from 0 ns x) _ (ap (λ y. is_some (first_from 0 ns y)) (same_exact n x e) ∙ there))
      | false ↦ λ e. sym (or_none (first_from 0 ns x))
    ] refl in
    h ∙ sym (first_append 0 ns n x)

-- that was not
pub first_put : (ns : List (List ℕ)) (n : List ℕ) → is_some (first_from 0 ns n) ≡ false → (x : List ℕ) → cond (same_name n x) (Some (length ns)) (first_from 0 ns x) ≡ first_from 0 (ns ++ n ∷ []) x
unfolding one_of
first_put ns n absent x =
    let start : 0 + length ns ≡ length ns = omega arith in
    let P : Bool → Type 0 = λ b. same_name n x ≡ b → cond b (Some (length ns)) (first_from 0 ns x) ≡ or_else (first_from 0 ns x) (one_of (0 + length ns) b) in
    let h = elim (same_name n x) as P [
      | true ↦ λ e. ap (λ (j : ℕ). Some j) (sym start) ∙ sym (or_new (first_from 0 ns x) _ (ap (λ y. is_some (first_from 0 ns y)) (same_exact n x e) ∙ absent))
      | false ↦ λ e. sym (or_none (first_from 0 ns x))
    ] refl in
    h ∙ sym (first_append 0 ns n x)

pub next_number : Option ℕ → Option ℕ
next_number None = None
next_number (Some j) = Some (suc j)

pub first_next : (k : ℕ) (ns : List (List ℕ)) (x : List ℕ) → first_from (k + 1) ns x ≡ next_number (first_from k ns x)
unfolding next_number
first_next k [] x = refl
first_next k (n ∷ ns) x =
    let P : Bool → Type 0 = λ b. (if b then Some (k + 1) else first_from ((k + 1) + 1) ns x) ≡ next_number (if b then Some k else first_from (k + 1) ns x) in
    let more : k + 1 ≡ suc k = omega arith in
    elim (same_name n x) as P [ true ↦ ap (λ (j : ℕ). Some j) more | false ↦ first_next (k + 1) ns x ]

-- the item of a number, where there is one
abbrev pub item_at : {X : Type 0} → List X → Option ℕ → Option X
item_at xs None = None
item_at xs (Some j) = slice_get xs j

pub item_next : {X : Type 0} (x : X) (xs : List X) (o : Option ℕ) → item_at (x ∷ xs) (next_number o) ≡ item_at xs o
unfolding next_number
item_next x xs None = refl
item_next x xs (Some j) = refl

-- the first item of a name, by a function that gives names
pub first_item : {X : Type 0} (name : X → List ℕ) (find : List X → List ℕ → Option X) →
    ((x : List ℕ) → find [] x ≡ None) → ((i : X) (is : List X) (x : List ℕ) → find (i ∷ is) x ≡ (if same_name (name i) x then Some i else find is x)) →
    (is : List X) (x : List ℕ) → find is x ≡ item_at is (first_from 0 (map name is) x)
first_item {X} name find none more [] x = none x
first_item {X} name find none more (i ∷ is) x =
    let P : Bool → Type 0 = λ b. (if b then Some i else find is x) ≡ item_at (i ∷ is) (if b then Some 0 else first_from 1 (map name is) x) in
    more i is x ∙
    elim (same_name (name i) x) as P [
      | true ↦ refl
      | false ↦
          first_item name find none more is x
          ∙ sym (item_next i is (first_from 0 (map name is) x))
          ∙ ap (item_at (i ∷ is)) (sym (first_next 0 (map name is) x))
    ]

-- a meaning is the item of its name's number
pub meaning_item : (ms : List Meaning) (x : List ℕ) → meaning_of ms x ≡ item_at ms (first_from 0 (meaning_names ms) x)
meaning_item ms x = first_item (λ (m : Meaning). m.name) meaning_of (λ y. refl) (λ i is y. refl) ms x

-- whether a name is there is whether it has a number
pub has_number : (k : ℕ) (ns : List (List ℕ)) (x : List ℕ) → has_name x ns ≡ is_some (first_from k ns x)
has_number k [] x = refl
has_number k (n ∷ ns) x =
    let P : Bool → Type 0 = λ b. b || has_name x ns ≡ is_some (if b then Some k else first_from (k + 1) ns x) in
    elim (same_name n x) as P [ true ↦ refl | false ↦ has_number (k + 1) ns x ]
