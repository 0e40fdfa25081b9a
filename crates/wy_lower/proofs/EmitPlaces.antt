-- Tables of the first places of keys, and tables of texts.
use Rattle.std.proofs.Common.{◌≡◌, ℕ, suc, ◌+◌, ◌<◌, List, [], ◌∷◌, ◌++◌, length, take, get_or, Bool, true, false, cond, refl, sym, ap, ◌∙◌, map, Option, Some, None, is_some, arith, rules, if◌then◌else◌}
use Rattle.std.specs.Prelude.{◌||◌, ◌&&◌, nat_eq, unwrap_or, bytes_eq}
use Rattle.std.specs.List.{list_any, position, position_from}
use Rattle.std.proofs.lemmas.List.{take_more, length-take}
use Rattle.std.proofs.lemmas.Iterator.Adapters.{position_from-zero}
use Rattle.std.proofs.lemmas.Slice.Eq.{bytes_eq-Decides}
use Rattle.wy_types.specs.declared.code.Variable.{Variable}
use Rattle.wy_types.specs.declared.code.Variable.TheVariants.{Parameter, Local}
use Rattle.wy_types.specs.declared.linked.Instance.{Instance}
use Rattle.wy_types.specs.declared.resolved.Body as b
use Rattle.wy_types.specs.Program.{Body, body_of}
use Rattle.wy_meaning.specs.Values.{same_variable}
use Rattle.wy_meaning.specs.Starts.{numbered_from, started_of}
use Rattle.wy_lower.specs.Parts.{is_among, each_once_after, number_from}
use Rattle.wy_lower.specs.Inside.{place_from, is_val, capture_from}
use Rattle.wy_lower.specs.EmitIndexes.{key_of, same_key}
use Rattle.wy_lower.specs.EmitScopes.{or_first}

or_else : Option ℕ → Option ℕ → Option ℕ
or_else (Some a) b = Some a
or_else None b = b

one_of : ℕ → Bool → Option ℕ
one_of i b = cond b (Some i) None

or_none : (o : Option ℕ) → or_else o None ≡ o
unfolding or_else
or_none (Some a) = refl
or_none None = refl

or_some : (o b : Option ℕ) → is_some o ≡ true → or_else o b ≡ o
unfolding or_else
or_some (Some a) b h = refl
or_some None b h = cc

or_new : (o b : Option ℕ) → is_some o ≡ false → or_else o b ≡ b
unfolding or_else
or_new (Some a) b h = cc
or_new None b h = refl

place_append : {X : Type 0} (t : X → Bool) (k : ℕ) (xs : List X) (x : X) → position_from t k (xs ++ x ∷ []) ≡ or_else (position_from t k xs) (one_of (k + length xs) (t x))
unfolding or_else one_of
place_append t k [] x = (let start : k + 0 ≡ k = omega arith in ap (λ j. one_of j (t x)) (sym start))
place_append t k (y ∷ ys) x =
    let next : (k + 1) + length ys ≡ k + suc (length ys) = omega arith in
    let P : Bool → Type 0 = λ b. cond b (Some k) (position_from t (k + 1) (ys ++ x ∷ [])) ≡ or_else (cond b (Some k) (position_from t (k + 1) ys)) (one_of (k + suc (length ys)) (t x)) in
    elim (t y) as P [
      | true ↦ refl
      | false ↦ place_append t (k + 1) ys x ∙ ap (λ j. or_else (position_from t (k + 1) ys) (one_of j (t x))) next
    ]

-- the first place in a list with one more at its end
pub place_last : {X : Type 0} (t : X → Bool) (xs : List X) (x : X) → position_from t 0 (xs ++ x ∷ []) ≡ (if t x then or_first (position_from t 0 xs) (length xs) else position_from t 0 xs)
unfolding or_else one_of
place_last t xs x = place_append t 0 xs x ∙ both (position_from t 0 xs) (t x)
  where
    both : (o : Option ℕ) (b : Bool) → or_else o (one_of (0 + length xs) b) ≡ (if b then or_first o (length xs) else o)
    both (Some a) true = refl
    both (Some a) false = refl
    both None true = (let start : 0 + length xs ≡ length xs = omega arith in ap (λ (n : ℕ). Some n) start)
    both None false = refl

------------------------------------------------------------
-- The first place of each key

module _ {A K : Type 0} (eq : K → K → Bool) (exact : (a b : K) → eq a b ≡ true → a ≡ b) (f : A → K) where
  abbrev pub place_of : K → List A → Option ℕ
  place_of q xs = position_from (λ (y : A). eq (f y) q) 0 xs

  place_more : (xs : List A) (i : ℕ) (x : A) → i < length xs → x ≡ get_or xs i x → (q : K) → place_of q (take (i + 1) xs) ≡ or_else (place_of q (take i xs)) (one_of i (eq (f x) q))
  place_more xs i x lt at q =
      let long : 0 + length (take i xs) ≡ i = grind (arith, length-take) in
      ap (place_of q) (take_more xs i x lt) ∙ ap (λ y. place_of q (take i xs ++ y ∷ [])) (sym at) ∙
      place_append (λ (y : A). eq (f y) q) 0 (take i xs) x ∙ ap (λ j. or_else (place_of q (take i xs)) (one_of j (eq (f x) q))) long

  module _ (xs : List A) (i : ℕ) (x : A) (lt : i < length xs) (at : x ≡ get_or xs i x) where
    -- the key was there
    pub place_kept : is_some (place_of (f x) (take i xs)) ≡ true → (q : K) → place_of q (take i xs) ≡ place_of q (take (i + 1) xs)
    unfolding one_of
    place_kept there q =
        let P : Bool → Type 0 = λ b. eq (f x) q ≡ b → place_of q (take i xs) ≡ or_else (place_of q (take i xs)) (one_of i b) in
        let h = elim (eq (f x) q) as P [
          | true ↦ λ e. sym (or_some (place_of q (take i xs)) _ (ap (λ y. is_some (place_of y (take i xs))) (sym (exact (f x) q e)) ∙ there))
          | false ↦ λ e. sym (or_none (place_of q (take i xs)))
        ] refl in
        h ∙ sym (place_more xs i x lt at q)

    -- it was not
    pub place_new : is_some (place_of (f x) (take i xs)) ≡ false → (q : K) → cond (eq (f x) q) (Some i) (place_of q (take i xs)) ≡ place_of q (take (i + 1) xs)
    unfolding one_of
    place_new absent q =
        let P : Bool → Type 0 = λ b. eq (f x) q ≡ b → cond b (Some i) (place_of q (take i xs)) ≡ or_else (place_of q (take i xs)) (one_of i b) in
        let h = elim (eq (f x) q) as P [
          | true ↦ λ e. sym (or_new (place_of q (take i xs)) _ (ap (λ y. is_some (place_of y (take i xs))) (sym (exact (f x) q e)) ∙ absent))
          | false ↦ λ e. sym (or_none (place_of q (take i xs)))
        ] refl in
        h ∙ sym (place_more xs i x lt at q)

------------------------------------------------------------
-- A place, or the end

module _ {X : Type 0} (t : X → Bool) (F : ℕ → List X → ℕ) (none : (k : ℕ) → F k [] ≡ k) (some : (k : ℕ) (y : X) (ys : List X) → F k (y ∷ ys) ≡ (if t y then k else F (k + 1) ys)) where
  place_or : (k : ℕ) (xs : List X) → unwrap_or (position_from t k xs) (k + length xs) ≡ F k xs
  place_or k [] = (let start : k + 0 ≡ k = omega arith in start ∙ sym (none k))
  place_or k (y ∷ ys) =
      let next : k + suc (length ys) ≡ (k + 1) + length ys = omega arith in
      let P : Bool → Type 0 = λ b. unwrap_or (cond b (Some k) (position_from t (k + 1) ys)) (k + suc (length ys)) ≡ (if b then k else F (k + 1) ys) in
      elim (t y) as P [
        | true ↦ refl
        | false ↦ ap (λ n. unwrap_or (position_from t (k + 1) ys) n) next ∙ place_or (k + 1) ys
      ] ∙ sym (some k y ys)

  pub place_or_end : (xs : List X) → unwrap_or (position_from t 0 xs) (length xs) ≡ F 0 xs
  place_or_end xs = (let start : length xs ≡ 0 + length xs = omega arith in ap (λ n. unwrap_or (position_from t 0 xs) n) start ∙ place_or 0 xs)

pub val_place : (n : ℕ) (ns : List ℕ) → unwrap_or (position_from (λ k. nat_eq k n) 0 ns) (length ns) ≡ place_from 0 n ns
val_place n ns = place_or_end (λ k. nat_eq k n) (λ k xs. place_from k n xs) (λ k. refl) (λ k y ys. refl) ns

val_there_from : (k n : ℕ) (ns : List ℕ) → is_some (position_from (λ m. nat_eq m n) k ns) ≡ is_val n ns
val_there_from k n [] = refl
val_there_from k n (m ∷ ms) =
    let P : Bool → Type 0 = λ b. is_some (cond b (Some k) (position_from (λ m. nat_eq m n) (k + 1) ms)) ≡ b || is_val n ms in
    elim (nat_eq m n) as P [ true ↦ refl | false ↦ val_there_from (k + 1) n ms ]

pub val_there : (n : ℕ) (ns : List ℕ) → is_some (position_from (λ m. nat_eq m n) 0 ns) ≡ is_val n ns
val_there n ns = val_there_from 0 n ns

and_true : (b : Bool) → b && true ≡ b
and_true true = refl
and_true false = refl

key_same : (x y : Variable) → same_key (key_of x) (key_of y) ≡ same_variable x y
key_same (Parameter k i) (Parameter l j) = refl
key_same (Parameter k i) (Local n) = refl
key_same (Local m) (Parameter l j) = refl
key_same (Local m) (Local n) = and_true (nat_eq m n)

pub key_exact : (a b : Bool × ℕ × ℕ) → same_key a b ≡ true → a ≡ b
key_exact (true, k, i) (true, l, j) e = search rules
key_exact (true, k, i) (false, l, j) e = search rules
key_exact (false, k, i) (true, l, j) e = search rules
key_exact (false, k, i) (false, l, j) e = search rules

pub capture_place : (x : Variable) (ys : List Variable) → unwrap_or (position_from (λ y. same_key (key_of y) (key_of x)) 0 ys) (length ys) ≡ capture_from 0 x ys
capture_place x ys =
    place_or_end (λ y. same_key (key_of y) (key_of x)) (λ k zs. capture_from k x zs) (λ k. refl)
    (λ k y zs. ap (λ b. if b then k else capture_from (k + 1) x zs) (sym (key_same y x))) ys

------------------------------------------------------------
-- Texts

same_text : (x y : List ℕ) → bytes_eq x y ≡ bytes_eq y x
same_text x y =
    let P : Bool → Bool → Type 0 = λ a b. bytes_eq x y ≡ a → bytes_eq y x ≡ b → a ≡ b in
    let go : (a b : Bool) → P a b = both in
    go (bytes_eq x y) (bytes_eq y x) refl refl
  where
    both : (a b : Bool) → bytes_eq x y ≡ a → bytes_eq y x ≡ b → a ≡ b
    both true true e f = refl
    both false false e f = refl
    both true false e f = (let t : bytes_eq y x ≡ true = (bytes_eq-Decides y x).1 (sym ((bytes_eq-Decides x y).0 e)) in cc)
    both false true e f = (let t : bytes_eq x y ≡ true = (bytes_eq-Decides x y).1 (sym ((bytes_eq-Decides y x).0 f)) in cc)

pub among_is : (x : List ℕ) (ks : List (List ℕ)) → list_any (bytes_eq x) ks ≡ is_among x ks
among_is x [] = refl
among_is x (k ∷ ks) = ap (λ b. b || list_any (bytes_eq x) ks) (same_text x k) ∙ ap (λ b. bytes_eq k x || b) (among_is x ks)

pub text_place : (x : List ℕ) (ks : List (List ℕ)) → unwrap_or (position (bytes_eq x) ks) (length ks) ≡ number_from 0 x ks
text_place x ks =
    ap (λ o. unwrap_or o (length ks)) (position_from-zero (bytes_eq x) ks) ∙
    place_or_end (bytes_eq x) (λ k zs. number_from k x zs) (λ k. refl) (λ k y zs. ap (λ b. if b then k else number_from (k + 1) x zs) (same_text y x)) ks

pub once_append : (seen xs ys : List (List ℕ)) → each_once_after seen (xs ++ ys) ≡ each_once_after (each_once_after seen xs) ys
once_append seen [] ys = refl
once_append seen (x ∷ xs) ys =
    let P : Bool → Type 0 = λ b. (if b then each_once_after seen (xs ++ ys) else each_once_after (seen ++ x ∷ []) (xs ++ ys)) ≡ each_once_after (if b then each_once_after seen xs else each_once_after (seen ++ x ∷ []) xs) ys in
    elim (is_among x seen) as P [ true ↦ once_append seen xs ys | false ↦ once_append (seen ++ x ∷ []) xs ys ]

pub nat_exact : (a b : ℕ) → nat_eq a b ≡ true → a ≡ b
nat_exact a b e = search rules

-- the names of a scope's methods
pub written_is : (bs : List b.Body) → map (λ (x : b.Body). x.signature.name) bs ≡ map (λ (x : Body). x.signature.name) (map body_of bs)
written_is [] = refl
written_is (b ∷ bs) = ap (λ l. b.signature.name ∷ l) (written_is bs)

------------------------------------------------------------
-- Instances

pub bytes_exact : (a b : List ℕ) → bytes_eq a b ≡ true → a ≡ b
bytes_exact a b e = (bytes_eq-Decides a b).0 e

-- the number of the first instance of a name
pub instance_place : (x : List ℕ) (ss : List Instance) → unwrap_or (position_from (λ (s : Instance). bytes_eq s.name x) 0 ss) (length ss) ≡ numbered_from 0 x (map started_of ss)
instance_place x ss = place_or_end (λ (s : Instance). bytes_eq s.name x) (λ k zs. numbered_from k x (map started_of zs)) (λ k. refl) (λ k y ys. refl) ss
