-- Texts and numbers that differ: what a table of them tells, and lists of the same numbers.
use Rattle.std.proofs.Common.{◌≡◌, ◌↔◌, ◌⊎◌, IsTrue, ℕ, zero, suc, ◌+◌, ◌<◌, ◌≤◌, Bool, true, false, ◌||◌, List, [], ◌∷◌, ◌++◌, length, map}
use Rattle.std.proofs.Common.{get_or, take, inl, inr, refl, sym, ap, ◌∙◌, subst, append_assoc, arith, nat_eq}
use Rattle.std.specs.Prelude.{bytes_eq, if◌then◌else◌, Option, None, Some, is_some, MatchOption}
use Rattle.std.specs.List.{list_any}
use Rattle.std.proofs.lemmas.Bool.{eq-eqb, eqb-true, eqb-false}
use Rattle.std.proofs.lemmas.List.{take_more, take_all}
use Rattle.std.proofs.lemmas.Slice.Eq.{bytes_eq-Decides}
use Rattle.wy_text.specs.Members.{In, Within, Apart}
use Rattle.wy_text.proofs.Lists.{In-right, Apart-push, length-apart}
use Rattle.wy_verify.specs.RangeParts.{IsPut}

------------------------------------------------------------
-- Keys

module _ {K : Type 0} (eq : K → K → Bool) (exact : (a b : K) → eq a b ≡ true → a ≡ b) (same : (a b : K) → a ≡ b → eq a b ≡ true) where
  pub any_in : (x : K) (ks : List K) → list_any (eq x) ks ≡ true → In x ks
  any_in x [] e = absurd cc
  any_in x (k ∷ ks) e = of (any_in x ks) (eq x k) refl e
    where
      of : (list_any (eq x) ks ≡ true → In x ks) → (b : Bool) → eq x k ≡ b → (b || list_any (eq x) ks) ≡ true → In x (k ∷ ks)
      of rest true t e = inl (sym (exact x k t))
      of rest false t e = inr (rest e)

  pub in_any : (x : K) (ks : List K) → In x ks → list_any (eq x) ks ≡ true
  in_any x [] i = absurd i
  in_any x (k ∷ ks) (inl e) = ap (λ b. b || list_any (eq x) ks) (same x k (sym e))
  in_any x (k ∷ ks) (inr i) = of (in_any x ks i) (eq x k)
    where
      of : list_any (eq x) ks ≡ true → (b : Bool) → (b || list_any (eq x) ks) ≡ true
      of rest true = refl
      of rest false = rest

  pub not_in : (x : K) (ks : List K) → list_any (eq x) ks ≡ false → In x ks → ⊥
  not_in x ks e i = let t = in_any x ks i in absurd cc

pub text_exact : (a b : List ℕ) → bytes_eq a b ≡ true → a ≡ b
text_exact a b e = (bytes_eq-Decides a b).0 e

pub text_same : (a b : List ℕ) → a ≡ b → bytes_eq a b ≡ true
text_same a b e = (bytes_eq-Decides a b).1 e

pub number_exact : (a b : ℕ) → nat_eq a b ≡ true → a ≡ b
number_exact a b e = eqb-true a b e

pub number_same : (a b : ℕ) → a ≡ b → nat_eq a b ≡ true
number_same a b e = eq-eqb a b e

------------------------------------------------------------
-- A list that is taken into a table

module _ {X Y : Type 0} (f : X → Y) where
  pub map_end : (xs : List X) (x : X) → map f (xs ++ x ∷ []) ≡ map f xs ++ f x ∷ []
  map_end [] x = refl
  map_end (y ∷ ys) x = ap (λ l. f y ∷ l) (map_end ys x)

  pub map_split : (xs ys : List X) → map f (xs ++ ys) ≡ map f xs ++ map f ys
  map_split [] ys = refl
  map_split (x ∷ xs) ys = ap (λ l. f x ∷ l) (map_split xs ys)

  -- one item more
  pub map_more : (xs : List X) (i : ℕ) (x : X) → i < length xs → x ≡ get_or xs i x →
      map f (take (i + 1) xs) ≡ map f (take i xs) ++ f x ∷ []
  map_more xs i x lt at =
      ap (map f) (take_more xs i x lt) ∙ ap (λ y. map f (take i xs ++ y ∷ [])) (sym at) ∙ map_end (take i xs) x

-- the elements before a place are apart from the one there
apart_met : {Y : Type 0} (front : List Y) (y : Y) (rest : List Y) → Apart (front ++ y ∷ rest) → In y front → ⊥
apart_met [] y rest a i = i
apart_met (x ∷ front) y rest a (inl e) = a.0 (subst (λ z. In z (front ++ y ∷ rest)) (sym e) (In-right y front (y ∷ rest) (inl refl)))
apart_met (x ∷ front) y rest a (inr i) = apart_met front y rest a.1 i

module _ {X Y : Type 0} (f : X → Y) where
  split_at : (xs : List X) (i : ℕ) (x : X) → i < length xs → x ≡ get_or xs i x → (rest : List X) × (xs ≡ take i xs ++ x ∷ rest)
  split_at [] i x lt at = absurd (omega arith)
  split_at (y ∷ ys) zero x lt at = (ys, ap (λ z. z ∷ ys) (sym at))
  split_at (y ∷ ys) (suc i) x lt at = let r = split_at ys i x (omega arith) at in (r.0, ap (λ l. y ∷ l) r.1)

  -- an element that was met
  pub met_again : (front : List Y) (xs : List X) (i : ℕ) (x : X) → i < length xs → x ≡ get_or xs i x →
      In (f x) (front ++ map f (take i xs)) → Apart (front ++ map f xs) → ⊥
  met_again front xs i x lt at met a =
      let r = split_at xs i x lt at in
      apart_met (front ++ map f (take i xs)) (f x) (map f r.0) (subst Apart (ap (λ l. front ++ l) (ap (map f) r.1 ∙ map_split f (take i xs) (x ∷ r.0)) ∙ sym (append_assoc front (map f (take i xs)) (f x ∷ map f r.0))) a) met

  -- what is met after one more
  pub met_more : (front : List Y) (xs : List X) (i : ℕ) (x : X) → i < length xs → x ≡ get_or xs i x →
      front ++ map f (take (i + 1) xs) ≡ (front ++ map f (take i xs)) ++ f x ∷ []
  met_more front xs i x lt at =
      ap (λ l. front ++ l) (map_more f xs i x lt at) ∙ sym (append_assoc front (map f (take i xs)) (f x ∷ []))

-- what was met: a front and the names of a list, all apart
abbrev pub IsMet : {X Y : Type 0} → (X → Y) → List Y → List X → List Y → Type 0
IsMet f front xs met = (met ≡ front ++ map f xs) × Apart met

module _ {X : Type 0} (f : X → List ℕ) (front : List (List ℕ)) (xs : List X) (i : ℕ) (x : X) (lt : i < length xs) (at : x ≡ get_or xs i x)
    (old new : List (List ℕ)) (met : IsMet f front (take i xs) old) where
  pub taken_more : (b : Bool) → b ≡ true → IsPut old (f x) new b → IsMet f front (take (i + 1) xs) new
  taken_more b e p =
      let q = subst (λ b. IsPut old (f x) new b) e p in
      (q.1 ∙ ap (λ l. l ++ f x ∷ []) met.0 ∙ sym (met_more f front xs i x lt at), subst Apart (sym q.1) (Apart-push (f x) old met.1 q.0))

  pub taken_before : (b : Bool) → b ≡ false → IsPut old (f x) new b → IsTrue false ↔ Apart (front ++ map f xs)
  taken_before b e p =
      let q = subst (λ b. IsPut old (f x) new b) e p in
      (λ t. absurd cc, λ a. absurd (met_again f front xs i x lt at (subst (λ l. In (f x) l) met.0 q) a))

pub taken_all : {X Y : Type 0} (f : X → Y) (front : List Y) (xs : List X) (n : ℕ) (met : List Y) → length xs ≤ n →
    IsMet f front (take n xs) met → IsTrue true ↔ Apart (front ++ map f xs)
taken_all f front xs n met le h = (λ t. subst Apart (h.0 ∙ ap (λ l. front ++ map f l) (take_all n xs le)) h.1, λ a. refl)

pub begins : {X Y : Type 0} (f : X → Y) (front : List Y) (xs : List X) → Apart front → IsMet f front (take 0 xs) front
begins f front xs a = (no_more front, a)
  where
    no_more : {Y : Type 0} (ys : List Y) → ys ≡ ys ++ []
    no_more [] = refl
    no_more (y ∷ ys) = ap (λ l. y ∷ l) (no_more ys)

pub map_same : {X : Type 0} (xs : List X) → map (λ (x : X). x) xs ≡ xs
map_same [] = refl
map_same (x ∷ xs) = ap (λ l. x ∷ l) (map_same xs)

------------------------------------------------------------
-- As many numbers, all among others

among : (x : ℕ) (ys : List ℕ) → In x ys ⊎ (In x ys → ⊥)
among x ys = of (list_any (nat_eq x) ys) refl
  where
    of : (b : Bool) → list_any (nat_eq x) ys ≡ b → In x ys ⊎ (In x ys → ⊥)
    of true e = inl (any_in nat_eq number_exact number_same x ys e)
    of false e = inr (not_in nat_eq number_exact number_same x ys e)

-- as many different numbers as another list has, all in it, are all of it
pub all_among : (xs ys : List ℕ) → Apart xs → Within xs ys → length ys ≤ length xs → Within ys xs
all_among xs ys a w le y i = of (among y xs)
  where
    of : In y xs ⊎ (In y xs → ⊥) → In y xs
    of (inl h) = h
    of (inr out) =
        let more : length {A = ℕ} (y ∷ xs) ≤ length ys = length-apart (y ∷ xs) ys (out, a) within in
        absurd (omega (arith, more, le))
      where
        within : Within (y ∷ xs) ys
        within z (inl e) = subst (λ v. In v ys) e i
        within z (inr h) = w z h

-- the numbers below a number
below : ℕ → List ℕ
below zero = []
below (suc n) = n ∷ below n

length_below : (n : ℕ) → length (below n) ≡ n
unfolding below
length_below zero = refl
length_below (suc n) = ap suc (length_below n)

below_in : (n b : ℕ) → b < n → In b (below n)
unfolding below
below_in zero b lt = absurd (omega arith)
below_in (suc n) b lt = of (below_in n b) (nat_eq n b) refl
  where
    of : (b < n → In b (below n)) → (t : Bool) → nat_eq n b ≡ t → In b (n ∷ below n)
    of rest true e = inl (eqb-true n b e)
    of rest false e = inr (rest (let ne = eqb-false n b e in omega (arith, lt, ne)))

in_below : (n b : ℕ) → In b (below n) → b < n
unfolding below
in_below zero b i = absurd i
in_below (suc n) b (inl e) = omega (arith, e)
in_below (suc n) b (inr i) = let h = in_below n b i in omega (arith, h)

below_apart : (n : ℕ) → Apart (below n)
unfolding below
below_apart zero = tt
below_apart (suc n) = ((λ i. let h = in_below n n i in omega (arith, h)), below_apart n)

-- n different numbers below n are all of them
pub all_numbers : (xs : List ℕ) (n : ℕ) → Apart xs → ((b : ℕ) → In b xs → b < n) → length xs ≡ n → (b : ℕ) → b < n → In b xs
all_numbers xs n a there e b lt =
    let l = length_below n in
    all_among xs (below n) a (λ x i. below_in n x (there x i)) (omega (arith, e, l)) b (below_in n b lt)

-- .. and there are no more
pub number_count : (xs : List ℕ) (n : ℕ) → Apart xs → ((b : ℕ) → In b xs → b < n) → ((b : ℕ) → b < n → In b xs) → length xs ≡ n
number_count xs n a there all =
    let l = length_below n in
    let most = length-apart xs (below n) a (λ x i. below_in n x (there x i)) in
    let least = length-apart (below n) xs (below_apart n) (λ x i. all x (in_below n x i)) in
    omega (arith, l, most, least)

-- the same numbers are as many
pub same_count : (xs ys : List ℕ) → Apart xs → Apart ys → ((b : ℕ) → In b xs ↔ In b ys) → length xs ≡ length ys
same_count xs ys a c h =
    let most = length-apart xs ys a (λ x i. (h x).0 i) in
    let least = length-apart ys xs c (λ y i. (h y).1 i) in
    omega (arith, most, least)

------------------------------------------------------------
-- Numbers that are put into a table

pub read_any : {X : Type 0} (xs : List X) (i : ℕ) (d e : X) → i < length xs → get_or xs i d ≡ get_or xs i e
read_any [] i d e lt = absurd (omega arith)
read_any (x ∷ xs) zero d e lt = refl
read_any (x ∷ xs) (suc i) d e lt = read_any xs i d e (omega arith)

-- the numbers so far are in the table, and apart
abbrev pub AreIn : List ℕ → List ℕ → Type 0
AreIn xs keys = (keys ≡ xs) × Apart xs

module _ (xs : List ℕ) (i : ℕ) (lt : i < length xs) (keys : List ℕ) (met : AreIn (take i xs) keys) where
  pub number_met : list_any (nat_eq (get_or xs i 0)) keys ≡ true → Apart xs → ⊥
  number_met e a =
      let n = get_or xs i 0 in
      let met_in : In n (take i xs) = subst (λ l. In n l) met.0 (any_in nat_eq number_exact number_same n keys e) in
      met_again (λ (x : ℕ). x) [] xs i n lt (read_any xs i 0 n lt) (subst (λ l. In n l) (sym (map_same (take i xs))) met_in) (subst Apart (sym (map_same xs)) a)

  pub number_more : (new : List ℕ) → list_any (nat_eq (get_or xs i 0)) keys ≡ false →
      new ≡ (if list_any (nat_eq (get_or xs i 0)) keys then keys else keys ++ get_or xs i 0 ∷ []) → AreIn (take (i + 1) xs) new
  number_more new e put =
      let n = get_or xs i 0 in
      let more = take_more xs i 0 lt in
      let out : In n (take i xs) → ⊥ = λ h. not_in nat_eq number_exact number_same n keys e (subst (λ l. In n l) (sym met.0) h) in (
        put ∙ ap (λ b. if b then keys else keys ++ n ∷ []) e ∙ ap (λ l. l ++ n ∷ []) met.0 ∙ sym more,
        subst Apart (sym more) (Apart-push n (take i xs) met.1 out),
      )

pub numbers_all : (xs : List ℕ) (n : ℕ) (keys : List ℕ) → length xs ≤ n → AreIn (take n xs) keys → AreIn xs keys
numbers_all xs n keys le h = subst (λ l. AreIn l keys) (take_all n xs le) h

-- what a table of numbers tells
pub given_apart : (o : Option (List ℕ)) (ns : List ℕ) (r : Bool) → r ≡ is_some o →
    MatchOption o (Apart ns → ⊥) (λ n. (n ≡ ns) × Apart ns) → IsTrue r ↔ Apart ns
given_apart None ns r e m = (λ t. absurd cc, λ a. absurd (m a))
given_apart (Some n) ns r e m = (λ t. m.1, λ a. e)
