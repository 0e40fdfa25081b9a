-- Lists: reading by number, setting, membership.
use Rattle.std.proofs.Common.{◌⊎◌, ◌≡◌, ◌≢◌, ℕ, zero, suc, ◌+◌, ◌<◌, Bool, true, List, [], ◌∷◌, ◌++◌, length, map}
use Rattle.std.proofs.Common.{drop, inl, inr, refl, ap, Some, None, Contains, arith}
use Rattle.std.specs.Prelude.{slice_get, slice_set, if◌then◌else◌}
use Rattle.wy_verified.specs.Kinds.{Kind, In}
use Rattle.wy_verified.specs.Rules.{reversed}

pub pick_true : {X : Type 0} (c : Bool) (a b : X) → c ≡ true → if◌then◌else◌ c a b ≡ a
pick_true c a b e = ap (λ c. if c then a else b) e

pub some_same : {X : Type 0} {x y : X} → Some x ≡ Some y → x ≡ y
some_same e = cc

pub none_some : {X : Type 0} {x : X} → None ≡ Some x → ⊥
none_some e = cc

module _ {X : Type 0} where
  pub get_set_same : (xs : List X) (i : ℕ) (v : X) → i < length xs → slice_get (slice_set xs i v) i ≡ Some v
  get_set_same [] i v h = absurd (omega arith)
  get_set_same (x ∷ xs) zero v h = refl
  get_set_same (x ∷ xs) (suc i) v h = get_set_same xs i v (omega arith)

  pub get_set_other : (xs : List X) (i j : ℕ) (v : X) → i ≢ j → slice_get (slice_set xs i v) j ≡ slice_get xs j
  get_set_other [] i j v h = refl
  get_set_other (x ∷ xs) zero zero v h = absurd (h refl)
  get_set_other (x ∷ xs) zero (suc j) v h = refl
  get_set_other (x ∷ xs) (suc i) zero v h = refl
  get_set_other (x ∷ xs) (suc i) (suc j) v h = get_set_other xs i j v (λ e. h (ap suc e))

  pub length_set : (xs : List X) (i : ℕ) (v : X) → length (slice_set xs i v) ≡ length xs
  length_set [] i v = refl
  length_set (x ∷ xs) zero v = refl
  length_set (x ∷ xs) (suc i) v = ap suc (length_set xs i v)

  pub read_first : (xs ys : List X) (k : ℕ) (x : X) → slice_get xs k ≡ Some x → slice_get (xs ++ ys) k ≡ Some x
  read_first [] ys k x e = absurd (cc)
  read_first (y ∷ xs) ys zero x e = e
  read_first (y ∷ xs) ys (suc k) x e = read_first xs ys k x e

  pub read_next : (xs ys : List X) (x : X) → slice_get (xs ++ x ∷ ys) (length xs) ≡ Some x
  read_next [] ys x = refl
  read_next (y ∷ xs) ys x = read_next xs ys x

  pub read_there : (xs : List X) (k : ℕ) → k < length xs → (x : X) × (slice_get xs k ≡ Some x)
  read_there [] k h = absurd (omega arith)
  read_there (x ∷ xs) zero h = (x, refl)
  read_there (x ∷ xs) (suc k) h = read_there xs k (omega arith)

  pub read_last : (xs : List X) (y : X) (k : ℕ) (x : X) → slice_get (xs ++ y ∷ []) k ≡ Some x →
      (slice_get xs k ≡ Some x) ⊎ ((k ≡ length xs) × (y ≡ x))
  read_last [] y zero x e = inr (refl, cc)
  read_last [] y (suc k) x e = absurd (cc)
  read_last (z ∷ xs) y zero x e = inl e
  read_last (z ∷ xs) y (suc k) x e = elim (read_last xs y k x e) [ inl f ↦ inl f | inr f ↦ inr (ap suc f.0, f.1) ]

  pub drop_at : (xs : List X) (i : ℕ) (x : X) → slice_get xs i ≡ Some x → drop i xs ≡ x ∷ drop (suc i) xs
  drop_at [] i x e = absurd (cc)
  drop_at (y ∷ xs) zero x e = ap (λ v. v ∷ xs) (some_same e)
  drop_at (y ∷ xs) (suc i) x e = drop_at xs i x e

  pub length_more : (xs : List X) (y : X) → length (xs ++ y ∷ []) ≡ suc (length xs)
  length_more [] y = refl
  length_more (x ∷ xs) y = ap suc (length_more xs y)

  pub In-contains : (x : X) (xs : List X) → In x xs → Contains xs x
  In-contains x [] h = absurd h
  In-contains x (y ∷ xs) (inl e) = (0, omega arith, e)
  In-contains x (y ∷ xs) (inr h) = let r = In-contains x xs h in (suc r.0, omega (arith, r.1), r.2)

pub get_map : {X Y : Type 0} (f : X → Y) (xs : List X) (i : ℕ) (x : X) → slice_get xs i ≡ Some x →
    slice_get (map f xs) i ≡ Some (f x)
get_map f [] i x e = absurd (cc)
get_map f (y ∷ xs) zero x e = ap (λ v. Some (f v)) (some_same e)
get_map f (y ∷ xs) (suc i) x e = get_map f xs i x e

pub map_length : {X Y : Type 0} (f : X → Y) (xs : List X) → length (map f xs) ≡ length xs
map_length f [] = refl
map_length f (x ∷ xs) = ap suc (map_length f xs)

pub reversed_length : (ks ls : List Kind) → length (reversed ks ls) ≡ length ks + length ls
reversed_length [] ls = omega arith
reversed_length (k ∷ ks) ls = let h = reversed_length ks (k ∷ ls) in omega (arith, h)

pub reversed_count : (ks : List Kind) → length (reversed ks []) ≡ length ks
reversed_count ks = let h = reversed_length ks [] in let z : length {A = Kind} [] ≡ 0 = refl in omega (arith, h, z)
