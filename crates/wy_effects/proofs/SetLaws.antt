-- The operations on sets are those on finite sets: what is in their results, and that sets stay sets.
use Rattle.std.proofs.Common.{◌≡◌, ℕ, ◌+◌, ◌<◌, ◌≤◌, List, [], ◌∷◌, ◌⊎◌, inl, inr, true, false, refl, sym, ap, ◌∙◌, subst, arith}
use Rattle.std.specs.Prelude.{if◌then◌else◌}
use Rattle.std.proofs.lemmas.Bool.{cases_lt}
use Rattle.std.proofs.lemmas.Bool.Decides.{nat_tests}
use Rattle.wy_text.specs.Members.{In, Within}
use Rattle.wy_effects.specs.EffSet.{IsSetFrom, has, insert_atom, union, without}

pub insert_atom-skip : (a x : ℕ) (xs : List ℕ) → x < a → insert_atom a (x ∷ xs) ≡ x ∷ insert_atom a xs
insert_atom-skip a x xs h = grind (arith, nat_tests)

pub insert_atom-here : (a x : ℕ) (xs : List ℕ) → x ≡ a → insert_atom a (x ∷ xs) ≡ x ∷ xs
insert_atom-here a x xs h = grind (arith, nat_tests)

pub insert_atom-before : (a x : ℕ) (xs : List ℕ) → a < x → insert_atom a (x ∷ xs) ≡ a ∷ x ∷ xs
insert_atom-before a x xs h = grind (arith, nat_tests)

pub IsSetFrom-weaken : (j k n : ℕ) (xs : List ℕ) → j ≤ k → IsSetFrom k n xs → IsSetFrom j n xs
IsSetFrom-weaken j k n [] le s = tt
IsSetFrom-weaken j k n (x ∷ xs) le s = (omega (arith, s.0), s.1, s.2)

pub IsSetFrom-insert : (a k n : ℕ) (xs : List ℕ) → k ≤ a → a < n → IsSetFrom k n xs → IsSetFrom k n (insert_atom a xs)
IsSetFrom-insert a k n [] ka an s = (ka, an, tt)
IsSetFrom-insert a k n (x ∷ xs) ka an s =
    elim (cases_lt x a) [
      | inl lt ↦ rw insert_atom-skip (s.0, s.1, IsSetFrom-insert a (x + 1) n xs (omega arith) an s.2)
      | inr ge ↦ elim (cases_lt a x) [
        | inl lt ↦ rw insert_atom-before (ka, an, (omega arith, s.1, s.2))
        | inr le ↦ (let e : x ≡ a = omega arith in rw insert_atom-here s)
      ]
    ]

pub IsSetFrom-union : (k n : ℕ) (xs ys : List ℕ) → IsSetFrom k n xs → IsSetFrom k n ys → IsSetFrom k n (union xs ys)
IsSetFrom-union k n [] ys s t = t
IsSetFrom-union k n (x ∷ xs) ys s t =
    IsSetFrom-insert x k n (union xs ys) s.0 s.1 (IsSetFrom-union k n xs ys (IsSetFrom-weaken k (x + 1) n xs (omega (arith, s.0)) s.2) t)

pub IsSetFrom-without : (k n : ℕ) (xs ys : List ℕ) → IsSetFrom k n xs → IsSetFrom k n (without xs ys)
IsSetFrom-without k n [] ys s = tt
IsSetFrom-without k n (x ∷ xs) ys s =
    elim (has x ys) as (λ b. IsSetFrom k n (if b then without xs ys else x ∷ without xs ys)) [
      | true ↦ IsSetFrom-without k n xs ys (IsSetFrom-weaken k (x + 1) n xs (omega (arith, s.0)) s.2)
      | false ↦ (s.0, s.1, IsSetFrom-without (x + 1) n xs ys s.2)
    ]

-- what is in a set lies from its start on, and below its end
pub at_least : (k n : ℕ) (xs : List ℕ) (x : ℕ) → IsSetFrom k n xs → In x xs → k ≤ x
at_least k n [] x s i = absurd i
at_least k n (y ∷ xs) x s (inl e) = omega (arith, s.0)
at_least k n (y ∷ xs) x s (inr i) = let l : y + 1 ≤ x = at_least (y + 1) n xs x s.2 i in omega (arith, s.0)

pub below_end : (k n : ℕ) (xs : List ℕ) (x : ℕ) → IsSetFrom k n xs → In x xs → x < n
below_end k n [] x s i = absurd i
below_end k n (y ∷ xs) x s (inl e) = omega (arith, s.1)
below_end k n (y ∷ xs) x s (inr i) = below_end (y + 1) n xs x s.2 i

-- two sets of the same atoms are equal
pub sets_equal : (k n : ℕ) (xs ys : List ℕ) → IsSetFrom k n xs → IsSetFrom k n ys → Within xs ys → Within ys xs → xs ≡ ys
sets_equal k n [] [] s t v w = refl
sets_equal k n [] (y ∷ ys) s t v w = absurd (w y (inl refl))
sets_equal k n (x ∷ xs) [] s t v w = absurd (v x (inl refl))
sets_equal k n (x ∷ xs) (y ∷ ys) s t v w =
    let same : x ≡ y =
    elim (cases_lt x y) [
      | inl lt ↦ absurd (elim (v x (inl refl)) [ inl e ↦ omega arith | inr i ↦ (let l : y + 1 ≤ x = at_least (y + 1) n ys x t.2 i in omega arith) ])
      | inr ge ↦ elim (cases_lt y x) [
        | inl lt ↦ absurd (elim (w y (inl refl)) [ inl e ↦ omega arith | inr i ↦ (let l : x + 1 ≤ y = at_least (x + 1) n xs y s.2 i in omega arith) ])
        | inr le ↦ omega arith
      ]
    ] in
    let P : ℕ → Type 0 = λ z. IsSetFrom (z + 1) n ys in
    let rest : xs ≡ ys = sets_equal (x + 1) n xs ys s.2 (subst P (sym same) t.2)
    (λ a i. elim (v a (inr i)) [ inl e ↦ absurd (let l : x + 1 ≤ a = at_least (x + 1) n xs a s.2 i in omega arith) | inr j ↦ j ])
    (λ a i. elim (w a (inr i)) [ inl e ↦ absurd (let l : y + 1 ≤ a = at_least (y + 1) n ys a t.2 i in omega arith) | inr j ↦ j ]) in
    ap (λ z. z ∷ xs) same ∙ ap (λ l. y ∷ l) rest

-- `has` decides membership
has_here : (a x : ℕ) (xs : List ℕ) → x ≡ a → has a (x ∷ xs) ≡ true
has_here a x xs e = grind (arith, nat_tests)

has_later : (a x : ℕ) (xs : List ℕ) → (x ≡ a → ⊥) → has a (x ∷ xs) ≡ has a xs
has_later a x xs e = grind (arith, nat_tests)

pub cases_equal : (m n : ℕ) → (m ≡ n) ⊎ (m ≡ n → ⊥)
cases_equal m n =
    elim (cases_lt m n) [
      | inl lt ↦ inr (λ e. omega arith)
      | inr ge ↦ elim (cases_lt n m) [ inl lt ↦ inr (λ e. omega arith) | inr le ↦ inl (omega arith) ]
    ]

pub has-In : (a : ℕ) (xs : List ℕ) → In a xs → has a xs ≡ true
has-In a [] i = absurd i
has-In a (x ∷ xs) i =
    elim (cases_equal x a) [
      | inl e ↦ has_here a x xs e
      | inr n ↦ has_later a x xs n ∙ has-In a xs (elim i [ inl e ↦ absurd (n e) | inr j ↦ j ])
    ]

pub In-has : (a : ℕ) (xs : List ℕ) → has a xs ≡ true → In a xs
In-has a [] h = cc
In-has a (x ∷ xs) h =
    elim (cases_equal x a) [
      | inl e ↦ inl e
      | inr n ↦ inr (In-has a xs (sym (has_later a x xs n) ∙ h))
    ]

pub has-absent : (a : ℕ) (xs : List ℕ) → (In a xs → ⊥) → has a xs ≡ false
has-absent a [] n = refl
has-absent a (x ∷ xs) n = has_later a x xs (λ e. n (inl e)) ∙ has-absent a xs (λ i. n (inr i))

-- what is in a set with one more atom
pub insert_atom-cases : (a b : ℕ) (xs : List ℕ) → In b (insert_atom a xs) → (a ≡ b) ⊎ In b xs
insert_atom-cases a b [] h = elim h [ inl e ↦ inl e | inr f ↦ absurd f ]
insert_atom-cases a b (x ∷ xs) h =
    let P : List ℕ → Type 0 = λ l. In b l in
    elim (cases_lt x a) [
      | inl lt ↦ elim (subst P (insert_atom-skip a x xs lt) h) [ inl e ↦ inr (inl e) | inr g ↦ elim (insert_atom-cases a b xs g) [ inl e ↦ inl e | inr f ↦ inr (inr f) ] ]
      | inr ge ↦ elim (cases_lt a x) [
        | inl lt ↦ (let g : In b (a ∷ x ∷ xs) = subst P (insert_atom-before a x xs lt) h in elim g [ inl e ↦ inl e | inr f ↦ inr f ])
        | inr le ↦ (let e : x ≡ a = omega arith in inr (subst P (insert_atom-here a x xs e) h))
      ]
    ]

pub In-insert_atom-new : (a : ℕ) (xs : List ℕ) → In a (insert_atom a xs)
In-insert_atom-new a [] = inl refl
In-insert_atom-new a (x ∷ xs) =
    let P : List ℕ → Type 0 = λ l. In a l in
    elim (cases_lt x a) [
      | inl lt ↦ subst P (sym (insert_atom-skip a x xs lt)) (inr (In-insert_atom-new a xs))
      | inr ge ↦ elim (cases_lt a x) [
        | inl lt ↦ subst P (sym (insert_atom-before a x xs lt)) (inl refl)
        | inr le ↦ (let e : x ≡ a = omega arith in subst P (sym (insert_atom-here a x xs e)) (inl e))
      ]
    ]

pub In-insert_atom-old : (a b : ℕ) (xs : List ℕ) → In b xs → In b (insert_atom a xs)
In-insert_atom-old a b [] h = absurd h
In-insert_atom-old a b (x ∷ xs) h =
    let P : List ℕ → Type 0 = λ l. In b l in
    elim (cases_lt x a) [
      | inl lt ↦ subst P (sym (insert_atom-skip a x xs lt)) (elim h [ inl e ↦ inl e | inr g ↦ inr (In-insert_atom-old a b xs g) ])
      | inr ge ↦ elim (cases_lt a x) [
        | inl lt ↦ subst P (sym (insert_atom-before a x xs lt)) (inr h)
        | inr le ↦ (let e : x ≡ a = omega arith in subst P (sym (insert_atom-here a x xs e)) h)
      ]
    ]

-- what is in a union
pub union-cases : (b : ℕ) (xs ys : List ℕ) → In b (union xs ys) → In b xs ⊎ In b ys
union-cases b [] ys h = inr h
union-cases b (x ∷ xs) ys h =
    elim (insert_atom-cases x b (union xs ys) h) [
      | inl e ↦ inl (inl e)
      | inr g ↦ elim (union-cases b xs ys g) [ inl i ↦ inl (inr i) | inr i ↦ inr i ]
    ]

pub In-union-left : (b : ℕ) (xs ys : List ℕ) → In b xs → In b (union xs ys)
In-union-left b [] ys h = absurd h
In-union-left b (x ∷ xs) ys (inl e) = let P : ℕ → Type 0 = λ v. In v (insert_atom x (union xs ys)) in subst P e (In-insert_atom-new x (union xs ys))
In-union-left b (x ∷ xs) ys (inr h) = In-insert_atom-old x b (union xs ys) (In-union-left b xs ys h)

pub In-union-right : (b : ℕ) (xs ys : List ℕ) → In b ys → In b (union xs ys)
In-union-right b [] ys h = h
In-union-right b (x ∷ xs) ys h = In-insert_atom-old x b (union xs ys) (In-union-right b xs ys h)

pub Within-union : (xs ys zs : List ℕ) → Within xs zs → Within ys zs → Within (union xs ys) zs
Within-union xs ys zs f g b h = elim (union-cases b xs ys h) [ inl i ↦ f b i | inr i ↦ g b i ]

pub Within-unions : (xs ys vs ws : List ℕ) → Within xs vs → Within ys ws → Within (union xs ys) (union vs ws)
Within-unions xs ys vs ws f g = Within-union xs ys (union vs ws) (λ b h. In-union-left b vs ws (f b h)) (λ b h. In-union-right b vs ws (g b h))

-- what is in a difference
pub without-from : (b : ℕ) (xs ys : List ℕ) → In b (without xs ys) → In b xs × (In b ys → ⊥)
without-from b [] ys h = absurd h
without-from b (x ∷ xs) ys h =
    elim (has x ys) as (λ t. has x ys ≡ t → In b (if t then without xs ys else x ∷ without xs ys) → In b (x ∷ xs) × (In b ys → ⊥)) [
      | true ↦ λ e g. (let r = without-from b xs ys g in (inr r.0, r.1))
      | false ↦ λ e g. elim g [
        | inl f ↦ (inl f, λ i. let P : ℕ → Type 0 = λ v. In v ys in let t : true ≡ false = sym (has-In x ys (subst P (sym f) i)) ∙ e in cc)
        | inr g ↦ (let r = without-from b xs ys g in (inr r.0, r.1))
      ]
    ] refl h

pub In-without : (b : ℕ) (xs ys : List ℕ) → In b xs → (In b ys → ⊥) → In b (without xs ys)
In-without b [] ys h n = absurd h
In-without b (x ∷ xs) ys h n =
    elim (has x ys) as (λ t. has x ys ≡ t → In b (if t then without xs ys else x ∷ without xs ys)) [
      | true ↦ λ e. In-without b xs ys (elim h [ inl f ↦ absurd (let P : ℕ → Type 0 = λ v. In v ys in n (subst P f (In-has x ys e))) | inr g ↦ g ]) n
      | false ↦ λ e. elim h [ inl f ↦ inl f | inr g ↦ inr (In-without b xs ys g n) ]
    ] refl
