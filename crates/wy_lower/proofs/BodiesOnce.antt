-- Each body stands once among the scopes of the code: those of a scope have the numbers from its first one on, and each method is of one literal.
use Rattle.std.proofs.Common.{◌≡◌, inl, inr, ℕ, zero, suc, ◌+◌, ◌<◌, ◌≤◌, Bool, true, false, List, [], ◌∷◌, ◌++◌, map, Some, length, refl, sym, ap, ap₂, ◌∙◌, subst, arith, nat_eq, if◌then◌else◌}
use Rattle.std.proofs.lemmas.Bool.{eqb-true, eq-eqb}
use Rattle.std.specs.Prelude.{slice_get}
use Rattle.wy_text.specs.Members.{In, Apart}
use Rattle.wy_text.proofs.Lists.{In-left, In-right, In-cases}
use Rattle.wy_types.specs.declared.resolved.Literal.{Literal}
use Rattle.wy_types.specs.Core.{IsCore}
use Rattle.wy_types.specs.Program.{Program, Scope, Body}
use Rattle.wy_code.specs.declared.code.Method as m
use Rattle.wy_meaning.specs.Starts.{Starts}
use Rattle.wy_lower.specs.Counts.{body_count}
use Rattle.wy_lower.specs.Laws.{literals_bodies, scopes_numbers, HasBodiesOnce}
use Rattle.wy_lower.specs.Lowering.{method_table, methods_code, literals_code, scopes_code, lowered}
use Rattle.wy_lower.specs.Parts.{number_in}
use Rattle.wy_lower.proofs.Counting.{bodies_counted}

apart_both : (xs ys : List ℕ) → Apart xs → Apart ys → ((n : ℕ) → In n xs → In n ys → ⊥) → Apart (xs ++ ys)
apart_both [] ys a b not = b
apart_both (x ∷ xs) ys a b not = (
  λ i. elim (In-cases x xs ys i) [ inl j ↦ a.0 j | inr j ↦ not x (inl refl) j ],
  apart_both xs ys a.1 b (λ n i j. not n (inr i) j),
)

------------------------------------------------------------
-- The methods of an owner, where those of the scope have the numbers from k on

owned : ℕ → ℕ → List Body → List ℕ
owned l k [] = []
owned l k (b ∷ bs) = if nat_eq b.owner l then k ∷ owned l (k + 1) bs else owned l (k + 1) bs

record IsOwned (l k : ℕ) (bs : List Body) (n : ℕ) : Type 0 where
  offset : ℕ
  body : Body
  there : slice_get bs offset ≡ Some body
  owner : body.owner ≡ l
  number : n ≡ k + offset

owned_later : (l k : ℕ) (b : Body) (bs : List Body) (n : ℕ) → IsOwned l (k + 1) bs n → IsOwned l k (b ∷ bs) n
owned_later l k b bs n r = record { offset = suc r.offset; body = r.body; there = r.there; owner = r.owner; number = omega (arith, r.number) }

owned_is : (l k : ℕ) (bs : List Body) (n : ℕ) → In n (owned l k bs) → IsOwned l k bs n
unfolding owned
owned_is l k [] n i = absurd i
owned_is l k (b ∷ bs) n i = of (nat_eq b.owner l) refl (owned_is l (k + 1) bs n) i
  where
    of : (t : Bool) → nat_eq b.owner l ≡ t → (In n (owned l (k + 1) bs) → IsOwned l (k + 1) bs n) → In n (if t then k ∷ owned l (k + 1) bs else owned l (k + 1) bs) →
        IsOwned l k (b ∷ bs) n
    of true t rest (inl e) = record { offset = 0; body = b; there = refl; owner = eqb-true b.owner l t; number = omega (arith, e) }
    of true t rest (inr j) = owned_later l k b bs n (rest j)
    of false t rest j = owned_later l k b bs n (rest j)

owned_in : (l k : ℕ) (bs : List Body) (j : ℕ) (b : Body) → slice_get bs j ≡ Some b → b.owner ≡ l → In (k + j) (owned l k bs)
unfolding owned
owned_in l k [] j b e h = absurd cc
owned_in l k (c ∷ bs) zero b e h =
    let same : c ≡ b = cc in
    let t : nat_eq c.owner l ≡ true = eq-eqb c.owner l (ap (λ (y : Body). y.owner) same ∙ h) in
    subst (λ v. In (k + 0) (if v then k ∷ owned l (k + 1) bs else owned l (k + 1) bs)) (sym t) (inl (omega arith))
owned_in l k (c ∷ bs) (suc j) b e h =
    let z : k + 1 + j ≡ k + suc j = omega arith in
    of (nat_eq c.owner l) (subst (λ v. In v (owned l (k + 1) bs)) z (owned_in l (k + 1) bs j b e h))
  where
    of : (t : Bool) → In (k + suc j) (owned l (k + 1) bs) → In (k + suc j) (if t then k ∷ owned l (k + 1) bs else owned l (k + 1) bs)
    of true i = inr i
    of false i = i

owned_apart : (l k : ℕ) (bs : List Body) → Apart (owned l k bs)
unfolding owned
owned_apart l k [] = tt
owned_apart l k (b ∷ bs) = of (nat_eq b.owner l) (owned_apart l (k + 1) bs) (owned_is l (k + 1) bs k)
  where
    of : (t : Bool) → Apart (owned l (k + 1) bs) → (In k (owned l (k + 1) bs) → IsOwned l (k + 1) bs k) →
        Apart (if t then k ∷ owned l (k + 1) bs else owned l (k + 1) bs)
    of true a is = ((λ i. absurd (let r = is i in omega (arith, r.number))), a)
    of false a is = a

-- two owners have no method in common
owned_between : (l o k : ℕ) (bs : List Body) (n : ℕ) → IsOwned l k bs n → IsOwned o k bs n → l ≡ o
owned_between l o k bs n r q =
    let z : r.offset ≡ q.offset = omega (arith, r.number, q.number) in
    let same : Some r.body ≡ Some q.body = sym r.there ∙ ap (slice_get bs) z ∙ q.there in
    let body : r.body ≡ q.body = cc in
    sym r.owner ∙ ap (λ (y : Body). y.owner) body ∙ q.owner

------------------------------------------------------------
-- Those of the literals of numbers from l on

all_owned : ℕ → ℕ → List Literal → List Body → List ℕ
all_owned l k [] bs = []
all_owned l k (x ∷ xs) bs = owned l k bs ++ all_owned (l + 1) k xs bs

-- a method of one of these
record IsAmong (l count k : ℕ) (bs : List Body) (n : ℕ) : Type 0 where
  owner : ℕ
  from : l ≤ owner
  below : owner < l + count
  is : IsOwned owner k bs n

all_is : (l k : ℕ) (xs : List Literal) (bs : List Body) (n : ℕ) → In n (all_owned l k xs bs) → IsAmong l (length xs) k bs n
unfolding all_owned
all_is l k [] bs n i = absurd i
all_is l k (x ∷ xs) bs n i = elim (In-cases n (owned l k bs) (all_owned (l + 1) k xs bs) i) [
  | inl j ↦ record { owner = l; from = omega arith; below = omega arith; is = owned_is l k bs n j }
  | inr j ↦ (let r = all_is (l + 1) k xs bs n j in
      record { owner = r.owner; from = omega (arith, r.from); below = omega (arith, r.below); is = r.is })
]

all_in : (l k : ℕ) (xs : List Literal) (bs : List Body) (j o : ℕ) (b : Body) → slice_get bs j ≡ Some b → b.owner ≡ l + o → o < length xs → In (k + j) (all_owned l k xs bs)
unfolding all_owned
all_in l k [] bs j o b e h lt = absurd (omega (arith, lt))
all_in l k (x ∷ xs) bs j zero b e h lt = In-left (k + j) (owned l k bs) (all_owned (l + 1) k xs bs) (owned_in l k bs j b e (omega (arith, h)))
all_in l k (x ∷ xs) bs j (suc o) b e h lt =
    In-right (k + j) (owned l k bs) (all_owned (l + 1) k xs bs) (all_in (l + 1) k xs bs j o b e (omega (arith, h)) (omega (arith, lt)))

all_apart : (l k : ℕ) (xs : List Literal) (bs : List Body) → Apart (all_owned l k xs bs)
unfolding all_owned
all_apart l k [] bs = tt
all_apart l k (x ∷ xs) bs = apart_both (owned l k bs) (all_owned (l + 1) k xs bs) (owned_apart l k bs) (all_apart (l + 1) k xs bs)
    (λ n i j. absurd (let r = all_is (l + 1) k xs bs n j in let e = owned_between l r.owner k bs n (owned_is l k bs n i) r.is in omega (arith, e, r.from)))

------------------------------------------------------------
-- Those of scopes, the first of which has this number as that of its first body

numbers : ℕ → List Scope → List ℕ
numbers first [] = []
numbers first (s ∷ ss) = first ∷ (all_owned 0 (first + 1) s.literals s.bodies ++ numbers (first + 1 + length s.bodies) ss)

-- each body is of a literal that is there
abbrev HaveOwners : List Scope → Type 0
HaveOwners ss = (s : Scope) → In s ss → (j : ℕ) (b : Body) → slice_get s.bodies j ≡ Some b → b.owner < length s.literals

within : {X : Type 0} (xs : List X) (k : ℕ) (x : X) → slice_get xs k ≡ Some x → k < length xs
within [] k x e = absurd cc
within (y ∷ xs) zero x e = omega arith
within (y ∷ xs) (suc k) x e = let h = within xs k x e in omega (arith, h)

there : {X : Type 0} (xs : List X) (k : ℕ) → k < length xs → (x : X) × (slice_get xs k ≡ Some x)
there [] k h = absurd (omega (arith, h))
there (x ∷ xs) zero h = (x, refl)
there (x ∷ xs) (suc k) h = there xs k (omega (arith, h))

numbers_in_range : (first : ℕ) (ss : List Scope) (n : ℕ) → In n (numbers first ss) → (first ≤ n) × (n < first + body_count ss)
unfolding numbers
numbers_in_range first [] n i = absurd i
numbers_in_range first (s ∷ ss) n (inl e) = (omega (arith, e), omega (arith, e))
numbers_in_range first (s ∷ ss) n (inr i) = elim (In-cases n (all_owned 0 (first + 1) s.literals s.bodies) (numbers (first + 1 + length s.bodies) ss) i) [
  | inl j ↦
      let r = (all_is 0 (first + 1) s.literals s.bodies n j).is in
      let h = within s.bodies r.offset r.body r.there in
      (omega (arith, r.number), omega (arith, r.number, h))
  | inr j ↦ (let r = numbers_in_range (first + 1 + length s.bodies) ss n j in (omega (arith, r.0), omega (arith, r.1)))
]

numbers_apart : (first : ℕ) (ss : List Scope) → Apart (numbers first ss)
unfolding numbers
numbers_apart first [] = tt
numbers_apart first (s ∷ ss) =
    let own = all_owned 0 (first + 1) s.literals s.bodies in
    let rest = numbers (first + 1 + length s.bodies) ss in (
      λ i. elim (In-cases first own rest i) [
        | inl j ↦ absurd (let r = (all_is 0 (first + 1) s.literals s.bodies first j).is in omega (arith, r.number))
        | inr j ↦ absurd (let r = numbers_in_range (first + 1 + length s.bodies) ss first j in omega (arith, r.0))
      ],
      apart_both own rest (all_apart 0 (first + 1) s.literals s.bodies) (numbers_apart (first + 1 + length s.bodies) ss) (λ n i j. absurd (
          let r = (all_is 0 (first + 1) s.literals s.bodies n i).is in
          let h = within s.bodies r.offset r.body r.there in
          let q = numbers_in_range (first + 1 + length s.bodies) ss n j in
          omega (arith, r.number, h, q.0))),
    )

-- the first body, one of those behind it, or one of the next scopes
data Place (first count n : ℕ) : Type 0 where
  is_first : first ≡ n → Place first count n
  is_method : (j : ℕ) → j < count → first + 1 + j ≡ n → Place first count n
  is_later : first + 1 + count ≤ n → Place first count n

place : (first count n : ℕ) → first ≤ n → Place first count n
place zero count zero h = is_first refl
place zero zero (suc n) h = is_later (omega arith)
place zero (suc count) (suc n) h = of (place 0 count n (omega arith))
  where
    of : Place 0 count n → Place 0 (suc count) (suc n)
    of (is_first e) = is_method 0 (omega arith) (omega (arith, e))
    of (is_method j lt e) = is_method (suc j) (omega (arith, lt)) (omega (arith, e))
    of (is_later le) = is_later (omega (arith, le))
place (suc first) count zero h = absurd (omega (arith, h))
place (suc first) count (suc n) h = of (place first count n (omega (arith, h)))
  where
    of : Place first count n → Place (suc first) count (suc n)
    of (is_first e) = is_first (ap suc e)
    of (is_method j lt e) = is_method j lt (omega (arith, e))
    of (is_later le) = is_later (omega (arith, le))

numbers_have : (first : ℕ) (ss : List Scope) → HaveOwners ss → (n : ℕ) → first ≤ n → n < first + body_count ss → In n (numbers first ss)
unfolding numbers
numbers_have first [] have n h g = absurd (omega (arith, h, g))
numbers_have first (s ∷ ss) have n h g = of (place first (length s.bodies) n h) (λ le. numbers_have (first + 1 + length s.bodies) ss (λ z i. have z (inr i)) n le (omega (arith, g)))
  where
    of : Place first (length s.bodies) n → (first + 1 + length s.bodies ≤ n → In n (numbers (first + 1 + length s.bodies) ss)) → In n (numbers first (s ∷ ss))
    of (is_first e) rest = inl e
    of (is_method j lt e) rest =
        let b = there s.bodies j lt in
        inr (In-left n (all_owned 0 (first + 1) s.literals s.bodies) _ (subst (λ v. In v (all_owned 0 (first + 1) s.literals s.bodies)) e
        (all_in 0 (first + 1) s.literals s.bodies j b.0.owner b.0 b.1 (omega arith) (have s (inl refl) j b.0 b.1))))
    of (is_later le) rest = inr (In-right n (all_owned 0 (first + 1) s.literals s.bodies) _ (rest le))

------------------------------------------------------------
-- The code has these numbers

module _ (p : Program) (st : Starts) where
  methods_are : (l k : ℕ) (bs : List Body) → map (λ (e : m.Method). e.body) (methods_code p l k bs) ≡ owned l k bs
  unfolding owned
  methods_are l k [] = refl
  methods_are l k (b ∷ bs) = of (nat_eq b.owner l) (methods_are l (k + 1) bs)
    where
      of : (t : Bool) → map (λ (e : m.Method). e.body) (methods_code p l (k + 1) bs) ≡ owned l (k + 1) bs →
          map (λ (e : m.Method). e.body) (if t then record { method = number_in (method_table p) b.signature.name; body = k } ∷ methods_code p l (k + 1) bs else methods_code p l (k + 1) bs) ≡
          (if t then k ∷ owned l (k + 1) bs else owned l (k + 1) bs)
      of true e = ap (λ r. k ∷ r) e
      of false e = e

  literals_are : (s : Scope) (first l : ℕ) (xs : List Literal) → literals_bodies (literals_code p st s first l xs) ≡ all_owned l (first + 1) xs s.bodies
  unfolding all_owned
  literals_are s first l [] = refl
  literals_are s first l (x ∷ xs) = ap₂ (λ a b. a ++ b) (methods_are l (first + 1) s.bodies) (literals_are s first (l + 1) xs)

  scopes_are : (first : ℕ) (ss : List Scope) → scopes_numbers (scopes_code p st first ss) ≡ numbers first ss
  unfolding numbers
  scopes_are first [] = refl
  scopes_are first (s ∷ ss) = ap₂ (λ a b. first ∷ (a ++ b)) (literals_are s first 0 s.literals) (scopes_are (first + 1 + length s.bodies) ss)

  have_owners : IsCore p → HaveOwners p.scopes
  have_owners c s i j b e = ((c.scopes s i).bodies j b e).0

  pub bodies_once : IsCore p → HasBodiesOnce p st
  unfolding lowered
  bodies_once c =
      let same = scopes_are 0 p.scopes in
      let count = bodies_counted p st in (
        subst Apart (sym same) (numbers_apart 0 p.scopes),
        λ n. (
          λ i. (let r = numbers_in_range 0 p.scopes n (subst (λ l. In n l) same i) in omega (arith, r.1, count)),
          λ h. subst (λ l. In n l) (sym same) (numbers_have 0 p.scopes (have_owners c) n (omega arith) (omega (arith, h, count))),
        ),
      )
