-- Subtyping is transitive: a list of pairs that goes over the middle ones of two lists. (wy_types has it over any types
-- with lists of methods.)
use Rattle.std.proofs.Common.{◌⊎◌, ◌≡◌, ℕ, List, [], ◌∷◌, ◌++◌, inl, inr, ⊎_elim, refl, sym, ap, ◌∙◌, subst, Option}
use Rattle.std.proofs.Common.{Some, None}
use Rattle.std.proofs.lemmas.Bool.{cases_eq}
use Rattle.wy_verified.specs.Images.{Image}
use Rattle.wy_verified.specs.Kinds.{Kind, Ints, Truths, Texts, Units, Named, Own, Granted, MethodType, methods}
use Rattle.wy_verified.specs.Kinds.{IsObject, In, Pair, ParamsIn, Covers, HasCover, IsClosed, IsSubtype, Fits}
use Rattle.wy_text.proofs.Lists.{In-left, In-right}

abbrev Decided : Kind → Kind → Type 0
Decided i k = (i ≡ k) ⊎ (i ≡ k → ⊥)

decide : (i k : Kind) → Decided i k
decide Ints Ints = inl refl
decide Truths Truths = inl refl
decide Texts Texts = inl refl
decide Units Units = inl refl
decide (Named t) (Named u) = ⊎_elim (λ e. inl (ap Named e)) (λ n. inr (λ e. n (cc))) (cases_eq t u)
decide (Granted g) (Granted h) = ⊎_elim (λ e. inl (ap Granted e)) (λ n. inr (λ e. n (cc))) (cases_eq g h)
decide (Own x l) (Own y m) =
    ⊎_elim (λ e. ⊎_elim (λ f. inl (ap (λ x. Own x l) e ∙ ap (Own y) f)) (λ n. inr (λ h. n (cc))) (cases_eq l m))
    (λ n. inr (λ h. n (cc))) (cases_eq x y)
decide i k = inr (λ e. cc)

with_middle : (p q : Pair) → Decided p.1 q.0 → List Pair
with_middle p q (inl e) = (p.0, q.1) ∷ []
with_middle p q (inr n) = []

with_each : Pair → List Pair → List Pair
with_each p [] = []
with_each p (q ∷ qs) = with_middle p q (decide p.1 q.0) ++ with_each p qs

composed : List Pair → List Pair → List Pair
composed [] qs = []
composed (p ∷ ps) qs = with_each p qs ++ composed ps qs

In-with_middle : (a b c : Kind) (d : Decided b b) → In {X = Pair} (a, c) (with_middle (a, b) (b, c) d)
unfolding with_middle
In-with_middle a b c (inl e) = inl refl
In-with_middle a b c (inr n) = absurd (n refl)

In-with_each : (a b c : Kind) (qs : List Pair) → In {X = Pair} (b, c) qs → In {X = Pair} (a, c) (with_each (a, b) qs)
unfolding with_each
In-with_each a b c [] h = absurd h
In-with_each a b c (q ∷ qs) (inl e) =
    let P : Pair → Type 0 = λ v. In {X = Pair} (a, c) (with_middle (a, b) v (decide b v.0) ++ with_each (a, b) qs) in
    subst P (sym e) (In-left {X = Pair} (a, c) (with_middle (a, b) (b, c) (decide b b)) (with_each (a, b) qs)
    (In-with_middle a b c (decide b b)))
In-with_each a b c (q ∷ qs) (inr h) =
    In-right {X = Pair} (a, c) (with_middle (a, b) q (decide b q.0)) (with_each (a, b) qs) (In-with_each a b c qs h)

In-composed : (a b c : Kind) (ps qs : List Pair) → In {X = Pair} (a, b) ps → In {X = Pair} (b, c) qs →
    In {X = Pair} (a, c) (composed ps qs)
unfolding composed
In-composed a b c [] qs h g = absurd h
In-composed a b c (p ∷ ps) qs (inl e) g =
    let P : Pair → Type 0 = λ v. In {X = Pair} (a, c) (with_each v qs ++ composed ps qs) in
    subst P (sym e) (In-left {X = Pair} (a, c) (with_each (a, b) qs) (composed ps qs) (In-with_each a b c qs g))
In-composed a b c (p ∷ ps) qs (inr h) g =
    In-right {X = Pair} (a, c) (with_each p qs) (composed ps qs) (In-composed a b c ps qs h g)

-- where a pair of the composed list comes from
abbrev Meets : List Pair → List Pair → Pair → Type 0
Meets ps qs r = (b : Kind) × In {X = Pair} (r.0, b) ps × In {X = Pair} (b, r.1) qs

In-cases : (r : Pair) (xs ys : List Pair) → In r (xs ++ ys) → In r xs ⊎ In r ys
In-cases r [] ys h = inr h
In-cases r (x ∷ xs) ys (inl e) = inl (inl e)
In-cases r (x ∷ xs) ys (inr h) = elim (In-cases r xs ys h) [ inl f ↦ inl (inr f) | inr f ↦ inr f ]

from_middle : (p q r : Pair) (d : Decided p.1 q.0) → In r (with_middle p q d) → (p.1 ≡ q.0) ×
    (◌≡◌ {A = Pair} (p.0, q.1) r)
unfolding with_middle
from_middle p q r (inl e) h = elim h [ inl f ↦ (e, f) | inr g ↦ absurd g ]
from_middle p q r (inr n) h = absurd h

from_each : (p r : Pair) (qs : List Pair) → In r (with_each p qs) → (r.0 ≡ p.0) × In {X = Pair} (p.1, r.1) qs
unfolding with_each
from_each p r [] h = absurd h
from_each p r (q ∷ qs) h = elim (In-cases r (with_middle p q (decide p.1 q.0)) (with_each p qs) h) [
  | inl g ↦
      let m = from_middle p q r (decide p.1 q.0) g in (
        sym (ap (λ (v : Pair). v.0) m.1),
        inl (ap (λ (t : Kind). let v : Pair = (t, q.1) in v) (sym m.0)
            ∙ ap (λ (t : Kind). let v : Pair = (p.1, t) in v) (ap (λ (v : Pair). v.1) m.1)),
      )
  | inr g ↦ (let m = from_each p r qs g in (m.0, inr m.1))
]

from_composed : (ps qs : List Pair) (r : Pair) → In r (composed ps qs) → Meets ps qs r
unfolding composed
from_composed [] qs r h = absurd h
from_composed (p ∷ ps) qs r h = elim (In-cases r (with_each p qs) (composed ps qs) h) [
  | inl g ↦
      let m = from_each p r qs g in
      (p.1, inl (ap (λ (t : Kind). let v : Pair = (t, p.1) in v) (sym m.0)), m.1)
  | inr g ↦ (let m = from_composed ps qs r g in (m.0, inr m.1, m.2))
]

-- both ways round, since parameters exchange the sides
abbrev both : List Pair → List Pair → List Pair
both ps qs = composed ps qs ++ composed qs ps

params_composed : (ps qs : List Pair) (xs ys zs : List Kind) → ParamsIn ps xs ys → ParamsIn qs ys zs →
    ParamsIn (both ps qs) xs zs
params_composed ps qs [] [] [] h g = tt
params_composed ps qs [] [] (z ∷ zs) h g = absurd g
params_composed ps qs [] (y ∷ ys) zs h g = absurd h
params_composed ps qs (x ∷ xs) [] zs h g = absurd h
params_composed ps qs (x ∷ xs) (y ∷ ys) [] h g = absurd g
params_composed ps qs (x ∷ xs) (y ∷ ys) (z ∷ zs) h g = (
  In-right {X = Pair} (z, x) (composed ps qs) (composed qs ps) (In-composed z y x qs ps g.0 h.0),
  params_composed ps qs xs ys zs h.1 g.1,
)

params_more : (ps qs : List Pair) (xs ys : List Kind) → ((p : Pair) → In p ps → In p qs) → ParamsIn ps xs ys →
    ParamsIn qs xs ys
params_more ps qs [] [] f h = tt
params_more ps qs [] (y ∷ ys) f h = absurd h
params_more ps qs (x ∷ xs) [] f h = absurd h
params_more ps qs (x ∷ xs) (y ∷ ys) f h = (f (y, x) h.0, params_more ps qs xs ys f h.1)

swapped : (ps qs : List Pair) (p : Pair) → In p (both qs ps) → In p (both ps qs)
swapped ps qs p h =
    elim (In-cases p (composed qs ps) (composed ps qs) h)
    [ inl f ↦ In-right p (composed ps qs) (composed qs ps) f | inr f ↦ In-left p (composed ps qs) (composed qs ps) f ]

module _ (image : Image) where
  -- a pair that goes over a middle one is closed
  closed_over : (ps qs : List Pair) → ((p : Pair) → In p ps → IsClosed image ps p) →
      ((p : Pair) → In p qs → IsClosed image qs p) → (a b c : Kind) → In {X = Pair} (a, b) ps →
      In {X = Pair} (b, c) qs →
      IsClosed image (both ps qs) (a, c)
  closed_over ps qs hp hq a b c i j = elim (hp (a, b) i) [
    | inl e ↦ elim (hq (b, c) j) [
      | inl f ↦ inl (e.0 ∙ f.0, e.1)
      | inr f ↦ absurd (e.1 (subst IsObject (sym e.0) f.0))
    ]
    | inr e ↦ elim (hq (b, c) j) [
      | inl f ↦ absurd (f.1 e.1)
      | inr f ↦ inr (e.0, f.1, λ m g h. over m g (methods image b m) refl (methods image a m) refl (f.2 m g h) (e.2 m))
    ]
  ]
    where
      over : (m : ℕ) (g : MethodType) (o : Option MethodType) → methods image b m ≡ o → (q : Option MethodType) →
          methods image a m ≡ q → HasCover qs o g →
          ((h : MethodType) → methods image b m ≡ Some h → HasCover ps (methods image a m) h) →
          HasCover (both ps qs) (methods image a m) g
      over m g None e q f c d = absurd c
      over m g (Some h) e None f c d = absurd (subst (λ (o : Option MethodType). HasCover ps o h) f (d h e))
      over m g (Some h) e (Some k) f c d =
          let r : Covers ps k h = subst (λ (o : Option MethodType). HasCover ps o h) f (d h e) in
          subst (λ (o : Option MethodType). HasCover (both ps qs) o g) (sym f)
          (let v : Covers (both ps qs) k g = record {
            params = params_composed ps qs k.params h.params g.params r.params c.params;
            effect = λ a i. c.effect a (r.effect a i);
            result = In-left {X = Pair} (k.result, g.result) (composed ps qs) (composed qs ps)
                (In-composed k.result h.result g.result ps qs r.result c.result);
          } in v)

  cover_more : (ps qs : List Pair) (o : Option MethodType) (g : MethodType) → ((p : Pair) → In p ps → In p qs) →
      HasCover ps o g → HasCover qs o g
  cover_more ps qs None g f h = absurd h
  cover_more ps qs (Some k) g f h =
      record {
        params = params_more ps qs k.params g.params f h.params;
        effect = h.effect;
        result =
            f (k.result, g.result) h.result;
      }

  closed_more : (ps qs : List Pair) (p : Pair) → ((p : Pair) → In p ps → In p qs) → IsClosed image ps p →
      IsClosed image qs p
  closed_more ps qs p f (inl e) = inl e
  closed_more ps qs p f (inr e) = inr (e.0, e.1, λ m g h. cover_more ps qs (methods image p.0 m) g f (e.2 m g h))

  sub_trans : (a b c : Kind) → IsSubtype image a b → IsSubtype image b c → IsSubtype image a c
  sub_trans a b c s t = record {
    pairs = both s.pairs t.pairs;
    first = In-left {X = Pair} (a, c) (composed s.pairs t.pairs) (composed t.pairs s.pairs)
        (In-composed a b c s.pairs t.pairs s.first t.first);
    closed = λ p i. elim (In-cases p (composed s.pairs t.pairs) (composed t.pairs s.pairs) i) [
      | inl f ↦ (let m = from_composed s.pairs t.pairs p f in
          closed_over s.pairs t.pairs s.closed t.closed p.0 m.0 p.1 m.1 m.2)
      | inr f ↦ (let m = from_composed t.pairs s.pairs p f in
          closed_more (both t.pairs s.pairs) (both s.pairs t.pairs) p (swapped s.pairs t.pairs)
          (closed_over t.pairs s.pairs t.closed s.closed p.0 m.0 p.1 m.1 m.2))
    ];
  }

  pub fits_trans : (i j k : Kind) → Fits image i j → Fits image j k → Fits image i k
  fits_trans i j k (inl e) f = subst (λ i. Fits image i k) (sym e) f
  fits_trans i j k (inr s) (inl e) = inr (subst (λ k. IsSubtype image i k) e s)
  fits_trans i j k (inr s) (inr t) = inr (sub_trans i j k s t)
