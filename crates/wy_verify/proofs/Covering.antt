-- Covers of the methods of a type, as they are found one after another.
use Rattle.std.proofs.Common.{◌≡◌, ℕ, zero, suc, Bool, true, false, List, [], ◌∷◌, ◌++◌, length, take, inl, inr, refl, sym, ap, ◌∙◌, subst, Option, Some, None, append_assoc, append-nil, arith}
use Rattle.std.specs.Prelude.{slice_get, IsTrue}
use Rattle.wy_text.specs.Members.{In, Within}
use Rattle.wy_text.proofs.Lists.{In-left, In-right, In-cases}
use Rattle.wy_verified.specs.Images.{Image}
use Rattle.wy_verified.specs.declared.known.Kind.{Kind}
use Rattle.wy_verified.specs.Kinds.{Pair, MethodType, methods, ParamsIn, Covers, HasCover, IsClosed, IsObject}
use Rattle.wy_verified.proofs.Lists.{some_same, none_some}
use Rattle.wy_verify.specs.Closing.{IsAdded, IsClosed', IsOpen, IsClosing, exchanged, rests_on, IsGrown, CoversAt, IsCovered, IsUncovered, IsCovering}
use Rattle.wy_verify.proofs.Standing.{cover_more}

------------------------------------------------------------
-- Pairs that are added

pub grown_none : (ps : List Pair) → IsGrown ps ps []
grown_none ps = record { more = []; grown = sym (append-nil ps); there = λ q i. absurd i; only = λ q i. i }

pub grown_more : (old ps new : List Pair) (asked : List Pair) (p : Pair) → IsGrown old ps asked → IsAdded ps p new → IsGrown old new (asked ++ p ∷ [])
grown_more old ps new asked p g (inl h) = record {
  more = g.more;
  grown = h.1 ∙ g.grown;
  there = λ q i. elim (In-cases {X = Pair} q asked (p ∷ []) i) [
    | inl j ↦ subst (λ (l : List Pair). In q l) (sym h.1) (g.there q j)
    | inr j ↦ elim j [ inl e ↦ subst (λ (l : List Pair). In q l) (sym h.1) (subst (λ (x : Pair). In x ps) e h.0) | inr n ↦ absurd n ]
  ];
  only = λ q i. In-left {X = Pair} q asked (p ∷ []) (g.only q i);
}
grown_more old ps new asked p g (inr e) = record {
  more = g.more ++ p ∷ [];
  grown = e ∙ ap (λ (l : List Pair). l ++ p ∷ []) g.grown ∙ append_assoc old g.more (p ∷ []);
  there = λ q i. subst (λ (l : List Pair). In q l) (sym e) (elim (In-cases {X = Pair} q asked (p ∷ []) i) [
    | inl j ↦ In-left {X = Pair} q ps (p ∷ []) (g.there q j)
    | inr j ↦ In-right {X = Pair} q ps (p ∷ []) j
  ]);
  only = λ q i. elim (In-cases {X = Pair} q g.more (p ∷ []) i) [
    | inl j ↦ In-left {X = Pair} q asked (p ∷ []) (g.only q j)
    | inr j ↦ In-right {X = Pair} q asked (p ∷ []) j
  ];
}

-- the same, where the sides are those of a pair
pub added_at : (old ps new asked : List Pair) (l a r b : Kind) → l ≡ a → r ≡ b → IsGrown old ps asked → IsAdded ps (l, r) new → IsGrown old new (asked ++ (a, b) ∷ [])
added_at old ps new asked l a r b e f g h =
    let P : Kind → Type 0 = λ k. IsGrown old new (asked ++ (k, r) ∷ []) in
    let Q : Kind → Type 0 = λ k. IsGrown old new (asked ++ (a, k) ∷ []) in
    subst Q f (subst P e (grown_more old ps new asked (l, r) g h))

pub take_read : {X : Type 0} (xs : List X) (k : ℕ) (x : X) → slice_get xs k ≡ Some x → take (suc k) xs ≡ take k xs ++ x ∷ []
take_read [] k x e = cc
take_read (y ∷ xs) zero x e = ap (λ v. v ∷ []) (some_same e)
take_read (y ∷ xs) (suc k) x e = ap (λ l. y ∷ l) (take_read xs k x e)

pub take_past : {X : Type 0} (xs : List X) (k : ℕ) → slice_get xs k ≡ None → take k xs ≡ xs
take_past [] zero e = refl
take_past [] (suc k) e = refl
take_past (y ∷ xs) zero e = cc
take_past (y ∷ xs) (suc k) e = ap (λ l. y ∷ l) (take_past xs k e)

-- the pair of the parameters of a number
pub exchanged_at : (xs bs : List Kind) (k : ℕ) (a b : Kind) → slice_get xs k ≡ Some a → slice_get bs k ≡ Some b → slice_get (exchanged xs bs) k ≡ Some (b, a)
exchanged_at [] bs k a b e f = cc
exchanged_at (x ∷ xs) [] k a b e f = cc
exchanged_at (x ∷ xs) (y ∷ bs) zero a b e f = ap (λ (v : Kind). let p : Option Pair = Some (v, x) in p) (some_same f) ∙ ap (λ (v : Kind). let p : Option Pair = Some (b, v) in p) (some_same e)
exchanged_at (x ∷ xs) (y ∷ bs) (suc k) a b e f = exchanged_at xs bs k a b e f

pub exchanged_whole : (xs bs : List Kind) → take (length xs) (exchanged xs bs) ≡ exchanged xs bs
exchanged_whole [] bs = refl
exchanged_whole (a ∷ xs) [] = refl
exchanged_whole (a ∷ xs) (b ∷ bs) = ap (λ (l : List Pair). let p : Pair = (b, a) in p ∷ l) (exchanged_whole xs bs)

------------------------------------------------------------
-- A cover rests on its pairs

params_in : (ps : List Pair) (xs bs : List Kind) → length xs ≡ length bs → ((q : Pair) → In q (exchanged xs bs) → In q ps) → ParamsIn ps xs bs
params_in ps [] [] e h = tt
params_in ps [] (b ∷ bs) e h = cc
params_in ps (a ∷ xs) [] e h = cc
params_in ps (a ∷ xs) (b ∷ bs) e h = (h (b, a) (inl refl), params_in ps xs bs (omega (arith, e)) (λ q i. h q (inr i)))

in_params : (ps : List Pair) (xs bs : List Kind) → ParamsIn ps xs bs → (q : Pair) → In q (exchanged xs bs) → In q ps
in_params ps [] bs h q i = absurd i
in_params ps (a ∷ xs) [] h q i = absurd i
in_params ps (a ∷ xs) (b ∷ bs) h q (inl e) = subst (λ (x : Pair). In x ps) e h.0
in_params ps (a ∷ xs) (b ∷ bs) h q (inr i) = in_params ps xs bs h.1 q i

pub params_length : (ps : List Pair) (xs bs : List Kind) → ParamsIn ps xs bs → length xs ≡ length bs
params_length ps [] [] h = refl
params_length ps [] (b ∷ bs) h = absurd h
params_length ps (a ∷ xs) [] h = absurd h
params_length ps (a ∷ xs) (b ∷ bs) h = ap suc (params_length ps xs bs h.1)

covers_by : (ps : List Pair) (left right : MethodType) → length left.params ≡ length right.params → Within left.effect right.effect →
    ((q : Pair) → In q (rests_on left right) → In q ps) → Covers ps left right
covers_by ps left right e w h = record {
  params = params_in ps left.params right.params e (λ q i. h q (In-left {X = Pair} q (exchanged left.params right.params) ((left.result, right.result) ∷ []) i));
  effect = w;
  result = h (left.result, right.result) (In-right {X = Pair} (left.result, right.result) (exchanged left.params right.params) ((left.result, right.result) ∷ []) (inl refl));
}

rests_in : (ps : List Pair) (left right : MethodType) → Covers ps left right → (q : Pair) → In q (rests_on left right) → In q ps
rests_in ps left right c q i = elim (In-cases {X = Pair} q (exchanged left.params right.params) ((left.result, right.result) ∷ []) i) [
  | inl j ↦ in_params ps left.params right.params c.params q j
  | inr j ↦ elim j [ inl e ↦ subst (λ (x : Pair). In x ps) e c.result | inr n ↦ absurd n ]
]

module _ (image : Image) (left right : Kind) where
  cover_of : (ps : List Pair) (m : ℕ) (a b : MethodType) → methods image left m ≡ Some a → methods image right m ≡ Some b → CoversAt image ps left right m → Covers ps a b
  cover_of ps m a b e f c = subst (λ (o : Option MethodType). HasCover ps o b) e (c b f)

  no_cover : (ps : List Pair) (m : ℕ) (b : MethodType) → methods image left m ≡ None → methods image right m ≡ Some b → CoversAt image ps left right m → ⊥
  no_cover ps m b e f c = subst (λ (o : Option MethodType). HasCover ps o b) e (c b f)

  -- the right type has no method of this number
  pub covering_none : (m : ℕ) (ps : List Pair) → methods image right m ≡ None → IsCovered image left right (m ∷ []) ps ps
  covering_none m ps n = record {
    more = [];
    grown = sym (append-nil ps);
    covered = λ k i. elim i [
      | inl e ↦ subst (λ (x : ℕ). CoversAt image ps left right x) e (λ g f. absurd (none_some (sym n ∙ f)))
      | inr h ↦ absurd h
    ];
    parts = λ q i. absurd i;
  }

  -- the left type has none
  pub covering_missing : (m : ℕ) (b : MethodType) (ps : List Pair) → methods image left m ≡ None → methods image right m ≡ Some b → IsUncovered image left right ps ps
  covering_missing m b ps e f = record { more = []; grown = sym (append-nil ps); never = λ qs c. no_cover qs m b e f (c m) }

  -- the numbers of parameters differ
  pub covering_count : (m : ℕ) (a b : MethodType) (ps : List Pair) → methods image left m ≡ Some a → methods image right m ≡ Some b →
      (length a.params ≡ length b.params → ⊥) → IsUncovered image left right ps ps
  covering_count m a b ps e f ne = record {
    more = [];
    grown = sym (append-nil ps);
    never = λ qs c. ne (params_length qs a.params b.params (cover_of qs m a b e f (c m)).params);
  }

  -- the effect is not within the other
  pub covering_effect : (m : ℕ) (a b : MethodType) (ps : List Pair) → methods image left m ≡ Some a → methods image right m ≡ Some b →
      (Within a.effect b.effect → ⊥) → IsUncovered image left right ps ps
  covering_effect m a b ps e f ne = record { more = []; grown = sym (append-nil ps); never = λ qs c. ne (cover_of qs m a b e f (c m)).effect }

  -- the cover rests on what was added
  pub covering_added : (m : ℕ) (a b : MethodType) (ps new : List Pair) → methods image left m ≡ Some a → methods image right m ≡ Some b →
      length a.params ≡ length b.params → Within a.effect b.effect → IsGrown ps new (rests_on a b) → IsCovered image left right (m ∷ []) ps new
  covering_added m a b ps new e f len w g = record {
    more = g.more;
    grown = g.grown;
    covered = λ k i. elim i [
      | inl s ↦ subst (λ (x : ℕ). CoversAt image new left right x) s (
          λ h there.
          let same : b ≡ h = some_same (sym f ∙ there) in
          subst (λ (x : MethodType). HasCover new (methods image left m) x) same (
          subst (λ (o : Option MethodType). HasCover new o b) (sym e) (covers_by new a b len w g.there)))
      | inr h ↦ absurd h
    ];
    parts = λ q i qs c. rests_in qs a b (cover_of qs m a b e f (c m)) q (g.only q i);
  }

  -- no number yet
  pub covered_none : (ps : List Pair) → IsCovered image left right [] ps ps
  covered_none ps = record { more = []; grown = sym (append-nil ps); covered = λ m i. absurd i; parts = λ q i. absurd i }

  -- .. one more
  pub covered_more : (ms : List ℕ) (m : ℕ) (old ps new : List Pair) → IsCovered image left right ms old ps → IsCovered image left right (m ∷ []) ps new →
      IsCovered image left right (ms ++ m ∷ []) old new
  covered_more ms m old ps new a b = record {
    more = a.more ++ b.more;
    grown = b.grown ∙ ap (λ (l : List Pair). l ++ b.more) a.grown ∙ append_assoc old a.more b.more;
    covered = λ k i. elim (In-cases k ms (m ∷ []) i) [
      | inl j ↦ (λ g f. subst (λ (l : List Pair). HasCover l (methods image left k) g) (sym b.grown) (cover_more ps b.more (methods image left k) g (a.covered k j g f)))
      | inr j ↦ b.covered k j
    ];
    parts = λ q i qs c. elim (In-cases {X = Pair} q a.more b.more i) [
      | inl j ↦ a.parts q j qs c
      | inr j ↦ b.parts q j qs c
    ];
  }

  -- .. and one that has none
  pub uncovered_more : (ms : List ℕ) (old ps new : List Pair) → IsCovered image left right ms old ps → IsUncovered image left right ps new → IsUncovered image left right old new
  uncovered_more ms old ps new a b = record {
    more = a.more ++ b.more;
    grown = b.grown ∙ ap (λ (l : List Pair). l ++ b.more) a.grown ∙ append_assoc old a.more b.more;
    never = b.never;
  }

  ------------------------------------------------------------
  -- The pair is closed, or open

  covers_closed : (ps : List Pair) → IsObject left → IsClosed image ps (left, right) → (m : ℕ) → CoversAt image ps left right m
  covers_closed ps o (inl h) m = absurd (h.1 o)
  covers_closed ps o (inr h) m = h.2 m

  pub closes : (ms : List ℕ) (at : ℕ) (old new : List Pair) → slice_get old at ≡ Some (left, right) → IsObject left → IsObject right →
      ((m : ℕ) (g : MethodType) → methods image right m ≡ Some g → In m ms) → IsCovered image left right ms old new → IsClosed' image old at new
  closes ms at old new here ol or whole c = record {
    more = c.more;
    grown = c.grown;
    closed = λ p e. (
        let same : (left, right) ≡ p = some_same (sym here ∙ e) in
        subst (λ (x : Pair). IsClosed image new x) same (inr (ol, or, λ m g f. c.covered m (whole m g f) g f)));
    parts = λ p q e i ps closed. (
        let same : p ≡ (left, right) = some_same (sym e ∙ here) in
        c.parts q i ps (covers_closed ps ol (subst (λ (x : Pair). IsClosed image ps x) same closed)));
  }

  pub opens : (at : ℕ) (old new : List Pair) → slice_get old at ≡ Some (left, right) → IsObject left → IsUncovered image left right old new → IsOpen image old at new
  opens at old new here ol c = record {
    more = c.more;
    grown = c.grown;
    never = λ p e ps closed. (
        let same : p ≡ (left, right) = some_same (sym e ∙ here) in
        c.never ps (covers_closed ps ol (subst (λ (x : Pair). IsClosed image ps x) same closed)));
  }

  pub closing : (ms : List ℕ) (at : ℕ) (old new : List Pair) (b : Bool) → slice_get old at ≡ Some (left, right) → IsObject left → IsObject right →
      ((m : ℕ) (g : MethodType) → methods image right m ≡ Some g → In m ms) → IsCovering image left right ms old new b → IsClosing image old at new b
  closing ms at old new true here ol or whole c = closes ms at old new here ol or whole c
  closing ms at old new false here ol or whole c = opens at old new here ol c

  -- one of them is no type of objects
  pub closing_base : (at : ℕ) (old : List Pair) (b : Bool) → slice_get old at ≡ Some (left, right) → (IsObject left → IsObject right → ⊥) →
      (IsTrue b → left ≡ right) → (left ≡ right → IsTrue b) → IsClosing image old at old b
  closing_base at old true here ne is back = record {
    more = [];
    grown = sym (append-nil old);
    closed = λ p e. (
        let same : (left, right) ≡ p = some_same (sym here ∙ e) in
        let l : left ≡ right = is refl in
        subst (λ (x : Pair). IsClosed image old x) same (inl (l, λ o. ne o (subst IsObject l o))));
    parts = λ p q e i. absurd i;
  }
  closing_base at old false here ne is back = record {
    more = [];
    grown = sym (append-nil old);
    never = λ p e ps closed. (
        let same : p ≡ (left, right) = some_same (sym e ∙ here) in
        elim (subst (λ (x : Pair). IsClosed image ps x) same closed) [
          | inl h ↦ (let f = back h.0 in cc)
          | inr h ↦ ne h.0 h.1
        ]);
  }
