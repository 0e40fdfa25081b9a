-- The types of `val`s that are found one after the other are settled: each has the type that is written for it over all of them.
use Rattle.std.proofs.Common.{◌≡◌, ℕ, zero, suc, List, [], ◌∷◌, ◌++◌, map, inl, inr, refl, sym, ◌∙◌, ap, subst, Option, Some, None, ◌⊎◌, Bool as Truth}
use Rattle.std.specs.Prelude.{slice_get}
use Rattle.wy_text.specs.Members.{In, Apart}
use Rattle.wy_text.proofs.Lists.{In-left, In-right, In-cases}
use Rattle.wy_types.specs.declared.types.TypeRef.{TypeRef}
use Rattle.wy_types.specs.declared.types.TypeRef.TheVariants.{Unit as Nothing}
use Rattle.wy_types.specs.declared.code.Variable.{Variable}
use Rattle.wy_types.specs.declared.code.Variable.TheVariants.{Parameter, Local}
use Rattle.wy_types.specs.declared.code.Binding.TheVariants as to
use Rattle.wy_types.specs.Code.{Expr, Number, Quoted, Truth as TruthOf, Nothing as NothingOf, This, Name, Unary, Binary, TextCall, Call, New, Ascribe, Assign, Value, Plain, If, Values, none, more, Block, Last, Then, Val}
use Rattle.wy_types.specs.Program.{Program, Scope}
use Rattle.wy_types.specs.Core.{ExprFits, ValueFits, ValuesFit, BlockFits}
use Rattle.wy_types.specs.Vals.{expr_vals, value_vals, values_vals, block_vals}
use Rattle.wy_rules.specs.Readings.{Reading}
use Rattle.wy_types.specs.Signature.{find_method}
use Rattle.wy_rules.specs.Operators.{text_rows}
use Rattle.wy_rules.specs.Typing.{field_types, var_field}
use Rattle.wy_rules.specs.EachVal.{EachInExpr, EachInValue, EachInValues, EachInBlock}
use Rattle.wy_rules.specs.Canonical.{Typed, found_type, method_params, field_type, first_row, canonical_expr, canonical_value, canonical_values, canonical_block, val_type, with_local, IsSettled, settle_expr, settle_value, settle_values, settle_block}

Apart-left : {X : Type 0} (xs ys : List X) → Apart (xs ++ ys) → Apart xs
Apart-left [] ys a = tt
Apart-left (x ∷ xs) ys a = (λ i. a.0 (In-left x xs ys i), Apart-left xs ys a.1)

Apart-right : {X : Type 0} (xs ys : List X) → Apart (xs ++ ys) → Apart ys
Apart-right [] ys a = a
Apart-right (x ∷ xs) ys a = Apart-right xs ys a.1

Apart-across : {X : Type 0} (x : X) (xs ys : List X) → Apart (xs ++ ys) → In x xs → In x ys → ⊥
Apart-across x [] ys a i j = i
Apart-across {X} x (y ∷ xs) ys a i j =
    elim i [
      | inl e ↦ a.0 (In-right y xs ys (subst (λ (v : X). In v ys) (sym e) j))
      | inr h ↦ Apart-across x xs ys a.1 h j
    ]

-- a number moved behind others
Apart-move : (n : ℕ) (xs bs : List ℕ) → Apart (n ∷ (xs ++ bs)) → Apart (xs ++ n ∷ bs)
Apart-move n [] bs a = a
Apart-move n (x ∷ xs) bs a = (
  λ i. elim (In-cases x xs (n ∷ bs) i) [
    | inl j ↦ a.1.0 (In-left x xs bs j)
    | inr j ↦ elim j [ inl e ↦ a.0 (inl (sym e)) | inr l ↦ a.1.0 (In-right x xs bs l) ]
  ],
  Apart-move n xs bs (λ i. a.0 (inr i), a.1.1),
)

module _ (y : Reading) (same : y.Kind → y.Kind → Truth) where
  put_there : (n : ℕ) (k : y.Kind) (us : List y.Kind) → slice_get (with_local n k us) n ≡ Some k
  put_there zero k [] = refl
  put_there zero k (u ∷ us) = refl
  put_there (suc n) k [] = put_there n k []
  put_there (suc n) k (u ∷ us) = put_there n k us

  put_kept : (n : ℕ) (k : y.Kind) (us : List y.Kind) (m : ℕ) (v : y.Kind) → (m ≡ n → ⊥) → slice_get us m ≡ Some v → slice_get (with_local n k us) m ≡ Some v
  put_kept zero k [] m v d e = absurd (cc)
  put_kept (suc n) k [] m v d e = absurd (cc)
  put_kept zero k (u ∷ us) zero v d e = absurd (d refl)
  put_kept zero k (u ∷ us) (suc m) v d e = e
  put_kept (suc n) k (u ∷ us) zero v d e = e
  put_kept (suc n) k (u ∷ us) (suc m) v d e = put_kept n k us m v (λ h. d (ap (λ i. suc i) h)) e

  put_grows : (n : ℕ) (k : y.Kind) (us : List y.Kind) (m : ℕ) (v : y.Kind) → slice_get us m ≡ Some v → (u : y.Kind) × (slice_get (with_local n k us) m ≡ Some u)
  put_grows zero k [] m v e = absurd (cc)
  put_grows (suc n) k [] m v e = absurd (cc)
  put_grows zero k (u ∷ us) zero v e = (k, refl)
  put_grows zero k (u ∷ us) (suc m) v e = (v, e)
  put_grows (suc n) k (u ∷ us) zero v e = (v, e)
  put_grows (suc n) k (u ∷ us) (suc m) v e = put_grows n k us m v e

  -- from one list of types to the next, in which these `val`s have one
  pub record Step (vals : List ℕ) (us vs : List y.Kind) : Type 0 where
    pub kept : (m : ℕ) (v : y.Kind) → (In m vals → ⊥) → slice_get us m ≡ Some v → slice_get vs m ≡ Some v
    pub grows : (m : ℕ) (v : y.Kind) → slice_get us m ≡ Some v → (u : y.Kind) × (slice_get vs m ≡ Some u)
    pub there : (m : ℕ) → In m vals → (u : y.Kind) × (slice_get vs m ≡ Some u)

  -- .. nothing found, and what one part finds and then another
  pub no_step : (us : List y.Kind) → Step [] us us
  no_step us = record { kept = λ m v n e. e; grows = λ m v e. (v, e); there = λ m i. absurd i }

  pub steps : (xs ys : List ℕ) (us vs ws : List y.Kind) → Step xs us vs → Step ys vs ws → Step (xs ++ ys) us ws
  steps xs ys us vs ws a b = record {
    kept = λ m v n e. b.kept m v (λ i. n (In-right m xs ys i)) (a.kept m v (λ i. n (In-left m xs ys i)) e);
    grows = λ m v e. (let g = a.grows m v e in b.grows m g.0 g.1);
    there = λ m i. elim (In-cases m xs ys i) [
      | inl j ↦ (let g = a.there m j in b.grows m g.0 g.1)
      | inr j ↦ b.there m j
    ];
  }

  put_step : (n : ℕ) (k : y.Kind) (us : List y.Kind) → Step (n ∷ []) us (with_local n k us)
  put_step n k us = record {
    kept = λ m v d e. put_kept n k us m v (λ h. d (inl (sym h))) e;
    grows = λ m v e. put_grows n k us m v e;
    there = λ m i. elim i [
      | inl e ↦ (k, subst (λ j. slice_get (with_local n k us) j ≡ Some k) e (put_there n k us))
      | inr j ↦ absurd j
    ];
  }

  -- in another order
  reordered : (xs ys : List ℕ) (us vs : List y.Kind) → ((m : ℕ) → In m xs → In m ys) → ((m : ℕ) → In m ys → In m xs) → Step xs us vs → Step ys us vs
  reordered xs ys us vs f g a = record { kept = λ m v n e. a.kept m v (λ i. n (f m i)) e; grows = a.grows; there = λ m i. a.there m (g m i) }

  module _ (s : Scope) (owner : Option ℕ) where
    mutual
      expr_step : (x : Expr) (us : List y.Kind) → Step (expr_vals x) us (settle_expr y same s owner x us)
      expr_step (Number q n) us = no_step us
      expr_step (Quoted q bytes) us = no_step us
      expr_step (TruthOf q b) us = no_step us
      expr_step (NothingOf q) us = no_step us
      expr_step (This q) us = no_step us
      expr_step (Name q name) us = no_step us
      expr_step (Unary q op x) us = expr_step x us
      expr_step (Binary q op x v) us = let a = settle_expr y same s owner x us in steps (expr_vals x) (expr_vals v) us a (settle_expr y same s owner v a) (expr_step x us) (expr_step v a)
      expr_step (TextCall q op xs) us = values_step xs us
      expr_step (Call q x name xs) us = let a = settle_expr y same s owner x us in steps (expr_vals x) (values_vals xs) us a (settle_values y same s owner xs a) (expr_step x us) (values_step xs a)
      expr_step (New q l xs) us = values_step xs us
      expr_step (Ascribe q x t) us = value_step x us
      expr_step (Assign q name x) us = value_step x us

      value_step : (x : Value) (us : List y.Kind) → Step (value_vals x) us (settle_value y same s owner x us)
      value_step (Plain x) us = expr_step x us
      value_step (If q test first second) us =
          let a = settle_expr y same s owner test us in
          let b = settle_block y same s owner first a in
          let c = settle_block y same s owner second b in
          steps (expr_vals test) (block_vals first ++ block_vals second) us a c (expr_step test us) (steps (block_vals first) (block_vals second) a b c (block_step first a) (block_step second b))

      -- what values find
      pub values_step : (xs : Values) (us : List y.Kind) → Step (values_vals xs) us (settle_values y same s owner xs us)
      values_step none us = no_step us
      values_step (more x xs) us = let a = settle_value y same s owner x us in steps (value_vals x) (values_vals xs) us a (settle_values y same s owner xs a) (value_step x us) (values_step xs a)

      -- .. and a block
      pub block_step : (b : Block) (us : List y.Kind) → Step (block_vals b) us (settle_block y same s owner b us)
      block_step (Last x) us = value_step x us
      block_step (Then x b) us = let a = settle_value y same s owner x us in steps (value_vals x) (block_vals b) us a (settle_block y same s owner b a) (value_step x us) (block_step b a)
      block_step (Val q n typ x b) us =
          let a = settle_value y same s owner x us in
          let c = with_local n (val_type y same s a owner typ x) a in
          let d = settle_block y same s owner b c in
          reordered (value_vals x ++ n ∷ block_vals b) (n ∷ (value_vals x ++ block_vals b)) us d
          (λ m i. elim (In-cases m (value_vals x) (n ∷ block_vals b) i) [
            | inl j ↦ inr (In-left m (value_vals x) (block_vals b) j)
            | inr j ↦ elim j [ inl e ↦ inl e | inr l ↦ inr (In-right m (value_vals x) (block_vals b) l) ]
          ])
          (λ m i. elim i [
            | inl e ↦ In-right m (value_vals x) (n ∷ block_vals b) (inl e)
            | inr j ↦ elim (In-cases m (value_vals x) (block_vals b) j) [
              | inl l ↦ In-left m (value_vals x) (n ∷ block_vals b) l
              | inr l ↦ In-right m (value_vals x) (n ∷ block_vals b) (inr l)
            ]
          ])
          (steps (value_vals x) (n ∷ block_vals b) us a d (value_step x us) (steps (n ∷ []) (block_vals b) a c d (put_step n (val_type y same s a owner typ x) a) (block_step b c)))

    ------------------------------------------------------------
    -- What is written depends on the types of the `val`s that are seen and of those inside

    module _ (p : Program) (us vs : List y.Kind) where
      abbrev Agree : ℕ → Type 0
      Agree n = (v : y.Kind) × (slice_get us n ≡ Some v) × (slice_get vs n ≡ Some v)

      abbrev AgreeOn : List Variable → List ℕ → Type 0
      AgreeOn seen vals = ((n : ℕ) → In (Local n) seen → Agree n) × ((n : ℕ) → In n vals → Agree n)

      first_part : (seen : List Variable) (xs ys : List ℕ) → AgreeOn seen (xs ++ ys) → AgreeOn seen xs
      first_part seen xs ys h = (h.0, λ n i. h.1 n (In-left n xs ys i))

      other_part : (seen : List Variable) (xs ys : List ℕ) → AgreeOn seen (xs ++ ys) → AgreeOn seen ys
      other_part seen xs ys h = (h.0, λ n i. h.1 n (In-right n xs ys i))

      same_local : (n m : ℕ) → Local n ≡ Local m → n ≡ m
      same_local n m e = cc

      one_more_seen : (n m : ℕ) (seen : List Variable) → Agree n → ((l : ℕ) → In (Local l) seen → Agree l) → In (Local m) (Local n ∷ seen) → Agree m
      one_more_seen n m seen a h (inl e) = subst Agree (same_local n m e) a
      one_more_seen n m seen a h (inr i) = h m i

      mutual
        same_typed : (x : Expr) (seen : List Variable) → ExprFits p s owner seen x → AgreeOn seen (expr_vals x) → canonical_expr y same s us owner x ≡ canonical_expr y same s vs owner x
        same_typed (Number q n) seen fit h = refl
        same_typed (Quoted q bytes) seen fit h = refl
        same_typed (TruthOf q b) seen fit h = refl
        same_typed (NothingOf q) seen fit h = refl
        same_typed (This q) seen fit h = refl
        same_typed (Name q (to.Variable (Local n))) seen fit h = (let a = h.0 n fit in let e : slice_get us n ≡ slice_get vs n = a.1 ∙ sym a.2 in cc)
        same_typed (Name q (to.Variable (Parameter k i))) seen fit h = refl
        same_typed (Name q (to.Field i)) seen fit h = refl
        same_typed (Name q (to.Own k)) seen fit h = refl
        same_typed (Unary q op x) seen fit h = (let e = same_typed x seen fit h in cc)
        same_typed (Binary q op x v) seen fit h =
            let e = same_typed x seen fit.0 (first_part seen (expr_vals x) (expr_vals v) h) in
            let f = same_typed v seen fit.1 (other_part seen (expr_vals x) (expr_vals v) h) in
            cc
        same_typed (TextCall q op xs) seen fit h = (let e = same_values xs seen fit.1 h (map y.read (first_row (text_rows op)).operands) in cc)
        same_typed (Call q x name xs) seen fit h =
            let e = same_typed x seen fit.0 (first_part seen (expr_vals x) (values_vals xs) h) in
            let f = same_values xs seen fit.1 (other_part seen (expr_vals x) (values_vals xs) h) (method_params y (find_method name (y.methods (canonical_expr y same s vs owner x).typ))) in
            cc
        same_typed (New q l xs) seen fit h = (let e = same_values xs seen fit.4 h (map y.read (field_types s l)) in cc)
        same_typed (Ascribe q x t) seen fit h = (let e = same_value x seen fit.0 h (y.read t) in cc)
        same_typed (Assign q name x) seen fit h = (let e = same_value x seen fit.1 h (field_type y (var_field s owner name)) in cc)

        same_value : (x : Value) (seen : List Variable) → ValueFits p s owner seen x → AgreeOn seen (value_vals x) → (t : y.Kind) → canonical_value y same s us owner x t ≡ canonical_value y same s vs owner x t
        same_value (Plain x) seen fit h t = same_typed x seen fit h
        same_value (If q test first second) seen fit h t =
            let r = other_part seen (expr_vals test) (block_vals first ++ block_vals second) h in
            let e = same_typed test seen fit.0 (first_part seen (expr_vals test) (block_vals first ++ block_vals second) h) in
            let f = same_block first seen fit.1 (first_part seen (block_vals first) (block_vals second) r) t in
            let g = same_block second seen fit.2 (other_part seen (block_vals first) (block_vals second) r) t in
            cc

        same_values : (xs : Values) (seen : List Variable) → ValuesFit p s owner seen xs → AgreeOn seen (values_vals xs) → (ts : List y.Kind) → canonical_values y same s us owner xs ts ≡ canonical_values y same s vs owner xs ts
        same_values none seen fit h ts = refl
        same_values (more x xs) seen fit h [] = refl
        same_values (more x xs) seen fit h (t ∷ ts) =
            let e = same_value x seen fit.0 (first_part seen (value_vals x) (values_vals xs) h) t in
            let f = same_values xs seen fit.1 (other_part seen (value_vals x) (values_vals xs) h) ts in
            cc

        same_block : (b : Block) (seen : List Variable) → BlockFits p s owner seen b → AgreeOn seen (block_vals b) → (t : y.Kind) → canonical_block y same s us owner b t ≡ canonical_block y same s vs owner b t
        same_block (Last x) seen fit h t = (let e = same_value x seen fit h t in cc)
        same_block (Then x rest) seen fit h t =
            let e = same_value x seen fit.0 (first_part seen (value_vals x) (block_vals rest) h) (y.read Nothing) in
            let f = same_block rest seen fit.1 (other_part seen (value_vals x) (block_vals rest) h) t in
            cc
        same_block (Val q n typ x rest) seen fit h t =
            let a = h.1 n (inl refl) in
            let i : slice_get us n ≡ slice_get vs n = a.1 ∙ sym a.2 in
            let k : AgreeOn seen (value_vals x ++ block_vals rest) = (h.0, λ m j. h.1 m (inr j)) in
            let e = same_value x seen fit.1 (first_part seen (value_vals x) (block_vals rest) k) (found_type y (slice_get vs n)) in
            let f = same_block rest (Local n ∷ seen) fit.2 (λ m j. one_more_seen n m seen a h.0 j, λ m j. h.1 m (inr (In-right m (value_vals x) (block_vals rest) j))) t in
            cc

      same_val_kind : (typ : Option TypeRef) (x : Value) (seen : List Variable) → ValueFits p s owner seen x → AgreeOn seen (value_vals x) → val_type y same s us owner typ x ≡ val_type y same s vs owner typ x
      same_val_kind None (Plain x) seen fit h = ap (λ (m : Typed y.Kind). m.typ) (same_typed x seen fit h)
      same_val_kind None (If q test first second) seen fit h = refl
      same_val_kind (Some t) x seen fit h = refl

    ------------------------------------------------------------
    -- Each `val` has settled

    module _ (p : Program) (final : List y.Kind) where
      -- what is done has types, what comes differs from it, and what it comes to is kept
      pub record Ahead (Done : ℕ → Type 0) (us ws : List y.Kind) (seen : List Variable) (vals : List ℕ) : Type 0 where
        pub seen_done : (m : ℕ) → In (Local m) seen → Done m
        pub there : (m : ℕ) → Done m → (v : y.Kind) × (slice_get us m ≡ Some v)
        pub apart : Apart vals
        pub fresh : (m : ℕ) → Done m → In m vals → ⊥
        pub keeps : (m : ℕ) (v : y.Kind) → Done m ⊎ In m vals → slice_get ws m ≡ Some v → slice_get final m ≡ Some v

      -- of two parts the first, and the other after it
      pub ahead_first : (Done : ℕ → Type 0) (us vs ws : List y.Kind) (seen : List Variable) (xs ys : List ℕ) → Step ys vs ws → Ahead Done us ws seen (xs ++ ys) → Ahead Done us vs seen xs
      ahead_first Done us vs ws seen xs ys b h = record {
        seen_done = h.seen_done;
        there = h.there;
        apart = Apart-left xs ys h.apart;
        fresh = λ m d i. h.fresh m d (In-left m xs ys i);
        keeps = λ m v o e. elim o [
          | inl d ↦ h.keeps m v (inl d) (b.kept m v (λ j. h.fresh m d (In-right m xs ys j)) e)
          | inr i ↦ h.keeps m v (inr (In-left m xs ys i)) (b.kept m v (λ j. Apart-across m xs ys h.apart i j) e)
        ];
      }

      pub ahead_other : (Done : ℕ → Type 0) (us vs ws : List y.Kind) (seen : List Variable) (xs ys : List ℕ) → Step xs us vs → Ahead Done us ws seen (xs ++ ys) → Ahead (λ m. Done m ⊎ In m xs) vs ws seen ys
      ahead_other Done us vs ws seen xs ys a h = record {
        seen_done = λ m i. inl (h.seen_done m i);
        there = λ m o. elim o [ inl d ↦ (let v = h.there m d in a.grows m v.0 v.1) | inr i ↦ a.there m i ];
        apart = Apart-right xs ys h.apart;
        fresh = λ m o j. elim o [ inl d ↦ h.fresh m d (In-right m xs ys j) | inr i ↦ Apart-across m xs ys h.apart i j ];
        keeps = λ m v o e. elim o [
          | inl c ↦ elim c [ inl d ↦ h.keeps m v (inl d) e | inr i ↦ h.keeps m v (inr (In-left m xs ys i)) e ]
          | inr j ↦ h.keeps m v (inr (In-right m xs ys j)) e
        ];
      }

      agree_ahead : (Done : ℕ → Type 0) (us vs : List y.Kind) (seen : List Variable) (xs : List ℕ) → Step xs us vs → Ahead Done us vs seen xs → AgreeOn p vs final seen xs
      agree_ahead Done us vs seen xs a h = (
        λ m i. (let d = h.seen_done m i in let v = h.there m d in let u = a.grows m v.0 v.1 in (u.0, u.1, h.keeps m u.0 (inl d) u.1)),
        λ m i. (let u = a.there m i in (u.0, u.1, h.keeps m u.0 (inr i) u.1)),
      )

      to_front : (n : ℕ) (xs bs : List ℕ) (m : ℕ) → In m (xs ++ n ∷ bs) → In m (n ∷ (xs ++ bs))
      to_front n xs bs m i = elim (In-cases m xs (n ∷ bs) i) [
        | inl j ↦ inr (In-left m xs bs j)
        | inr j ↦ elim j [ inl e ↦ inl e | inr l ↦ inr (In-right m xs bs l) ]
      ]

      same_number : (n m : ℕ) → Local n ≡ Local m → n ≡ m
      same_number n m e = cc

      one_more : (Done : ℕ → Type 0) (n : ℕ) (us ws : List y.Kind) (seen : List Variable) (vals : List ℕ) → Ahead (λ m. Done m ⊎ In m (n ∷ [])) us ws seen vals → Ahead (λ m. Done m ⊎ In m (n ∷ [])) us ws (Local n ∷ seen) vals
      one_more Done n us ws seen vals h = record {
        seen_done = λ m i. elim i [ inl e ↦ inr (inl (same_number n m e)) | inr j ↦ h.seen_done m j ];
        there = h.there;
        apart = h.apart;
        fresh = h.fresh;
        keeps = h.keeps;
      }

      mutual
        expr_settled : (x : Expr) (Done : ℕ → Type 0) (us : List y.Kind) (seen : List Variable) → ExprFits p s owner seen x → Ahead Done us (settle_expr y same s owner x us) seen (expr_vals x) → EachInExpr (IsSettled y same s final) owner x
        expr_settled (Number q n) Done us seen fit h = tt
        expr_settled (Quoted q bytes) Done us seen fit h = tt
        expr_settled (TruthOf q b) Done us seen fit h = tt
        expr_settled (NothingOf q) Done us seen fit h = tt
        expr_settled (This q) Done us seen fit h = tt
        expr_settled (Name q name) Done us seen fit h = tt
        expr_settled (Unary q op x) Done us seen fit h = expr_settled x Done us seen fit h
        expr_settled (Binary q op x v) Done us seen fit h =
            let a = settle_expr y same s owner x us in
            let b = settle_expr y same s owner v a in (
              expr_settled x Done us seen fit.0 (ahead_first Done us a b seen (expr_vals x) (expr_vals v) (expr_step v a) h),
              expr_settled v (λ m. Done m ⊎ In m (expr_vals x)) a seen fit.1 (ahead_other Done us a b seen (expr_vals x) (expr_vals v) (expr_step x us) h),
            )
        expr_settled (TextCall q op xs) Done us seen fit h = values_settled xs Done us seen fit.1 h
        expr_settled (Call q x name xs) Done us seen fit h =
            let a = settle_expr y same s owner x us in
            let b = settle_values y same s owner xs a in (
              expr_settled x Done us seen fit.0 (ahead_first Done us a b seen (expr_vals x) (values_vals xs) (values_step xs a) h),
              values_settled xs (λ m. Done m ⊎ In m (expr_vals x)) a seen fit.1 (ahead_other Done us a b seen (expr_vals x) (values_vals xs) (expr_step x us) h),
            )
        expr_settled (New q l xs) Done us seen fit h = values_settled xs Done us seen fit.4 h
        expr_settled (Ascribe q x t) Done us seen fit h = value_settled x Done us seen fit.0 h
        expr_settled (Assign q name x) Done us seen fit h = value_settled x Done us seen fit.1 h

        value_settled : (x : Value) (Done : ℕ → Type 0) (us : List y.Kind) (seen : List Variable) → ValueFits p s owner seen x → Ahead Done us (settle_value y same s owner x us) seen (value_vals x) → EachInValue (IsSettled y same s final) owner x
        value_settled (Plain x) Done us seen fit h = expr_settled x Done us seen fit h
        value_settled (If q test first second) Done us seen fit h =
            let a = settle_expr y same s owner test us in
            let b = settle_block y same s owner first a in
            let c = settle_block y same s owner second b in
            let both = block_vals first ++ block_vals second in
            let r = ahead_other Done us a c seen (expr_vals test) both (expr_step test us) h in (
              expr_settled test Done us seen fit.0 (ahead_first Done us a c seen (expr_vals test) both (steps (block_vals first) (block_vals second) a b c (block_step first a) (block_step second b)) h),
              block_settled first (λ m. Done m ⊎ In m (expr_vals test)) a seen fit.1 (ahead_first (λ m. Done m ⊎ In m (expr_vals test)) a b c seen (block_vals first) (block_vals second) (block_step second b) r),
              block_settled second (λ m. (Done m ⊎ In m (expr_vals test)) ⊎ In m (block_vals first)) b seen fit.2 (ahead_other (λ m. Done m ⊎ In m (expr_vals test)) a b c seen (block_vals first) (block_vals second) (block_step first a) r),
            )

        -- each `val` inside is settled, of values and of a block
        pub values_settled : (xs : Values) (Done : ℕ → Type 0) (us : List y.Kind) (seen : List Variable) → ValuesFit p s owner seen xs → Ahead Done us (settle_values y same s owner xs us) seen (values_vals xs) → EachInValues (IsSettled y same s final) owner xs
        values_settled none Done us seen fit h = tt
        values_settled (more x xs) Done us seen fit h =
            let a = settle_value y same s owner x us in
            let b = settle_values y same s owner xs a in (
              value_settled x Done us seen fit.0 (ahead_first Done us a b seen (value_vals x) (values_vals xs) (values_step xs a) h),
              values_settled xs (λ m. Done m ⊎ In m (value_vals x)) a seen fit.1 (ahead_other Done us a b seen (value_vals x) (values_vals xs) (value_step x us) h),
            )

        pub block_settled : (b : Block) (Done : ℕ → Type 0) (us : List y.Kind) (seen : List Variable) → BlockFits p s owner seen b → Ahead Done us (settle_block y same s owner b us) seen (block_vals b) → EachInBlock (IsSettled y same s final) owner b
        block_settled (Last x) Done us seen fit h = value_settled x Done us seen fit h
        block_settled (Then x rest) Done us seen fit h =
            let a = settle_value y same s owner x us in
            let b = settle_block y same s owner rest a in (
              value_settled x Done us seen fit.0 (ahead_first Done us a b seen (value_vals x) (block_vals rest) (block_step rest a) h),
              block_settled rest (λ m. Done m ⊎ In m (value_vals x)) a seen fit.1 (ahead_other Done us a b seen (value_vals x) (block_vals rest) (value_step x us) h),
            )
        block_settled (Val q n typ x rest) Done us seen fit h =
            let xs = value_vals x in
            let bs = block_vals rest in
            let a = settle_value y same s owner x us in
            let k = val_type y same s a owner typ x in
            let c = with_local n k a in
            let d = settle_block y same s owner rest c in
            let moved : Ahead Done us d seen (xs ++ n ∷ bs) = record {
              seen_done = h.seen_done;
              there = h.there;
              apart = Apart-move n xs bs h.apart;
              fresh = λ m e i. h.fresh m e (to_front n xs bs m i);
              keeps = λ m v o e. elim o [ inl f ↦ h.keeps m v (inl f) e | inr i ↦ h.keeps m v (inr (to_front n xs bs m i)) e ];
            } in
            let one = ahead_first Done us a d seen xs (n ∷ bs) (steps (n ∷ []) bs a c d (put_step n k a) (block_step rest c)) moved in
            let two = ahead_other Done us a d seen xs (n ∷ bs) (value_step x us) moved in
            let three = ahead_other (λ m. Done m ⊎ In m xs) a c d seen (n ∷ []) bs (put_step n k a) two in
            let kind : k ≡ val_type y same s final owner typ x = same_val_kind p a final typ x seen fit.1 (agree_ahead Done us a seen xs (value_step x us) one) in
            let here = (block_step rest c).kept n k (three.fresh n (inr (inl refl))) (put_there n k a) in (
              value_settled x Done us seen fit.1 one,
              three.keeps n k (inl (inr (inl refl))) here ∙ ap (λ (v : y.Kind). Some v) kind,
              block_settled rest (λ m. (Done m ⊎ In m xs) ⊎ In m (n ∷ [])) c (Local n ∷ seen) fit.2 (one_more (λ m. Done m ⊎ In m xs) n c d seen bs three),
            )
