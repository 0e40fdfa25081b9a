-- What has a derivation has the one that is written for it, over types of the `val`s that are no larger: at a type that is no larger,
-- with no larger effect.
use Rattle.std.proofs.Common.{◌≡◌, ℕ, List, [], ◌∷◌, ◌++◌, map, inl, inr, refl, sym, ◌∙◌, ap, subst, Option, Some, None, Bool as Truth, true, false}
use Rattle.std.specs.Prelude.{slice_get}
use Rattle.wy_text.specs.declared.fault.Place.{Place}
use Rattle.wy_text.specs.Members.{In}
use Rattle.wy_effects.specs.EffSet.{union}
use Rattle.wy_text.proofs.Lists.{In-left, In-right, In-cases}
use Rattle.wy_types.specs.declared.types.TypeRef.{TypeRef}
use Rattle.wy_types.specs.declared.types.TypeRef.TheVariants.{Int, Bool, Text, Unit as Nothing}
use Rattle.wy_types.specs.declared.code.Variable.{Variable}
use Rattle.wy_types.specs.declared.code.Variable.TheVariants.{Parameter, Local}
use Rattle.wy_types.specs.declared.code.Binding.TheVariants as to
use Rattle.wy_types.specs.declared.code.UnaryOperator.{UnaryOperator}
use Rattle.wy_types.specs.declared.code.UnaryOperator.TheVariants.{Negate, Not}
use Rattle.wy_types.specs.declared.code.BinaryOperator.{BinaryOperator}
use Rattle.wy_types.specs.declared.code.BinaryOperator.TheVariants.{Add, Subtract, Multiply, Divide, Remainder, Join, Less, LessOrEqual, Greater, GreaterOrEqual, Equal, NotEqual, And, Or}
use Rattle.wy_types.specs.declared.code.TextOperator.{TextOperator}
use Rattle.wy_types.specs.declared.code.TextOperator.TheVariants.{Size, Part, Code, Byte, Show}
use Rattle.wy_types.specs.Code.{Expr, Number, Quoted, Truth as TruthOf, Nothing as NothingOf, This, Name, Unary, Binary, TextCall, Call, New, Ascribe, Assign, Value, Plain, If, Values, none, more, Block, Last, Then, Val}
use Rattle.wy_types.specs.Program.{Program, Scope}
use Rattle.wy_types.specs.Signature.{Signature, find_method}
use Rattle.wy_types.specs.Core.{ExprFits, ValueFits, ValuesFit, BlockFits}
use Rattle.wy_types.specs.Vals.{expr_vals, value_vals, values_vals, block_vals}
use Rattle.wy_rules.specs.Readings.{Reading, IsBelow}
use Rattle.wy_rules.specs.Operators.{Row, unary_rows, binary_rows, text_rows, equality_rows, two}
use Rattle.wy_rules.specs.Derivations.{Derivation, Derivations, BlockDerivation, T-Op, none as no_derivations, more as one_more, effects_of, expr_mark, mark, block_mark}
use Rattle.wy_rules.specs.Typing.{field_types, binding_type, var_field, Has, AllHave, BlockHas, Derives, DerivesAll, DerivesBlock, IsValType}
use Rattle.wy_rules.specs.EachVal.{EachInExpr, EachInValue, EachInValues, EachInBlock}
use Rattle.wy_rules.specs.Canonical.{Typed, TypedBlock, subsumed_unless, block_subsumed_unless, found_type, object_type, method_params, method_effect, method_result, field_type, first_operand, second_operand, row_or, row_of, first_row, at_type, block_at_type, canonical_expr, canonical_value, canonical_values, canonical_block}
use Rattle.wy_rules.proofs.Forms.{Lawful, Above, Bare, bare, BlockBare, block_bare}
use Rattle.wy_rules.proofs.Least.{raise, raise_block, split, all_raised}
use Rattle.wy_rules.proofs.Needs.{has_under}
use Rattle.wy_rules.proofs.Narrowing.{Narrower, AllNarrower, one_more_seen}

-- what is used of the test of types, and that base types are no object types
pub record Exact (y : Reading) (same : y.Kind → y.Kind → Truth) : Type 0 where
  pub exact : (a b : y.Kind) → same a b ≡ true → a ≡ b
  pub itself : (a : y.Kind) → same a a ≡ true
  pub no_int : y.IsObject (y.read Int) → ⊥
  pub no_bool : y.IsObject (y.read Bool) → ⊥
  pub no_text : y.IsObject (y.read Text) → ⊥

module _ (y : Reading) (w : Lawful y) (same : y.Kind → y.Kind → Truth) (z : Exact y same) where
  above_above : (a b c : y.Kind) → Above y a b → Above y b c → Above y a c
  above_above a b c (inl e) h = subst (λ v. Above y v c) (sym e) h
  above_above a b c (inr g) (inl e) = inr (subst (λ v. IsBelow y a v) e g)
  above_above a b c (inr g) (inr h) = inr (w.below a b c g h)

  -- a base type is below itself alone
  base_equal : (k t : y.Kind) → (y.IsObject t → ⊥) → Above y k t → k ≡ t
  base_equal k t n (inl e) = e
  base_equal k t n (inr b) = elim (b.closed (k, t) b.first) [ inl base ↦ base.0 | inr object ↦ absurd (n object.1) ]

  ------------------------------------------------------------
  -- Rows

  only : (a r : Row) → In r (a ∷ []) → a ≡ r
  only a r (inl e) = e
  only a r (inr i) = absurd i

  unary_only : (op : UnaryOperator) (r : Row) → In r (unary_rows op) → first_row (unary_rows op) ≡ r
  unary_only Negate r i = only _ r i
  unary_only Not r i = only _ r i

  text_only : (op : TextOperator) (r : Row) → In r (text_rows op) → first_row (text_rows op) ≡ r
  text_only Size r i = only _ r i
  text_only Part r i = only _ r i
  text_only Code r i = only _ r i
  text_only Byte r i = only _ r i
  text_only Show r i = only _ r i

  -- the row that is taken is as good as the one that was
  record AsGood (rows : List Row) (r a : Row) : Type 0 where
    pub there : In a rows
    pub operands : map y.read a.operands ≡ map y.read r.operands
    pub result : y.read a.result ≡ y.read r.result

  itself_good : (rows : List Row) (r : Row) → In r rows → AsGood rows r r
  itself_good rows r i = record { there = i; operands = refl; result = refl }

  single : (a r : Row) → In r (a ∷ []) → AsGood (a ∷ []) r a
  single a r i = subst (λ v. AsGood (a ∷ []) v a) (only a r i) (itself_good (a ∷ []) a (inl refl))

  two_same : (t u : TypeRef) → y.read t ≡ y.read u → map y.read (t ∷ t ∷ []) ≡ map y.read (u ∷ u ∷ [])
  two_same t u e = ap (λ (v : y.Kind). v ∷ v ∷ []) e

  -- of equality, by the operand's type
  good_two : (k : y.Kind) (t : TypeRef) (r : Row) → In (two t Bool) equality_rows → k ≡ y.read t → In r equality_rows → k ≡ first_operand y r.operands → AsGood equality_rows r (two t Bool)
  good_two k t r j f i e = elim i [
    | inl a ↦ subst (λ (v : Row). AsGood equality_rows v (two t Bool)) a (good Int (sym f ∙ e ∙ ap (λ (v : Row). first_operand y v.operands) (sym a)))
    | inr i2 ↦ elim i2 [
      | inl a ↦ subst (λ (v : Row). AsGood equality_rows v (two t Bool)) a (good Bool (sym f ∙ e ∙ ap (λ (v : Row). first_operand y v.operands) (sym a)))
      | inr i3 ↦ elim i3 [
        | inl a ↦ subst (λ (v : Row). AsGood equality_rows v (two t Bool)) a (good Text (sym f ∙ e ∙ ap (λ (v : Row). first_operand y v.operands) (sym a)))
        | inr i4 ↦ absurd i4
      ]
    ]
  ]
    where
      good : (u : TypeRef) → y.read t ≡ y.read u → AsGood equality_rows (two u Bool) (two t Bool)
      good u g = record { there = j; operands = two_same t u g; result = refl }

  false_true : (b : Truth) → b ≡ true → b ≡ false → ⊥
  false_true b e f = absurd (cc)

  equal_row : (k : y.Kind) (r : Row) → In r equality_rows → k ≡ first_operand y r.operands → (b c : Truth) → same k (y.read Int) ≡ b → same k (y.read Bool) ≡ c →
      AsGood equality_rows r (row_or b (two Int Bool) (row_or c (two Bool Bool) (two Text Bool)))
  equal_row k r i e true c f g = good_two k Int r (inl refl) (z.exact k (y.read Int) f) i e
  equal_row k r i e false true f g = good_two k Bool r (inr (inl refl)) (z.exact k (y.read Bool) g) i e
  equal_row k r i e false false f g = elim i [
    | inl a ↦ absurd (clash (y.read Int) (e ∙ ap (λ (v : Row). first_operand y v.operands) (sym a)) f)
    | inr i2 ↦ elim i2 [
      | inl a ↦ absurd (clash (y.read Bool) (e ∙ ap (λ (v : Row). first_operand y v.operands) (sym a)) g)
      | inr i3 ↦ elim i3 [
        | inl a ↦ subst (λ (v : Row). AsGood equality_rows v (two Text Bool)) a (itself_good equality_rows (two Text Bool) (inr (inr (inl refl))))
        | inr i4 ↦ absurd i4
      ]
    ]
  ]
    where
      clash : (t : y.Kind) → k ≡ t → same k t ≡ false → ⊥
      clash t a b = false_true (same k t) (subst (λ v. same k v ≡ true) a (z.itself k)) b

  no_first : (r : Row) → In r equality_rows → y.IsObject (first_operand y r.operands) → ⊥
  no_first r i o = elim i [
    | inl a ↦ z.no_int (subst (λ (v : Row). y.IsObject (first_operand y v.operands)) (sym a) o)
    | inr i2 ↦ elim i2 [
      | inl a ↦ z.no_bool (subst (λ (v : Row). y.IsObject (first_operand y v.operands)) (sym a) o)
      | inr i3 ↦ elim i3 [
        | inl a ↦ z.no_text (subst (λ (v : Row). y.IsObject (first_operand y v.operands)) (sym a) o)
        | inr i4 ↦ absurd i4
      ]
    ]
  ]

  equality_good : (k : y.Kind) (r : Row) → In r equality_rows → Above y k (first_operand y r.operands) → AsGood equality_rows r (row_of y same equality_rows k)
  equality_good k r i a = equal_row k r i (base_equal k (first_operand y r.operands) (no_first r i) a) (same k (y.read Int)) (same k (y.read Bool)) refl refl

  binary_good : (op : BinaryOperator) (k : y.Kind) (r : Row) → In r (binary_rows op) → Above y k (first_operand y r.operands) → AsGood (binary_rows op) r (row_of y same (binary_rows op) k)
  binary_good Add k r i a = single _ r i
  binary_good Subtract k r i a = single _ r i
  binary_good Multiply k r i a = single _ r i
  binary_good Divide k r i a = single _ r i
  binary_good Remainder k r i a = single _ r i
  binary_good Join k r i a = single _ r i
  binary_good Less k r i a = single _ r i
  binary_good LessOrEqual k r i a = single _ r i
  binary_good Greater k r i a = single _ r i
  binary_good GreaterOrEqual k r i a = single _ r i
  binary_good Equal k r i a = equality_good k r i a
  binary_good NotEqual k r i a = equality_good k r i a
  binary_good And k r i a = single _ r i
  binary_good Or k r i a = single _ r i

  ------------------------------------------------------------
  -- Calls

  -- the method that a smaller type has
  record Target (k : y.Kind) (name : List ℕ) (m : Signature y.Kind) : Type 0 where
    pub object : y.IsObject k
    pub method : Signature y.Kind
    pub found : find_method name (y.methods k) ≡ Some method
    pub effect : y.Allows method.effect m.effect
    pub result : Above y method.result m.result
    pub arguments : (s : Scope) (locals : List y.Kind) (owner : Option ℕ) (xs : Values) (f : List ℕ) → AllHave y s locals owner xs m.params f → AllHave y s locals owner xs method.params f

  target : (k u : y.Kind) (name : List ℕ) (m : Signature y.Kind) → Above y k u → y.IsObject u → find_method name (y.methods u) ≡ Some m → Target k name m
  target k u name m (inl e) o f = record {
    object = subst y.IsObject (sym e) o;
    method = m;
    found = ap (λ v. find_method name (y.methods v)) e ∙ f;
    effect = w.allows m.effect m.effect (w.same m.effect);
    result = inl refl;
    arguments = λ s locals owner xs g h. h;
  }
  target k u name m (inr b) o f =
      let n = has_under y w k u name m b o f in
      record {
        object = n.object;
        method = n.method;
        found = n.found;
        effect = n.under.covers.effect;
        result = inr (record { pairs = n.under.pairs; first = n.under.covers.result; closed = n.under.closed });
        arguments = λ s locals owner xs g h. all_raised y w s locals owner n.under.pairs n.under.closed xs m.params n.method.params g n.under.covers.params h;
      }

  found_kind : (o : Option y.Kind) (t : y.Kind) → o ≡ Some t → found_type y o ≡ t
  found_kind o t e = ap (found_type y) e

  there_kind : (o : Option y.Kind) (t : y.Kind) → o ≡ Some t → o ≡ Some (found_type y o)
  there_kind o t e = e ∙ ap (λ v. Some v) (sym (found_kind o t e))

  ------------------------------------------------------------
  -- Values and blocks, over types of the `val`s that are given and smaller ones

  module _ (p : Program) (s : Scope) (least given : List y.Kind) where
    -- a `val` is ready: its least type is there, and is no larger than the one that is given
    abbrev pub ValReady : Option ℕ → ℕ → Option TypeRef → Value → Type 0
    ValReady owner n None (Plain x) =
        (u : y.Kind) → slice_get given n ≡ Some u → Above y (canonical_expr y same s least owner x).typ u →
        (t : y.Kind) × (slice_get least n ≡ Some t) × Above y (canonical_expr y same s least owner x).typ t × Above y t u
    ValReady owner n None (If q test first second) = Unit {0}
    ValReady owner n (Some t) x = (u : y.Kind) → slice_get given n ≡ Some u → u ≡ y.read t → slice_get least n ≡ Some (y.read t)

    module _ (owner : Option ℕ) where
      -- the derivation that is written is one, at a type and with an effect that are no larger
      pub record Best (m : Typed y.Kind) (x : Value) (vals : List ℕ) (t : y.Kind) (f : List ℕ) : Type 0 where
        pub derives : Derives y s least owner m.derivation x m.typ m.effect
        pub above : Above y m.typ t
        pub within : y.Allows m.effect f
        pub narrower : (n : ℕ) → In n vals → Narrower y w p s least given n

      pub record BestBlock (m : TypedBlock y.Kind) (b : Block) (vals : List ℕ) (t : y.Kind) (f : List ℕ) : Type 0 where
        pub derives : DerivesBlock y s least owner m.derivation b m.typ m.effect
        pub above : Above y m.typ t
        pub within : y.Allows m.effect f
        pub narrower : (n : ℕ) → In n vals → Narrower y w p s least given n

      -- .. at a type
      pub record BestAt (d : Derivation y.Kind) (e : List ℕ) (x : Value) (vals : List ℕ) (t : y.Kind) (f : List ℕ) : Type 0 where
        pub derives : Derives y s least owner d x t e
        pub within : y.Allows e f
        pub narrower : (n : ℕ) → In n vals → Narrower y w p s least given n

      pub record BestBlockAt (d : BlockDerivation y.Kind) (e : List ℕ) (b : Block) (vals : List ℕ) (t : y.Kind) (f : List ℕ) : Type 0 where
        pub derives : DerivesBlock y s least owner d b t e
        pub within : y.Allows e f
        pub narrower : (n : ℕ) → In n vals → Narrower y w p s least given n

      pub record BestAll (ds : Derivations y.Kind) (xs : Values) (vals : List ℕ) (ts : List y.Kind) (f : List ℕ) : Type 0 where
        pub derives : DerivesAll y s least owner ds xs ts
        pub within : y.Allows (effects_of ds) f
        pub narrower : (n : ℕ) → In n vals → Narrower y w p s least given n

      either_vals : (xs ys : List ℕ) → ((n : ℕ) → In n xs → Narrower y w p s least given n) → ((n : ℕ) → In n ys → Narrower y w p s least given n) → (n : ℕ) → In n (xs ++ ys) → Narrower y w p s least given n
      either_vals xs ys f g n i = elim (In-cases n xs ys i) [ inl j ↦ f n j | inr j ↦ g n j ]

      -- T-Sub where it is needed
      sub_derives : (b : Truth) (place : Place) (m : Typed y.Kind) (x : Value) (t : y.Kind) → same m.typ t ≡ b → place ≡ mark x → Derives y s least owner m.derivation x m.typ m.effect → Above y m.typ t →
          Derives y s least owner (subsumed_unless b place m) x t m.effect
      sub_derives true place m x t e q h a = subst (λ v. Derives y s least owner m.derivation x v m.effect) (z.exact m.typ t e) h
      sub_derives false place m x t e q h (inl f) = absurd (false_true (same m.typ t) (subst (λ v. same m.typ v ≡ true) f (z.itself m.typ)) e)
      sub_derives false place m x t e q h (inr b) = (q, h, b, w.same m.effect)

      block_sub_derives : (b : Truth) (place : Place) (m : TypedBlock y.Kind) (x : Block) (t : y.Kind) → same m.typ t ≡ b → place ≡ block_mark x → DerivesBlock y s least owner m.derivation x m.typ m.effect → Above y m.typ t →
          DerivesBlock y s least owner (block_subsumed_unless b place m) x t m.effect
      block_sub_derives true place m x t e q h a = subst (λ v. DerivesBlock y s least owner m.derivation x v m.effect) (z.exact m.typ t e) h
      block_sub_derives false place m x t e q h (inl f) = absurd (false_true (same m.typ t) (subst (λ v. same m.typ v ≡ true) f (z.itself m.typ)) e)
      block_sub_derives false place m x t e q h (inr b) = (q, h, b, w.same m.effect)

      best_at : (m : Typed y.Kind) (x : Value) (vals : List ℕ) (t : y.Kind) (f : List ℕ) → Best m x vals t f → BestAt (at_type y same (mark x) m t) m.effect x vals t f
      best_at m x vals t f h = record { derives = sub_derives (same m.typ t) (mark x) m x t refl refl h.derives h.above; within = h.within; narrower = h.narrower }

      -- a block at the type that is asked for, by T-Sub where it is needed
      pub best_block_at : (m : TypedBlock y.Kind) (x : Block) (vals : List ℕ) (t : y.Kind) (f : List ℕ) → BestBlock m x vals t f → BestBlockAt (block_at_type y same (block_mark x) m t) m.effect x vals t f
      best_block_at m x vals t f h = record { derives = block_sub_derives (same m.typ t) (block_mark x) m x t refl refl h.derives h.above; within = h.within; narrower = h.narrower }

      -- from what T-Sub was taken off
      finish : (m : Typed y.Kind) (x : Value) (vals : List ℕ) (t : y.Kind) (f : List ℕ) (b : Bare y w s given owner x t f) → Best m x vals b.typ b.effect → Best m x vals t f
      finish m x vals t f b h = record { derives = h.derives; above = above_above m.typ b.typ t h.above b.above; within = w.onward m.effect b.effect f h.within b.within; narrower = h.narrower }

      finish_block : (m : TypedBlock y.Kind) (x : Block) (vals : List ℕ) (t : y.Kind) (f : List ℕ) (b : BlockBare y w s given owner x t f) → BestBlock m x vals t b.effect → BestBlock m x vals t f
      finish_block m x vals t f b h = record { derives = h.derives; above = h.above; within = w.onward m.effect b.effect f h.within b.within; narrower = h.narrower }

      none_within : (f : List ℕ) → f ≡ [] → y.Allows [] f
      none_within f e = subst (λ v. y.Allows [] v) (sym e) (w.allows [] [] (w.same []))

      -- values in their order
      nothing_left : (ds : Derivations y.Kind) (t : y.Kind) (ts : List y.Kind) → DerivesAll y s given owner ds none (t ∷ ts) → ⊥
      nothing_left no_derivations t ts h = h
      nothing_left (one_more d e ds) t ts h = h

      -- values that are left over have no types
      pub nothing_more : (ds : Derivations y.Kind) (x : Value) (xs : Values) → DerivesAll y s given owner ds (more x xs) [] → ⊥
      nothing_more no_derivations x xs h = h
      nothing_more (one_more d e ds) x xs h = h

      no_effect : (ds : Derivations y.Kind) → DerivesAll y s given owner ds none [] → effects_of ds ≡ []
      no_effect no_derivations h = refl
      no_effect (one_more d e ds) h = absurd h

      best_none : (ts : List y.Kind) (f : List ℕ) → AllHave y s given owner none ts f → BestAll no_derivations none [] ts f
      best_none [] f h = record { derives = tt; within = none_within f (h.effects ∙ no_effect h.derivations h.derives); narrower = λ n i. absurd i }
      best_none (t ∷ ts) f h = absurd (nothing_left h.derivations t ts h.derives)

      best_more : (x : Value) (xs : Values) (t : y.Kind) (ts : List y.Kind) (us vs : List ℕ) (d : Derivation y.Kind) (e : List ℕ) (ds : Derivations y.Kind) (f : List ℕ) → AllHave y s given owner (more x xs) (t ∷ ts) f →
          ((g : List ℕ) → Has y s given owner x t g → BestAt d e x us t g) → ((g : List ℕ) → AllHave y s given owner xs ts g → BestAll ds xs vs ts g) → BestAll (one_more d e ds) (more x xs) (us ++ vs) (t ∷ ts) f
      best_more x xs t ts us vs d e ds f h one all =
          let c = split y w s given owner x xs t ts f h in
          let a = one c.effect c.first in
          let b = all c.effects c.others in
          record {
            derives = (a.derives, b.derives);
            within = subst (λ v. y.Allows (union e (effects_of ds)) v) (sym c.whole) (w.unite e (effects_of ds) c.effect c.effects a.within b.within);
            narrower = either_vals us vs a.narrower b.narrower;
          }

      -- the operands of an operation, at the types of a row
      -- the first and the second operand have derivations
      pub first_given : (x : Value) (xs : Values) (ts : List TypeRef) (f : List ℕ) → AllHave y s given owner (more x xs) (map y.read ts) f → (g : List ℕ) × Has y s given owner x (first_operand y ts) g
      first_given x xs [] f h = absurd (nothing_more h.derivations x xs h.derives)
      first_given x xs (t ∷ ts) f h = let c = split y w s given owner x xs (y.read t) (map y.read ts) f h in (c.effect, c.first)

      pub second_given : (x v : Value) (xs : Values) (ts : List TypeRef) (f : List ℕ) → AllHave y s given owner (more x (more v xs)) (map y.read ts) f → (g : List ℕ) × Has y s given owner v (second_operand y ts) g
      second_given x v xs [] f h = absurd (nothing_more h.derivations x (more v xs) h.derives)
      second_given x v xs (t ∷ ts) f h = let c = split y w s given owner x (more v xs) (y.read t) (map y.read ts) f h in first_given v xs ts c.effects c.others

      best_one : (x : Value) (us : List ℕ) (m : Typed y.Kind) (ts : List TypeRef) (f : List ℕ) → AllHave y s given owner (more x none) (map y.read ts) f → ((t : y.Kind) (g : List ℕ) → Has y s given owner x t g → Best m x us t g) →
          BestAll (one_more (at_type y same (mark x) m (first_operand y ts)) m.effect no_derivations) (more x none) (us ++ []) (map y.read ts) f
      best_one x us m [] f h one = absurd (nothing_more h.derivations x none h.derives)
      best_one x us m (t ∷ ts) f h one =
          best_more x none (y.read t) (map y.read ts) us [] (at_type y same (mark x) m (y.read t)) m.effect no_derivations f h (λ g i. best_at m x us (y.read t) g (one (y.read t) g i)) (best_none (map y.read ts))

      best_two : (x v : Value) (us vs : List ℕ) (m n : Typed y.Kind) (ts : List TypeRef) (f : List ℕ) → AllHave y s given owner (more x (more v none)) (map y.read ts) f →
          ((t : y.Kind) (g : List ℕ) → Has y s given owner x t g → Best m x us t g) → ((t : y.Kind) (g : List ℕ) → Has y s given owner v t g → Best n v vs t g) →
          BestAll (one_more (at_type y same (mark x) m (first_operand y ts)) m.effect (one_more (at_type y same (mark v) n (second_operand y ts)) n.effect no_derivations)) (more x (more v none)) (us ++ (vs ++ [])) (map y.read ts) f
      best_two x v us vs m n [] f h one other = absurd (nothing_more h.derivations x (more v none) h.derives)
      best_two x v us vs m n (t ∷ ts) f h one other =
          best_more x (more v none) (y.read t) (map y.read ts) us (vs ++ []) (at_type y same (mark x) m (y.read t)) m.effect (one_more (at_type y same (mark v) n (first_operand y ts)) n.effect no_derivations) f h
          (λ g i. best_at m x us (y.read t) g (one (y.read t) g i)) (λ g i. best_one v vs n ts g i other)

      -- the `val`, at the type that is there
      record BestVal (n : ℕ) (typ : Option TypeRef) (x : Value) (vals : List ℕ) (k : y.Kind) (f : List ℕ) : Type 0 where
        pub there : slice_get least n ≡ Some k
        pub is_type : IsValType y s least owner typ x k
        pub best : BestAt (at_type y same (mark x) (canonical_value y same s least owner x k) k) (canonical_value y same s least owner x k).effect x vals k f
        pub narrower : Narrower y w p s least given n

      some_same : (a b : y.Kind) → ◌≡◌ {A = Option y.Kind} (Some a) (Some b) → a ≡ b
      some_same a b e = cc

      best_val : (n : ℕ) (typ : Option TypeRef) (x : Value) (vals : List ℕ) (k : y.Kind) (f : List ℕ) → slice_get given n ≡ Some k → IsValType y s given owner typ x k → ValReady owner n typ x → Has y s given owner x k f →
          ((t : y.Kind) (g : List ℕ) → Has y s given owner x t g → Best (canonical_value y same s least owner x t) x vals t g) → BestVal n typ x vals (found_type y (slice_get least n)) f
      best_val n None (If q test first second) vals k f i v ready h best = absurd v
      best_val n None (Plain x) vals k f i v ready h best =
          let m = best k f h in
          let r = ready k i m.above in
          let K = found_type y (slice_get least n) in
          let e : r.0 ≡ K = sym (found_kind (slice_get least n) r.0 r.1) in
          record {
            there = there_kind (slice_get least n) r.0 r.1;
            is_type = tt;
            best = best_at (canonical_expr y same s least owner x) (Plain x) vals K f (record { derives = m.derives; above = subst (λ u. Above y (canonical_expr y same s least owner x).typ u) e r.2; within = m.within; narrower = m.narrower });
            narrower = λ u g. (r.0, r.1, subst (λ j. Above y r.0 j) (some_same k u (sym i ∙ g)) r.3);
          }
      best_val n (Some t) x vals k f i v ready h best =
          let r = ready k i v in
          let K = found_type y (slice_get least n) in
          let e : y.read t ≡ K = sym (found_kind (slice_get least n) (y.read t) r) in
          record {
            there = there_kind (slice_get least n) (y.read t) r;
            is_type = sym e;
            best = best_at (canonical_value y same s least owner x K) x vals K f (best K f (subst (λ u. Has y s given owner x u f) (v ∙ e) h));
            narrower = λ u g. (y.read t, r, inl (sym v ∙ some_same k u (sym i ∙ g)));
          }

      -- a leaf, which has no effect
      leaf : (x : Expr) (k t : y.Kind) (f : List ℕ) (m : Typed y.Kind) → m.effect ≡ [] → Derives y s least owner m.derivation (Plain x) m.typ m.effect → Above y m.typ t → f ≡ [] → Best m (Plain x) [] t f
      leaf x k t f m n d a e = record { derives = d; above = a; within = subst (λ v. y.Allows v f) (sym n) (none_within f e); narrower = λ j i. absurd i }

      -- an operation, once its operands are written
      best_operation : (x : Expr) (vals : List ℕ) (t : y.Kind) (f : List ℕ) (rows : List Row) (xs : Values) (r a : Row) (ds : Derivations y.Kind) →
          ((e : List ℕ) → DerivesAll y s least owner ds xs (map y.read a.operands) → In a rows → e ≡ effects_of ds → Derives y s least owner (T-Op (expr_mark x) a ds) (Plain x) (y.read a.result) e) →
          AsGood rows r a → t ≡ y.read r.result → BestAll ds xs vals (map y.read a.operands) f → Best (record { derivation = T-Op (expr_mark x) a ds; typ = y.read a.result; effect = effects_of ds }) (Plain x) vals t f
      best_operation x vals t f rows xs r a ds derive g e h = record {
        derives = derive (effects_of ds) h.derives g.there refl;
        above = inl (g.result ∙ sym e);
        within = h.within;
        narrower = h.narrower;
      }

      mutual
        -- an expression has the derivation that is written, where it has any
        pub best_expr : (x : Expr) (seen : List Variable) → ExprFits p s owner seen x → AllNarrower y w p s least given seen → EachInExpr ValReady owner x → (t : y.Kind) (f : List ℕ) → Has y s given owner (Plain x) t f → Best (canonical_expr y same s least owner x) (Plain x) (expr_vals x) t f
        best_expr (Number q n) seen fit ok ready t f h =
            let b = bare y w s given owner (Plain (Number q n)) t f h in
            finish (canonical_expr y same s least owner (Number q n)) (Plain (Number q n)) [] t f b (leaf (Number q n) (y.read Int) b.typ b.effect (canonical_expr y same s least owner (Number q n)) refl (Int, refl, refl, refl, refl) (inl (sym b.formed.0)) b.formed.1)
        best_expr (Quoted q bytes) seen fit ok ready t f h =
            let b = bare y w s given owner (Plain (Quoted q bytes)) t f h in
            finish (canonical_expr y same s least owner (Quoted q bytes)) (Plain (Quoted q bytes)) [] t f b (leaf (Quoted q bytes) (y.read Text) b.typ b.effect (canonical_expr y same s least owner (Quoted q bytes)) refl (Text, refl, refl, refl, refl) (inl (sym b.formed.0)) b.formed.1)
        best_expr (TruthOf q v) seen fit ok ready t f h =
            let b = bare y w s given owner (Plain (TruthOf q v)) t f h in
            finish (canonical_expr y same s least owner (TruthOf q v)) (Plain (TruthOf q v)) [] t f b (leaf (TruthOf q v) (y.read Bool) b.typ b.effect (canonical_expr y same s least owner (TruthOf q v)) refl (Bool, refl, refl, refl, refl) (inl (sym b.formed.0)) b.formed.1)
        best_expr (NothingOf q) seen fit ok ready t f h =
            let b = bare y w s given owner (Plain (NothingOf q)) t f h in
            finish (canonical_expr y same s least owner (NothingOf q)) (Plain (NothingOf q)) [] t f b (leaf (NothingOf q) (y.read Nothing) b.typ b.effect (canonical_expr y same s least owner (NothingOf q)) refl (Nothing, refl, refl, refl, refl) (inl (sym b.formed.0)) b.formed.1)
        best_expr (This q) seen fit ok ready t f h =
            let b = bare y w s given owner (Plain (This q)) t f h in
            let e = ap (object_type y) b.formed.1 in
            finish (canonical_expr y same s least owner (This q)) (Plain (This q)) [] t f b
            (leaf (This q) (object_type y owner) b.typ b.effect (canonical_expr y same s least owner (This q)) refl (b.formed.0, refl, b.formed.1, e, refl) (inl (e ∙ sym b.formed.2)) b.formed.3)
        best_expr (Name q (to.Variable (Local n))) seen fit ok ready t f h =
            let b = bare y w s given owner (Plain (Name q (to.Variable (Local n)))) t f h in
            let r = ok n fit b.typ b.formed.0 in
            let m = canonical_expr y same s least owner (Name q (to.Variable (Local n))) in
            finish m (Plain (Name q (to.Variable (Local n)))) [] t f b
            (leaf (Name q (to.Variable (Local n))) r.0 b.typ b.effect m refl (refl, there_kind (slice_get least n) r.0 r.1, refl)
            (subst (λ v. Above y v b.typ) (sym (found_kind (slice_get least n) r.0 r.1)) r.2) b.formed.1)
        best_expr (Name q (to.Variable (Parameter k i))) seen fit ok ready t f h =
            let b = bare y w s given owner (Plain (Name q (to.Variable (Parameter k i)))) t f h in
            let m = canonical_expr y same s least owner (Name q (to.Variable (Parameter k i))) in
            let o = binding_type y s least owner (to.Variable (Parameter k i)) in
            finish m (Plain (Name q (to.Variable (Parameter k i)))) [] t f b
            (leaf (Name q (to.Variable (Parameter k i))) b.typ b.typ b.effect m refl (refl, there_kind o b.typ b.formed.0, refl) (inl (found_kind o b.typ b.formed.0)) b.formed.1)
        best_expr (Name q (to.Field i)) seen fit ok ready t f h =
            let b = bare y w s given owner (Plain (Name q (to.Field i))) t f h in
            let m = canonical_expr y same s least owner (Name q (to.Field i)) in
            let o = binding_type y s least owner (to.Field i) in
            finish m (Plain (Name q (to.Field i))) [] t f b (leaf (Name q (to.Field i)) b.typ b.typ b.effect m refl (refl, there_kind o b.typ b.formed.0, refl) (inl (found_kind o b.typ b.formed.0)) b.formed.1)
        best_expr (Name q (to.Own k)) seen fit ok ready t f h =
            let b = bare y w s given owner (Plain (Name q (to.Own k))) t f h in
            let m = canonical_expr y same s least owner (Name q (to.Own k)) in
            let o = binding_type y s least owner (to.Own k) in
            finish m (Plain (Name q (to.Own k))) [] t f b (leaf (Name q (to.Own k)) b.typ b.typ b.effect m refl (refl, there_kind o b.typ b.formed.0, refl) (inl (found_kind o b.typ b.formed.0)) b.formed.1)
        best_expr (Unary q op x) seen fit ok ready t f h =
            let b = bare y w s given owner (Plain (Unary q op x)) t f h in
            let c = b.formed in
            let m = canonical_expr y same s least owner x in
            let a = first_row (unary_rows op) in
            let e = unary_only op c.0 c.1 in
            let g : AsGood (unary_rows op) c.0 a = subst (λ (v : Row). AsGood (unary_rows op) c.0 v) (sym e) (itself_good (unary_rows op) c.0 c.1) in
            let n = best_one (Plain x) (expr_vals x) m a.operands b.effect (subst (λ (v : Row). AllHave y s given owner (more (Plain x) none) (map y.read v.operands) b.effect) (sym e) c.2) (λ u i j. best_expr x seen fit ok ready u i j) in
            let o = best_operation (Unary q op x) (expr_vals x ++ []) b.typ b.effect (unary_rows op) (more (Plain x) none) c.0 a _ (λ i d j k. (record { rows = unary_rows op; operands = more (Plain x) none }, refl, refl, j, d, refl, k)) g c.3 n in
            finish (canonical_expr y same s least owner (Unary q op x)) (Plain (Unary q op x)) (expr_vals x) t f b (record { derives = o.derives; above = o.above; within = o.within; narrower = λ k i. o.narrower k (In-left k (expr_vals x) [] i) })
        best_expr (Binary q op x v) seen fit ok ready t f h =
            let b = bare y w s given owner (Plain (Binary q op x v)) t f h in
            let c = b.formed in
            let m = canonical_expr y same s least owner x in
            let l = canonical_expr y same s least owner v in
            let a = row_of y same (binary_rows op) m.typ in
            let first = first_given (Plain x) (more (Plain v) none) c.0.operands b.effect c.2 in
            let g = binary_good op m.typ c.0 c.1 (best_expr x seen fit.0 ok ready.0 (first_operand y c.0.operands) first.0 first.1).above in
            let n = best_two (Plain x) (Plain v) (expr_vals x) (expr_vals v) m l a.operands b.effect (subst (λ us. AllHave y s given owner (more (Plain x) (more (Plain v) none)) us b.effect) (sym g.operands) c.2)
            (λ u i j. best_expr x seen fit.0 ok ready.0 u i j) (λ u i j. best_expr v seen fit.1 ok ready.1 u i j) in
            let o = best_operation (Binary q op x v) (expr_vals x ++ (expr_vals v ++ [])) b.typ b.effect (binary_rows op) (more (Plain x) (more (Plain v) none)) c.0 a _
            (λ i d j k. (record { rows = binary_rows op; operands = more (Plain x) (more (Plain v) none) }, refl, refl, j, d, refl, k)) g c.3 n in
            finish (canonical_expr y same s least owner (Binary q op x v)) (Plain (Binary q op x v)) (expr_vals x ++ expr_vals v) t f b (record {
              derives = o.derives;
              above = o.above;
              within = o.within;
              narrower = either_vals (expr_vals x) (expr_vals v) (λ k i. o.narrower k (In-left k (expr_vals x) (expr_vals v ++ []) i)) (λ k i. o.narrower k (In-right k (expr_vals x) (expr_vals v ++ []) (In-left k (expr_vals v) [] i)));
            })
        best_expr (TextCall q op xs) seen fit ok ready t f h =
            let b = bare y w s given owner (Plain (TextCall q op xs)) t f h in
            let c = b.formed in
            let a = first_row (text_rows op) in
            let e = text_only op c.0 c.1 in
            let g : AsGood (text_rows op) c.0 a = subst (λ (v : Row). AsGood (text_rows op) c.0 v) (sym e) (itself_good (text_rows op) c.0 c.1) in
            let n = best_values xs seen fit.1 ok ready (map y.read a.operands) b.effect (subst (λ (v : Row). AllHave y s given owner xs (map y.read v.operands) b.effect) (sym e) c.2) in
            finish (canonical_expr y same s least owner (TextCall q op xs)) (Plain (TextCall q op xs)) (values_vals xs) t f b
            (best_operation (TextCall q op xs) (values_vals xs) b.typ b.effect (text_rows op) xs c.0 a (canonical_values y same s least owner xs (map y.read a.operands))
            (λ i d j k. (record { rows = text_rows op; operands = xs }, refl, refl, j, d, refl, k)) g c.3 n)
        best_expr (Call q x name xs) seen fit ok ready t f h =
            let b = bare y w s given owner (Plain (Call q x name xs)) t f h in
            let c = b.formed in
            let m = canonical_expr y same s least owner x in
            let r = best_expr x seen fit.0 ok ready.0 c.0 c.1 c.4 in
            let g = target m.typ c.0 name c.2 r.above c.5 c.6 in
            let o = find_method name (y.methods m.typ) in
            let params = ap (method_params y) g.found in
            let ds = canonical_values y same s least owner xs (method_params y o) in
            let n = best_values xs seen fit.1 ok ready.1 (method_params y o) c.3 (subst (λ us. AllHave y s given owner xs us c.3) (sym params) (g.arguments s given owner xs c.3 c.7)) in
            let e : method_effect y o ≡ g.method.effect = ap (method_effect y) g.found in
            finish (canonical_expr y same s least owner (Call q x name xs)) (Plain (Call q x name xs)) (expr_vals x ++ values_vals xs) t f b (record {
              derives = (g.method, refl, r.derives, g.object, g.found, subst (λ us. DerivesAll y s least owner ds xs us) params n.derives, ap (method_result y) g.found, ap (λ v. union m.effect (union (effects_of ds) v)) e);
              above = subst (λ u. Above y u b.typ) (sym (ap (method_result y) g.found)) (subst (λ u. Above y g.method.result u) (sym c.8) g.result);
              within = subst (λ v. y.Allows (union m.effect (union (effects_of ds) (method_effect y o))) v) (sym c.9)
                  (w.unite m.effect (union (effects_of ds) (method_effect y o)) c.1 (union c.3 c.2.effect) r.within (w.unite (effects_of ds) (method_effect y o) c.3 c.2.effect n.within (subst (λ v. y.Allows v c.2.effect) (sym e) g.effect)));
              narrower = either_vals (expr_vals x) (values_vals xs) r.narrower n.narrower;
            })
        best_expr (New q l xs) seen fit ok ready t f h =
            let b = bare y w s given owner (Plain (New q l xs)) t f h in
            let n = best_values xs seen fit.4 ok ready (map y.read (field_types s l)) b.effect b.formed.0 in
            finish (canonical_expr y same s least owner (New q l xs)) (Plain (New q l xs)) (values_vals xs) t f b
            (record { derives = (refl, n.derives, refl, refl); above = inl (sym b.formed.1); within = n.within; narrower = n.narrower })
        best_expr (Ascribe q x u) seen fit ok ready t f h =
            let b = bare y w s given owner (Plain (Ascribe q x u)) t f h in
            let n = best_at (canonical_value y same s least owner x (y.read u)) x (value_vals x) (y.read u) b.effect (best_value x seen fit.0 ok ready (y.read u) b.effect b.formed.0) in
            finish (canonical_expr y same s least owner (Ascribe q x u)) (Plain (Ascribe q x u)) (value_vals x) t f b
            (record { derives = (refl, n.derives, refl); above = inl (sym b.formed.1); within = n.within; narrower = n.narrower })
        best_expr (Assign q name x) seen fit ok ready t f h =
            let b = bare y w s given owner (Plain (Assign q name x)) t f h in
            let c = b.formed in
            let k = field_type y (var_field s owner name) in
            let e : k ≡ y.read c.0.typ = ap (field_type y) c.1 in
            let m = canonical_value y same s least owner x k in
            let n = best_at m x (value_vals x) k b.effect (best_value x seen fit.1 ok ready k b.effect (subst (λ u. Has y s given owner x u b.effect) (sym e) c.2)) in
            finish (canonical_expr y same s least owner (Assign q name x)) (Plain (Assign q name x)) (value_vals x) t f b (record {
              derives = (c.0, refl, c.1, subst (λ u. Derives y s least owner (at_type y same (mark x) m k) x u m.effect) e n.derives, refl);
              above = inl (sym c.3);
              within = n.within;
              narrower = n.narrower;
            })

        -- .. a value at a type that it has
        pub best_value : (x : Value) (seen : List Variable) → ValueFits p s owner seen x → AllNarrower y w p s least given seen → EachInValue ValReady owner x → (t : y.Kind) (f : List ℕ) → Has y s given owner x t f → Best (canonical_value y same s least owner x t) x (value_vals x) t f
        best_value (Plain x) seen fit ok ready t f h = best_expr x seen fit ok ready t f h
        best_value (If q test first second) seen fit ok ready t f h =
            let b = bare y w s given owner (If q test first second) t f h in
            let c = b.formed in
            let m = canonical_expr y same s least owner test in
            let m1 = canonical_block y same s least owner first t in
            let m2 = canonical_block y same s least owner second t in
            let l = best_at m (Plain test) (expr_vals test) (y.read Bool) c.0 (best_expr test seen fit.0 ok ready.0 (y.read Bool) c.0 c.3) in
            let l1 = best_block_at m1 first (block_vals first) t c.1 (best_block first seen fit.1 ok ready.1 t c.1 (raise_block y w s given owner first b.typ t c.1 b.above c.4)) in
            let l2 = best_block_at m2 second (block_vals second) t c.2 (best_block second seen fit.2 ok ready.2 t c.2 (raise_block y w s given owner second b.typ t c.2 b.above c.5)) in
            record {
              derives = (refl, l.derives, l1.derives, l2.derives, refl);
              above = inl refl;
              within = w.onward (union m.effect (union m1.effect m2.effect)) b.effect f (subst (λ v. y.Allows (union m.effect (union m1.effect m2.effect)) v) (sym c.6)
                  (w.unite m.effect (union m1.effect m2.effect) c.0 (union c.1 c.2) l.within (w.unite m1.effect m2.effect c.1 c.2 l1.within l2.within))) b.within;
              narrower = either_vals (expr_vals test) (block_vals first ++ block_vals second) l.narrower (either_vals (block_vals first) (block_vals second) l1.narrower l2.narrower);
            }

        -- .. values at the types that are asked for
        pub best_values : (xs : Values) (seen : List Variable) → ValuesFit p s owner seen xs → AllNarrower y w p s least given seen → EachInValues ValReady owner xs → (ts : List y.Kind) (f : List ℕ) → AllHave y s given owner xs ts f →
            BestAll (canonical_values y same s least owner xs ts) xs (values_vals xs) ts f
        best_values none seen fit ok ready ts f h = best_none ts f h
        best_values (more x xs) seen fit ok ready [] f h = absurd (nothing_more h.derivations x xs h.derives)
        best_values (more x xs) seen fit ok ready (t ∷ ts) f h =
            let m = canonical_value y same s least owner x t in
            best_more x xs t ts (value_vals x) (values_vals xs) (at_type y same (mark x) m t) m.effect (canonical_values y same s least owner xs ts) f h
            (λ g i. best_at m x (value_vals x) t g (best_value x seen fit.0 ok ready.0 t g i)) (λ g i. best_values xs seen fit.1 ok ready.1 ts g i)

        -- .. a block
        pub best_block : (b : Block) (seen : List Variable) → BlockFits p s owner seen b → AllNarrower y w p s least given seen → EachInBlock ValReady owner b → (t : y.Kind) (f : List ℕ) → BlockHas y s given owner b t f →
            BestBlock (canonical_block y same s least owner b t) b (block_vals b) t f
        best_block (Last x) seen fit ok ready t f h =
            let b = block_bare y w s given owner (Last x) t f h in
            let n = best_value x seen fit ok ready t b.effect (raise y w s given owner x b.typ t b.effect b.above b.formed) in
            finish_block (canonical_block y same s least owner (Last x) t) (Last x) (value_vals x) t f b (record { derives = n.derives; above = n.above; within = n.within; narrower = n.narrower })
        best_block (Then x rest) seen fit ok ready t f h =
            let b = block_bare y w s given owner (Then x rest) t f h in
            let c = b.formed in
            let m = canonical_value y same s least owner x (y.read Nothing) in
            let r = canonical_block y same s least owner rest t in
            let l = best_at m x (value_vals x) (y.read Nothing) c.0 (best_value x seen fit.0 ok ready.0 (y.read Nothing) c.0 c.2) in
            let n = best_block rest seen fit.1 ok ready.1 t c.1 (raise_block y w s given owner rest b.typ t c.1 b.above c.3) in
            finish_block (canonical_block y same s least owner (Then x rest) t) (Then x rest) (value_vals x ++ block_vals rest) t f b (record {
              derives = (refl, l.derives, n.derives, refl);
              above = n.above;
              within = subst (λ v. y.Allows (union m.effect r.effect) v) (sym c.4) (w.unite m.effect r.effect c.0 c.1 l.within n.within);
              narrower = either_vals (value_vals x) (block_vals rest) l.narrower n.narrower;
            })
        best_block (Val q n typ x rest) seen fit ok ready t f h =
            let b = block_bare y w s given owner (Val q n typ x rest) t f h in
            let c = b.formed in
            let k = found_type y (slice_get least n) in
            let m = canonical_value y same s least owner x k in
            let r = canonical_block y same s least owner rest t in
            let v = best_val n typ x (value_vals x) c.0 c.1 c.3 c.4 ready.1 c.5 (λ u g i. best_value x seen fit.1 ok ready.0 u g i) in
            let i = best_block rest (Local n ∷ seen) fit.2 (one_more_seen y w p s least given owner n seen v.narrower ok) ready.2 t c.2 (raise_block y w s given owner rest b.typ t c.2 b.above c.6) in
            finish_block (canonical_block y same s least owner (Val q n typ x rest) t) (Val q n typ x rest) (n ∷ (value_vals x ++ block_vals rest)) t f b (record {
              derives = (refl, v.there, v.is_type, v.best.derives, i.derives, refl);
              above = i.above;
              within = subst (λ u. y.Allows (union m.effect r.effect) u) (sym c.7) (w.unite m.effect r.effect c.1 c.2 v.best.within i.within);
              narrower = λ j l. elim l [ inl e ↦ subst (Narrower y w p s least given) e v.narrower | inr g ↦ either_vals (value_vals x) (block_vals rest) v.best.narrower i.narrower j g ];
            })
