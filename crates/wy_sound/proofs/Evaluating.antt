-- Preservation: what evaluates a value, values in their order or a block that has a derivation over the types of a run is sound.
use Rattle.std.proofs.Common.{◌≡◌, ℕ, ◌≤◌, true, false, List, [], ◌∷◌, map, inl, inr, refl, sym, ap, ◌∙◌, subst, Option, Some}
use Rattle.wy_text.specs.Members.{In, Within}
use Rattle.wy_effects.specs.EffSet.{union}
use Rattle.wy_effects.proofs.SetLaws.{In-union-left, In-union-right}
use Rattle.wy_text.specs.declared.fault.Place.{Place}
use Rattle.wy_types.specs.declared.code.Variable.{Variable}
use Rattle.wy_types.specs.declared.code.Variable.TheVariants.{Local}
use Rattle.wy_types.specs.declared.code.BinaryOperator.{BinaryOperator}
use Rattle.wy_types.specs.declared.code.BinaryOperator.TheVariants as binary
use Rattle.wy_types.specs.declared.types.TypeRef.{TypeRef}
use Rattle.wy_types.specs.declared.types.TypeRef.TheVariants as of
use Rattle.wy_types.specs.Code as code
use Rattle.wy_types.specs.Code.{Expr, Number, Quoted, Truth as TruthOf, Nothing as NothingOf, This, Name, Unary, Binary, TextCall, Call, New, Ascribe, Assign, Plain, If, Values, none, more, Block, Last, Then, Val}
use Rattle.wy_types.specs.Program.{Program}
use Rattle.wy_types.specs.Signature.{Signature}
use Rattle.wy_types.specs.Core.{ExprFits, ValueFits, ValuesFit, BlockFits}
use Rattle.wy_rules.specs.GroundTypes.{GroundType, Int as Ints, Bool as Truths, Text as Texts, Nothing as Nothings, Own, ground_reading}
use Rattle.wy_rules.specs.Operators.{Row, two, unary_rows, binary_rows, text_rows, Operation, literal_type}
use Rattle.wy_rules.specs.Derivations.{Derivation, T-Lit, T-Var, T-This, T-Call, T-New, T-If, T-Set, T-Op, T-Asc, T-Sub, Derivations, none as no_derivations, more as one_more, BlockDerivation, Result as OfResult, T-Seq, T-Val, Block-Sub, effects_of}
use Rattle.wy_rules.specs.Typing.{Derives, DerivesAll, DerivesBlock}
use Rattle.wy_meaning.specs.Values.{Value, Int as NumberValue, Truth, Nothing, Text, Object, Thing, World}
use Rattle.wy_meaning.specs.Results.{Result, give, tick, settle, bind}
use Rattle.wy_meaning.specs.Operating.{binary_operator, operated}
use Rattle.wy_meaning.specs.Starts.{literal_in, scope_of_instance}
use Rattle.wy_meaning.specs.Eval.{Sight, Calls, object_value, with_local, object_new, go_on, apply, eval, eval_value, eval_all, eval_block}
use Rattle.wy_device.specs.Editions.{current}
use Rattle.wy_sound.specs.Programs.{program_starts}
use Rattle.wy_sound.proofs.Linked.{IsLinked}
use Rattle.wy_sound.proofs.Lists.{some_same}
use Rattle.wy_sound.proofs.Below.{Below}
use Rattle.wy_sound.specs.TypedHeaps.{Placed, kind_at, fields_at, instance_count, ValueHas, AllHave, WellHeap, ThisHas, SightHas}
use Rattle.wy_sound.proofs.Heaps.{sight_grows, sight_more, value_grows, value_below}
use Rattle.wy_sound.proofs.BaseTypes.{number_kind, truth_kind, text_kind, nothing_kind, own_kind}
use Rattle.wy_sound.proofs.Results.{Sound, Answers, Valued, give_sound, node_sound, tick_sound, more_sound, bind_sound, settle_sound, found_answers}
use Rattle.wy_sound.proofs.Operating.{IsStrict, unary_answers, text_answers, binary_answers}
use Rattle.wy_sound.proofs.Names.{name_value, assigned_answers}
use Rattle.wy_sound.proofs.Applying.{CallsSound, choose_sound, apply_sound, new_answers}

pub left_within : (e g h f : List ℕ) → h ≡ union e g → Within h f → Within e f
left_within e g h f u w = λ a i. w a (subst (λ s. In a s) (sym u) (In-union-left a e g i))

pub right_within : (e g h f : List ℕ) → h ≡ union e g → Within h f → Within g f
right_within e g h f u w = λ a i. w a (subst (λ s. In a s) (sym u) (In-union-right a e g i))

module _ (p : Program) (linked : IsLinked p) (now : ℕ) (early : now ≤ instance_count p) (calls : Calls) (ok : CallsSound p now calls) where
  abbrev Typed : (sight : Sight) → Placed p sight.instance → Option ℕ → Derivation GroundType → code.Value → GroundType → List ℕ → Type 0
  Typed sight pl owner d x t e = Derives (ground_reading p sight.instance pl.instance) pl.scope pl.holds.derivation.locals owner d x t e

  abbrev AllTyped : (sight : Sight) → Placed p sight.instance → Option ℕ → Derivations GroundType → Values → List GroundType → Type 0
  AllTyped sight pl owner ds xs ts = DerivesAll (ground_reading p sight.instance pl.instance) pl.scope pl.holds.derivation.locals owner ds xs ts

  abbrev BlockTyped : (sight : Sight) → Placed p sight.instance → Option ℕ → BlockDerivation GroundType → Block → GroundType → List ℕ → Type 0
  BlockTyped sight pl owner d b t e = DerivesBlock (ground_reading p sight.instance pl.instance) pl.scope pl.holds.derivation.locals owner d b t e

  abbrev Evaluates : List ℕ → World → GroundType → Result Value → Type 0
  Evaluates f w t r = Sound p now f w (Valued p now t) r

  -- literals
  literal_sound : (f : List ℕ) (sight : Sight) (pl : Placed p sight.instance) (w : World) (x : Expr) (u : TypeRef) → literal_type x ≡ Some u →
      WellHeap p now w.objects →
      Evaluates f w (kind_at p sight.instance pl u) (eval p (program_starts p) calls sight x w)
  unfolding eval
  literal_sound f sight pl w (Number q n) u e wh =
      node_sound p now f w _ _ (tick_sound p now f w _ _
      (give_sound p now f w _ (NumberValue n) wh
      (subst (λ u. Below p Ints (kind_at p sight.instance pl u)) (some_same e) (number_kind p sight.instance pl))))
  literal_sound f sight pl w (Quoted q s) u e wh =
      node_sound p now f w _ _ (tick_sound p now f w _ _
      (give_sound p now f w _ (Text s) wh (subst (λ u. Below p Texts (kind_at p sight.instance pl u)) (some_same e) (text_kind p sight.instance pl))))
  literal_sound f sight pl w (TruthOf q b) u e wh =
      node_sound p now f w _ _ (tick_sound p now f w _ _
      (give_sound p now f w _ (Truth b) wh
      (subst (λ u. Below p Truths (kind_at p sight.instance pl u)) (some_same e) (truth_kind p sight.instance pl))))
  literal_sound f sight pl w (NothingOf q) u e wh =
      node_sound p now f w _ _ (tick_sound p now f w _ _
      (give_sound p now f w _ Nothing wh
      (subst (λ u. Below p Nothings (kind_at p sight.instance pl u)) (some_same e) (nothing_kind p sight.instance pl))))
  literal_sound f sight pl w x u e wh = absurd cc

  -- the current object
  this_value : (sight : Sight) (pl : Placed p sight.instance) (h : List Thing) (l : ℕ) → ThisHas p now h sight.instance sight.this (Some l) →
      (v : Value) × (object_value sight.this ≡ Some v) × ValueHas p now h v (kind_at p sight.instance pl (of.Own l))
  this_value sight pl h l t = (
    Object t.0,
    ap object_value t.2,
    (
      t.1,
      t.3,
      t.6,
      subst (λ i. Below p (Own i t.1.literal) (kind_at p sight.instance pl (of.Own l))) (sym t.4)
          (subst (λ k. Below p (Own sight.instance k) (kind_at p sight.instance pl (of.Own l))) (sym t.5) (own_kind p sight.instance pl l)),
    ),
  )

  -- the rest of a binary operation, where the right side is sound in every world that comes after
  module _ (f : List ℕ) (sight : Sight) (pl : Placed p sight.instance) (w : World) (place : Place) (r : Row) (v : Value)
      (right : World → Result Value) where
    abbrev Right : GroundType → Type 0
    Right k = Evaluates f w k (right w)

    abbrev OperandsAre : GroundType → GroundType → Type 0
    OperandsAre j k = map (kind_at p sight.instance pl) r.operands ≡ j ∷ k ∷ []

    strict_sound : (o : BinaryOperator) (j k : GroundType) → IsStrict o → In r (binary_rows o) → OperandsAre j k → WellHeap p now w.objects →
        ValueHas p now w.objects v j → Right k →
        Evaluates f w (kind_at p sight.instance pl r.result)
        (bind (right w) (λ u w. tick (settle (operated current place (binary_operator o) (v ∷ u ∷ []) w))))
    strict_sound o j k s i e wh q right_ok =
        bind_sound p now f w (Valued p now k) (Valued p now (kind_at p sight.instance pl r.result)) _ (right w) right_ok
        (λ u w1 x1 wh1 q1. tick_sound p now f w1 _ _ (settle_sound p now f w1 _ _
        (binary_answers p linked.core now sight.instance pl o r s i w1 place v u wh1
        (subst (λ ks. AllHave p now w1.objects (v ∷ u ∷ []) ks) (sym e) (value_grows p now w.objects w1.objects v j x1.by q, (q1, tt))))))

    -- `&&` and `||` are of truth values
    both_truths : (j k : GroundType) → In r (two of.Bool of.Bool ∷ []) → OperandsAre j k →
        (kind_at p sight.instance pl of.Bool ≡ j) × (kind_at p sight.instance pl of.Bool ≡ k) × (r.result ≡ of.Bool)
    both_truths j k (inl s) e =
        let g : kind_at p sight.instance pl of.Bool ∷ kind_at p sight.instance pl of.Bool ∷ [] ≡ j ∷ k ∷ [] =
        ap (λ (r : Row). map (kind_at p sight.instance pl) r.operands) s ∙ e in
        ((cc), (cc), sym (ap (λ (r : Row). r.result) s))
    both_truths j k (inr i) e = absurd i

    and_sound : (j k : GroundType) → In r (two of.Bool of.Bool ∷ []) → OperandsAre j k → WellHeap p now w.objects → ValueHas p now w.objects v j →
        Right k →
        Evaluates f w (kind_at p sight.instance pl r.result) (go_on current place binary.And v right w)
    and_sound j k i e wh q right_ok =
        let t = both_truths j k i e in
        let bool : GroundType = kind_at p sight.instance pl of.Bool in
        subst (λ u. Evaluates f w (kind_at p sight.instance pl u) (go_on current place binary.And v right w)) (sym t.2)
        (tick_sound p now f w _ _ (choose_sound p now linked.core f sight.instance pl v _ _ bool w
        (subst (λ (k : GroundType). ValueHas p now w.objects v k) (sym t.0) q)
        (bind_sound p now f w (Valued p now bool) (Valued p now bool) (λ u w. tick (give u w)) (right w)
        (subst (λ k. Evaluates f w k (right w)) (sym t.1) right_ok)
        (λ u w1 x1 wh1 q1. tick_sound p now f w1 _ _ (give_sound p now f w1 _ u wh1 q1)))
        (tick_sound p now f w _ _ (give_sound p now f w _ (Truth false) wh (truth_kind p sight.instance pl)))))

    or_sound : (j k : GroundType) → In r (two of.Bool of.Bool ∷ []) → OperandsAre j k → WellHeap p now w.objects → ValueHas p now w.objects v j →
        Right k →
        Evaluates f w (kind_at p sight.instance pl r.result) (go_on current place binary.Or v right w)
    or_sound j k i e wh q right_ok =
        let t = both_truths j k i e in
        let bool : GroundType = kind_at p sight.instance pl of.Bool in
        subst (λ u. Evaluates f w (kind_at p sight.instance pl u) (go_on current place binary.Or v right w)) (sym t.2)
        (tick_sound p now f w _ _ (choose_sound p now linked.core f sight.instance pl v _ _ bool w
        (subst (λ (k : GroundType). ValueHas p now w.objects v k) (sym t.0) q)
        (tick_sound p now f w _ _ (tick_sound p now f w _ _ (give_sound p now f w _ (Truth true) wh (truth_kind p sight.instance pl))))
        (subst (λ k. Evaluates f w k (right w)) (sym t.1) right_ok)))

    go_on_sound : (o : BinaryOperator) (j k : GroundType) → In r (binary_rows o) → OperandsAre j k → WellHeap p now w.objects →
        ValueHas p now w.objects v j → Right k →
        Evaluates f w (kind_at p sight.instance pl r.result) (go_on current place o v right w)
    go_on_sound binary.And j k i e wh q g = and_sound j k i e wh q g
    go_on_sound binary.Or j k i e wh q g = or_sound j k i e wh q g
    go_on_sound binary.Add j k i e wh q g = strict_sound binary.Add j k tt i e wh q g
    go_on_sound binary.Subtract j k i e wh q g = strict_sound binary.Subtract j k tt i e wh q g
    go_on_sound binary.Multiply j k i e wh q g = strict_sound binary.Multiply j k tt i e wh q g
    go_on_sound binary.Divide j k i e wh q g = strict_sound binary.Divide j k tt i e wh q g
    go_on_sound binary.Remainder j k i e wh q g = strict_sound binary.Remainder j k tt i e wh q g
    go_on_sound binary.Join j k i e wh q g = strict_sound binary.Join j k tt i e wh q g
    go_on_sound binary.Less j k i e wh q g = strict_sound binary.Less j k tt i e wh q g
    go_on_sound binary.LessOrEqual j k i e wh q g = strict_sound binary.LessOrEqual j k tt i e wh q g
    go_on_sound binary.Greater j k i e wh q g = strict_sound binary.Greater j k tt i e wh q g
    go_on_sound binary.GreaterOrEqual j k i e wh q g = strict_sound binary.GreaterOrEqual j k tt i e wh q g
    go_on_sound binary.Equal j k i e wh q g = strict_sound binary.Equal j k tt i e wh q g
    go_on_sound binary.NotEqual j k i e wh q g = strict_sound binary.NotEqual j k tt i e wh q g

  ------------------------------------------------------------
  -- All forms

  module _ (f : List ℕ) (owner : Option ℕ) where
    mutual
      unfolding eval

      pub value_sound : (d : Derivation GroundType) (x : code.Value) (t : GroundType) (e : List ℕ) (seen : List Variable) (sight : Sight)
          (pl : Placed p sight.instance) (w : World) →
          Typed sight pl owner d x t e → Within e f → ValueFits p pl.scope owner seen x → SightHas p now w.objects sight pl owner seen →
          WellHeap p now w.objects →
          Evaluates f w t (eval_value p (program_starts p) calls sight x w)
      value_sound (T-Lit place) (Plain x) t e seen sight pl w h v fits sh wh =
          subst (λ k. Evaluates f w k (eval p (program_starts p) calls sight x w)) (sym h.3) (literal_sound f sight pl w x h.0 h.2 wh)
      value_sound (T-Var place) (Plain (Name q name)) t e seen sight pl w h v fits sh wh =
          let r = name_value p linked now early owner seen sight pl w name t sh wh fits h.1 in
          node_sound p now f w _ _ (tick_sound p now f w _ _ (settle_sound p now f w _ _ (found_answers p now w (Valued p now t) _ r.0 r.1 wh r.2)))
      value_sound (T-This place) (Plain (This q)) t e seen sight pl w h v fits sh wh =
          let r = this_value sight pl w.objects h.0 (subst (λ o. ThisHas p now w.objects sight.instance sight.this o) h.2 sh.this) in
          node_sound p now f w _ _ (tick_sound p now f w _ _ (settle_sound p now f w _ _
          (found_answers p now w (Valued p now t) _ r.0 r.1 wh (subst (λ (k : GroundType). ValueHas p now w.objects r.0 k) (sym h.3) r.2))))
      value_sound (T-Call place d k e1 ds) (Plain (Call q x name xs)) t e seen sight pl w h v fits sh wh =
          let m : Signature GroundType = h.0 in
          let rest = right_within e1 (union (effects_of ds) m.effect) e f h.7 v in
          node_sound p now f w _ _
          (bind_sound p now f w (Valued p now k) (Valued p now t) _ _
          (value_sound d (Plain x) k e1 seen sight pl w h.2 (left_within e1 (union (effects_of ds) m.effect) e f h.7 v) fits.0 sh wh)
          (λ r w1 x1 wh1 q1. bind_sound p now f w1 (λ vs w. AllHave p now w.objects vs m.params) (Valued p now t) _ _
          (all_sound ds xs m.params seen sight pl w1 h.5 (left_within (effects_of ds) m.effect (union (effects_of ds) m.effect) f refl rest) fits.1
          (sight_grows p now w.objects w1.objects sight pl owner seen x1 sh) wh1)
          (λ vs w2 x2 wh2 q2. tick_sound p now f w2 _ _ (subst (λ k. Evaluates f w2 k (apply p (program_starts p) calls q r name vs w2)) (sym h.6)
          (apply_sound p now linked.core calls ok f q name vs w2 k m h.4 q2
          (right_within (effects_of ds) m.effect (union (effects_of ds) m.effect) f refl rest) wh2 r
          (value_grows p now w1.objects w2.objects r k x2.by q1))))))
      value_sound (T-New place ds) (Plain (New q l xs)) t e seen sight pl w h v fits sh wh =
          node_sound p now f w _ _
          (bind_sound p now f w (λ vs w. AllHave p now w.objects vs (fields_at p sight.instance pl l)) (Valued p now t) _ _
          (all_sound ds xs (fields_at p sight.instance pl l) seen sight pl w h.1 (subst (λ s. Within s f) h.3 v) fits.4 sh wh)
          (λ vs w1 x1 wh1 q1. tick_sound p now f w1 _ _
          (settle_sound p now f w1 _ _ (subst
          (λ k. Answers p now w1 (Valued p now k)
          (object_new q sight l vs w1 (literal_in (scope_of_instance p (program_starts p) sight.instance) l))) (sym h.2)
          (new_answers p now linked q sight pl owner seen w1
          (sight_grows p now w.objects w1.objects sight pl owner seen x1 sh) wh1 l vs fits.1 fits.3 q1)))))
      value_sound (T-If place d e1 a g b k) (If q test first second) t e seen sight pl w h v fits sh wh =
          let rest = right_within e1 (union g k) e f h.4 v in
          node_sound p now f w _ _
          (bind_sound p now f w (Valued p now (kind_at p sight.instance pl of.Bool)) (Valued p now t) _ _
          (value_sound d (Plain test) (kind_at p sight.instance pl of.Bool) e1 seen sight pl w h.1
          (left_within e1 (union g k) e f h.4 v) fits.0 sh wh)
          (λ r w1 x1 wh1 q1. tick_sound p now f w1 _ _ (choose_sound p now linked.core f sight.instance pl r _ _ t w1 q1
          (bind_sound p now f w1 (Valued p now t) (Valued p now t) (λ u w. tick (give u w)) _
          (block_sound a first t g seen sight pl w1 h.2 (left_within g k (union g k) f refl rest) fits.1
          (sight_grows p now w.objects w1.objects sight pl owner seen x1 sh) wh1)
          (λ u w2 x2 wh2 q2. tick_sound p now f w2 _ _ (give_sound p now f w2 _ u wh2 q2)))
          (block_sound b second t k seen sight pl w1 h.3 (right_within g k (union g k) f refl rest) fits.2
          (sight_grows p now w.objects w1.objects sight pl owner seen x1 sh) wh1))))
      value_sound (T-Set place d) (Plain (Assign q name x)) t e seen sight pl w h v fits sh wh =
          node_sound p now f w _ _
          (bind_sound p now f w (Valued p now (kind_at p sight.instance pl h.0.typ)) (Valued p now t) _ _
          (value_sound d x (kind_at p sight.instance pl h.0.typ) e seen sight pl w h.3 v fits.1 sh wh)
          (λ r w1 x1 wh1 q1. bind_sound p now f w1 (λ v w. Unit {0}) (Valued p now t) (λ u w. tick (give Nothing w)) _
          (tick_sound p now f w1 _ _ (settle_sound p now f w1 _ _
          (assigned_answers p linked now early owner seen sight pl w1 name h.0 r
          (sight_grows p now w.objects w1.objects sight pl owner seen x1 sh) wh1 h.2 q1)))
          (λ u w2 x2 wh2 q2. tick_sound p now f w2 _ _
          (give_sound p now f w2 _ Nothing wh2 (subst (λ (k : GroundType). Below p Nothings k) (sym h.4) (nothing_kind p sight.instance pl))))))
      value_sound (T-Op place r ds) (Plain (Unary q op x)) t e seen sight pl w h v fits sh wh =
          let i : In r (unary_rows op) = subst (λ (o : Operation). In r o.rows) (sym (some_same h.2)) h.3 in
          let g = subst (λ (o : Operation). AllTyped sight pl owner ds o.operands (map (kind_at p sight.instance pl) r.operands))
          (sym (some_same h.2)) h.4 in
          subst (λ k. Evaluates f w k (eval p (program_starts p) calls sight (Unary q op x) w)) (sym h.5)
          (node_sound p now f w _ _ (one_sound ds x (map (kind_at p sight.instance pl) r.operands)
          (kind_at p sight.instance pl r.result) seen sight pl w _ g (subst (λ s. Within s f) h.6 v) fits sh wh
          (λ u w1 wh1 q1. tick_sound p now f w1 _ _
          (settle_sound p now f w1 _ _ (unary_answers p linked.core now sight.instance pl op r i w1 q (u ∷ []) wh1 q1)))))
      value_sound (T-Op place r ds) (Plain (Binary q op x y)) t e seen sight pl w h v fits sh wh =
          let i : In r (binary_rows op) = subst (λ (o : Operation). In r o.rows) (sym (some_same h.2)) h.3 in
          let g = subst (λ (o : Operation). AllTyped sight pl owner ds o.operands (map (kind_at p sight.instance pl) r.operands))
          (sym (some_same h.2)) h.4 in
          subst (λ k. Evaluates f w k (eval p (program_starts p) calls sight (Binary q op x y) w)) (sym h.5)
          (node_sound p now f w _ _ (pair_sound ds q op x y r (map (kind_at p sight.instance pl) r.operands) seen sight pl w refl i g
          (subst (λ s. Within s f) h.6 v) fits sh wh))
      value_sound (T-Op place r ds) (Plain (TextCall q op xs)) t e seen sight pl w h v fits sh wh =
          let i : In r (text_rows op) = subst (λ (o : Operation). In r o.rows) (sym (some_same h.2)) h.3 in
          let g = subst (λ (o : Operation). AllTyped sight pl owner ds o.operands (map (kind_at p sight.instance pl) r.operands))
          (sym (some_same h.2)) h.4 in
          subst (λ k. Evaluates f w k (eval p (program_starts p) calls sight (TextCall q op xs) w)) (sym h.5)
          (node_sound p now f w _ _
          (bind_sound p now f w (λ vs w. AllHave p now w.objects vs (map (kind_at p sight.instance pl) r.operands))
          (Valued p now (kind_at p sight.instance pl r.result)) _ _
          (all_sound ds xs (map (kind_at p sight.instance pl) r.operands) seen sight pl w g (subst (λ s. Within s f) h.6 v) fits.1 sh wh)
          (λ vs w1 x1 wh1 q1. tick_sound p now f w1 _ _
          (settle_sound p now f w1 _ _ (text_answers p linked.core now sight.instance pl op r i w1 q vs wh1 q1)))))
      value_sound (T-Op place r ds) (Plain x) t e seen sight pl w h v fits sh wh = absurd (let none = h.2 in cc)
      value_sound (T-Asc place d) (Plain (Ascribe q x u)) t e seen sight pl w h v fits sh wh =
          node_sound p now f w _ _ (subst (λ k. Evaluates f w k (eval_value p (program_starts p) calls sight x w)) (sym h.2)
          (value_sound d x (kind_at p sight.instance pl u) e seen sight pl w h.1 v fits.0 sh wh))
      value_sound (T-Sub place d k e1) x t e seen sight pl w h v fits sh wh =
          more_sound p now f w (Valued p now k) (Valued p now t) (λ r w q. value_below p now w.objects r k t q (inr h.2)) _
          (value_sound d x k e1 seen sight pl w h.1 (λ a i. v a (h.3 a i)) fits sh wh)
      value_sound d x t e seen sight pl w h v fits sh wh = absurd h

      one_sound : (ds : Derivations GroundType) (x : Expr) (ts : List GroundType) (t : GroundType) (seen : List Variable) (sight : Sight)
          (pl : Placed p sight.instance) (w : World) (g : Value → World → Result Value) →
          AllTyped sight pl owner ds (more (Plain x) none) ts → Within (effects_of ds) f → ExprFits p pl.scope owner seen x →
          SightHas p now w.objects sight pl owner seen → WellHeap p now w.objects →
          ((u : Value) (w1 : World) → WellHeap p now w1.objects → AllHave p now w1.objects (u ∷ []) ts → Evaluates f w1 t (g u w1)) →
          Evaluates f w t (bind (eval p (program_starts p) calls sight x w) g)
      one_sound (one_more d e no_derivations) x (k ∷ []) t seen sight pl w g h v fits sh wh go =
          bind_sound p now f w (Valued p now k) (Valued p now t) g _
          (value_sound d (Plain x) k e seen sight pl w h.0 (left_within e [] (union e []) f refl v) fits sh wh)
          (λ u w1 x1 wh1 q1. go u w1 wh1 (q1, tt))
      one_sound no_derivations x ts t seen sight pl w g h v fits sh wh go = absurd h
      one_sound (one_more d e ds) x [] t seen sight pl w g h v fits sh wh go = absurd h
      one_sound (one_more d e (one_more d' e' ds)) x (k ∷ ks) t seen sight pl w g h v fits sh wh go = absurd h.1
      one_sound (one_more d e no_derivations) x (k ∷ j ∷ ks) t seen sight pl w g h v fits sh wh go = absurd h.1

      pair_sound : (ds : Derivations GroundType) (place : Place) (op : BinaryOperator) (x y : Expr) (r : Row) (ts : List GroundType)
          (seen : List Variable) (sight : Sight) (pl : Placed p sight.instance) (w : World) →
          map (kind_at p sight.instance pl) r.operands ≡ ts → In r (binary_rows op) →
          AllTyped sight pl owner ds (more (Plain x) (more (Plain y) none)) ts → Within (effects_of ds) f →
          ExprFits p pl.scope owner seen x × ExprFits p pl.scope owner seen y → SightHas p now w.objects sight pl owner seen →
          WellHeap p now w.objects →
          Evaluates f w (kind_at p sight.instance pl r.result)
          (bind (eval p (program_starts p) calls sight x w) (λ v w. go_on current place op v (eval p (program_starts p) calls sight y) w))
      pair_sound (one_more d e (one_more d' e' no_derivations)) place op x y r (j ∷ k ∷ []) seen sight pl w m i h v fits sh wh =
          let rest = right_within e (union e' []) (union e (union e' [])) f refl v in
          bind_sound p now f w (Valued p now j) (Valued p now (kind_at p sight.instance pl r.result)) _ _
          (value_sound d (Plain x) j e seen sight pl w h.0 (left_within e (union e' []) (union e (union e' [])) f refl v) fits.0 sh wh)
          (λ u w1 x1 wh1 q1. go_on_sound f sight pl w1 place r u (eval p (program_starts p) calls sight y) op j k i m wh1 q1
          (value_sound d' (Plain y) k e' seen sight pl w1 h.1.0 (left_within e' [] (union e' []) f refl rest) fits.1
          (sight_grows p now w.objects w1.objects sight pl owner seen x1 sh) wh1))
      pair_sound no_derivations place op x y r ts seen sight pl w m i h v fits sh wh = absurd h
      pair_sound (one_more d e ds) place op x y r [] seen sight pl w m i h v fits sh wh = absurd h
      pair_sound (one_more d e no_derivations) place op x y r (j ∷ ks) seen sight pl w m i h v fits sh wh = absurd h.1
      pair_sound (one_more d e (one_more d' e' ds)) place op x y r (j ∷ []) seen sight pl w m i h v fits sh wh = absurd h.1
      pair_sound (one_more d e (one_more d' e' (one_more d'' e'' ds))) place op x y r (j ∷ k ∷ ks) seen sight pl w m i h v fits sh wh = absurd h.1.1
      pair_sound (one_more d e (one_more d' e' no_derivations)) place op x y r (j ∷ k ∷ l ∷ ks) seen sight pl w m i h v fits sh wh = absurd h.1.1

      pub all_sound : (ds : Derivations GroundType) (xs : Values) (ts : List GroundType) (seen : List Variable) (sight : Sight)
          (pl : Placed p sight.instance) (w : World) →
          AllTyped sight pl owner ds xs ts → Within (effects_of ds) f → ValuesFit p pl.scope owner seen xs →
          SightHas p now w.objects sight pl owner seen → WellHeap p now w.objects →
          Sound p now f w (λ vs w. AllHave p now w.objects vs ts) (eval_all p (program_starts p) calls sight xs w)
      all_sound no_derivations none [] seen sight pl w h v fits sh wh = give_sound p now f w (λ vs w. AllHave p now w.objects vs []) [] wh tt
      all_sound (one_more d e ds) (more x xs) (t ∷ ts) seen sight pl w h v fits sh wh =
          bind_sound p now f w (Valued p now t) (λ vs w. AllHave p now w.objects vs (t ∷ ts)) _ _
          (value_sound d x t e seen sight pl w h.0 (left_within e (effects_of ds) (union e (effects_of ds)) f refl v) fits.0 sh wh)
          (λ u w1 x1 wh1 q1. bind_sound p now f w1 (λ vs w. AllHave p now w.objects vs ts) (λ vs w. AllHave p now w.objects vs (t ∷ ts)) _ _
          (all_sound ds xs ts seen sight pl w1 h.1 (right_within e (effects_of ds) (union e (effects_of ds)) f refl v) fits.1
          (sight_grows p now w.objects w1.objects sight pl owner seen x1 sh) wh1)
          (λ vs w2 x2 wh2 q2. give_sound p now f w2 (λ vs w. AllHave p now w.objects vs (t ∷ ts)) (u ∷ vs) wh2
          (value_grows p now w1.objects w2.objects u t x2.by q1, q2)))
      all_sound ds xs ts seen sight pl w h v fits sh wh = absurd h

      pub block_sound : (d : BlockDerivation GroundType) (b : Block) (t : GroundType) (e : List ℕ) (seen : List Variable) (sight : Sight)
          (pl : Placed p sight.instance) (w : World) →
          BlockTyped sight pl owner d b t e → Within e f → BlockFits p pl.scope owner seen b → SightHas p now w.objects sight pl owner seen →
          WellHeap p now w.objects →
          Evaluates f w t (eval_block p (program_starts p) calls sight b w)
      block_sound (OfResult d) (Last x) t e seen sight pl w h v fits sh wh = value_sound d x t e seen sight pl w h v fits sh wh
      block_sound (T-Seq place d e1 ds g) (Then x b) t e seen sight pl w h v fits sh wh =
          bind_sound p now f w (Valued p now (kind_at p sight.instance pl of.Unit)) (Valued p now t) _ _
          (value_sound d x (kind_at p sight.instance pl of.Unit) e1 seen sight pl w h.1 (left_within e1 g e f h.3 v) fits.0 sh wh)
          (λ u w1 x1 wh1 q1. tick_sound p now f w1 _ _
          (block_sound ds b t g seen sight pl w1 h.2 (right_within e1 g e f h.3 v) fits.1
          (sight_grows p now w.objects w1.objects sight pl owner seen x1 sh) wh1))
      block_sound (T-Val place d k e1 ds g) (Val q n typ x b) t e seen sight pl w h v fits sh wh =
          node_sound p now f w _ _
          (bind_sound p now f w (Valued p now k) (Valued p now t) _ _
          (value_sound d x k e1 seen sight pl w h.3 (left_within e1 g e f h.5 v) fits.1 sh wh)
          (λ u w1 x1 wh1 q1. tick_sound p now f w1 _ _
          (block_sound ds b t g (Local n ∷ seen) (with_local sight n u) pl w1 h.4 (right_within e1 g e f h.5 v) fits.2
          (sight_more p now w1.objects sight pl owner seen n u k h.1 q1 (sight_grows p now w.objects w1.objects sight pl owner seen x1 sh)) wh1)))
      block_sound (Block-Sub place ds k e1) b t e seen sight pl w h v fits sh wh =
          more_sound p now f w (Valued p now k) (Valued p now t) (λ r w q. value_below p now w.objects r k t q (inr h.2)) _
          (block_sound ds b k e1 seen sight pl w h.1 (λ a i. v a (h.3 a i)) fits sh wh)
      block_sound d b t e seen sight pl w h v fits sh wh = absurd h
