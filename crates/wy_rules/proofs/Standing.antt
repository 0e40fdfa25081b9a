-- Where the rules of a scope hold no node of it fails: each stands over the least types of the `val`s.
use Rattle.std.proofs.Common.{◌≡◌, ℕ, zero, suc, ◌+◌, List, [], ◌∷◌, ◌++◌, map, inl, inr, refl, sym, ◌∙◌, subst, Option, Some, None, ◌⊎◌, Bool as Truth, true, false, arith}
use Rattle.std.specs.Prelude.{slice_get}
use Rattle.std.specs.List.{range_with_len}
use Rattle.wy_text.specs.declared.fault.Place.{Place}
use Rattle.wy_text.specs.declared.fault.Fault.{Fault}
use Rattle.wy_text.specs.declared.fault.RuleName.{RuleName}
use Rattle.wy_text.specs.declared.fault.RuleName.TheVariants.{TIf}
use Rattle.wy_text.specs.Members.{In}
use Rattle.wy_types.specs.declared.types.TypeRef.{TypeRef}
use Rattle.wy_types.specs.declared.types.TypeRef.TheVariants.{Bool, Unit as Nothing}
use Rattle.wy_types.specs.declared.code.Variable.{Variable}
use Rattle.wy_types.specs.declared.code.Variable.TheVariants.{Local}
use Rattle.wy_types.specs.declared.code.TextOperator.{TextOperator}
use Rattle.wy_types.specs.declared.code.TextOperator.TheVariants.{Size, Part, Code, Byte, Show}
use Rattle.wy_types.specs.Code.{Expr, Number, Quoted, Truth as TruthOf, Nothing as NothingOf, This, Name, Unary, Binary, TextCall, Call, New, Ascribe, Assign, Value, Plain, If, Values, none, more, Block, Last, Then, Val}
use Rattle.wy_types.specs.Program.{Program, Scope}
use Rattle.wy_types.specs.Signature.{Signature, find_method}
use Rattle.wy_types.specs.Subtyping.{ParamsIn}
use Rattle.wy_types.specs.Core.{ExprFits, ValueFits, ValuesFit, BlockFits}
use Rattle.wy_types.specs.Vals.{value_count}
use Rattle.wy_rules.specs.Readings.{IsBelow}
use Rattle.wy_rules.specs.Operators.{Row, text_rows}
use Rattle.wy_rules.specs.Derivations.{Derivations, none as no_derivations, more as one_more}
use Rattle.wy_rules.specs.Typing.{DerivesAll, field_types, var_field, Has, HasSome, AllHave, BlockHas, IsValType}
use Rattle.wy_rules.specs.Acceptance.{reading_of, scope_reading}
use Rattle.wy_rules.specs.Nodes.{Spot, nothing, written, argument, part, Node, node, row_types, written_spots, val_spot, field_spot, argument_spots, expr_nodes, value_nodes, values_nodes, block_nodes}
use Rattle.wy_rules.specs.Failing.{IsExpected, ValueStands, ValStands, FirstFailing, AllPass}
use Rattle.wy_rules.proofs.Forms.{Lawful, Above, bare, block_bare}
use Rattle.wy_rules.proofs.Lawfulness.{annotated_lawful, plain_lawful}
use Rattle.wy_rules.proofs.Least.{raise, split}
use Rattle.wy_rules.proofs.Narrowing.{AllNarrower, ExprReady, ValueReady, ValuesReady, BlockReady, narrow_expr, narrow_value, settled, one_more_seen}
use Rattle.wy_rules.proofs.Needs.{has_under}
use Rattle.wy_rules.proofs.Passing.{left, right}

pub reading_lawful : (p : Program) (k : ℕ) (plain : Truth) → Lawful (reading_of p k plain)
reading_lawful p k true = plain_lawful p k
reading_lawful p k false = annotated_lawful p k

module _ (p : Program) (k : ℕ) (s : Scope) (w : Lawful (scope_reading p k s)) (least given : List (scope_reading p k s).Kind) where
  pub either_fails : (ns ms : List Node) (fault : Fault) → FirstFailing p k s least (ns ++ ms) fault → FirstFailing p k s least ns fault ⊎ (AllPass p k s least ns × FirstFailing p k s least ms fault)
  either_fails [] ms fault h = inr (tt, h)
  either_fails (n ∷ ns) ms fault (inl f) = inl (inl f)
  either_fails (n ∷ ns) ms fault (inr f) =
      elim (either_fails ns ms fault f.1) [
        | inl g ↦ inl (inr (f.0, g))
        | inr g ↦ inr ((f.0, g.0), g.1)
      ]

  module _ (owner : Option ℕ) where
    ------------------------------------------------------------
    -- What passes is ready

    mutual
      pub expr_ready : (x : Expr) → AllPass p k s least (expr_nodes s owner x) → ExprReady (scope_reading p k s) w p s least given owner x
      expr_ready (Number q n) h = tt
      expr_ready (Quoted q bytes) h = tt
      expr_ready (TruthOf q b) h = tt
      expr_ready (NothingOf q) h = tt
      expr_ready (This q) h = tt
      expr_ready (Name q name) h = tt
      expr_ready (Unary q op x) h = expr_ready x (left p k s least (expr_nodes s owner x) _ h)
      expr_ready (Binary q op x z) h =
          (expr_ready x (left p k s least (expr_nodes s owner x) _ h), expr_ready z (left p k s least (expr_nodes s owner z) _ (right p k s least (expr_nodes s owner x) _ h)))
      expr_ready (TextCall q op xs) h = values_ready xs (written_spots (row_types (text_rows op))) (left p k s least (values_nodes s owner (written_spots (row_types (text_rows op))) xs) _ h)
      expr_ready (Call q x name xs) h = (
        expr_ready x (left p k s least (expr_nodes s owner x) _ h),
        values_ready xs (argument_spots x name (value_count xs)) (left p k s least (values_nodes s owner (argument_spots x name (value_count xs)) xs) _ (right p k s least (expr_nodes s owner x) _ h)),
      )
      expr_ready (New q l xs) h = values_ready xs (written_spots (field_types s l)) (left p k s least (values_nodes s owner (written_spots (field_types s l)) xs) _ h)
      expr_ready (Ascribe q x t) h = value_ready x (written t) (left p k s least (value_nodes s owner (written t) x) _ h)
      expr_ready (Assign q name x) h = value_ready x (field_spot (var_field s owner name)) (left p k s least (value_nodes s owner (field_spot (var_field s owner name)) x) _ h)

      pub value_ready : (x : Value) (spot : Spot) → AllPass p k s least (value_nodes s owner spot x) → ValueReady (scope_reading p k s) w p s least given owner x
      value_ready (Plain x) spot h = expr_ready x h
      value_ready (If q test first second) spot h =
          let r = right p k s least (expr_nodes s owner test) _ h in
          let r2 = right p k s least (block_nodes s owner spot first) _ r in
          (expr_ready test (left p k s least (expr_nodes s owner test) _ h), block_ready first spot (left p k s least (block_nodes s owner spot first) _ r), block_ready second spot (left p k s least (block_nodes s owner spot second) _ r2))

      pub values_ready : (xs : Values) (spots : List Spot) → AllPass p k s least (values_nodes s owner spots xs) → ValuesReady (scope_reading p k s) w p s least given owner xs
      values_ready none spots h = tt
      values_ready (more x xs) [] h = (value_ready x nothing (left p k s least (value_nodes s owner nothing x) _ h), values_ready xs [] (right p k s least (value_nodes s owner nothing x) _ h))
      values_ready (more x xs) (spot ∷ spots) h = (value_ready x spot (left p k s least (value_nodes s owner spot x) _ h), values_ready xs spots (right p k s least (value_nodes s owner spot x) _ h))

      pub block_ready : (b : Block) (spot : Spot) → AllPass p k s least (block_nodes s owner spot b) → BlockReady (scope_reading p k s) w p s least given owner b
      block_ready (Last x) spot h = value_ready x spot h
      block_ready (Then x b) spot h =
          (value_ready x (written Nothing) (left p k s least (value_nodes s owner (written Nothing) x) _ h), block_ready b spot (right p k s least (value_nodes s owner (written Nothing) x) _ h).1)
      block_ready (Val q n typ x b) spot h =
          let r = right p k s least (value_nodes s owner (val_spot typ) x) _ h in
          (value_ready x (val_spot typ) (left p k s least (value_nodes s owner (val_spot typ) x) _ h), r.0.settles, block_ready b spot r.1)

    ------------------------------------------------------------
    -- What places expect

    -- a value of this type may stand where the place expects one
    abbrev pub Expects : Spot → (scope_reading p k s).Kind → Type 0
    Expects spot t = (u : (scope_reading p k s).Kind) → IsExpected (scope_reading p k s) s least owner spot (Some u) → Above (scope_reading p k s) t u

    abbrev pub AllExpect : List Spot → List (scope_reading p k s).Kind → Type 0
    AllExpect (spot ∷ spots) (t ∷ ts) = Expects spot t × AllExpect spots ts
    AllExpect spots ts = Unit {0}

    some_same : (a b : (scope_reading p k s).Kind) → ◌≡◌ {A = Option (scope_reading p k s).Kind} (Some a) (Some b) → a ≡ b
    some_same a b e = cc

    expects_nothing : (t : (scope_reading p k s).Kind) → Expects nothing t
    expects_nothing t u e = absurd (cc)

    pub expects_written : (t : TypeRef) → Expects (written t) ((scope_reading p k s).read t)
    expects_written t u e = inl (sym (some_same u ((scope_reading p k s).read t) e))

    pub expects_all : (ts : List TypeRef) → AllExpect (written_spots ts) (map (scope_reading p k s).read ts)
    expects_all [] = tt
    expects_all (t ∷ ts) = (expects_written t, expects_all ts)

    above_above : (a b c : (scope_reading p k s).Kind) → Above (scope_reading p k s) a b → Above (scope_reading p k s) b c → Above (scope_reading p k s) a c
    above_above a b c (inl e) h = subst (λ v. Above (scope_reading p k s) v c) (sym e) h
    above_above a b c (inr g) (inl e) = inr (subst (λ v. IsBelow (scope_reading p k s) a v) e g)
    above_above a b c (inr g) (inr h) = inr (w.below a b c g h)

    expects_val : (typ : Option TypeRef) (x : Value) (t : (scope_reading p k s).Kind) → IsValType (scope_reading p k s) s given owner typ x t → Expects (val_spot typ) t
    expects_val None x t h = expects_nothing t
    expects_val (Some u) x t h = subst (Expects (written u)) (sym h) (expects_written u)

    expects_row : (rows : Row) (r : Row) → In r (rows ∷ []) → AllExpect (written_spots (row_types (rows ∷ []))) (map (scope_reading p k s).read r.operands)
    expects_row a r (inl e) = subst (λ (v : Row). AllExpect (written_spots a.operands) (map (scope_reading p k s).read v.operands)) e (expects_all a.operands)
    expects_row a r (inr z) = absurd z

    expects_text : (op : TextOperator) (r : Row) → In r (text_rows op) → AllExpect (written_spots (row_types (text_rows op))) (map (scope_reading p k s).read r.operands)
    expects_text Size r i = expects_row _ r i
    expects_text Part r i = expects_row _ r i
    expects_text Code r i = expects_row _ r i
    expects_text Byte r i = expects_row _ r i
    expects_text Show r i = expects_row _ r i

    pub params_below : (ps : List ((scope_reading p k s).Kind × (scope_reading p k s).Kind)) (xs ys : List (scope_reading p k s).Kind) (i : ℕ) (a b : (scope_reading p k s).Kind) →
        ParamsIn ps xs ys → slice_get xs i ≡ Some a → slice_get ys i ≡ Some b → In {X = (scope_reading p k s).Kind × (scope_reading p k s).Kind} (b, a) ps
    params_below ps [] ys i a b h e f = absurd (cc)
    params_below ps (x ∷ xs) [] i a b h e f = absurd (cc)
    params_below ps (x ∷ xs) (z ∷ ys) zero a b h e f =
        let P : (scope_reading p k s).Kind → Type 0 = λ v. In {X = (scope_reading p k s).Kind × (scope_reading p k s).Kind} (v, a) ps in
        let Q : (scope_reading p k s).Kind → Type 0 = λ v. In {X = (scope_reading p k s).Kind × (scope_reading p k s).Kind} (z, v) ps in
        subst P (some_same z b f) (subst Q (some_same x a e) h.0)
    params_below ps (x ∷ xs) (z ∷ ys) (suc i) a b h e f = params_below ps xs ys i a b h.1 e f

    -- the arguments of a call, at the parameters of the method that its receiver's least type has
    expects_argument : (x : Expr) (name : List ℕ) (arity : ℕ) (u : (scope_reading p k s).Kind) (e : List ℕ) (m : Signature (scope_reading p k s).Kind) →
        Has (scope_reading p k s) s least owner (Plain x) u e → (scope_reading p k s).IsObject u → find_method name ((scope_reading p k s).methods u) ≡ Some m →
        (i : ℕ) (t : (scope_reading p k s).Kind) → slice_get m.params i ≡ Some t → Expects (argument x name arity i) t
    expects_argument x name arity u e m h o f i t g v c =
        let n = has_under (scope_reading p k s) w c.0 u name m (c.2.least u e h).0 o f in
        let same = same_method c.3.0 n.method (sym c.3.1.found ∙ n.found) in
        let q : slice_get n.method.params i ≡ Some v = subst (λ (d : Signature (scope_reading p k s).Kind). slice_get d.params i ≡ Some v) same c.3.2 in
        inr (record { pairs = n.under.pairs; first = params_below n.under.pairs n.method.params m.params i v t n.under.covers.params q g; closed = n.under.closed })
      where
        same_method : (a b : Signature (scope_reading p k s).Kind) → ◌≡◌ {A = Option (Signature (scope_reading p k s).Kind)} (Some a) (Some b) → a ≡ b
        same_method a b e = cc

    expects_from : (x : Expr) (name : List ℕ) (arity : ℕ) (n : ℕ) (i : ℕ) (ts : List (scope_reading p k s).Kind) →
        ((j : ℕ) (t : (scope_reading p k s).Kind) → slice_get ts j ≡ Some t → Expects (argument x name arity (i + j)) t) → AllExpect (map (λ j. argument x name arity j) (range_with_len i n)) ts
    expects_from x name arity zero i ts h = tt
    expects_from x name arity (suc n) i [] h = tt
    expects_from x name arity (suc n) i (t ∷ ts) h = (
      (let same : i + 0 ≡ i = omega arith in subst (λ v. Expects (argument x name arity v) t) same (h 0 t refl)),
      expects_from x name arity n (i + 1) ts (λ j u e. (let same : i + suc j ≡ i + 1 + j = omega arith in subst (λ v. Expects (argument x name arity v) u) same (h (suc j) u e))),
    )

    ------------------------------------------------------------
    -- No node fails

    -- the node of an expression stands where the expression has a type
    own_stands : (place : Place) (rule : RuleName) (x : Expr) (fault : Fault) → HasSome (scope_reading p k s) s least owner (Plain x) → FirstFailing p k s least (node place rule owner nothing (part (Plain x)) ∷ []) fault → ⊥
    own_stands place rule x fault h (inl f) = f.stands_not h
    own_stands place rule x fault h (inr f) = f.1

    -- the first of given values and the others, whatever their types are
    pub record Parts (x : Value) (xs : Values) : Type 0 where
      pub typ : (scope_reading p k s).Kind
      pub effect : List ℕ
      pub first : Has (scope_reading p k s) s given owner x typ effect
      pub types : List (scope_reading p k s).Kind
      pub effects : List ℕ
      pub others : AllHave (scope_reading p k s) s given owner xs types effects

    parts : (x : Value) (xs : Values) (ts : List (scope_reading p k s).Kind) (f : List ℕ) → AllHave (scope_reading p k s) s given owner (more x xs) ts f → Parts x xs
    parts x xs [] f h = absurd (nothing_given h.derivations h.derives)
      where
        nothing_given : (ds : Derivations (scope_reading p k s).Kind) → DerivesAll (scope_reading p k s) s given owner ds (more x xs) [] → ⊥
        nothing_given no_derivations h = h
        nothing_given (one_more d e ds) h = h
    parts x xs (t ∷ ts) f h =
        let c = split (scope_reading p k s) w s given owner x xs t ts f h in
        record { typ = t; effect = c.effect; first = c.first; types = ts; effects = c.effects; others = c.others }

    -- the expression has a type over the least types
    some_least : (x : Expr) (seen : List Variable) → ExprFits p s owner seen x → AllNarrower (scope_reading p k s) w p s least given seen → (t : (scope_reading p k s).Kind) (f : List ℕ) →
        Has (scope_reading p k s) s given owner (Plain x) t f → ExprReady (scope_reading p k s) w p s least given owner x → HasSome (scope_reading p k s) s least owner (Plain x)
    some_least x seen fit ok t f h ready = let n = narrow_expr (scope_reading p k s) w p s least given owner x seen fit ok ready t f h in record { typ = t; effect = n.effect; has = n.has }

    val_stands : (typ : Option TypeRef) (x : Value) (t : (scope_reading p k s).Kind) (e : List ℕ) → IsValType (scope_reading p k s) s given owner typ x t → Has (scope_reading p k s) s least owner x t e → ValStands (scope_reading p k s) s least owner typ x
    val_stands None (If q test first second) t e v h = absurd v
    val_stands None (Plain x) t e v h = record { typ = t; effect = e; has = h }
    val_stands (Some u) x t e v h = record { effect = e; has = subst (λ z. Has (scope_reading p k s) s least owner x z e) v h }

    none_given : (x : Value) (xs : Values) (f : List ℕ) → AllHave (scope_reading p k s) s given owner (more x xs) [] f → ⊥
    none_given x xs f h = nothing_given h.derivations h.derives
      where
        nothing_given : (ds : Derivations (scope_reading p k s).Kind) → DerivesAll (scope_reading p k s) s given owner ds (more x xs) [] → ⊥
        nothing_given no_derivations h = h
        nothing_given (one_more d e ds) h = h

    -- an `if` at the type that its place expects, or where none is expected
    choice_stands : (q : Place) (test : Expr) (first second : Block) (spot : Spot) (seen : List Variable) → ValueFits p s owner seen (If q test first second) → AllNarrower (scope_reading p k s) w p s least given seen →
        (t : (scope_reading p k s).Kind) (f : List ℕ) → Expects spot t → Has (scope_reading p k s) s given owner (If q test first second) t f → ValueReady (scope_reading p k s) w p s least given owner (If q test first second) →
        (fault : Fault) → FirstFailing p k s least (node q TIf owner spot (part (If q test first second)) ∷ []) fault → ⊥
    choice_stands q test first second spot seen fit ok t f expects h ready fault (inr g) = g.1
    choice_stands q test first second spot seen fit ok t f expects h ready fault (inl g) =
        let n = narrow_value (scope_reading p k s) w p s least given owner (If q test first second) seen fit ok ready t f h in
        at_expected g.expected g.spot g.stands_not n.effect n.has
      where
        at_expected : (o : Option (scope_reading p k s).Kind) → IsExpected (scope_reading p k s) s least owner spot o → (ValueStands (scope_reading p k s) s least owner o (If q test first second) → ⊥) →
            (e : List ℕ) → Has (scope_reading p k s) s least owner (If q test first second) t e → ⊥
        at_expected None i m e h = m tt
        at_expected (Some u) i m e h = m (record { effect = e; has = raise (scope_reading p k s) w s least owner (If q test first second) t u e (expects u i) h })

    mutual
      expr_stands : (x : Expr) (seen : List Variable) → ExprFits p s owner seen x → AllNarrower (scope_reading p k s) w p s least given seen → (t : (scope_reading p k s).Kind) (f : List ℕ) →
          Has (scope_reading p k s) s given owner (Plain x) t f → (fault : Fault) → FirstFailing p k s least (expr_nodes s owner x) fault → ⊥
      expr_stands (Number q n) seen fit ok t f h fault g = g
      expr_stands (Quoted q bytes) seen fit ok t f h fault g = g
      expr_stands (TruthOf q b) seen fit ok t f h fault g = g
      expr_stands (NothingOf q) seen fit ok t f h fault g = g
      expr_stands (This q) seen fit ok t f h fault g = g
      expr_stands (Name q name) seen fit ok t f h fault g = g
      expr_stands (Unary q op x) seen fit ok t f h fault g =
          let b = bare (scope_reading p k s) w s given owner (Plain (Unary q op x)) t f h in
          let c = parts (Plain x) none (map (scope_reading p k s).read b.formed.0.operands) b.effect b.formed.2 in
          elim (either_fails (expr_nodes s owner x) _ fault g) [
            | inl e ↦ expr_stands x seen fit ok c.typ c.effect c.first fault e
            | inr e ↦ own_stands q _ (Unary q op x) fault (some_least (Unary q op x) seen fit ok t f h (expr_ready x e.0)) e.1
          ]
      expr_stands (Binary q op x z) seen fit ok t f h fault g =
          let b = bare (scope_reading p k s) w s given owner (Plain (Binary q op x z)) t f h in
          let c = parts (Plain x) (more (Plain z) none) (map (scope_reading p k s).read b.formed.0.operands) b.effect b.formed.2 in
          let d = parts (Plain z) none c.types c.effects c.others in
          elim (either_fails (expr_nodes s owner x) _ fault g) [
            | inl e ↦ expr_stands x seen fit.0 ok c.typ c.effect c.first fault e
            | inr e ↦ elim (either_fails (expr_nodes s owner z) _ fault e.1) [
              | inl i ↦ expr_stands z seen fit.1 ok d.typ d.effect d.first fault i
              | inr i ↦ own_stands q _ (Binary q op x z) fault (some_least (Binary q op x z) seen fit ok t f h (expr_ready x e.0, expr_ready z i.0)) i.1
            ]
          ]
      expr_stands (TextCall q op xs) seen fit ok t f h fault g =
          let b = bare (scope_reading p k s) w s given owner (Plain (TextCall q op xs)) t f h in
          elim (either_fails (values_nodes s owner (written_spots (row_types (text_rows op))) xs) _ fault g) [
            | inl e ↦ values_stand xs (written_spots (row_types (text_rows op))) seen fit.1 ok (map (scope_reading p k s).read b.formed.0.operands) b.effect (expects_text op b.formed.0 b.formed.1) b.formed.2 fault e
            | inr e ↦ own_stands q _ (TextCall q op xs) fault (some_least (TextCall q op xs) seen fit ok t f h (values_ready xs (written_spots (row_types (text_rows op))) e.0)) e.1
          ]
      expr_stands (Call q x name xs) seen fit ok t f h fault g =
          let b = bare (scope_reading p k s) w s given owner (Plain (Call q x name xs)) t f h in
          let c = b.formed in
          elim (either_fails (expr_nodes s owner x) _ fault g) [
            | inl e ↦ expr_stands x seen fit.0 ok c.0 c.1 c.4 fault e
            | inr e ↦ (
                let r = narrow_expr (scope_reading p k s) w p s least given owner x seen fit.0 ok (expr_ready x e.0) c.0 c.1 c.4 in
                let spots = expects_from x name (value_count xs) (value_count xs) 0 c.2.params (λ j u i.
                let same : j ≡ 0 + j = omega arith in
                subst (λ v. Expects (argument x name (value_count xs) v) u) same (expects_argument x name (value_count xs) c.0 r.effect c.2 r.has c.5 c.6 j u i)) in
                elim (either_fails (values_nodes s owner (argument_spots x name (value_count xs)) xs) _ fault e.1) [
                  | inl i ↦ values_stand xs (argument_spots x name (value_count xs)) seen fit.1 ok c.2.params c.3 spots c.7 fault i
                  | inr i ↦ own_stands q _ (Call q x name xs) fault (some_least (Call q x name xs) seen fit ok t f h (expr_ready x e.0, values_ready xs (argument_spots x name (value_count xs)) i.0)) i.1
                ]
                )
          ]
      expr_stands (New q l xs) seen fit ok t f h fault g =
          let b = bare (scope_reading p k s) w s given owner (Plain (New q l xs)) t f h in
          elim (either_fails (values_nodes s owner (written_spots (field_types s l)) xs) _ fault g) [
            | inl e ↦ values_stand xs (written_spots (field_types s l)) seen fit.4 ok (map (scope_reading p k s).read (field_types s l)) b.effect (expects_all (field_types s l)) b.formed.0 fault e
            | inr e ↦ own_stands q _ (New q l xs) fault (some_least (New q l xs) seen fit ok t f h (values_ready xs (written_spots (field_types s l)) e.0)) e.1
          ]
      expr_stands (Ascribe q x u) seen fit ok t f h fault g =
          let b = bare (scope_reading p k s) w s given owner (Plain (Ascribe q x u)) t f h in
          elim (either_fails (value_nodes s owner (written u) x) _ fault g) [
            | inl e ↦ value_stands x (written u) seen fit.0 ok ((scope_reading p k s).read u) b.effect (expects_written u) b.formed.0 fault e
            | inr e ↦ own_stands q _ (Ascribe q x u) fault (some_least (Ascribe q x u) seen fit ok t f h (value_ready x (written u) e.0)) e.1
          ]
      expr_stands (Assign q name x) seen fit ok t f h fault g =
          let b = bare (scope_reading p k s) w s given owner (Plain (Assign q name x)) t f h in
          let v = b.formed.0 in
          elim (either_fails (value_nodes s owner (field_spot (var_field s owner name)) x) _ fault g) [
            | inl e ↦ value_stands x (field_spot (var_field s owner name)) seen fit.1 ok ((scope_reading p k s).read v.typ) b.effect
                (subst (λ o. Expects (field_spot o) ((scope_reading p k s).read v.typ)) (sym b.formed.1) (expects_written v.typ)) b.formed.2 fault e
            | inr e ↦ own_stands q _ (Assign q name x) fault (some_least (Assign q name x) seen fit ok t f h (value_ready x (field_spot (var_field s owner name)) e.0)) e.1
          ]

      value_stands : (x : Value) (spot : Spot) (seen : List Variable) → ValueFits p s owner seen x → AllNarrower (scope_reading p k s) w p s least given seen → (t : (scope_reading p k s).Kind) (f : List ℕ) → Expects spot t →
          Has (scope_reading p k s) s given owner x t f → (fault : Fault) → FirstFailing p k s least (value_nodes s owner spot x) fault → ⊥
      value_stands (Plain x) spot seen fit ok t f expects h fault g = expr_stands x seen fit ok t f h fault g
      value_stands (If q test first second) spot seen fit ok t f expects h fault g =
          let b = bare (scope_reading p k s) w s given owner (If q test first second) t f h in
          let c = b.formed in
          let inside : Expects spot b.typ = λ u i. above_above b.typ t u b.above (expects u i) in
          elim (either_fails (expr_nodes s owner test) _ fault g) [
            | inl e ↦ expr_stands test seen fit.0 ok ((scope_reading p k s).read Bool) c.0 c.3 fault e
            | inr e ↦ elim (either_fails (block_nodes s owner spot first) _ fault e.1) [
              | inl i ↦ block_stands first spot seen fit.1 ok b.typ c.1 inside c.4 fault i
              | inr i ↦ elim (either_fails (block_nodes s owner spot second) _ fault i.1) [
                | inl j ↦ block_stands second spot seen fit.2 ok b.typ c.2 inside c.5 fault j
                | inr j ↦ choice_stands q test first second spot seen fit ok t f expects h (expr_ready test e.0, block_ready first spot i.0, block_ready second spot j.0) fault j.1
              ]
            ]
          ]

      pub values_stand : (xs : Values) (spots : List Spot) (seen : List Variable) → ValuesFit p s owner seen xs → AllNarrower (scope_reading p k s) w p s least given seen → (ts : List (scope_reading p k s).Kind) (f : List ℕ) → AllExpect spots ts →
          AllHave (scope_reading p k s) s given owner xs ts f → (fault : Fault) → FirstFailing p k s least (values_nodes s owner spots xs) fault → ⊥
      values_stand none spots seen fit ok ts f expects h fault g = g
      values_stand (more x xs) [] seen fit ok ts f expects h fault g =
          let c = parts x xs ts f h in
          elim (either_fails (value_nodes s owner nothing x) _ fault g) [
            | inl e ↦ value_stands x nothing seen fit.0 ok c.typ c.effect (expects_nothing c.typ) c.first fault e
            | inr e ↦ values_stand xs [] seen fit.1 ok c.types c.effects tt c.others fault e.1
          ]
      values_stand (more x xs) (spot ∷ spots) seen fit ok [] f expects h fault g = absurd (none_given x xs f h)
      values_stand (more x xs) (spot ∷ spots) seen fit ok (t ∷ ts) f expects h fault g =
          let c = split (scope_reading p k s) w s given owner x xs t ts f h in
          elim (either_fails (value_nodes s owner spot x) _ fault g) [
            | inl e ↦ value_stands x spot seen fit.0 ok t c.effect expects.0 c.first fault e
            | inr e ↦ values_stand xs spots seen fit.1 ok ts c.effects expects.1 c.others fault e.1
          ]

      pub block_stands : (b : Block) (spot : Spot) (seen : List Variable) → BlockFits p s owner seen b → AllNarrower (scope_reading p k s) w p s least given seen → (t : (scope_reading p k s).Kind) (f : List ℕ) → Expects spot t →
          BlockHas (scope_reading p k s) s given owner b t f → (fault : Fault) → FirstFailing p k s least (block_nodes s owner spot b) fault → ⊥
      block_stands (Last x) spot seen fit ok t f expects h fault g =
          let b = block_bare (scope_reading p k s) w s given owner (Last x) t f h in
          value_stands x spot seen fit ok b.typ b.effect (λ u i. above_above b.typ t u b.above (expects u i)) b.formed fault g
      block_stands (Then x rest) spot seen fit ok t f expects h fault g =
          let b = block_bare (scope_reading p k s) w s given owner (Then x rest) t f h in
          let c = b.formed in
          elim (either_fails (value_nodes s owner (written Nothing) x) _ fault g) [
            | inl e ↦ value_stands x (written Nothing) seen fit.0 ok ((scope_reading p k s).read Nothing) c.0 (expects_written Nothing) c.2 fault e
            | inr e ↦ (
                let n = narrow_value (scope_reading p k s) w p s least given owner x seen fit.0 ok (value_ready x (written Nothing) e.0) ((scope_reading p k s).read Nothing) c.0 c.2 in
                elim e.1 [
                  | inl i ↦ i.stands_not (record { effect = n.effect; has = n.has })
                  | inr i ↦ block_stands rest spot seen fit.1 ok b.typ c.1 (λ u j. above_above b.typ t u b.above (expects u j)) c.3 fault i.1
                ]
                )
          ]
      block_stands (Val q n typ x rest) spot seen fit ok t f expects h fault g =
          let b = block_bare (scope_reading p k s) w s given owner (Val q n typ x rest) t f h in
          let c = b.formed in
          elim (either_fails (value_nodes s owner (val_spot typ) x) _ fault g) [
            | inl e ↦ value_stands x (val_spot typ) seen fit.1 ok c.0 c.1 (expects_val typ x c.0 c.4) c.5 fault e
            | inr e ↦ (
                let l = narrow_value (scope_reading p k s) w p s least given owner x seen fit.1 ok (value_ready x (val_spot typ) e.0) c.0 c.1 c.5 in
                elim e.1 [
                  | inl i ↦ i.stands_not (val_stands typ x c.0 l.effect c.4 l.has)
                  | inr i ↦ (
                      let v = settled (scope_reading p k s) w p s least given owner n typ x c.0 c.1 c.3 c.4 i.0.settles l.effect l.has l.within in
                      block_stands rest spot (Local n ∷ seen) fit.2 (one_more_seen (scope_reading p k s) w p s least given owner n seen v.narrower ok) b.typ c.2 (λ u j. above_above b.typ t u b.above (expects u j)) c.6 fault i.1
                      )
                ]
                )
          ]
