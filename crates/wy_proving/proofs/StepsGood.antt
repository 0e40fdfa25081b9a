-- Of a derivation of a scope that names types of a property alone, and in which each T-Sub gives the effect of its part: the steps
-- give such types, and each T-Sub gives a supertype and an effect that can stand.
use Rattle.std.proofs.Common.{◌≡◌, ℕ, List, [], ◌∷◌, ◌++◌, map, inl, inr, refl, sym, subst, Option, Some, None, true, false}
use Rattle.std.specs.Prelude.{if◌then◌else◌}
use Rattle.wy_text.specs.Members.{In}
use Rattle.wy_effects.specs.EffSet.{union}
use Rattle.wy_types.specs.declared.types.TypeRef.TheVariants.{Bool, Text, Unit as Nothing}
use Rattle.wy_types.specs.declared.code.UnaryOperator.{UnaryOperator}
use Rattle.wy_types.specs.declared.code.UnaryOperator.TheVariants.{Negate, Not}
use Rattle.wy_types.specs.declared.code.BinaryOperator.{BinaryOperator}
use Rattle.wy_types.specs.declared.code.BinaryOperator.TheVariants.{Add, Subtract, Multiply, Divide, Remainder, Join, Less, LessOrEqual, Greater, GreaterOrEqual, Equal, NotEqual, And, Or}
use Rattle.wy_types.specs.declared.code.TextOperator.{TextOperator}
use Rattle.wy_types.specs.declared.code.TextOperator.TheVariants.{Size, Part, Code, Byte, Show}
use Rattle.wy_types.specs.declared.code.Binding.{Binding}
use Rattle.wy_types.specs.declared.code.Binding.TheVariants as to
use Rattle.wy_types.specs.declared.resolved.Field.{Field}
use Rattle.wy_types.specs.Code.{Expr, Number, Quoted, Truth as TruthOf, Nothing as NothingOf, This, Name, Unary, Binary, TextCall, Call, New, Ascribe, Assign, Value, Plain, If, Values, none, more, Block, Last, Then, Val}
use Rattle.wy_types.specs.Program.{Scope, Body, Start, Init, Run}
use Rattle.wy_types.specs.Signature.{Signature, find_method}
use Rattle.wy_types.proofs.Closing.{find_in}
use Rattle.wy_rules.specs.Readings.{Reading, IsBelow}
use Rattle.wy_rules.specs.Operators.{Row, Operation, two, equality_rows, unary_rows, binary_rows, text_rows, operation_of}
use Rattle.wy_rules.specs.Derivations.{Derivation, T-Lit, T-Var, T-This, T-Call, T-New, T-If, T-Set, T-Op, T-Asc, T-Sub, Derivations, none as no_derivations, more as one_more, BlockDerivation, Result, T-Seq, T-Val, Block-Sub, BodyDerivation, T-Body, T-Body-Init, ScopeDerivation, effects_of}
use Rattle.wy_rules.specs.Typing.{field_types, field_at, if_mutable, var_field, Derives, DerivesAll, DerivesBlock, DerivesStart, DerivesBodies, DerivesScope}
use Rattle.wy_rules.specs.Canonical.{method_params, field_type}
use Rattle.wy_rules.specs.Reached.{Each, Names, NamesAll, NamesBlock, NamesBody, NamesBodies, NamesScope}
use Rattle.wy_rules.proofs.Reaching.{IsKept}
use Rattle.wy_proving.specs.Steps.{Step, operands_of, value_steps, values_steps, block_steps, start_steps, body_steps, bodies_steps, scope_steps}
use Rattle.wy_proving.proofs.EffectsKept.{Keeps, KeepsAll, KeepsBlock, KeepsBody, KeepsBodies}

-- what each of two lists has, both have
pub each_both : {X : Type 0} (P : X → Type 0) (xs zs : List X) → Each P xs → Each P zs → Each P (xs ++ zs)
each_both P [] zs h g = g
each_both P (x ∷ xs) zs h g = (h.0, each_both P xs zs h.1 g)

-- the effects that can stand: none, the union of two, and those of methods of types of the property
pub record AreEffects (y : Reading) (P : y.Kind → Type 0) (E : List ℕ → Type 0) : Type 0 where
  pub empty : E []
  pub both : (e f : List ℕ) → E e → E f → E (union e f)
  pub method : (k : y.Kind) → P k → (m : Signature y.Kind) → In m (y.methods k) → E m.effect

module _ (y : Reading) (P : y.Kind → Type 0) (E : List ℕ → Type 0) where
  -- a type that is given has the property
  abbrev pub TypeIsGood : Option y.Kind → Type 0
  TypeIsGood None = Unit {0}
  TypeIsGood (Some t) = P t

  -- T-Sub leads from a type of the property to a supertype of it
  abbrev pub SubIsGood : Option y.Kind → Option y.Kind → List ℕ → Type 0
  SubIsGood None t e = Unit {0}
  SubIsGood (Some k) None e = ⊥
  SubIsGood (Some k) (Some t) e = IsBelow y k t × P k × P t × E e

  -- the type of a step has the property, and a T-Sub leads to a supertype, with an effect that can stand
  abbrev pub IsGood : Step y.Kind → Type 0
  IsGood st = TypeIsGood st.typ × SubIsGood st.below st.typ st.effect

  abbrev AreGood : List (Step y.Kind) → Type 0
  AreGood sts = Each IsGood sts

  then_good : (xs : List (Step y.Kind)) (st : Step y.Kind) → AreGood xs → IsGood st → AreGood (xs ++ st ∷ [])
  then_good xs st h g = each_both IsGood xs (st ∷ []) h (g, tt)

  module _ (s : Scope) (c : IsKept y s P) where
    ------------------------------------------------------------
    -- What premises look up has the property

    one_row : (a r : Row) → Each P (map y.read a.operands) → In r (a ∷ []) → Each P (map y.read r.operands)
    one_row a r h (inl e) = subst (λ (v : Row). Each P (map y.read v.operands)) e h
    one_row a r h (inr i) = absurd i

    equal_rows : (r : Row) → In r equality_rows → Each P (map y.read r.operands)
    equal_rows r (inl e) = subst (λ (v : Row). Each P (map y.read v.operands)) e (c.number, (c.number, tt))
    equal_rows r (inr (inl e)) = subst (λ (v : Row). Each P (map y.read v.operands)) e (c.truth, (c.truth, tt))
    equal_rows r (inr (inr i)) = one_row (two Text Bool) r (c.text, (c.text, tt)) i

    unary_kept : (op : UnaryOperator) (r : Row) → In r (unary_rows op) → Each P (map y.read r.operands)
    unary_kept Negate r i = one_row _ r (c.number, tt) i
    unary_kept Not r i = one_row _ r (c.truth, tt) i

    text_kept : (op : TextOperator) (r : Row) → In r (text_rows op) → Each P (map y.read r.operands)
    text_kept Size r i = one_row _ r (c.text, tt) i
    text_kept Part r i = one_row _ r (c.text, (c.number, (c.number, tt))) i
    text_kept Code r i = one_row _ r (c.text, (c.number, tt)) i
    text_kept Byte r i = one_row _ r (c.number, tt) i
    text_kept Show r i = one_row _ r (c.number, tt) i

    binary_kept : (op : BinaryOperator) (r : Row) → In r (binary_rows op) → Each P (map y.read r.operands)
    binary_kept Add r i = one_row _ r (c.number, (c.number, tt)) i
    binary_kept Subtract r i = one_row _ r (c.number, (c.number, tt)) i
    binary_kept Multiply r i = one_row _ r (c.number, (c.number, tt)) i
    binary_kept Divide r i = one_row _ r (c.number, (c.number, tt)) i
    binary_kept Remainder r i = one_row _ r (c.number, (c.number, tt)) i
    binary_kept Join r i = one_row _ r (c.text, (c.text, tt)) i
    binary_kept Less r i = one_row _ r (c.number, (c.number, tt)) i
    binary_kept LessOrEqual r i = one_row _ r (c.number, (c.number, tt)) i
    binary_kept Greater r i = one_row _ r (c.number, (c.number, tt)) i
    binary_kept GreaterOrEqual r i = one_row _ r (c.number, (c.number, tt)) i
    binary_kept Equal r i = equal_rows r i
    binary_kept NotEqual r i = equal_rows r i
    binary_kept And r i = one_row _ r (c.truth, (c.truth, tt)) i
    binary_kept Or r i = one_row _ r (c.truth, (c.truth, tt)) i

    some_operation : (a b : Operation) → ◌≡◌ {A = Option Operation} (Some a) (Some b) → a ≡ b
    some_operation a b e = cc

    abbrev RowsKept : Operation → Type 0
    RowsKept o = (r : Row) → In r o.rows → Each P (map y.read r.operands)

    operation_kept : (x : Expr) (o : Operation) → operation_of x ≡ Some o → RowsKept o
    operation_kept (Unary q op x) o e = subst RowsKept (some_operation _ o e) (unary_kept op)
    operation_kept (Binary q op x v) o e = subst RowsKept (some_operation _ o e) (binary_kept op)
    operation_kept (TextCall q op xs) o e = subst RowsKept (some_operation _ o e) (text_kept op)
    operation_kept (Number q i) o e = absurd (cc)
    operation_kept (Quoted q bytes) o e = absurd (cc)
    operation_kept (TruthOf q b) o e = absurd (cc)
    operation_kept (NothingOf q) o e = absurd (cc)
    operation_kept (This q) o e = absurd (cc)
    operation_kept (Name q name) o e = absurd (cc)
    operation_kept (Call q x name xs) o e = absurd (cc)
    operation_kept (New q l xs) o e = absurd (cc)
    operation_kept (Ascribe q x t) o e = absurd (cc)
    operation_kept (Assign q name x) o e = absurd (cc)

    mutable_kept : (owner : Option ℕ) (i : ℕ) (o : Option Field) (v : Field) → field_at s owner i ≡ o → if_mutable o ≡ Some v → P (y.read v.typ)
    mutable_kept owner i None v e f = absurd (cc)
    mutable_kept owner i (Some g) v e f =
        elim g.mutable as (λ b. (if b then Some g else None) ≡ Some v → P (y.read v.typ)) [
          | true ↦ λ a. (let same : g ≡ v = cc in subst (λ (u : Field). P (y.read u.typ)) same (c.field owner i g e))
          | false ↦ λ a. absurd (cc)
        ] f

    var_kept : (owner : Option ℕ) (name : Binding) (v : Field) → var_field s owner name ≡ Some v → P (y.read v.typ)
    var_kept owner (to.Variable a) v e = absurd (cc)
    var_kept owner (to.Field i) v e = mutable_kept owner i (field_at s owner i) v refl e
    var_kept owner (to.Own k) v e = absurd (cc)

    module _ (effects : AreEffects y P E) (answer : (b : Body) → In b s.bodies → P (y.read b.signature.result)) (locals : List y.Kind) where
      module _ (owner : Option ℕ) where
        mutual
          value_good : (d : Derivation y.Kind) (x : Value) (t : y.Kind) (f : List ℕ) → Derives y s locals owner d x t f → Names P d → Keeps d f → P t → AreGood (value_steps y s owner d x t f) × E f
          value_good (T-Lit q) (Plain x) t f h n e a = (((a, tt), tt), subst E (sym h.4) effects.empty)
          value_good (T-Var q) (Plain (Name i name)) t f h n e a = (((a, tt), tt), subst E (sym h.2) effects.empty)
          value_good (T-This q) (Plain (This i)) t f h n e a = (((a, tt), tt), subst E (sym h.4) effects.empty)
          value_good (T-Call q d k g ds) (Plain (Call i x name xs)) t f h n e a =
              let found = find_in name (y.methods k) h.0 h.4 in
              let r = value_good d (Plain x) k g h.2 n.0 e.0 n.1 in
              let v = all_good ds xs h.0.params h.5 n.2 e.1 (c.params k n.1 h.0 found) in
              let passed = subst (λ o. AreGood (values_steps y s owner ds xs (method_params y o))) (sym h.4) v.0 in (
                each_both IsGood (value_steps y s owner d (Plain x) k g) _ r.0 (then_good (values_steps y s owner ds xs (method_params y (find_method name (y.methods k)))) _ passed (a, tt)),
                subst E (sym h.7) (effects.both g _ r.1 (effects.both (effects_of ds) h.0.effect v.1 (effects.method k n.1 h.0 found))),
              )
          value_good (T-New q ds) (Plain (New i l xs)) t f h n e a =
              let v = all_good ds xs (map y.read (field_types s l)) h.1 n e (c.fields l) in
              (then_good (values_steps y s owner ds xs (map y.read (field_types s l))) _ v.0 (a, tt), subst E (sym h.3) v.1)
          value_good (T-If q d g u i v j) (If o test first second) t f h n e a =
              let r = value_good d (Plain test) (y.read Bool) g h.1 n.0 e.0 c.truth in
              let one = block_good u first t i h.2 n.1 e.1 a in
              let other = block_good v second t j h.3 n.2 e.2 a in (
                each_both IsGood (value_steps y s owner d (Plain test) (y.read Bool) g) _ r.0
                    (each_both IsGood (block_steps y s owner u first t i) _ one.0 (then_good (block_steps y s owner v second t j) _ other.0 (a, tt))),
                subst E (sym h.4) (effects.both g _ r.1 (effects.both i j one.1 other.1)),
              )
          value_good (T-Set q d) (Plain (Assign i name x)) t f h n e a =
              let r = value_good d x (y.read h.0.typ) f h.3 n e (var_kept owner name h.0 h.2) in
              let put = subst (λ o. AreGood (value_steps y s owner d x (field_type y o) f)) (sym h.2) r.0 in
              (then_good (value_steps y s owner d x (field_type y (var_field s owner name)) f) _ put (a, tt), r.1)
          value_good (T-Op q r ds) (Plain x) t f h n e a =
              let v = all_good ds h.0.operands (map y.read r.operands) h.4 n e (operation_kept x h.0 h.2 r h.3) in
              let put = subst (λ o. AreGood (values_steps y s owner ds (operands_of o) (map y.read r.operands))) (sym h.2) v.0 in
              (then_good (values_steps y s owner ds (operands_of (operation_of x)) (map y.read r.operands)) _ put (a, tt), subst E (sym h.6) v.1)
          value_good (T-Asc q d) (Plain (Ascribe i x u)) t f h n e a =
              let r = value_good d x (y.read u) f h.1 n e (subst P h.2 a) in
              (then_good (value_steps y s owner d x (y.read u) f) _ r.0 (a, tt), r.1)
          value_good (T-Sub q d k g) x t f h n e a =
              let r = value_good d x k g h.1 n.0 e.1 n.1 in
              let ok = subst E e.0 r.1 in
              (then_good (value_steps y s owner d x k g) _ r.0 (a, (h.2, n.1, a, ok)), ok)
          value_good d x t f h n e a = absurd h

          all_good : (ds : Derivations y.Kind) (xs : Values) (ts : List y.Kind) → DerivesAll y s locals owner ds xs ts → NamesAll P ds → KeepsAll ds → Each P ts → AreGood (values_steps y s owner ds xs ts) × E (effects_of ds)
          all_good no_derivations none [] h n e a = (tt, effects.empty)
          all_good (one_more d g ds) (more x xs) (t ∷ ts) h n e a =
              let r = value_good d x t g h.0 n.0 e.0 a.0 in
              let v = all_good ds xs ts h.1 n.1 e.1 a.1 in
              (each_both IsGood (value_steps y s owner d x t g) (values_steps y s owner ds xs ts) r.0 v.0, effects.both g (effects_of ds) r.1 v.1)
          all_good ds xs ts h n e a = absurd h

          block_good : (d : BlockDerivation y.Kind) (x : Block) (t : y.Kind) (f : List ℕ) → DerivesBlock y s locals owner d x t f → NamesBlock P d → KeepsBlock d f → P t → AreGood (block_steps y s owner d x t f) × E f
          block_good (Result d) (Last x) t f h n e a = value_good d x t f h n e a
          block_good (T-Seq q d g ds i) (Then x rest) t f h n e a =
              let r = value_good d x (y.read Nothing) g h.1 n.0 e.0 c.nothing in
              let v = block_good ds rest t i h.2 n.1 e.1 a in (
                each_both IsGood (value_steps y s owner d x (y.read Nothing) g) _ r.0 (then_good (block_steps y s owner ds rest t i) _ v.0 (a, tt)),
                subst E (sym h.3) (effects.both g i r.1 v.1),
              )
          block_good (T-Val q d k g ds i) (Val j l typ x rest) t f h n e a =
              let r = value_good d x k g h.3 n.0 e.0 n.1 in
              let v = block_good ds rest t i h.4 n.2 e.1 a in (
                each_both IsGood (value_steps y s owner d x k g) _ r.0 ((tt, tt), then_good (block_steps y s owner ds rest t i) _ v.0 (a, tt)),
                subst E (sym h.5) (effects.both g i r.1 v.1),
              )
          block_good (Block-Sub q ds k g) x t f h n e a =
              let r = block_good ds x k g h.1 n.0 e.1 n.1 in
              let ok = subst E e.0 r.1 in
              (then_good (block_steps y s owner ds x k g) _ r.0 (a, (h.2, n.1, a, ok)), ok)
          block_good d x t f h n e a = absurd h

      start_good : (st : Start) (d : BodyDerivation y.Kind) → DerivesStart y s locals d st → NamesBody P d → KeepsBody d → AreGood (start_steps y s d st)
      start_good (Init values) (T-Body-Init q ds) h n e =
          let r = all_good None ds values (map y.read (field_types s 0)) h.1 n e (c.fields 0) in
          then_good (values_steps y s None ds values (map y.read (field_types s 0))) _ r.0 (tt, tt)
      start_good (Run block) (T-Body q d f) h n e = (let r = block_good None d block (y.read Nothing) f h.1 n e c.nothing in then_good (block_steps y s None d block (y.read Nothing) f) _ r.0 (tt, tt))
      start_good (Init values) (T-Body q d f) h n e = absurd h
      start_good (Run block) (T-Body-Init q ds) h n e = absurd h

      bodies_good : (bs : List Body) (ds : List (BodyDerivation y.Kind)) → ((b : Body) → In b bs → In b s.bodies) → DerivesBodies y s locals ds bs → NamesBodies P ds → KeepsBodies ds → AreGood (bodies_steps y s ds bs)
      bodies_good [] [] w h n e = tt
      bodies_good [] (d ∷ ds) w h n e = absurd h
      bodies_good (b ∷ bs) [] w h n e = absurd h
      bodies_good (b ∷ bs) (T-Body-Init q d ∷ ds) w h n e = absurd h.0
      bodies_good (b ∷ bs) (T-Body q d f ∷ ds) w h n e =
          let result = y.read b.signature.result in
          let r = block_good (Some b.owner) d b.block result f h.0.1 n.0 e.0 (answer b (w b (inl refl))) in
          each_both IsGood (body_steps y s (T-Body q d f) b) (bodies_steps y s ds bs) (then_good (block_steps y s (Some b.owner) d b.block result f) _ r.0 (tt, tt))
          (bodies_good bs ds (λ v i. w v (inr i)) h.1 n.1 e.1)

    -- of a scope
    pub scope_good : AreEffects y P E → ((b : Body) → In b s.bodies → P (y.read b.signature.result)) → (d : ScopeDerivation y.Kind) → DerivesScope y s d → NamesScope P d → KeepsBody d.start → KeepsBodies d.bodies → AreGood (scope_steps y s d)
    scope_good effects answer d h n e f =
        each_both IsGood (start_steps y s d.start s.start) (bodies_steps y s d.bodies s.bodies) (start_good effects answer d.locals s.start d.start h.0 n.1 e) (bodies_good effects answer d.locals s.bodies d.bodies (λ b i. i) h.1 n.2 f)
