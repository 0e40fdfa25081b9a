-- The steps of a part are those of its parts and then its own, and what it gives comes of what they give.
use Rattle.std.proofs.Common.{◌≡◌, ℕ, ℤ, List, [], ◌∷◌, ◌++◌, map, Some, Bool as Truth, true, false, refl, sym, ap, ◌∙◌, append_assoc}
use Rattle.std.proofs.lemmas.List.{append-nil}
use Rattle.wy_text.specs.declared.fault.Place.{Place}
use Rattle.wy_effects.specs.EffSet.{union}
use Rattle.wy_types.specs.declared.types.TypeRef.{TypeRef}
use Rattle.wy_types.specs.declared.types.TypeRef.TheVariants.{Int, Bool, Text, Unit as Nothing, Own}
use Rattle.wy_types.specs.declared.code.Binding.{Binding}
use Rattle.wy_types.specs.declared.code.UnaryOperator.{UnaryOperator}
use Rattle.wy_types.specs.declared.code.BinaryOperator.{BinaryOperator}
use Rattle.wy_types.specs.declared.code.BinaryOperator.TheVariants.{Add, Subtract, Multiply, Divide, Remainder, Join, Less, LessOrEqual, Greater, GreaterOrEqual, Equal, NotEqual, And, Or}
use Rattle.wy_types.specs.declared.code.TextOperator.{TextOperator}
use Rattle.wy_types.specs.Code.{Expr, Number, Quoted, Truth as TruthOf, Nothing as NothingOf, This, Name, Unary, Binary, TextCall, Call, New, Ascribe, Assign, Value, Plain, If, Values, none, more, Block}
use Rattle.wy_types.specs.Vals.{value_count}
use Rattle.wy_rules.specs.Operators.{Row, row, two, unary_rows, text_rows}
use Rattle.wy_rules.specs.Typing.{field_types}
use Rattle.wy_rules.specs.Derivations.{T-Op, none as no_derivations, more as one_more, effects_of, mark, expr_mark, block_mark}
use Rattle.wy_rules.specs.Canonical.{Typed, TypedBlock, same_type, first_row, row_or, first_operand, second_operand, at_type, subsumed_unless, block_subsumed_unless, canonical_value, canonical_values, canonical_block}
use Rattle.wy_rules.proofs.SameTypes.{types_are_told_apart}
use Rattle.wy_premises.specs.Operators.{text_operands, text_result}
use Rattle.wy_cert.specs.declared.certificate.Rule.TheVariants as by
use Rattle.wy_proving.specs.Steps.{Step, step, value_steps, values_steps, block_steps}
use Rattle.wy_certify.specs.Step.{sub_unless, sub_steps}
use Rattle.wy_certify.specs.Written.{Context, reading, this_typ, name_typ, var_typ, field_typs, method_at, params_of, effect_of, result_of, binary_row, operand_typ, result_typ, typed_expr, expr_steps, expr_typ, expr_effect, own_steps, own_typ, own_effect, at_steps, second_effect, second_steps, call_effect, call_steps, all_steps, all_effect, run_steps, run_typ, run_effect, run_at_steps}

module _ (c : Context) where
  ------------------------------------------------------------
  -- Expressions without parts

  pub number_steps : (q : Place) (n : ℤ) → expr_steps c (Number q n) ≡ step by.Lit q 0 (Some Int) [] ∷ []
  unfolding expr_steps
  number_steps q n = refl

  pub text_steps : (q : Place) (bytes : List ℕ) → expr_steps c (Quoted q bytes) ≡ step by.Lit q 0 (Some Text) [] ∷ []
  unfolding expr_steps
  text_steps q bytes = refl

  pub truth_steps : (q : Place) (b : Truth) → expr_steps c (TruthOf q b) ≡ step by.Lit q 0 (Some Bool) [] ∷ []
  unfolding expr_steps
  truth_steps q b = refl

  pub nothing_steps : (q : Place) → expr_steps c (NothingOf q) ≡ step by.Lit q 0 (Some Nothing) [] ∷ []
  unfolding expr_steps
  nothing_steps q = refl

  pub this_steps : (q : Place) → expr_steps c (This q) ≡ step by.This q 0 (Some (this_typ c)) [] ∷ []
  unfolding expr_steps this_typ
  this_steps q = refl

  pub name_steps : (q : Place) (name : Binding) → expr_steps c (Name q name) ≡ step by.Var q 0 (Some (name_typ c name)) [] ∷ []
  unfolding expr_steps name_typ
  name_steps q name = refl

  pub number_gives : (q : Place) (n : ℤ) → (expr_typ c (Number q n) ≡ Int) × (expr_effect c (Number q n) ≡ [])
  unfolding expr_typ expr_effect
  number_gives q n = (refl, refl)

  pub text_gives : (q : Place) (bytes : List ℕ) → (expr_typ c (Quoted q bytes) ≡ Text) × (expr_effect c (Quoted q bytes) ≡ [])
  unfolding expr_typ expr_effect
  text_gives q bytes = (refl, refl)

  pub truth_gives : (q : Place) (b : Truth) → (expr_typ c (TruthOf q b) ≡ Bool) × (expr_effect c (TruthOf q b) ≡ [])
  unfolding expr_typ expr_effect
  truth_gives q b = (refl, refl)

  pub nothing_gives : (q : Place) → (expr_typ c (NothingOf q) ≡ Nothing) × (expr_effect c (NothingOf q) ≡ [])
  unfolding expr_typ expr_effect
  nothing_gives q = (refl, refl)

  pub this_gives : (q : Place) → (expr_typ c (This q) ≡ this_typ c) × (expr_effect c (This q) ≡ [])
  unfolding expr_typ expr_effect this_typ
  this_gives q = (refl, refl)

  pub name_gives : (q : Place) (name : Binding) → (expr_typ c (Name q name) ≡ name_typ c name) × (expr_effect c (Name q name) ≡ [])
  unfolding expr_typ expr_effect name_typ
  name_gives q name = (refl, refl)

  ------------------------------------------------------------
  -- At the type that is asked for

  value_at : (b : Truth) (q : Place) (x : Value) (m : Typed TypeRef) (t : TypeRef) → same_type m.typ t ≡ b →
      value_steps (reading c) c.scope c.owner (subsumed_unless b q m) x t m.effect ≡ value_steps (reading c) c.scope c.owner m.derivation x m.typ m.effect ++ sub_unless b q m.typ t m.effect
  value_at true q x m t is =
      ap (λ (u : TypeRef). value_steps (reading c) c.scope c.owner m.derivation x u m.effect) (sym ((types_are_told_apart m.typ t).0 is)) ∙ sym (append-nil _)
  value_at false q x m t is = refl

  block_at : (b : Truth) (q : Place) (x : Block) (m : TypedBlock TypeRef) (t : TypeRef) → same_type m.typ t ≡ b →
      block_steps (reading c) c.scope c.owner (block_subsumed_unless b q m) x t m.effect ≡ block_steps (reading c) c.scope c.owner m.derivation x m.typ m.effect ++ sub_unless b q m.typ t m.effect
  block_at true q x m t is =
      ap (λ (u : TypeRef). block_steps (reading c) c.scope c.owner m.derivation x u m.effect) (sym ((types_are_told_apart m.typ t).0 is)) ∙ sym (append-nil _)
  block_at false q x m t is = refl

  pub at_value : (x : Value) (t : TypeRef) → at_steps c x t ≡ own_steps c x t ++ sub_steps (mark x) (own_typ c x t) t (own_effect c x t)
  unfolding at_steps own_steps own_typ own_effect sub_steps
  at_value x t = value_at _ (mark x) x (canonical_value (reading c) same_type c.scope c.locals c.owner x t) t refl

  pub at_expr : (x : Expr) (t : TypeRef) → at_steps c (Plain x) t ≡ expr_steps c x ++ sub_steps (expr_mark x) (expr_typ c x) t (expr_effect c x)
  unfolding at_steps expr_steps expr_typ expr_effect sub_steps
  at_expr x t = value_at _ (expr_mark x) (Plain x) (canonical_value (reading c) same_type c.scope c.locals c.owner (Plain x) t) t refl

  pub at_block : (b : Block) (t : TypeRef) → run_at_steps c b t ≡ run_steps c b t ++ sub_steps (block_mark b) (run_typ c b t) t (run_effect c b t)
  unfolding run_at_steps run_steps run_typ run_effect sub_steps
  at_block b t = block_at _ (block_mark b) b (canonical_block (reading c) same_type c.scope c.locals c.owner b t) t refl

  ------------------------------------------------------------
  -- Operations

  -- an operation on one operand, at a row
  one_operand : (q : Place) (op : UnaryOperator) (x : Expr) (t u : TypeRef) (r : Row) → r ≡ row (t ∷ []) u →
      (let m = typed_expr c x in value_steps (reading c) c.scope c.owner (T-Op q r (one_more (at_type (reading c) same_type (expr_mark x) m (first_operand (reading c) r.operands)) m.effect no_derivations)) (Plain (Unary q op x)) r.result (union m.effect []))
      ≡ at_steps c (Plain x) t ++ step by.Op q 1 (Some u) (union (expr_effect c x) []) ∷ []
  unfolding at_steps expr_effect
  one_operand q op x t u r is =
      let m = typed_expr c x in
      let F : Row → List (Step TypeRef) = λ (r : Row). value_steps (reading c) c.scope c.owner (T-Op q r (one_more (at_type (reading c) same_type (expr_mark x) m (first_operand (reading c) r.operands)) m.effect no_derivations)) (Plain (Unary q op x)) r.result (union m.effect []) in
      ap F is ∙ ap (λ (v : List (Step TypeRef)). v ++ step by.Op q 1 (Some u) (union m.effect []) ∷ []) (append-nil _)

  pub unary_steps : (q : Place) (op : UnaryOperator) (x : Expr) (t u : TypeRef) → first_row (unary_rows op) ≡ row (t ∷ []) u →
      expr_steps c (Unary q op x) ≡ at_steps c (Plain x) t ++ step by.Op q 1 (Some u) (union (expr_effect c x) []) ∷ []
  unfolding expr_steps
  unary_steps q op x t u is = one_operand q op x t u (first_row (unary_rows op)) is

  pub unary_typ : (q : Place) (op : UnaryOperator) (x : Expr) (t u : TypeRef) → first_row (unary_rows op) ≡ row (t ∷ []) u → expr_typ c (Unary q op x) ≡ u
  unfolding expr_typ
  unary_typ q op x t u is = ap (λ (r : Row). r.result) is

  pub unary_effect : (q : Place) (op : UnaryOperator) (x : Expr) → expr_effect c (Unary q op x) ≡ union (expr_effect c x) []
  unfolding expr_effect
  unary_effect q op x = refl

  equality_is_two : (a b : Truth) → row_or a (two Int Bool) (row_or b (two Bool Bool) (two Text Bool)) ≡ two (first_operand (reading c) (row_or a (two Int Bool) (row_or b (two Bool Bool) (two Text Bool))).operands) (row_or a (two Int Bool) (row_or b (two Bool Bool) (two Text Bool))).result
  equality_is_two true b = refl
  equality_is_two false true = refl
  equality_is_two false false = refl

  rows_are_two : (op : BinaryOperator) (t : TypeRef) → binary_row c op t ≡ two (operand_typ c op t) (result_typ c op t)
  unfolding operand_typ result_typ
  rows_are_two Add t = refl
  rows_are_two Subtract t = refl
  rows_are_two Multiply t = refl
  rows_are_two Divide t = refl
  rows_are_two Remainder t = refl
  rows_are_two Join t = refl
  rows_are_two Less t = refl
  rows_are_two LessOrEqual t = refl
  rows_are_two Greater t = refl
  rows_are_two GreaterOrEqual t = refl
  rows_are_two Equal t = equality_is_two (same_type t Int) (same_type t Bool)
  rows_are_two NotEqual t = equality_is_two (same_type t Int) (same_type t Bool)
  rows_are_two And t = refl
  rows_are_two Or t = refl

  -- an operation on two operands, at a row
  two_operands : (q : Place) (op : BinaryOperator) (x z : Expr) (t u : TypeRef) (r : Row) → r ≡ two t u →
      (let m = typed_expr c x in let n = typed_expr c z in
      value_steps (reading c) c.scope c.owner (T-Op q r (one_more (at_type (reading c) same_type (expr_mark x) m (first_operand (reading c) r.operands)) m.effect (one_more (at_type (reading c) same_type (expr_mark z) n (second_operand (reading c) r.operands)) n.effect no_derivations))) (Plain (Binary q op x z)) r.result (union m.effect (union n.effect [])))
      ≡ at_steps c (Plain x) t ++ (at_steps c (Plain z) t ++ step by.Op q 2 (Some u) (second_effect c (expr_effect c x) z) ∷ [])
  unfolding at_steps expr_effect second_effect
  two_operands q op x z t u r is =
      let m = typed_expr c x in
      let n = typed_expr c z in
      let F : Row → List (Step TypeRef) = λ (r : Row). value_steps (reading c) c.scope c.owner (T-Op q r (one_more (at_type (reading c) same_type (expr_mark x) m (first_operand (reading c) r.operands)) m.effect (one_more (at_type (reading c) same_type (expr_mark z) n (second_operand (reading c) r.operands)) n.effect no_derivations))) (Plain (Binary q op x z)) r.result (union m.effect (union n.effect [])) in
      let own : List (Step TypeRef) = step by.Op q 2 (Some u) (union m.effect (union n.effect [])) ∷ [] in
      let a : List (Step TypeRef) = value_steps (reading c) c.scope c.owner (at_type (reading c) same_type (expr_mark x) m t) (Plain x) t m.effect in
      let b : List (Step TypeRef) = value_steps (reading c) c.scope c.owner (at_type (reading c) same_type (expr_mark z) n t) (Plain z) t n.effect in
      ap F is ∙ ap (λ (v : List (Step TypeRef)). (a ++ v) ++ own) (append-nil b) ∙ append_assoc a b own

  binary_as_two : (q : Place) (op : BinaryOperator) (x z : Expr) → (let o = operand_typ c op (expr_typ c x) in
      expr_steps c (Binary q op x z) ≡ at_steps c (Plain x) o ++ (at_steps c (Plain z) o ++ step by.Op q 2 (Some (result_typ c op (expr_typ c x))) (second_effect c (expr_effect c x) z) ∷ []))
  unfolding expr_steps expr_typ
  binary_as_two q op x z =
      let t = (typed_expr c x).typ in
      two_operands q op x z (operand_typ c op t) (result_typ c op t) (binary_row c op t) (rows_are_two op t)

  -- .. after its first operand is written
  parted : (q : Place) (op : BinaryOperator) (x z : Expr) → (let o = operand_typ c op (expr_typ c x) in
      at_steps c (Plain x) o ++ (at_steps c (Plain z) o ++ step by.Op q 2 (Some (result_typ c op (expr_typ c x))) (second_effect c (expr_effect c x) z) ∷ []) ≡
      expr_steps c x ++ second_steps c q op (expr_typ c x) (expr_effect c x) (expr_mark x) z)
  unfolding second_steps
  parted q op x z =
      let o = operand_typ c op (expr_typ c x) in
      let rest : List (Step TypeRef) = at_steps c (Plain z) o ++ step by.Op q 2 (Some (result_typ c op (expr_typ c x))) (second_effect c (expr_effect c x) z) ∷ [] in
      ap (λ (v : List (Step TypeRef)). v ++ rest) (at_expr x o) ∙ append_assoc (expr_steps c x) (sub_steps (expr_mark x) (expr_typ c x) o (expr_effect c x)) rest

  pub binary_steps : (q : Place) (op : BinaryOperator) (x z : Expr) →
      expr_steps c (Binary q op x z) ≡ expr_steps c x ++ second_steps c q op (expr_typ c x) (expr_effect c x) (expr_mark x) z
  binary_steps q op x z = binary_as_two q op x z ∙ parted q op x z

  pub binary_typ : (q : Place) (op : BinaryOperator) (x z : Expr) → expr_typ c (Binary q op x z) ≡ result_typ c op (expr_typ c x)
  unfolding expr_typ result_typ
  binary_typ q op x z = refl

  pub binary_effect : (q : Place) (op : BinaryOperator) (x z : Expr) → expr_effect c (Binary q op x z) ≡ second_effect c (expr_effect c x) z
  unfolding expr_effect second_effect
  binary_effect q op x z = refl

  -- an operation on texts
  as_read : (ts : List TypeRef) → map (reading c).read ts ≡ ts
  as_read [] = refl
  as_read (t ∷ ts) = ap (λ (us : List TypeRef). t ∷ us) (as_read ts)

  pub text_call_steps : (q : Place) (op : TextOperator) (xs : Values) →
      expr_steps c (TextCall q op xs) ≡ all_steps c xs (text_operands op) ++ step by.Op q (value_count xs) (Some (text_result op)) (all_effect c xs (text_operands op)) ∷ []
  unfolding expr_steps all_steps all_effect
  text_call_steps q op xs =
      let ts = (first_row (text_rows op)).operands in
      ap (λ (us : List TypeRef). (let ds = canonical_values (reading c) same_type c.scope c.locals c.owner xs us in values_steps (reading c) c.scope c.owner ds xs us ++ step by.Op q (value_count xs) (Some (text_result op)) (effects_of ds) ∷ [])) (as_read ts)

  pub text_call_typ : (q : Place) (op : TextOperator) (xs : Values) → expr_typ c (TextCall q op xs) ≡ text_result op
  unfolding expr_typ
  text_call_typ q op xs = refl

  pub text_call_effect : (q : Place) (op : TextOperator) (xs : Values) → expr_effect c (TextCall q op xs) ≡ all_effect c xs (text_operands op)
  unfolding expr_effect all_effect
  text_call_effect q op xs =
      ap (λ (us : List TypeRef). effects_of (canonical_values (reading c) same_type c.scope c.locals c.owner xs us)) (as_read (first_row (text_rows op)).operands)

  ------------------------------------------------------------
  -- Objects

  pub call_as_steps : (q : Place) (x : Expr) (name : List ℕ) (xs : Values) → expr_steps c (Call q x name xs) ≡ expr_steps c x ++ call_steps c q (expr_typ c x) (expr_effect c x) name xs
  unfolding expr_steps call_steps expr_typ expr_effect call_effect all_steps all_effect method_at params_of effect_of result_of
  call_as_steps q x name xs = refl

  pub call_typ : (q : Place) (x : Expr) (name : List ℕ) (xs : Values) → expr_typ c (Call q x name xs) ≡ result_of c (method_at c (expr_typ c x) name)
  unfolding expr_typ method_at result_of
  call_typ q x name xs = refl

  pub called_effect : (q : Place) (x : Expr) (name : List ℕ) (xs : Values) → expr_effect c (Call q x name xs) ≡ call_effect c (expr_typ c x) (expr_effect c x) name xs
  unfolding expr_effect expr_typ call_effect all_effect method_at params_of effect_of
  called_effect q x name xs = refl

  pub new_steps : (q : Place) (l : ℕ) (xs : Values) → expr_steps c (New q l xs) ≡ all_steps c xs (field_typs c l) ++ step by.New q (value_count xs) (Some (Own l)) (all_effect c xs (field_typs c l)) ∷ []
  unfolding expr_steps all_steps all_effect field_typs
  new_steps q l xs = refl

  pub new_typ : (q : Place) (l : ℕ) (xs : Values) → expr_typ c (New q l xs) ≡ Own l
  unfolding expr_typ
  new_typ q l xs = refl

  pub new_effect : (q : Place) (l : ℕ) (xs : Values) → expr_effect c (New q l xs) ≡ all_effect c xs (field_typs c l)
  unfolding expr_effect all_effect field_typs
  new_effect q l xs = refl

  pub field_types_read : (l : ℕ) → field_typs c l ≡ field_types c.scope l
  unfolding field_typs
  field_types_read l = as_read (field_types c.scope l)

  ------------------------------------------------------------
  -- With a type, and assigned

  pub ascribe_steps : (q : Place) (x : Value) (t : TypeRef) → expr_steps c (Ascribe q x t) ≡ at_steps c x t ++ step by.Asc q 1 (Some t) (own_effect c x t) ∷ []
  unfolding expr_steps at_steps own_effect
  ascribe_steps q x t = refl

  pub ascribe_typ : (q : Place) (x : Value) (t : TypeRef) → expr_typ c (Ascribe q x t) ≡ t
  unfolding expr_typ
  ascribe_typ q x t = refl

  pub ascribe_effect : (q : Place) (x : Value) (t : TypeRef) → expr_effect c (Ascribe q x t) ≡ own_effect c x t
  unfolding expr_effect own_effect
  ascribe_effect q x t = refl

  pub assign_steps : (q : Place) (name : Binding) (x : Value) → expr_steps c (Assign q name x) ≡ at_steps c x (var_typ c name) ++ step by.Set q 1 (Some Nothing) (own_effect c x (var_typ c name)) ∷ []
  unfolding expr_steps at_steps own_effect var_typ
  assign_steps q name x = refl

  pub assign_typ : (q : Place) (name : Binding) (x : Value) → expr_typ c (Assign q name x) ≡ Nothing
  unfolding expr_typ
  assign_typ q name x = refl

  pub assign_effect : (q : Place) (name : Binding) (x : Value) → expr_effect c (Assign q name x) ≡ own_effect c x (var_typ c name)
  unfolding expr_effect own_effect var_typ
  assign_effect q name x = refl

  ------------------------------------------------------------
  -- Values

  pub plain_steps : (x : Expr) (t : TypeRef) → own_steps c (Plain x) t ≡ expr_steps c x
  unfolding own_steps expr_steps
  plain_steps x t = refl

  pub plain_typ : (x : Expr) (t : TypeRef) → own_typ c (Plain x) t ≡ expr_typ c x
  unfolding own_typ expr_typ
  plain_typ x t = refl

  pub plain_effect : (x : Expr) (t : TypeRef) → own_effect c (Plain x) t ≡ expr_effect c x
  unfolding own_effect expr_effect
  plain_effect x t = refl

  pub if_steps : (q : Place) (x : Expr) (a b : Block) (t : TypeRef) → own_steps c (If q x a b) t ≡
      at_steps c (Plain x) Bool ++ (run_at_steps c a t ++ (run_at_steps c b t ++ step by.If q 3 (Some t) (union (expr_effect c x) (union (run_effect c a t) (run_effect c b t))) ∷ []))
  unfolding own_steps at_steps run_at_steps expr_effect run_effect
  if_steps q x a b t = refl

  pub if_typ : (q : Place) (x : Expr) (a b : Block) (t : TypeRef) → own_typ c (If q x a b) t ≡ t
  unfolding own_typ
  if_typ q x a b t = refl

  pub if_effect : (q : Place) (x : Expr) (a b : Block) (t : TypeRef) → own_effect c (If q x a b) t ≡ union (expr_effect c x) (union (run_effect c a t) (run_effect c b t))
  unfolding own_effect expr_effect run_effect
  if_effect q x a b t = refl

  ------------------------------------------------------------
  -- One value after the other

  pub none_steps : (ts : List TypeRef) → all_steps c none ts ≡ []
  unfolding all_steps
  none_steps ts = refl

  pub none_effect : (ts : List TypeRef) → all_effect c none ts ≡ []
  unfolding all_effect
  none_effect ts = refl

  pub untyped_steps : (x : Value) (xs : Values) → all_steps c (more x xs) [] ≡ []
  unfolding all_steps
  untyped_steps x xs = refl

  pub untyped_effect : (x : Value) (xs : Values) → all_effect c (more x xs) [] ≡ []
  unfolding all_effect
  untyped_effect x xs = refl

  pub more_steps : (x : Value) (xs : Values) (t : TypeRef) (ts : List TypeRef) → all_steps c (more x xs) (t ∷ ts) ≡ at_steps c x t ++ all_steps c xs ts
  unfolding all_steps at_steps
  more_steps x xs t ts = refl

  pub more_effect : (x : Value) (xs : Values) (t : TypeRef) (ts : List TypeRef) → all_effect c (more x xs) (t ∷ ts) ≡ union (own_effect c x t) (all_effect c xs ts)
  unfolding all_effect own_effect
  more_effect x xs t ts = refl
