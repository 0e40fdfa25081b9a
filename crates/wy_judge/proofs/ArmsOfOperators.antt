-- Operations on one or two operands as they are judged by themselves.
use Rattle.std.proofs.Common.{◌≡◌, ℕ, List, refl, sym, subst, Option, Some, None, Bool as Truth, true, false}
use Rattle.wy_text.specs.declared.fault.Place.{Place}
use Rattle.wy_text.specs.declared.fault.Fault.{Fault}
use Rattle.wy_effects.specs.EffSet.{union}
use Rattle.wy_types.specs.declared.types.TypeRef.{TypeRef}
use Rattle.wy_types.specs.declared.code.UnaryOperator.{UnaryOperator}
use Rattle.wy_types.specs.declared.code.BinaryOperator.{BinaryOperator}
use Rattle.wy_types.specs.Code.{Expr, Unary, Binary}
use Rattle.wy_types.specs.Program.{Program, Scope}
use Rattle.wy_types.specs.Vals.{expr_vals}
use Rattle.wy_rules.specs.Operators.{unary_rows, binary_rows}
use Rattle.wy_rules.specs.Acceptance.{scope_reading}
use Rattle.wy_rules.specs.Nodes.{expr_nodes}
use Rattle.wy_judge.specs.Inference.{Inference}
use Rattle.wy_judge.specs.Inference as inferred
use Rattle.wy_premises.specs.Operators.{unary_result, binary_result}
use Rattle.wy_judge.specs.Outcomes.{operation_outcome, unary_outcome, second_outcome, both_outcome, IsBoth}
use Rattle.wy_judge.specs.Tables.{Table, IsScopeOf, ExprReady}
use Rattle.wy_judge.specs.Targets.{IsInRangeOf}
use Rattle.wy_judge.specs.Judging.{InferenceStands, InfersTo}
use Rattle.wy_judge.proofs.Contexts.{lawful, base_in_range}
use Rattle.wy_judge.proofs.Lists.{fail_left}
use Rattle.wy_judge.proofs.Moving.{agrees_before, moves_under, moves_both, moves_first, ready_left, ready_right}
use Rattle.wy_judge.proofs.Operating.{unary_inferred, binary_inferred}
use Rattle.wy_judge.proofs.Tables.{no_others, same_other, base_of, unary_table, binary_table}

module _ (p : Program) (k : ℕ) (s : Scope) (c : IsScopeOf p k s) (owner : Option ℕ) where
  ------------------------------------------------------------
  -- One operand

  pub unary_part : (table : Table) (q : Place) (op : UnaryOperator) (x : Expr) → ExprReady p k s owner table (Unary q op x) → ExprReady p k s owner table x
  unary_part table q op x h = h

  -- the operation passes where its operand does
  unary_stands : (q : Place) (op : UnaryOperator) (u : Inference) → InferenceStands (unary_outcome q op u) → InferenceStands u
  unary_stands q op (inferred.Least t e) h = tt
  unary_stands q op (inferred.Fails fault) h = h

  operation_in_range : (q : Place) (op : UnaryOperator) (t : TypeRef) (o : Option TypeRef) (e : List ℕ) → unary_result op t ≡ o → IsInRangeOf p k (operation_outcome q o e)
  operation_in_range q op t None e g = tt
  operation_in_range q op t (Some r) e g = base_in_range p k s c r (base_of no_others (unary_rows op) (unary_result op) (unary_table op) t r g)

  unary_in_range : (q : Place) (op : UnaryOperator) (u : Inference) → IsInRangeOf p k (unary_outcome q op u)
  unary_in_range q op (inferred.Least t e) = operation_in_range q op t (unary_result op t) e refl
  unary_in_range q op (inferred.Fails fault) = tt

  pub unary_to : (old new : Table) (q : Place) (op : UnaryOperator) (x : Expr) (u : Inference) → InfersTo p k s owner old new x u → InfersTo p k s owner old new (Unary q op x) (unary_outcome q op u)
  unary_to old new q op x u h = record {
    moves = moves_under p k s old new (expr_vals x) (InferenceStands u) (InferenceStands (unary_outcome q op u)) h.moves (unary_stands q op u);
    range = unary_in_range q op u;
    judged = λ locals a. unary_inferred p k s (lawful p k s) locals owner q op x u (h.judged locals a);
  }

  -- by the type that the operator gives, where its operand passes
  pub unary_by : (old new : Table) (q : Place) (op : UnaryOperator) (x : Expr) (t : TypeRef) (e : List ℕ) (o : Option TypeRef) → InfersTo p k s owner old new x (inferred.Least t e) → unary_result op t ≡ o →
      InfersTo p k s owner old new (Unary q op x) (operation_outcome q o e)
  unary_by old new q op x t e o h g = subst (λ z. InfersTo p k s owner old new (Unary q op x) (operation_outcome q z e)) g (unary_to old new q op x (inferred.Least t e) h)

  ------------------------------------------------------------
  -- Two operands

  pub binary_first : (table : Table) (q : Place) (op : BinaryOperator) (x z : Expr) → ExprReady p k s owner table (Binary q op x z) → ExprReady p k s owner table x
  binary_first table q op x z h = (h.0, h.1.0, ready_left p k s table h.0 (expr_vals x) (expr_vals z) h.2)

  pub binary_second : (old mid : Table) (q : Place) (op : BinaryOperator) (x z : Expr) (u : Inference) → ExprReady p k s owner old (Binary q op x z) → InfersTo p k s owner old mid x u →
      ExprReady p k s owner mid z
  binary_second old mid q op x z u h i = (h.0, h.1.1, ready_right p k s old mid h.0 (expr_vals x) (expr_vals z) (InferenceStands u) h.2 i.moves)

  -- the first operand fails
  pub binary_fails : (old new : Table) (q : Place) (op : BinaryOperator) (x z : Expr) (fault : Fault) → InfersTo p k s owner old new x (inferred.Fails fault) → InfersTo p k s owner old new (Binary q op x z) (inferred.Fails fault)
  binary_fails old new q op x z fault h = record {
    moves = moves_first p k s old new (expr_vals x) (expr_vals z) (InferenceStands (inferred.Fails fault)) (InferenceStands (inferred.Fails fault)) h.moves (λ i. i);
    range = tt;
    judged = λ locals a. fail_left p k s locals (expr_nodes s owner x) _ fault (h.judged locals a);
  }

  -- the operation passes where both operands do
  first_stands : (q : Place) (op : BinaryOperator) (same : Truth) (u v : Inference) → InferenceStands (both_outcome q op same u v) → InferenceStands u
  first_stands q op same (inferred.Least t e) v h = tt
  first_stands q op same (inferred.Fails fault) v h = h

  second_stands : (q : Place) (op : BinaryOperator) (same : Truth) (u v : Inference) → InferenceStands (both_outcome q op same u v) → InferenceStands v
  second_stands q op same (inferred.Least t e) (inferred.Least r f) h = tt
  second_stands q op same (inferred.Least t e) (inferred.Fails fault) h = h
  second_stands q op same (inferred.Fails fault) v h = absurd h

  second_in_range : (q : Place) (op : BinaryOperator) (t : TypeRef) (o : Option TypeRef) (same : Truth) (e : List ℕ) → binary_result op t ≡ o → IsInRangeOf p k (second_outcome q o same e)
  second_in_range q op t None same e g = tt
  second_in_range q op t (Some r) true e g = base_in_range p k s c r (base_of same_other (binary_rows op) (binary_result op) (binary_table op) t r g)
  second_in_range q op t (Some r) false e g = tt

  both_in_range : (q : Place) (op : BinaryOperator) (same : Truth) (u v : Inference) → IsInRangeOf p k (both_outcome q op same u v)
  both_in_range q op same (inferred.Least t e) (inferred.Least r f) = second_in_range q op t (binary_result op t) same (union e f) refl
  both_in_range q op same (inferred.Least t e) (inferred.Fails fault) = tt
  both_in_range q op same (inferred.Fails fault) v = tt

  pub binary_to : (old mid new : Table) (q : Place) (op : BinaryOperator) (x z : Expr) (u v r : Inference) → InfersTo p k s owner old mid x u → InfersTo p k s owner mid new z v → IsBoth q op u v r →
      InfersTo p k s owner old new (Binary q op x z) r
  binary_to old mid new q op x z u v r h i b =
      let whole : InfersTo p k s owner old new (Binary q op x z) (both_outcome q op b.0 u v) = record {
        moves = moves_both p k s old mid new (expr_vals x) (expr_vals z) (InferenceStands u) (InferenceStands v) (InferenceStands (both_outcome q op b.0 u v)) h.moves i.moves
            (first_stands q op b.0 u v) (second_stands q op b.0 u v);
        range = both_in_range q op b.0 u v;
        judged = λ locals a.
            binary_inferred p k s (lawful p k s) locals owner q op x z b.0 u v
            (h.judged locals (agrees_before p k s (scope_reading p k s) locals mid new (expr_vals z) (InferenceStands v) i.moves a)) (i.judged locals a) b.1;
      } in
      subst (λ o. InfersTo p k s owner old new (Binary q op x z) o) (sym b.2) whole
