-- Operations on texts as they are judged by themselves: their operands are judged at the types of the operation.
use Rattle.std.proofs.Common.{◌≡◌, ℕ, zero, suc, ◌+◌, ◌≤◌, List, Option, inl, inr, refl, sym, ◌∙◌, ap, subst, arith, length, map, take}
use Rattle.std.proofs.lemmas.Bool.{cases_lt}
use Rattle.std.proofs.lemmas.List.{take_all}
use Rattle.wy_text.specs.declared.fault.Place.{Place}
use Rattle.wy_types.specs.declared.types.TypeRef.{TypeRef}
use Rattle.wy_types.specs.declared.code.TextOperator.{TextOperator}
use Rattle.wy_types.specs.declared.code.TextOperator.TheVariants.{Size, Part, Code, Byte, Show}
use Rattle.wy_types.specs.declared.code.Value as v
use Rattle.wy_types.specs.Code.{TextCall, Values, none, more}
use Rattle.wy_types.specs.Core.{text_arity}
use Rattle.wy_types.specs.Vals.{value_count, values_vals}
use Rattle.wy_types.specs.View.{values_of}
use Rattle.wy_types.specs.Program.{Program, Scope}
use Rattle.wy_types.specs.Fitting.{IsTypeOf}
use Rattle.wy_rules.specs.Readings.{Reading}
use Rattle.wy_rules.specs.Operators.{text_rows}
use Rattle.wy_rules.specs.Typing.{AllHaveAt}
use Rattle.wy_rules.specs.Acceptance.{scope_reading}
use Rattle.wy_rules.specs.Nodes.{row_types, written_spots}
use Rattle.wy_rules.specs.Failing.{first_values}
use Rattle.wy_judge.specs.Fits.{Fits}
use Rattle.wy_judge.specs.Fits as fits
use Rattle.wy_premises.specs.Operators.{text_operands, text_result}
use Rattle.wy_judge.specs.Outcomes.{text_outcome, FewOperands, NoneFails}
use Rattle.wy_judge.specs.Judged.{HaveFirst}
use Rattle.wy_judge.specs.Tables.{Table, IsScopeOf, ExprReady, ValuesReady}
use Rattle.wy_judge.specs.Targets.{IsInRangeOf}
use Rattle.wy_judge.specs.Judging.{InferenceStands, TypesInRange, AreExpected, AllFitTo, InfersTo}
use Rattle.wy_judge.proofs.Contexts.{lawful}
use Rattle.wy_judge.proofs.Expecting.{known_kinds, kinds_agree, count_values, written_expected}
use Rattle.wy_judge.proofs.Moving.{moves_under}
use Rattle.wy_judge.proofs.Texts.{text_inferred}

------------------------------------------------------------
-- The types of the operands

few_types : (op : TextOperator) → length (text_operands op) ≤ 3
few_types Size = omega arith
few_types Part = omega arith
few_types Code = omega arith
few_types Byte = omega arith
few_types Show = omega arith

pub as_many_types : (op : TextOperator) → text_arity op ≡ length (text_operands op)
as_many_types Size = refl
as_many_types Part = refl
as_many_types Code = refl
as_many_types Byte = refl
as_many_types Show = refl

-- all of the first values, where there are no more
first_all : (y : Reading) (s : Scope) (locals : List y.Kind) (owner : Option ℕ) (n : ℕ) (xs : Values) → value_count xs ≤ n → first_values y s locals owner n xs ≡ xs
first_all y s locals owner zero none le = refl
first_all y s locals owner zero (more x xs) le = absurd (omega arith)
first_all y s locals owner (suc n) none le = refl
first_all y s locals owner (suc n) (more x xs) le = ap (more x) (first_all y s locals owner n xs (omega arith))

module _ (p : Program) (k : ℕ) (s : Scope) (c : IsScopeOf p k s) (owner : Option ℕ) where
  ------------------------------------------------------------
  -- The operands

  pub text_values : (table : Table) (q : Place) (op : TextOperator) (xs : Values) → ExprReady p k s owner table (TextCall q op xs) → ValuesReady p k s owner table xs
  text_values table q op xs h = (h.0, h.1.1, h.2)

  pub text_types : (op : TextOperator) → TypesInRange p k s owner (text_operands op)
  text_types Size t i = elim i [ inl e ↦ subst (λ v. IsTypeOf p k v) e tt | inr j ↦ absurd j ]
  text_types Part t i = elim i [
    | inl e ↦ subst (λ v. IsTypeOf p k v) e tt
    | inr j ↦ elim j [ inl e ↦ subst (λ v. IsTypeOf p k v) e tt | inr h ↦ elim h [ inl e ↦ subst (λ v. IsTypeOf p k v) e tt | inr z ↦ absurd z ] ]
  ]
  text_types Code t i = elim i [ inl e ↦ subst (λ v. IsTypeOf p k v) e tt | inr j ↦ elim j [ inl e ↦ subst (λ v. IsTypeOf p k v) e tt | inr z ↦ absurd z ] ]
  text_types Byte t i = elim i [ inl e ↦ subst (λ v. IsTypeOf p k v) e tt | inr j ↦ absurd j ]
  text_types Show t i = elim i [ inl e ↦ subst (λ v. IsTypeOf p k v) e tt | inr j ↦ absurd j ]

  -- as many operands as types
  pub text_count : (table : Table) (q : Place) (op : TextOperator) (xs : List v.Value) → ExprReady p k s owner table (TextCall q op (values_of xs)) → length xs ≡ length (text_operands op)
  text_count table q op xs h = sym (count_values xs) ∙ h.1.0 ∙ as_many_types op

  pub text_expected : (locals : List (scope_reading p k s).Kind) (op : TextOperator) → AreExpected p k s owner locals (written_spots (row_types (text_rows op))) (text_operands op)
  text_expected locals Size = written_expected p k s owner locals (text_operands Size)
  text_expected locals Part = written_expected p k s owner locals (text_operands Part)
  text_expected locals Code = written_expected p k s owner locals (text_operands Code)
  text_expected locals Byte = written_expected p k s owner locals (text_operands Byte)
  text_expected locals Show = written_expected p k s owner locals (text_operands Show)

  ------------------------------------------------------------
  -- The number of an operand that has not its type

  -- past the last operand no value has not its type
  none_past : (locals : List (scope_reading p k s).Kind) (xs : Values) (ts : List TypeRef) (n : ℕ) → value_count xs ≤ n → length ts ≤ n → HaveFirst p k s locals owner xs ts n → HaveFirst p k s locals owner xs ts (n + 1)
  none_past locals xs ts n few less h =
      let values = first_all (scope_reading p k s) s locals owner n xs few ∙ sym (first_all (scope_reading p k s) s locals owner (n + 1) xs (omega arith)) in
      let types : take n ts ≡ take (n + 1) ts = take_all n ts less ∙ sym (take_all (n + 1) ts (omega arith)) in
      subst (λ v. AllHaveAt (scope_reading p k s) s locals owner v (map (scope_reading p k s).read (take (n + 1) ts))) values
      (subst (λ v. AllHaveAt (scope_reading p k s) s locals owner (first_values (scope_reading p k s) s locals owner n xs) (map (scope_reading p k s).read v)) types h)

  pub text_few : (old new : Table) (q : Place) (op : TextOperator) (xs : List v.Value) (u : Fits) → ExprReady p k s owner old (TextCall q op (values_of xs)) →
      AllFitTo p k s owner old new xs (text_operands op) u → FewOperands u
  text_few old new q op xs (fits.Have e) h a = tt
  text_few old new q op xs (fits.Fails fault) h a = tt
  text_few old new q op xs (fits.Misfit n) h a =
      let locals = known_kinds (scope_reading p k s) new in
      let d = a.judged locals (kinds_agree (scope_reading p k s) new) (written_spots (row_types (text_rows op))) (text_expected locals op) in
      let most : length (text_operands op) ≤ 3 = few_types op in
      let many : value_count (values_of xs) ≡ length (text_operands op) = h.1.0 ∙ as_many_types op in
      elim (cases_lt n 3) [
        | inl few ↦ few
        | inr le ↦ absurd (d.1 (none_past locals (values_of xs) (text_operands op) n (omega arith) (omega arith) d.0))
      ]

  ------------------------------------------------------------
  -- The operation

  pub text_stands : (q : Place) (op : TextOperator) (u : Fits) → InferenceStands (text_outcome q op u) → NoneFails u
  text_stands q op (fits.Have e) h = tt
  text_stands q op (fits.Misfit n) h = tt
  text_stands q op (fits.Fails fault) h = h

  result_in_range : (op : TextOperator) → IsTypeOf p k (text_result op)
  result_in_range Size = tt
  result_in_range Part = tt
  result_in_range Code = tt
  result_in_range Byte = tt
  result_in_range Show = tt

  pub text_in_range : (q : Place) (op : TextOperator) (u : Fits) → IsInRangeOf p k (text_outcome q op u)
  text_in_range q op (fits.Have e) = result_in_range op
  text_in_range q op (fits.Misfit n) = tt
  text_in_range q op (fits.Fails fault) = tt

  pub text_to : (old new : Table) (q : Place) (op : TextOperator) (xs : List v.Value) (u : Fits) → AllFitTo p k s owner old new xs (text_operands op) u →
      InfersTo p k s owner old new (TextCall q op (values_of xs)) (text_outcome q op u)
  text_to old new q op xs u h = record {
    moves = moves_under p k s old new (values_vals (values_of xs)) (NoneFails u) (InferenceStands (text_outcome q op u)) h.moves (text_stands q op u);
    range = text_in_range q op u;
    judged = λ locals a. text_inferred p k s (lawful p k s) locals owner q op (values_of xs) u (h.judged locals a (written_spots (row_types (text_rows op))) (text_expected locals op));
  }
