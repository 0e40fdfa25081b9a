-- Operations on texts: what judging one comes to, by what its operands came to.
use Rattle.std.proofs.Common.{◌≡◌, ℕ, ◌+◌, List, inl, inr, refl, subst, sym, Option}
use Rattle.wy_text.specs.declared.fault.Place.{Place}
use Rattle.wy_text.specs.declared.fault.RuleName.TheVariants.{TOp}
use Rattle.wy_text.specs.Members.{In}
use Rattle.wy_types.specs.declared.code.TextOperator.{TextOperator}
use Rattle.wy_types.specs.declared.code.TextOperator.TheVariants.{Size, Part, Code, Byte, Show}
use Rattle.wy_types.specs.Code.{TextCall, Values}
use Rattle.wy_types.specs.Program.{Program, Scope}
use Rattle.wy_types.specs.Types.{IsObject, is_plain}
use Rattle.wy_rules.specs.Operators.{Row, row, text_rows}
use Rattle.wy_rules.specs.Acceptance.{scope_reading}
use Rattle.wy_rules.specs.Nodes.{row_types, written_spots}
use Rattle.wy_rules.specs.Failing.{OperandsHave}
use Rattle.wy_rules.proofs.Forms.{Lawful}
use Rattle.wy_rules.proofs.Least.{text_call_least}
use Rattle.wy_rules.proofs.Needs.{text_needs}
use Rattle.wy_judge.specs.Fits.{Fits}
use Rattle.wy_judge.specs.Fits as fits
use Rattle.wy_premises.specs.Operators.{text_operands, text_result}
use Rattle.wy_judge.specs.Outcomes.{text_outcome}
use Rattle.wy_judge.specs.Judged.{Inferred, HaveFirst, AllFitted}
use Rattle.wy_judge.proofs.Bases.{base_below}
use Rattle.wy_judge.proofs.Lists.{fail_left}
use Rattle.wy_judge.proofs.Ending.{ends_passing, ends_failing}
use Rattle.wy_judge.proofs.Several.{first_have}

abbrev text_row : TextOperator → Row
text_row op = row (text_operands op) (text_result op)

-- each operation has one row, with a base type's result
text_row_in : (op : TextOperator) → In (text_row op) (text_rows op)
text_row_in Size = inl refl
text_row_in Part = inl refl
text_row_in Code = inl refl
text_row_in Byte = inl refl
text_row_in Show = inl refl

text_row_only : (op : TextOperator) (r : Row) → In r (text_rows op) → text_row op ≡ r
text_row_only Size r i = elim i [ inl e ↦ e | inr z ↦ absurd z ]
text_row_only Part r i = elim i [ inl e ↦ e | inr z ↦ absurd z ]
text_row_only Code r i = elim i [ inl e ↦ e | inr z ↦ absurd z ]
text_row_only Byte r i = elim i [ inl e ↦ e | inr z ↦ absurd z ]
text_row_only Show r i = elim i [ inl e ↦ e | inr z ↦ absurd z ]

text_result_base : (op : TextOperator) → IsObject (text_result op) → ⊥
text_result_base Size o = o
text_result_base Part o = o
text_result_base Code o = o
text_result_base Byte o = o
text_result_base Show o = o

module _ (p : Program) (k : ℕ) (s : Scope) (w : Lawful (scope_reading p k s)) (locals : List (scope_reading p k s).Kind) (owner : Option ℕ) where
  -- what the first operands have in a row they have in the operation's one
  in_its_row : (op : TextOperator) (xs : Values) (n : ℕ) → OperandsHave (scope_reading p k s) s locals owner (record { rows = text_rows op; operands = xs }) n → HaveFirst p k s locals owner xs (text_operands op) n
  in_its_row op xs n h = subst (λ (v : Row). HaveFirst p k s locals owner xs v.operands n) (sym (text_row_only op h.0 h.1)) h.2

  pub text_inferred : (q : Place) (op : TextOperator) (xs : Values) (u : Fits) → AllFitted p k s locals owner (written_spots (row_types (text_rows op))) xs (text_operands op) u →
      Inferred p k s locals owner (TextCall q op xs) (text_outcome q op u)
  text_inferred q op xs (fits.Have e) h =
      let l = text_call_least (scope_reading p k s) w s locals owner q op xs (text_row op) e (text_row_in op, λ r f i g. text_row_only op r i) h.0 (base_below p k (is_plain s.kind) (text_result op) (text_result_base op)) in
      (l, ends_passing p k s locals owner _ q TOp (TextCall q op xs) ((scope_reading p k s).read (text_result op)) e h.1 l.has)
  text_inferred q op xs (fits.Misfit n) h =
      ends_failing p k s locals owner _ q TOp (TextCall q op xs) (n + 1) h.2
      (λ d. (let r = text_needs (scope_reading p k s) w s locals owner q op xs d in
      h.1 (subst (λ (v : Row). HaveFirst p k s locals owner xs v.operands (n + 1)) (sym (text_row_only op r.0 r.1)) (first_have (scope_reading p k s) w s locals owner (n + 1) xs r.0.operands r.2))))
      (n, refl, (text_row op, text_row_in op, h.0), λ r. h.1 (in_its_row op xs (n + 1) r))
  text_inferred q op xs (fits.Fails fault) h = fail_left p k s locals _ _ fault h
