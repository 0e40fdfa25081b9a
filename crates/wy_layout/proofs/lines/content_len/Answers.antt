use Rattle.std.proofs.Common.{ℕ, ◌-◌, ◌∙◌, ap, sym, subst}
use Rattle.std.proofs.lemmas.Bool.{true≢false}
use Rattle.wy_layout.specs.Cut.{HasReturn}
use Rattle.wy_layout.proofs.Fronts.{returned, unreturned}
use Rattle.wy_layout.proofs.lines.content_len.Goals as goal

pub returns-then-has_return-clause-value : goal.returns-then-has_return-clause-value
returns-then-has_return-clause-value c =
    let P : ℕ → Type 0 = λ n. HasReturn c.args.text.now n in
    ap (λ (n : ℕ). n - 1) c.line_len-len.ensures.value ∙ returned c.args.text.now (subst P c.line_len-len.ensures.value (c.has_return.ensures.0 c.if-has_return.true))

pub returns-else-has_return-clause-value : goal.returns-else-has_return-clause-value
returns-else-has_return-clause-value c =
    let P : ℕ → Type 0 = λ n. HasReturn c.args.text.now n in
    c.line_len-len.ensures.value ∙ unreturned c.args.text.now (λ h. true≢false (sym (c.has_return.ensures.1 (subst P (sym c.line_len-len.ensures.value) h)) ∙ c.if-has_return.false))
