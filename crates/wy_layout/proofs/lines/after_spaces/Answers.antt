use Rattle.std.proofs.Common.{ℕ, ◌∙◌, ap, drop}
use Rattle.wy_layout.proofs.Fronts.{after_is, width_is}
use Rattle.wy_layout.proofs.lines.after_spaces.Goals as goal

pub returns-clause-value : goal.returns-clause-value
returns-clause-value c = c.behind.ensures.value ∙ ap (λ (n : ℕ). drop n c.args.text.now) (c.run_len.ensures.value ∙ width_is c.args.text.now) ∙ after_is c.args.text.now
