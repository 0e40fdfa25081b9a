use Rattle.std.proofs.Common.{◌∙◌}
use Rattle.wy_layout.proofs.Fronts.{line_is}
use Rattle.wy_layout.proofs.lines.line_len.Goals as goal

pub returns-clause-value : goal.returns-clause-value
returns-clause-value c = c.gap_len.ensures.value ∙ line_is c.args.text.now
