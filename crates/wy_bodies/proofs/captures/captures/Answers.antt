use Rattle.std.proofs.Common.{ap, map, ◌∙◌}
use Rattle.std.proofs.lemmas.Result.{IfOk-weaker}
use Rattle.wy_syntax.specs.Views.{part_trees}
use Rattle.wy_symbols.specs.Lent.{lent_text}
use Rattle.wy_bodies.proofs.captures.captures.Goals as goal

pub returns : goal.returns
returns c = IfOk-weaker c.captured.result _ _ (λ vs h. h (part_trees c.args.parts.now) (ap (map lent_text) c.deref.ensures.value ∙ c.in_ok-names.ensures)) c.captured.ensures
