use Rattle.std.proofs.Common.{rules}
use Rattle.wy_text.proofs.Gains.{wrote_nothing}
use Rattle.wy_engine.specs.Writing.{starved}
use Rattle.wy_engine.proofs.formatting.write_form.Goals as goal

pub returns-in_default : goal.returns-in_default
returns-in_default g c = starved _ (wrote_nothing _ _) (search rules)
