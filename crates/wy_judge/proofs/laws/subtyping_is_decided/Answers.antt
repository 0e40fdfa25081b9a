use Rattle.wy_types.proofs.Arities.{core_in_range}
use Rattle.wy_judge.proofs.SubtypesDecided.{subtype_decided}
use Rattle.wy_judge.proofs.laws.subtyping_is_decided.Goals as goal

pub returns : goal.returns
returns c = λ p core k mode s t f g. subtype_decided p (core_in_range p core) k mode s t f g
