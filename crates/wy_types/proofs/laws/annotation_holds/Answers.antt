use Rattle.wy_effects.specs.Bounds.{IsUnder}
use Rattle.wy_types.specs.Bounds.{bounds_of}
use Rattle.wy_types.proofs.Annotating.{annotation}
use Rattle.wy_types.proofs.laws.annotation_holds.Goals as goal

pub returns : goal.returns
returns c = λ p w scope e t f. annotation (IsUnder (bounds_of p scope)) p w scope e t f
