use Rattle.std.proofs.Common.{◌≡◌, replicate}
use Rattle.wy_types.specs.declared.types.TypeRef.TheVariants.{Text}
use Rattle.wy_types.proofs.primitive.texts.Given as goal

abbrev pub invariant-loop-n : goal.invariant-loop-n
invariant-loop-n l = l.params ≡ replicate l._n Text
