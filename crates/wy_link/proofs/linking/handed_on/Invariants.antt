use Rattle.std.proofs.Common.{◌≡◌, ℕ, take, map}
use Rattle.std.specs.Prelude.{slice_index_or}
use Rattle.wy_types.specs.declared.linked.Actual.TheVariants.{Grant}
use Rattle.wy_link.proofs.linking.handed_on.Given as goal

abbrev pub invariant-loop-argument : goal.invariant-loop-argument
invariant-loop-argument l = l.out ≡ map (λ (a : ℕ). slice_index_or l.actuals a (Grant 0)) (take l.argument-index l.arguments)
