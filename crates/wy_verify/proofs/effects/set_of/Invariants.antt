use Rattle.std.proofs.Common.{◌≡◌, drop}
use Rattle.wy_verify.specs.Effects.{numbers_after, effect_numbers}
use Rattle.wy_verify.proofs.effects.set_of.Given as goal

abbrev pub invariant-loop-atom : goal.invariant-loop-atom
invariant-loop-atom l = numbers_after l.set (drop l.atom-index l.atom-items) ≡ effect_numbers l.atoms
