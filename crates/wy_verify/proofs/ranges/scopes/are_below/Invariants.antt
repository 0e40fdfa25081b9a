use Rattle.std.proofs.Common.{ℕ, ◌<◌, take}
use Rattle.wy_text.specs.Members.{In}
use Rattle.wy_verify.proofs.ranges.scopes.are_below.Given as goal

abbrev pub invariant-loop-number : goal.invariant-loop-number
invariant-loop-number l = (n : ℕ) → In n (take l.number-index l.numbers) → n < l.bound
