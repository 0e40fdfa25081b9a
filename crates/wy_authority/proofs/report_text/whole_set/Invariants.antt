use Rattle.std.proofs.Common.{◌≡◌, drop}
use Rattle.wy_authority.specs.Authority.{whole_set}
use Rattle.wy_authority.proofs.report_text.whole_set.Given as goal

abbrev pub invariant-loop-i : goal.invariant-loop-i
invariant-loop-i l = l.whole ≡ whole_set (drop l.i l.bodies)
