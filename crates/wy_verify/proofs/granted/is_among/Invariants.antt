use Rattle.std.proofs.Common.{◌≡◌, drop}
use Rattle.wy_code.specs.EachOnce.{is_among}
use Rattle.wy_verify.proofs.granted.is_among.Given as goal

abbrev pub invariant-loop-text : goal.invariant-loop-text
invariant-loop-text l = is_among l.name (drop l.text-index l.names) ≡ is_among l.name l.names
