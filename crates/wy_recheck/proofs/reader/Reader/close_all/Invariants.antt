use Rattle.std.proofs.Common.{◌≡◌, ◌≤◌, length, take}
use Rattle.wy_proving.specs.Reading.{part_stands}
use Rattle.wy_recheck.specs.Nodes.{left, closing}
use Rattle.wy_recheck.proofs.reader.Reader.close_all.Given as goal

abbrev pub decreases-loop-open : goal.decreases-loop-open
decreases-loop-open l = l.open

abbrev pub invariant-loop-open : goal.invariant-loop-open
invariant-loop-open l = record {
  few : l.open ≤ length l.waiting;
  same : closing l.self l.waiting (part_stands l.fn.last.typ l.fn.last.effect l.fn.at (left l.self l.fn.at)) ≡ closing l.self (take l.open l.waiting) (part_stands l.part.typ l.part.effect l.at (left l.self l.at));
}
