use Rattle.std.proofs.Common.{◌≡◌}
use Rattle.wy_recheck.specs.Nodes.{subs_read}
use Rattle.wy_recheck.proofs.reader.Reader.read_subs.Given as goal

abbrev pub invariant-loop-i : goal.invariant-loop-i
invariant-loop-i l = record {
  place : l.at ≡ l.i;
  same : subs_read l.self l.fn.at l.place l.fn.part ≡ subs_read l.self l.at l.place l.part;
}
