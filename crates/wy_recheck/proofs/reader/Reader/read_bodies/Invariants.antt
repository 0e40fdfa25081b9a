use Rattle.std.proofs.Common.{◌≡◌, drop, map}
use Rattle.wy_types.specs.Program.{body_of}
use Rattle.wy_recheck.specs.Nodes.{bodies_read}
use Rattle.wy_recheck.proofs.reader.Reader.read_bodies.Given as goal

abbrev pub invariant-loop-i : goal.invariant-loop-i
invariant-loop-i l = bodies_read l.self l.fn.at (map body_of l.bodies) ≡ bodies_read l.self l.at (map body_of (drop l.i l.bodies))
