use Rattle.std.proofs.Common.{◌-◌, length, map, string_bytes}
use Rattle.wy_engine.specs.Reading.{ReadsWell}
use Rattle.wy_engine.specs.Texts.{first_bytes}
use Rattle.wy_engine.proofs.reading.read_all.Given as goal

abbrev pub invariant-loop-well : goal.invariant-loop-well
invariant-loop-well g l = ReadsWell (first_bytes l.command) (map string_bytes l.names) l.well (g.S.Shelf.state l.initial.shelf) (g.S.Shelf.state l.shelf) l.texts

abbrev pub decreases-loop-well : goal.decreases-loop-well
decreases-loop-well g l = length l.names - l.well
