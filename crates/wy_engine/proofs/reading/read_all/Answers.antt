use Rattle.std.proofs.Common.{rules, ◌≡◌, ◌+◌, map, string_bytes, subst}
use Rattle.wy_engine.specs.Reading.{StopsAt}
use Rattle.wy_engine.specs.Texts.{first_bytes}
use Rattle.wy_engine.proofs.ReadingOn.{reads_more, stands_at, stops_after, stops_at}
use Rattle.wy_engine.proofs.reading.read_all.Goals as goal

pub returns-then-is_err-clause-starved : goal.returns-then-is_err-clause-starved
returns-then-is_err-clause-starved g c = λ _.
    stops_after (first_bytes c.args.command) _ c.loop-well.well (string_bytes c.index-names-well.result) (g.S.Shelf.state c.args.shelf.now) (g.S.Shelf.state c.loop-well.shelf) (g.S.Shelf.state c.read.new.self) c.loop-well.texts
    (stands_at string_bytes c.args.names.now c.loop-well.well c.index-names-well.result (search rules) (search rules))
    c.loop-well.invariant (search rules)

pub returns-in-Err-Failed-clause-unread : goal.returns-in-Err-Failed-clause-unread
returns-in-Err-Failed-clause-unread g c = λ file is.
    let same : c.loop-well.well + 1 ≡ file = cc in
    subst (λ x. StopsAt (map string_bytes c.args.names.now) x (g.S.Shelf.state c.args.shelf.now) (g.S.Shelf.state c.read.new.self)) same (
    stops_at (first_bytes c.args.command) _ c.loop-well.well (string_bytes c.index-names-well.result) (g.S.Shelf.state c.args.shelf.now) (g.S.Shelf.state c.loop-well.shelf) (g.S.Shelf.state c.read.new.self) c.loop-well.texts
    (stands_at string_bytes c.args.names.now c.loop-well.well c.index-names-well.result (search rules) (search rules))
    c.loop-well.invariant (search rules) c.read.ensures.counted (search rules))

pub loop-well-preserved : goal.loop-well-preserved
loop-well-preserved g c =
    reads_more (first_bytes c.args.command) _ c.loop-well.well (string_bytes c.index-names-well.result) c.from_vec.result (g.S.Shelf.state c.args.shelf.now) (g.S.Shelf.state c.loop-well.shelf) (g.S.Shelf.state c.read.new.self) c.loop-well.texts c.push.new.self
    (stands_at string_bytes c.args.names.now c.loop-well.well c.index-names-well.result (search rules) (search rules))
    c.loop-well.invariant (search rules) (search rules) (search rules) (search rules) (search rules)
