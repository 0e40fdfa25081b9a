use Rattle.wy_image.specs.declared.file.Body.{Body}
use Rattle.std.proofs.Common.{List, sym, ap, ◌∙◌}
use Rattle.std.specs.Prelude.{slice_get}
use Rattle.wy_verified.specs.CodeOf.{typings_of}
use Rattle.wy_verify.proofs.CodingLists.{bodies_more}
use Rattle.wy_verify.proofs.RangeTests.{read_there}
use Rattle.wy_verify.proofs.coding.bodies.bodies_of.Goals as goal

pub loop-number-preserved : goal.loop-number-preserved
loop-number-preserved c =
    let there = read_there c.args.bodies.now c.loop-number.number c.index-bodies-number.result c.loop-number-test.true c.index-bodies-number.is in
    bodies_more c.args.texts.now.keys (typings_of c.args.file.now) c.args.bodies.now c.loop-number.number c.index-bodies-number.result c.loop-number-test.true c.index-bodies-number.is
    c.loop-number.list c.push.new.self _ c.loop-number.invariant
    (c.in_ok-body_of.ensures c.args.file.now c.requires.tables (ap (λ (l : List Body). slice_get l c.loop-number.number) (sym c.requires.bodies) ∙ there)) c.in_ok-push.ensures.ok
