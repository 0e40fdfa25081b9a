use Rattle.std.proofs.Common.{◌≡◌, arith, ap, subst}
use Rattle.std.specs.Prelude.{OnOk, IfOk}
use Rattle.wy_types.specs.Code.{Block}
use Rattle.wy_types.specs.View.{block_of}
use Rattle.wy_syntax.specs.Views.{tail_tree}
use Rattle.wy_bodies.specs.InSight.{Frame}
use Rattle.wy_bodies.specs.Lending.{lent_within}
use Rattle.wy_bodies.specs.Bodies.{tail_block}
use Rattle.wy_bodies.specs.FoundBodies.{Found, found_of, after_tail}
use Rattle.wy_bodies.proofs.Starts.{outermost_is}
use Rattle.wy_bodies.proofs.bodies.first_block.Goals as goal

pub tail_block-requires : goal.tail_block-requires
tail_block-requires c =
    let start = ap (λ (f : Frame). f.start) c.outermost-frame.ensures in
    omega (arith, start)

pub returns-clause-found : goal.returns-clause-found
returns-clause-found c =
    let w = lent_within c.args.within.now in
    let b = tail_tree c.args.body.now in
    let f = found_of c.args.found.now in
    let P : Found → Type 0 = λ g. OnOk c.tail_block.result (found_of c.tail_block.new.found ≡ g) in
    subst P (ap (λ x. after_tail w x f b) (outermost_is c.outermost-frame.result c.new-variables.result c.new-variables.ensures c.outermost-frame.ensures)) c.tail_block.ensures.found

pub returns-clause-value : goal.returns-clause-value
returns-clause-value c =
    let w = lent_within c.args.within.now in
    let b = tail_tree c.args.body.now in
    let f = found_of c.args.found.now in
    let P : Block → Type 0 = λ y. IfOk c.tail_block.result (λ x. block_of x ≡ y) in
    subst P (ap (λ x. tail_block w c.args.run x f.count b) (outermost_is c.outermost-frame.result c.new-variables.result c.new-variables.ensures c.outermost-frame.ensures)) c.tail_block.ensures.value
