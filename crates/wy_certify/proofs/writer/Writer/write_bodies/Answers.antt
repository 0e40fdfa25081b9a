use Rattle.std.proofs.Common.{◌<◌, ◌≤◌, length, refl, rules}
use Rattle.wy_certify.specs.Writer.{context_of}
use Rattle.wy_certify.proofs.Bodies.{body_turn, bodies_end}
use Rattle.wy_certify.proofs.writer.Writer.write_bodies.Goals as goal

pub loop-i-init : goal.loop-i-init
loop-i-init c = record { enough = λ whole. whole; steps = λ whole. refl }

pub loop-i-preserved : goal.loop-i-preserved
loop-i-preserved c =
    let xs = c.args.bodies.now in
    let lt : c.loop-i.i < length xs = search rules in
    let h = c.write_body.ensures in
    record {
      enough = λ whole. c.loop-i.invariant.enough (h.enough whole);
      steps = λ whole. body_turn (context_of c.args.self.now) xs c.loop-i.i c.index-bodies-i.result lt c.index-bodies-i.is _ c.loop-i.out.list _ (c.loop-i.invariant.steps (h.enough whole)) (h.added whole);
    }

pub returns : goal.returns
returns c =
    let short : length c.args.bodies.now ≤ c.loop-i.i = search rules in
    record {
      enough = c.loop-i.invariant.enough;
      added = λ whole. bodies_end (context_of c.args.self.now) c.args.bodies.now c.loop-i.i short _ c.loop-i.out.list (c.loop-i.invariant.steps whole);
      holds = λ whole. tt;
    }
