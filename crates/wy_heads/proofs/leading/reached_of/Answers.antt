use Rattle.std.proofs.Common.{◌<◌, rules}
use Rattle.wy_heads.proofs.CyclesFound.{reached_more}
use Rattle.wy_heads.proofs.leading.reached_of.Goals as goal

pub loop-start-preserved : goal.loop-start-preserved
loop-start-preserved c = record {
  number = search rules;
  reached = reached_more c.args.edges.now c.loop-start.reached.items c.push.new.self.items c.in_ok-reached_from.field-0 c.loop-start.start
      c.loop-start.invariant.number (search rules) c.loop-start.invariant.reached c.in_ok-reached_from.ensures;
}

pub returns : goal.returns
returns c = λ j k lt.
    let end : j < c.loop-start.start = search rules in
    c.loop-start.invariant.reached j k end
