use Rattle.std.proofs.Common.{rules, arith}
use Rattle.std.proofs.lemmas.Grind.{common_steps}
use Rattle.wy_text.proofs.Gains.{wrote_more}
use Rattle.wy_text.proofs.writing.write_all.Goals as goal

pub loop-rest-preserved : goal.loop-rest-preserved
loop-rest-preserved g c = wrote_more c.args.text.now c.loop-rest.rest.now c.in-Ok.taken _ (g.S.Sink.state c.args.sink.now) (g.S.Sink.state c.loop-rest.sink) (g.S.Sink.state c.write.new.self) c.loop-rest.invariant (search rules) (search rules) (grind (arith, common_steps))
