use Rattle.std.proofs.lemmas.Result.{on_ok_weaker}
use Rattle.wy_image.proofs.Written.{written_then}
use Rattle.wy_spelling.specs.Spelling.{number_bytes}
use Rattle.wy_image.proofs.bodies.BodySpelled.write.Goals as goal

pub returns-clause-written : goal.returns-clause-written
returns-clause-written c =
    let self = c.args.self.now in
    let w1 = c.in_ok-write.ensures.written in
    let w2 = c.in_ok-write-2.ensures.written in
    on_ok_weaker c.write-3.result
    (λ last. (
      (w1.0, (w2.0, last.0)),
      written_then _ _ _ (number_bytes self.parameters) _ w1.1
          (written_then _ _ _ (number_bytes self.slots) _ w2.1 last.1),
    ))
    c.write-3.ensures.written
