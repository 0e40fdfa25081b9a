use Rattle.std.proofs.lemmas.Result.{on_ok_weaker}
use Rattle.wy_image.proofs.Written.{written_then}
use Rattle.wy_image.specs.Spelled.{atom_bytes, reference_bytes}
use Rattle.wy_spelling.specs.Plain.{text_bytes}
use Rattle.wy_spelling.specs.Spelling.{list_bytes, number_bytes}
use Rattle.wy_image.proofs.bounds.BoundsSpelled.write.Goals as goal

pub returns-clause-written : goal.returns-clause-written
returns-clause-written c =
    let self = c.args.self.now in
    let w1 = c.in_ok-write.ensures.written in
    let w2 = c.in_ok-write-2.ensures.written in
    let w3 = c.in_ok-write-3.ensures.written in
    let w4 = c.in_ok-write-4.ensures.written in
    let w5 = c.in_ok-write-5.ensures.written in
    let w6 = c.in_ok-write-6.ensures.written in
    on_ok_weaker c.write-7.result
    (λ last. (
      (w1.0, (w2.0, (w3.0, (w4.0, (w5.0, (w6.0, last.0)))))),
      written_then _ _ _ (number_bytes self.body) _ w1.1
          (written_then _ _ _ (text_bytes self.name) _ w2.1
          (written_then _ _ _ (list_bytes atom_bytes self.effect) _ w3.1
          (written_then _ _ _ (list_bytes reference_bytes self.parameters) _ w4.1
          (written_then _ _ _ (reference_bytes self.result) _ w5.1
          (written_then _ _ _ (list_bytes reference_bytes self.vals) _ w6.1 last.1))))),
    ))
    c.write-7.ensures.written
