use Rattle.std.proofs.lemmas.Result.{on_ok_weaker}
use Rattle.wy_image.proofs.Written.{written_then}
use Rattle.wy_image.specs.Spelled.{body_bytes, grant_bytes, instance_bytes, scope_bytes, signature_bytes}
use Rattle.wy_spelling.specs.Plain.{text_bytes}
use Rattle.wy_spelling.specs.Spelling.{list_bytes}
use Rattle.wy_image.proofs.images.ImageFileSpelled.write.Goals as goal

pub returns-clause-written : goal.returns-clause-written
returns-clause-written c =
    let self = c.args.self.now in
    let w1 = c.in_ok-write.ensures.written in
    let w2 = c.in_ok-write-2.ensures.written in
    let w3 = c.in_ok-write-3.ensures.written in
    let w4 = c.in_ok-write-4.ensures.written in
    let w5 = c.in_ok-write-5.ensures.written in
    let w6 = c.in_ok-write-6.ensures.written in
    let w7 = c.in_ok-write-7.ensures.written in
    on_ok_weaker c.write-8.result
    (λ last. (
      (w1.0, (w2.0, (w3.0, (w4.0, (w5.0, (w6.0, (w7.0, last.0))))))),
      written_then _ _ _ (list_bytes text_bytes self.files) _ w1.1
          (written_then _ _ _ (list_bytes grant_bytes self.grants) _ w2.1
          (written_then _ _ _ (list_bytes text_bytes self.methods) _ w3.1
          (written_then _ _ _ (list_bytes (list_bytes signature_bytes) self.types) _ w4.1
          (written_then _ _ _ (list_bytes body_bytes self.bodies) _ w5.1
          (written_then _ _ _ (list_bytes scope_bytes self.scopes) _ w6.1
          (written_then _ _ _ (list_bytes instance_bytes self.instances) _ w7.1 last.1)))))),
    ))
    c.write-8.ensures.written
