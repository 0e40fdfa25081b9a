use Rattle.std.proofs.Common.{List, ℕ, ◌++◌, ◌∙◌, ap, append_assoc}
use Rattle.std.proofs.lemmas.Result.{on_ok_weaker}
use Rattle.wy_spelling.specs.Spelling.{number_bytes}
use Rattle.wy_cert.specs.RuleLaws.{one_byte}
use Rattle.wy_cert.specs.Spelled.{set_bytes}
use Rattle.wy_cert.proofs.nodes.CertNodeSpelled.write.Goals as goal

pub returns-clause-written : goal.returns-clause-written
returns-clause-written c =
    let n = c.args.self.now in
    let before = one_byte n.rule ++ number_bytes n.file ++ number_bytes n.line ++ number_bytes n.column ++ number_bytes n.parts ++ number_bytes n.typ in
    let first = c.in_ok-write.ensures.written in
    let place = first.0.1.0 in
    let counts = first.0.1.1 in
    on_ok_weaker c.write-2.result
    (λ effect. (
      record { file = place.0; line = place.1.0; column = place.1.1; parts = counts.0; typ = counts.1; effect = effect.0 },
      effect.1 ∙ ap (λ (t : List ℕ). t ++ set_bytes n.effect) first.1 ∙ append_assoc c.args.out.now.items before (set_bytes n.effect),
    ))
    c.write-2.ensures.written
