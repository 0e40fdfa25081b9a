use Rattle.std.proofs.Common.{◌∙◌}
use Rattle.std.proofs.lemmas.Result.{on_ok_weaker}
use Rattle.wy_spelling.specs.Spelling.{list_bytes, number_bytes}
use Rattle.wy_cert.specs.Spelled.{node_bytes, pair_bytes, type_bytes}
use Rattle.wy_cert.proofs.Written.{five_written}
use Rattle.wy_cert.proofs.scopes.CertScopeSpelled.write.Goals as goal

pub returns-clause-written : goal.returns-clause-written
returns-clause-written c =
    let s = c.args.self.now in
    let types = c.in_ok-write.ensures.written in
    let pairs = c.in_ok-write-2.ensures.written in
    let plain = c.in_ok-write-3.ensures.written in
    let locals = c.in_ok-write-4.ensures.written in
    on_ok_weaker c.write-5.result
    (λ nodes. (
      record { types = types.0; pairs = pairs.0; plain = plain.0; locals = locals.0; nodes = nodes.0 },
      nodes.1 ∙ five_written c.args.out.now.items _ _ _ _ (list_bytes type_bytes s.types) (list_bytes pair_bytes s.pairs) (list_bytes pair_bytes s.plain) (list_bytes number_bytes s.locals) (list_bytes node_bytes s.nodes) types.1 pairs.1 plain.1 locals.1,
    ))
    c.write-5.ensures.written
