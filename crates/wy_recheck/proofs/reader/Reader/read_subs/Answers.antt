use Rattle.std.proofs.Common.{◌≡◌, ◌<◌, ◌+◌, List, length, get_or, drop, sym, ap, ◌∙◌, false, arith}
use Rattle.wy_rules.specs.Canonical.{same_type}
use Rattle.wy_cert.specs.declared.certificate.CertNode.{CertNode}
use Rattle.wy_proving.specs.Reading.{says_sub, part_stands, read_subs}
use Rattle.wy_recheck.specs.Nodes.{reading_of, lists_of}
use Rattle.wy_recheck.proofs.NodesPassed.{left_at, subs_end}
use Rattle.wy_recheck.proofs.reader.Reader.read_subs.Goals as goal

pub returns-then-not-same_rule : goal.returns-then-not-same_rule
returns-then-not-same_rule c =
    let r = c.args.self.now in
    let y = reading_of r in
    let at = c.loop-i.at in
    let nodes : List CertNode = r.nodes.now in
    let n : CertNode = c.index-self-i.result in
    let t = c.loop-i.part.typ in
    let e = c.loop-i.part.effect in
    let lt : at < length nodes = omega (arith, c.loop-i.invariant.place, c.loop-i-test.true) in
    let is : n ≡ get_or nodes at n = c.index-self-i.is ∙ ap (λ j. get_or nodes j n) (sym c.loop-i.invariant.place) in
    let next = left_at nodes at n lt is in
    let another : says_sub n ≡ false = ap says_sub c.index-self-i.is ∙ sym c.same_rule.ensures ∙ c.if-not-same_rule.true in
    c.loop-i.invariant.same ∙ ap (λ (l : List CertNode). read_subs y same_type (lists_of r) c.args.place t e at l) next ∙
    subs_end y same_type (lists_of r) c.args.place t e at n (drop (at + 1) nodes) another ∙ ap (λ (l : List CertNode). part_stands t e at l) (sym next)
