use Rattle.std.proofs.Common.{◌-◌, ◌<◌, length, drop, get_or, sym, ap, ◌∙◌, arith}
use Rattle.wy_verified.specs.declared.known.Known.{Known}
use Rattle.wy_verified.specs.Walking.{top_kind}
use Rattle.wy_verify.proofs.Backwards.{below, count_is}
use Rattle.wy_verify.proofs.knowing.Knowing.operand.Goals as goal

pub overflow_sub-len-2 : goal.overflow_sub-len-2
overflow_sub-len-2 c =
    let a = c.len.ensures ∙ c.self.inside.operands.ok.0 in
    let b = count_is c.self.inside.operands.items c.args.self.now c.self.inside.stored c.self.inside.set c.self.view_is in
    omega (arith, a, b, c.requires)

pub returns : goal.returns
returns c =
    let a = c.len.ensures ∙ c.self.inside.operands.ok.0 in
    let b = count_is c.self.inside.operands.items c.args.self.now c.self.inside.stored c.self.inside.set c.self.view_is in
    let ks = c.self.inside.operands.items in
    let lt : c.args.below < length ks = omega (arith, b, c.requires) in
    c.index.ensures ∙ ap (λ n. get_or ks (n - 1 - c.args.below) c.index.result.now) a ∙
    sym (below ks c.args.below c.index.result.now lt) ∙
    ap (λ (k : Known). top_kind (drop c.args.below k.operands)) c.self.view_is
