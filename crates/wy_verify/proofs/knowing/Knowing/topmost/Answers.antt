use Rattle.std.proofs.Common.{◌-◌, ◌≤◌, [], length, take, drop, sym, ap, ◌∙◌, arith}
use Rattle.wy_verified.specs.declared.known.Known.{Known}
use Rattle.wy_verified.specs.Rules.{reversed}
use Rattle.wy_verify.proofs.Backwards.{topmost, count_is, taken_rest}
use Rattle.wy_verify.proofs.knowing.Knowing.topmost.Goals as goal

pub overflow_sub-result : goal.overflow_sub-result
overflow_sub-result c =
    let a = c.len.ensures ∙ c.self.inside.operands.ok.0 in
    let b = count_is c.self.inside.operands.items c.args.self.now c.self.inside.stored c.self.inside.set c.self.view_is in
    omega (arith, a, b, c.requires)

pub returns : goal.returns
returns c =
    let a = c.len.ensures ∙ c.self.inside.operands.ok.0 in
    let b = count_is c.self.inside.operands.items c.args.self.now c.self.inside.stored c.self.inside.set c.self.view_is in
    let ks = c.self.inside.operands.items in
    let le : c.args.count ≤ length ks = omega (arith, b, c.requires) in
    taken_rest c.as_slice.result.now (c.len.result - c.args.count) ∙
    ap (λ t. drop (c.len.result - c.args.count) t) c.as_slice.ensures.value ∙
    ap (λ n. drop (n - c.args.count) ks) a ∙ sym (topmost ks c.args.count le) ∙
    ap (λ (k : Known). reversed (take c.args.count k.operands) []) c.self.view_is
