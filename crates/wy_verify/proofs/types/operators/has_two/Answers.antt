use Rattle.std.proofs.Common.{◌≡◌, ◌<◌, ◌∷◌, [], true, false, length, sym, ◌∙◌, arith}
use Rattle.wy_verify.proofs.Operands.{more_has, more_lacks}
use Rattle.wy_verify.proofs.types.operators.has_two.Goals as goal

pub returns-then-not-is_same : goal.returns-then-not-is_same
returns-then-not-is_same c =
    let r = c.requires in
    let lt : 1 < length c.args.known.now.operands = omega (arith, r) in (
      (λ t. absurd cc),
      (λ q. absurd (more_lacks 1 c.args.known.now.operands c.args.first c.operand.result (c.args.second ∷ []) lt
          c.operand.ensures
          (λ e. let z : true ≡ false = sym (c.is_same.ensures.1 e) ∙ c.if-not-is_same.true in cc) q)),
    )

pub returns : goal.returns
returns c =
    let r = c.requires in
    let lt : 1 < length c.args.known.now.operands = omega (arith, r) in
    more_has 1 c.args.known.now.operands c.args.first c.operand.result (c.args.second ∷ []) lt c.operand.ensures
    c.has_one.result (c.is_same.ensures.0 c.if-not-is_same.false) c.has_one.ensures
