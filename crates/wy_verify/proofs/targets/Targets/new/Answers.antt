use Rattle.std.proofs.Common.{◌≡◌, ◌+◌, ◌-◌, Some, length, ℕ, Option, List, ap, sym, ◌∙◌, subst, arith}
use Rattle.wy_verified.proofs.Lists.{length_set}
use Rattle.wy_verify.proofs.Jumping.{AreFirstFrom, put_first}
use Rattle.wy_verify.proofs.targets.Targets.new.Goals as goal

pub loop-index-preserved : goal.loop-index-preserved
loop-index-preserved c =
    let many = c.len-many.result in
    let index = c.loop-index.index in
    let lt = c.loop-index-test.true in
    let next : many - 1 - index + 1 ≡ many - index = omega (arith, lt) in
    let same : many - 1 - index ≡ many - (index + 1) = omega (arith, lt) in
    record {
      long = ap length c.put.ensures ∙ length_set c.loop-index.targets c.address_at.result (Some (many - 1 - index)) ∙
          c.loop-index.invariant.long;
      first = subst (λ k. AreFirstFrom c.put.new.self c.args.bounds.now.targets k) same
          (subst (λ (t : List (Option ℕ)). AreFirstFrom t c.args.bounds.now.targets (many - 1 - index)) (sym c.put.ensures)
          (put_first c.loop-index.targets c.args.bounds.now.targets (many - index) (many - 1 - index) c.address_at.result next
          c.address_at.ensures c.loop-index.invariant.first));
    }
