use Rattle.std.proofs.Common.{◌≡◌, ◌+◌, drop, map, sym, ap, ◌∙◌, arith}
use Rattle.wy_types.specs.Program.{scope_of}
use Rattle.wy_lower.specs.Capped.{capped}
use Rattle.wy_lower.specs.Counts.{body_count}
use Rattle.wy_lower.proofs.EmitLists.{drop_all}
use Rattle.wy_lower.proofs.limits.body_count.Goals as goal

pub returns : goal.returns
returns c =
    let n = c.loop-scope.count in
    let none = drop_all c.args.scopes.now c.loop-scope.scope-index c.loop-scope-test.false in
    let all : n ≡ n + body_count (map scope_of (drop c.loop-scope.scope-index c.args.scopes.now)) = (let z : n ≡ n + 0 = omega arith in z) ∙ ap (λ l. n + body_count (map scope_of l)) (sym none) in
    c.loop-scope.invariant.counted ∙ ap capped all ∙ c.loop-scope.invariant.by
