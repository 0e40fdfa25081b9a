use Rattle.std.proofs.Common.{◌≡◌, ◌+◌, ◌-◌, suc, sym, ap, subst, arith}
use Rattle.wy_syntax.specs.Canonical.{indented}
use Rattle.wy_syntax.specs.Collected.{Adds}
use Rattle.wy_syntax.proofs.Gathered.{before}
use Rattle.wy_syntax.proofs.printing.pieces.push_indentation.Goals as goal

pub loop-preserved : goal.loop-preserved
loop-preserved c new k =
    let more : c.args.indents - c.loop.counter ≡ suc (c.args.indents - (c.loop.counter + 1)) = omega arith in
    c.loop.invariant new (subst (λ l. Adds l c.loop.out new) (sym (ap indented more)) (before c.push.ensures k))
