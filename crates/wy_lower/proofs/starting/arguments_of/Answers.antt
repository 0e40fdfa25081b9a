use Rattle.std.proofs.Common.{◌<◌, [], ◌∷◌, ◌++◌, length, get_or, sym, ap, ap₂, ◌∙◌}
use Rattle.wy_types.specs.declared.linked.Actual.TheVariants.{Grant}
use Rattle.wy_lower.specs.Lowering.{argument_of}
use Rattle.wy_lower.proofs.EmitLists.{read_any, taken_more}
use Rattle.wy_lower.proofs.starting.arguments_of.Goals as goal

pub loop-actual-preserved : goal.loop-actual-preserved
loop-actual-preserved c =
    let xs = c.args.actuals.now in
    let i = c.loop-actual.actual-index in
    let x = get_or xs i (Grant 0) in
    let lt : i < length xs = c.loop-actual-test.true in
    c.in_ok-push.ensures.ok ∙ ap₂ (λ l v. l ++ v ∷ []) c.loop-actual.invariant (c.argument_of.ensures ∙ ap argument_of (read_any xs i _ (Grant 0) lt))
    ∙ sym (taken_more argument_of xs i x lt (read_any xs i (Grant 0) x lt))
