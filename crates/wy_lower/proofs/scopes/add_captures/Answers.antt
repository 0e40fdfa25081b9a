use Rattle.std.proofs.Common.{[], ◌∷◌, ◌++◌, sym, ap₂, ◌∙◌}
use Rattle.wy_types.specs.declared.resolved.Literal.{Literal}
use Rattle.wy_lower.proofs.EmitLists.{taken_more}
use Rattle.wy_lower.proofs.scopes.add_captures.Goals as goal

pub loop-literal-preserved : goal.loop-literal-preserved
loop-literal-preserved c =
    c.in_ok-push.ensures.items ∙ ap₂ (λ l v. l ++ v ∷ []) c.loop-literal.invariant (c.in_ok-new.ensures ∙ c.as_slice.ensures)
    ∙ sym (taken_more (λ (x : Literal). x.captures) c.args.literals.now c.loop-literal.literal-index c.literal-item.result c.loop-literal-test.true c.literal-item.is)
