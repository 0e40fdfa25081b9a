use Rattle.std.proofs.Common.{◌∷◌, [], length, get_or, None, ap, ◌∙◌, arith, length-append}
use Rattle.wy_lower.proofs.EmitLists.{default_more}
use Rattle.wy_lower.proofs.scopes.add_no_makers.Goals as goal

pub loop-literal-preserved : goal.loop-literal-preserved
loop-literal-preserved c = record {
  long = omega (arith, ap length c.in_ok-push.ensures.items, length-append c.loop-literal.makers.items (None ∷ []), c.loop-literal.invariant.long);
  none = λ k. ap (λ l. get_or l k None) c.in_ok-push.ensures.items ∙ default_more _ None k (c.loop-literal.invariant.none k);
}
