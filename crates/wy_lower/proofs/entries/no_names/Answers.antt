use Rattle.std.proofs.Common.{ℕ, ◌+◌, [], ◌∷◌, ◌++◌, length, get_or, ap, ◌∙◌, length-append}
use Rattle.wy_lower.proofs.EmitLists.{default_more}
use Rattle.wy_lower.proofs.entries.no_names.Goals as goal

pub loop-kind-preserved : goal.loop-kind-preserved
loop-kind-preserved c = record {
  long = ap length c.in_ok-push.ensures.items ∙ length-append c.loop-kind.names.items (c.new.result ∷ []) ∙ ap (λ (n : ℕ). n + 1) c.loop-kind.invariant.long;
  none = λ k. ap (λ l. get_or l k []) (c.in_ok-push.ensures.items ∙ ap (λ x. c.loop-kind.names.items ++ x ∷ []) c.new.ensures) ∙ default_more _ [] k (c.loop-kind.invariant.none k);
}
