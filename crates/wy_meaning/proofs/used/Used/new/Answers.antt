use Rattle.std.proofs.Common.{[], ◌∷◌, ◌++◌, ap₂, ◌∙◌}
use Rattle.std.proofs.lemmas.List.{replicate_more}
use Rattle.wy_meaning.specs.Accounts.{no_account}
use Rattle.wy_meaning.proofs.used.Used.new.Goals as goal

pub loop-preserved : goal.loop-preserved
loop-preserved c = c.in_ok-push.ensures.items ∙ ap₂ (λ l a. l ++ a ∷ []) c.loop.invariant c.new.ensures ∙ replicate_more c.loop.counter no_account
