use Rattle.std.proofs.Common.{◌∙◌, ap, map, rules}
use Rattle.wy_subtype.proofs.Asking.{lacking_some, lacking_none}
use Rattle.wy_premises.proofs.respecting.least_missing.Goals as goal

pub returns-then-includes-clause-none : goal.returns-then-includes-clause-none
returns-then-includes-clause-none c = c.if-includes.ensures.0 (search rules)

pub returns-clause-none : goal.returns-clause-none
returns-clause-none c =
    lacking_none c.args.effect.now c.args.declared.now c.deref.result.now c.copied.result (ap (map (λ a. a.0)) c.deref.ensures.value ∙ c.in_ok-atoms.ensures ∙ c.in_ok-without.ensures) (c.copied.ensures ∙ c.first.ensures.value)

pub returns-clause-some : goal.returns-clause-some
returns-clause-some c =
    lacking_some c.args.effect.now c.args.declared.now c.deref.result.now c.copied.result c.is_set.ensures (ap (map (λ a. a.0)) c.deref.ensures.value ∙ c.in_ok-atoms.ensures ∙ c.in_ok-without.ensures) (c.copied.ensures ∙ c.first.ensures.value)
