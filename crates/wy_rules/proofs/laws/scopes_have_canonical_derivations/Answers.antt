use Rattle.wy_rules.proofs.WritingScopes.{scopes_have_canonical_derivations}
use Rattle.wy_rules.proofs.laws.scopes_have_canonical_derivations.Goals as goal

pub returns : goal.returns
returns c = scopes_have_canonical_derivations
