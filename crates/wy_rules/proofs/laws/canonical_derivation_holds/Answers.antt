use Rattle.wy_rules.proofs.WritingScopes.{canonical_derivation_holds}
use Rattle.wy_rules.proofs.laws.canonical_derivation_holds.Goals as goal

pub returns : goal.returns
returns c = canonical_derivation_holds
