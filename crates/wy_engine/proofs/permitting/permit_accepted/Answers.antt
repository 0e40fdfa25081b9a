use Rattle.std.proofs.Common.{subst}
use Rattle.wy_authority.specs.declared.rows.Authority.{Authority}
use Rattle.wy_policy.specs.Allowed.{Allowed, Judges}
use Rattle.wy_policy.specs.declared.policy.Judgement.TheVariants as judgement
use Rattle.wy_engine.specs.Answering.{kept}
use Rattle.wy_engine.proofs.permitting.permit_accepted.Goals as goal

pub returns-in-Ok-Allowed : goal.returns-in-Ok-Allowed
returns-in-Ok-Allowed g c =
    let said : Judges c.in-Ok.policy.rows c.in-Ok-authority_of.authority judgement.Allowed = rw c.in-Ok-Allowed.field-0-is at c.in-Ok-Allowed.ensures in
    let keeps : Allowed c.in-Ok.policy.rows c.in-Ok-authority_of.authority = said in
    kept c.in-Ok.policy.rows c.in-Ok.ensures.read (subst (λ (a : Authority). Allowed c.in-Ok.policy.rows a) c.in-Ok-authority_of.ensures keeps) c.write_out.ensures
