use Rattle.std.proofs.Common.{◌∙◌, subst}
use Rattle.std.specs.Prelude.{◌↔◌, IsTrue}
use Rattle.wy_verify.specs.Turns.{IsSameSet}
use Rattle.wy_verify.proofs.Brought.{brings_if, brings_none}
use Rattle.wy_verify.proofs.states.brings_state.Goals as goal

pub returns-in-Some : goal.returns-in-Some
returns-in-Some c = λ js are.
    brings_if c.args.site.now c.args.known.now js c.args.taken c.args.to c.in-Some.target.now c.set_at.result
    c.meets.result c.in-Some.ensures.first (c.set_at.ensures ∙ are c.args.to) (c.meets.ensures c.args.site.now)

pub returns-in-None : goal.returns-in-None
returns-in-None c = λ js are.
    brings_none c.args.site.now c.args.known.now js c.args.taken c.args.to c.set_at-in-None.result
    c.is_same.result c.in-None.ensures.first (c.set_at-in-None.ensures ∙ are c.args.to)
    (subst (λ n. IsTrue c.is_same.result ↔ IsSameSet c.args.site.now n c.set_at-in-None.result) c.set_count.ensures
    (c.is_same.ensures c.args.site.now))
