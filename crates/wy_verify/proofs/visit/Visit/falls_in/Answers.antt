use Rattle.std.proofs.Common.{List, ◌∙◌, subst}
use Rattle.std.specs.Prelude.{IsTrue, ◌↔◌}
use Rattle.wy_verified.specs.declared.known.Jumped.{Jumped}
use Rattle.wy_verify.proofs.Visits.{falls_target}
use Rattle.wy_verify.specs.Sites.{AreNoted}
use Rattle.wy_verify.specs.Turns.{comes, FallsTo, Visit}
use Rattle.wy_verify.proofs.visit.Visit.falls_in.Goals as goal

pub returns-in-Some : goal.returns-in-Some
returns-in-Some c =
    let v : Visit = record { known = c.self.inside.known; falls = c.self.inside.falls; jumps = c.self.inside.jumps } in
    subst (λ (v : Visit). (js : List Jumped) → AreNoted v.jumps js →
    (IsTrue c.falls_in_state.result ↔ FallsTo c.args.site.now (comes v) c.args.at js)) c.self.view_is
    (λ js are. falls_target c.args.site.now v c.args.at js c.in-Some.target.now c.set_at.result
    c.falls_in_state.result c.if-not-self.false c.in-Some.ensures.first (c.set_at.ensures ∙ are c.args.at)
    (c.falls_in_state.ensures c.args.site.now))
