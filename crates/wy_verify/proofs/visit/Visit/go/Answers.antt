use Rattle.std.proofs.Common.{◌≡◌, true, false, sym, ◌∙◌, subst}
use Rattle.wy_verify.proofs.Visits.{gone_on, gone_not}
use Rattle.wy_verify.specs.Turns.{HasGone, Visit}
use Rattle.wy_verify.proofs.visit.Visit.go.Goals as goal

pub returns-in_ok-step : goal.returns-in_ok-step
returns-in_ok-step c =
    let s = c.args.site.now in
    let v : Visit = record { known = c.self.inside.known; falls = c.self.inside.falls; jumps = c.self.inside.jumps } in
    let w : Visit = record { known = c.step.new.known; falls = c.falls_through-self-inside.result; jumps = c.note_jump.new.jumps } in
    let f = (c.falls_through-self-inside.ensures s).0 c.if-self.true in
    subst (λ (v : Visit). HasGone s v w c.args.instruction) c.self.view_is
    (gone_on s v w c.args.instruction c.note_jump.ensures.long
    (λ js are. c.note_jump.ensures.noted js c.self.inside.known (sym c.set_count.ensures) are) c.if-self.true f
    (c.in_ok-step.ensures f))

pub returns-else-self : goal.returns-else-self
returns-else-self c =
    let s = c.args.site.now in
    let v : Visit = record { known = c.self.inside.known; falls = c.self.inside.falls; jumps = c.self.inside.jumps } in
    let w : Visit = record { known = c.self.inside.known; falls = c.falls_through-self-inside.result; jumps = c.note_jump.new.jumps } in
    subst (λ (v : Visit). HasGone s v w c.args.instruction) c.self.view_is
    (gone_not s v w c.args.instruction c.note_jump.ensures.long
    (λ js are. c.note_jump.ensures.noted js c.self.inside.known (sym c.set_count.ensures) are) c.if-self.false
    (λ h. let z : true ≡ false = sym ((c.falls_through-self-inside.ensures s).1 h) ∙ c.if-self.false in cc))
