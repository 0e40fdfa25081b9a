use Rattle.std.proofs.Common.{◌≡◌, true, false, List, Option, sym, ap, ◌∙◌, subst}
use Rattle.std.specs.Option.{is_some}
use Rattle.wy_verified.specs.declared.known.Jumped.{Jumped}
use Rattle.wy_verified.specs.declared.known.Known.{Known}
use Rattle.wy_verified.specs.declared.known.VerifyRule.{VerifyRule}
use Rattle.wy_verify.proofs.Visits.{turn_flow, turn_falls, turn_judged}
use Rattle.wy_verify.specs.Sites.{AreNoted}
use Rattle.wy_verify.specs.Turns.{IsFlow, Visit}
use Rattle.wy_verify.proofs.visit.Visit.turn.Goals as goal

pub returns-then-not-flow_passes-clause-turned : goal.returns-then-not-flow_passes-clause-turned
returns-then-not-flow_passes-clause-turned c =
    let s = c.args.site.now in
    let i = c.instruction-instruction.result in
    turn_flow s c.args.self.now c.args.at i c.instruction-instruction.ensures.there
    c.instruction-instruction.ensures.range c.args.self.now c.requires.led
    (subst (λ (v : Visit). (js : List Jumped) (known : Known) → AreNoted v.jumps js → IsFlow s c.args.at known js i → ⊥)
    c.self.view_is (λ js known are h.
    let z : true ≡ false = sym ((c.flow_passes.ensures.decided js known are).1 h) ∙ c.if-not-flow_passes.true in cc))

pub returns-then-not-falls_in-clause-turned : goal.returns-then-not-falls_in-clause-turned
returns-then-not-falls_in-clause-turned c =
    let s = c.args.site.now in
    let i = c.instruction-instruction.result in
    turn_falls s c.args.self.now c.args.at i c.instruction-instruction.ensures.there
    c.instruction-instruction.ensures.range c.args.self.now c.requires.led
    (subst (λ (v : Visit). (js : List Jumped) (known : Known) → AreNoted v.jumps js → IsFlow s c.args.at known js i)
    c.self.view_is (λ js known are. (c.flow_passes.ensures.decided js known are).0 c.if-not-flow_passes.false))
    (λ js are h. let z : true ≡ false = sym ((c.falls_in.ensures js are).1 h) ∙ c.if-not-falls_in.true in cc)

pub returns-in_ok-go-clause-turned : goal.returns-in_ok-go-clause-turned
returns-in_ok-go-clause-turned c =
    let s = c.args.site.now in
    let i = c.instruction-instruction.result in
    turn_judged s c.args.self.now c.args.at i c.instruction-instruction.ensures.there
    c.instruction-instruction.ensures.range c.enter.new.self c.go.new.self c.in_ok-fits.fits c.in_ok-failed.failed
    (subst (λ (v : Visit). (js : List Jumped) (known : Known) → AreNoted v.jumps js → IsFlow s c.args.at known js i)
    c.self.view_is (λ js known are. (c.flow_passes.ensures.decided js known are).0 c.if-not-flow_passes.false))
    (λ js are. (c.falls_in.ensures js are).0 c.if-not-falls_in.false) c.in_ok-fits.ensures.decided c.in_ok-enter.ensures
    c.in_ok-failed.ensures.judged (λ e. c.in_ok-go.ensures)

pub returns-else-is_none-clause-turned : goal.returns-else-is_none-clause-turned
returns-else-is_none-clause-turned c =
    let s = c.args.site.now in
    let i = c.instruction-instruction.result in
    turn_judged s c.args.self.now c.args.at i c.instruction-instruction.ensures.there
    c.instruction-instruction.ensures.range c.enter.new.self c.enter.new.self c.in_ok-fits.fits c.in_ok-failed.failed
    (subst (λ (v : Visit). (js : List Jumped) (known : Known) → AreNoted v.jumps js → IsFlow s c.args.at known js i)
    c.self.view_is (λ js known are. (c.flow_passes.ensures.decided js known are).0 c.if-not-flow_passes.false))
    (λ js are. (c.falls_in.ensures js are).0 c.if-not-falls_in.false) c.in_ok-fits.ensures.decided c.in_ok-enter.ensures
    c.in_ok-failed.ensures.judged (λ e.
    let z : true ≡ false = sym c.if-is_none.ensures ∙ ap (λ (r : Option VerifyRule). is_some r) e in absurd cc)
