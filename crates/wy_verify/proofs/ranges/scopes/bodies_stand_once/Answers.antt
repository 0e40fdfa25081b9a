use Rattle.std.proofs.Common.{◌↔◌, IsTrue, ℕ, List, subst, ap, ◌∙◌}
use Rattle.wy_verified.specs.Ranges.{scopes_bodies}
use Rattle.wy_verify.specs.RangeParts.{AreAllBelow}
use Rattle.wy_text.specs.Members.{Apart}
use Rattle.wy_verify.proofs.RangeWhole.{stand_once, once_stands}
use Rattle.wy_verify.proofs.RangeTests.{refuted, reworded}
use Rattle.wy_verify.proofs.ranges.scopes.bodies_stand_once.Goals as goal

pub returns-then-not-apart : goal.returns-then-not-apart
returns-then-not-apart c =
    refuted c.in_ok-apart.apart c.if-not-apart.true
    (subst (λ (l : List ℕ). IsTrue c.in_ok-apart.apart ↔ Apart l) (c.as_slice-2.ensures.value ∙ c.in_ok-bodies.ensures ∙ ap scopes_bodies c.as_slice.ensures) c.in_ok-apart.ensures)
    (λ h. h.apart)

pub returns : goal.returns
returns c =
    reworded c.are_all_below.result
    (subst (λ (k : ℕ). IsTrue c.are_all_below.result ↔ AreAllBelow (scopes_bodies c.args.file.now.scopes) k) c.len.ensures
    (subst (λ (l : List ℕ). IsTrue c.are_all_below.result ↔ AreAllBelow l c.len.result) (c.as_slice-3.ensures.value ∙ c.in_ok-bodies.ensures ∙ ap scopes_bodies c.as_slice.ensures) c.are_all_below.ensures))
    (λ p. stand_once c.args.file.now ((subst (λ (l : List ℕ). IsTrue c.in_ok-apart.apart ↔ Apart l) (c.as_slice-2.ensures.value ∙ c.in_ok-bodies.ensures ∙ ap scopes_bodies c.as_slice.ensures) c.in_ok-apart.ensures).0 c.if-not-apart.false) p)
    (once_stands c.args.file.now)
