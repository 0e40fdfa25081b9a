use Rattle.std.proofs.Common.{◌↔◌, IsTrue, List, subst, ◌≤◌}
use Rattle.wy_text.specs.Members.{In}
use Rattle.wy_image.specs.declared.file.Body.{Body}
use Rattle.wy_verify.proofs.RangeJoins.{limits_of, limits_parts}
use Rattle.wy_verify.proofs.RangeTests.{refuted, reworded}
use Rattle.wy_verify.proofs.ranges.are_limits_kept.Goals as goal

pub returns-then-not-has_few_parts : goal.returns-then-not-has_few_parts
returns-then-not-has_few_parts c =
    refuted c.has_few_parts.result c.if-not-has_few_parts.true
    (c.has_few_parts.ensures)
    (limits_parts c.args.file.now)

pub returns : goal.returns
returns c =
    reworded c.have_few_slots.result
    (subst (λ (l : List Body). IsTrue c.have_few_slots.result ↔ ((b : Body) → In b l → b.slots ≤ 256)) c.as_slice-bodies.ensures c.have_few_slots.ensures)
    (λ p. limits_of c.args.file.now ((c.has_few_parts.ensures).0 c.if-not-has_few_parts.false) p)
    (λ h. h.slots)
