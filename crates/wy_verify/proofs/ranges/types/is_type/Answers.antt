use Rattle.std.proofs.Common.{◌↔◌, IsTrue, ℕ, List, subst, ◌∙◌}
use Rattle.wy_text.specs.Members.{Apart}
use Rattle.wy_verify.proofs.RangeWhole.{type_of}
use Rattle.wy_verify.proofs.RangeTests.{refuted, reworded}
use Rattle.wy_verify.proofs.ranges.types.is_type.Goals as goal

pub returns-then-not-apart : goal.returns-then-not-apart
returns-then-not-apart c =
    refuted c.in_ok-apart.apart c.if-not-apart.true
    (subst (λ (l : List ℕ). IsTrue c.in_ok-apart.apart ↔ Apart l) (c.as_slice.ensures.value ∙ c.in_ok-names.ensures) c.in_ok-apart.ensures)
    (λ h. h.apart)

pub returns : goal.returns
returns c =
    reworded c.are_signatures.result
    (c.are_signatures.ensures)
    (λ p. type_of c.args.file.now c.args.signatures.now ((subst (λ (l : List ℕ). IsTrue c.in_ok-apart.apart ↔ Apart l) (c.as_slice.ensures.value ∙ c.in_ok-names.ensures) c.in_ok-apart.ensures).0 c.if-not-apart.false) p)
    (λ h. h.each)
