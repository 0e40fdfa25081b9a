use Rattle.std.proofs.Common.{◌↔◌, IsTrue, ℕ, List, subst}
use Rattle.wy_text.specs.Members.{In}
use Rattle.wy_image.specs.declared.typing.Reference.{Reference}
use Rattle.wy_verified.specs.Ranges.{AreInRange}
use Rattle.wy_verify.specs.RangeParts.{IsValSlot}
use Rattle.wy_verify.proofs.RangeJoins.{target_of}
use Rattle.wy_verify.proofs.RangeTests.{refuted, reworded}
use Rattle.wy_verify.proofs.ranges.bounds.is_target.Goals as goal

pub returns-then-not-is_address : goal.returns-then-not-is_address
returns-then-not-is_address c =
    refuted c.is_address.result c.if-not-is_address.true
    (c.is_address.ensures)
    (λ t. t.address)

pub returns-then-not-are_references : goal.returns-then-not-are_references
returns-then-not-are_references c =
    refuted c.are_references.result c.if-not-are_references.true
    (subst (λ (l : List Reference). IsTrue c.are_references.result ↔ AreInRange c.args.writer.now.file.now c.args.writer.now.instance c.args.writer.now.scope.now l) c.as_slice-operands.ensures c.are_references.ensures)
    (λ t. t.operands)

pub returns : goal.returns
returns c =
    reworded c.are_val_slots.result
    (subst (λ (l : List ℕ). IsTrue c.are_val_slots.result ↔ ((i : ℕ) → In i l → IsValSlot c.args.body.now c.args.vals i)) c.as_slice-stored.ensures c.are_val_slots.ensures)
    (λ p. target_of c.args.writer.now.file.now c.args.writer.now.instance c.args.writer.now.scope.now c.args.body.now c.args.vals c.args.target.now ((c.is_address.ensures).0 c.if-not-is_address.false) ((subst (λ (l : List Reference). IsTrue c.are_references.result ↔ AreInRange c.args.writer.now.file.now c.args.writer.now.instance c.args.writer.now.scope.now l) c.as_slice-operands.ensures c.are_references.ensures).0 c.if-not-are_references.false) p)
    (λ t. t.stored)
