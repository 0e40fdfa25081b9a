use Rattle.std.proofs.Common.{sym, ap, ◌∙◌}
use Rattle.std.proofs.Common.{get_or}
use Rattle.wy_image.specs.declared.file.Capture.TheVariants.{Slot}
use Rattle.std.specs.Prelude.{max}
use Rattle.wy_verify.specs.RangeParts.{slot_needed, value_needed}
use Rattle.wy_verify.proofs.RangeNeeds.{slots_more, values_more}
use Rattle.wy_verify.proofs.ranges.needs.need_of.Goals as goal

pub loop-capture-preserved : goal.loop-capture-preserved
loop-capture-preserved c =
    let cs = c.args.captures.now in
    let i = c.loop-capture.capture-index in
    let lt = c.loop-capture-test.true in (
      c.greater-slots.ensures ∙ ap (λ n. max n c.loop-capture.slots) c.slot_needed.ensures ∙ ap (λ n. max (slot_needed (get_or cs i (Slot 0))) n) c.loop-capture.invariant.0 ∙ sym (slots_more cs i (Slot 0) lt),
      c.greater-values.ensures ∙ ap (λ n. max n c.loop-capture.values) c.value_needed.ensures ∙ ap (λ n. max (value_needed (get_or cs i (Slot 0))) n) c.loop-capture.invariant.1 ∙ sym (values_more cs i (Slot 0) lt),
    )
