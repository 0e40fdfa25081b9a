use Rattle.std.proofs.Common.{◌≡◌, ℕ, ◌-◌, Bool, false, refl, ap, ◌∙◌, length}
use Rattle.wy_lanes.specs.Classes.{is_newline, is_quote, is_space, is_word, mask_of}
use Rattle.wy_lanes.proofs.Masks.{mask_of-padded}
use Rattle.wy_lanes.proofs.classes.class_masks.Goals as goal

pub returns : goal.returns
returns c =
    let bytes = c.args.bytes.now in
    let whole = λ (p : ℕ → Bool) (zero_out : p 0 ≡ false). ap (mask_of p) c.block_of-block.ensures ∙ mask_of-padded p bytes (64 - length bytes) zero_out in
    let newlines = c.equal_mask.ensures ∙ whole is_newline refl in
    let spaces = c.equal_mask-2.ensures ∙ whole is_space refl in
    let words = c.word_mask.ensures ∙ whole is_word refl in
    let quotes = c.equal_mask-3.ensures ∙ whole is_quote refl in
    cc
