use Rattle.std.proofs.Common.{◌∙◌, sym, ap}
use Rattle.std.specs.Cmp.Lexicographic.{bytes_decides}
use Rattle.wy_lanes.specs.Numbers.{numbers_of}
use Rattle.wy_lanes.proofs.NumbersOf.{each_fits, words_from_numbers}
use Rattle.wy_lanes.proofs.number_set.has_same.Goals as goal

pub returns : goal.returns
returns c =
    let left = c.args.left in
    let right = c.args.right in
    let decides = bytes_decides left right in (
      λ yes. ap numbers_of (decides.0 (sym c.eq.ensures ∙ yes)),
      λ same. c.eq.ensures ∙ decides.1 (words_from_numbers left right (c.fits-left.0 ∙ sym c.fits-right.0) (each_fits left c.fits-left.1) (each_fits right c.fits-right.1) same),
    )
