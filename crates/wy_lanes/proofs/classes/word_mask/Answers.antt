use Rattle.std.proofs.Common.{ℕ, nat_lt, cond, bit_or, refl}
use Rattle.std.proofs.lemmas.Simd.{zip2_splat, zip2_of_maps, splat_is_map}
use Rattle.wy_lanes.specs.Classes.{is_word}
use Rattle.wy_lanes.proofs.Masks.{mask_of_lanes, itself}
use Rattle.wy_lanes.proofs.classes.word_mask.Goals as goal

pub returns : goal.returns
returns c =
    let v = c.args.block in
    let long = c.fits-block.0 in
    let letters = zip2_of_maps _ _ _ v (zip2_of_maps _ _ _ v (zip2_splat {Y = ℕ} bit_or v 64 32 long) (splat_is_map v 64 97 long)) (splat_is_map v 64 26 long) in
    let digits = zip2_of_maps _ _ _ v (zip2_splat {Y = ℕ} _ v 64 48 long) (splat_is_map v 64 10 long) in
    let underscore = zip2_splat {Y = ℕ} _ v 64 95 long in
    let high = zip2_of_maps (λ a b. cond (nat_lt a b) 255 0) _ _ v (splat_is_map v 64 127 long) (itself v) in
    mask_of_lanes _ is_word v _ c.fits-block (zip2_of_maps _ _ _ v (zip2_of_maps _ _ _ v letters digits) (zip2_of_maps _ _ _ v underscore high)) refl
