use Rattle.std.proofs.Common.{◌∙◌, sym}
use Rattle.wy_lanes.proofs.NumbersOf.{AllIn-from_inside, AllInside-from_in, each_fits}
use Rattle.wy_lanes.proofs.number_set.has_all.Goals as goal

pub returns : goal.returns
returns c =
    let inner = c.args.inner in
    let outer = c.args.outer in
    let inside = c.includes_words.ensures in
    (λ yes. AllIn-from_inside inner outer (c.fits-inner.0 ∙ sym c.fits-outer.0) (inside.0 yes), λ all. inside.1 (AllInside-from_in inner outer (each_fits inner c.fits-inner.1) all))
