use Rattle.std.proofs.Common.{◌≡◌, Some, sym, subst}
use Rattle.std.specs.Prelude.{◌↔◌, slice_get}
use Rattle.wy_verified.specs.declared.known.Kind.{Kind}
use Rattle.wy_verified.specs.Kinds.{Fits, kinds_in}
use Rattle.wy_verify.specs.Turns.{SourceFitsAt}
use Rattle.wy_verify.proofs.Captured.{source_there}
use Rattle.wy_verify.proofs.Fitting.{decides}
use Rattle.wy_verify.proofs.types.literals.source_fits_at.Goals as goal

pub returns-clause-decided : goal.returns-clause-decided
returns-clause-decided c =
    let s = c.args.site.now in
    let stored = c.args.known.now.stored in
    let ks = kinds_in s.x c.args.values.now in
    let k = c.kind_there.result in
    decides c.fits.result (Fits s.image c.source_kind-source.result k)
    (SourceFitsAt s stored c.args.sources.now ks c.args.at)
    (subst (λ (j : Kind). Fits s.image j k ↔ SourceFitsAt s stored c.args.sources.now ks c.args.at)
    (sym c.source_kind-source.ensures)
    (source_there s stored c.args.sources.now ks c.args.at c.source_at.result k c.source_at.ensures
    (subst (λ n. slice_get (kinds_in n c.args.values.now) c.args.at ≡ Some k) c.x.ensures c.kind_there.ensures)))
    c.fits.ensures.decided
