use Rattle.std.proofs.Common.{◌≡◌, List, Some, sym, subst}
use Rattle.std.specs.Prelude.{slice_get}
use Rattle.wy_image.specs.declared.typing.Reference.{Reference}
use Rattle.wy_verify.proofs.Reading.{short_values}
use Rattle.wy_verify.proofs.site.Site.values.Goals as goal

pub returns-then-literal-eq0-clause-short : goal.returns-then-literal-eq0-clause-short
returns-then-literal-eq0-clause-short c = λ k r e.
    c.self.invariant.values 0 k r (subst (λ (t : List Reference). slice_get t k ≡ Some r) c.as_slice.ensures e)

pub returns-clause-short : goal.returns-clause-short
returns-clause-short c = λ k r e.
    short_values c.self.inside.typing.now c.args.literal c.in-Some.values.now c.if-literal-eq0.false
    (sym c.in-Some.ensures) c.self.invariant.values k r
    (subst (λ (t : List Reference). slice_get t k ≡ Some r) c.as_slice-2.ensures e)
