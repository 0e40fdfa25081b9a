use Rattle.std.proofs.Common.{◌≡◌, List, length, sym, ap, ◌∙◌, subst, arith}
use Rattle.wy_image.specs.declared.typing.Reference.{Reference}
use Rattle.wy_verified.specs.CodeOf.{image_of}
use Rattle.wy_verified.specs.Images.{Image}
use Rattle.wy_verify.specs.Closing.{AreClosed}
use Rattle.wy_verify.specs.Sites.{AreShort}
use Rattle.wy_verify.specs.Verdicts.{Numbered}
use Rattle.wy_verify.proofs.Finding.{on_ok}
use Rattle.wy_verify.proofs.Siting.{arguments_count, short_values}
use Rattle.wy_verify.proofs.subject.Subject.first_unfit.Goals as goal

pub first_unfit-requires-clause-closed : goal.first_unfit-requires-clause-closed
first_unfit-requires-clause-closed c =
    subst (λ (m : Image). AreClosed m c.args.pairs.now)
    (sym (c.self.invariant.0.image_is ∙ ap (λ (n : Numbered). image_of n.file) c.self.view_is)) c.requires

pub first_unfit-requires-clause-short : goal.first_unfit-requires-clause-short
first_unfit-requires-clause-short c =
    let s = c.self.inside in
    subst AreShort (sym c.as_slice-values.ensures)
    (short_values s.judged.now s.file.now s.x s.instance.now s.scope.now s.typing.now c.self.invariant.0 0)

pub first_unfit-requires-clause-enough : goal.first_unfit-requires-clause-enough
first_unfit-requires-clause-enough c =
    let s = c.self.inside in
    let h = arguments_count s.judged.now s.file.now s.x s.instance.now s.scope.now s.typing.now c.self.invariant.0 in
    let b : length c.as_slice-values.result.now ≡ length s.typing.now.values =
    ap (λ (l : List Reference). length l) c.as_slice-values.ensures in
    omega (arith, h, b)

pub returns-clause-kept : goal.returns-clause-kept
returns-clause-kept c =
    let e = c.self.invariant.0.image_is ∙ ap (λ (n : Numbered). image_of n.file) c.self.view_is in
    on_ok c.first_unfit.result (AreClosed c.self.inside.judged.now c.first_unfit.new.pairs)
    (AreClosed (image_of c.args.self.now.file) c.first_unfit.new.pairs)
    (λ h. subst (λ (m : Image). AreClosed m c.first_unfit.new.pairs) e h) c.first_unfit.ensures.kept
