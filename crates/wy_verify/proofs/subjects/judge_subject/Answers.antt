use Rattle.std.proofs.Common.{◌≡◌, ℕ, sym, ap, ◌∙◌, subst}
use Rattle.wy_image.specs.declared.file.ImageFile.{ImageFile}
use Rattle.wy_verified.specs.CodeOf.{image_of}
use Rattle.wy_verified.specs.Images.{Image}
use Rattle.wy_verified.specs.Verifying.{Subject}
use Rattle.wy_verified.proofs.Lists.{some_same}
use Rattle.wy_verify.specs.Closing.{AreClosed}
use Rattle.wy_verify.specs.Verdicts.{IsSubjectVerdict, IsVerdictOf, IsVerdictAt}
use Rattle.wy_verify.proofs.Finding.{on_ok, if_ok}
use Rattle.wy_verify.proofs.subjects.judge_subject.Goals as goal

pub judge_all-requires : goal.judge_all-requires
judge_all-requires c =
    let e = c.requires.image ∙ ap image_of (sym c.in_ok-subject.ensures.file_is) in
    record { closed = subst (λ (m : Image). AreClosed m c.args.pairs.now) e c.requires.closed }

pub returns-clause-verdict : goal.returns-clause-verdict
returns-clause-verdict c =
    let n = c.in_ok-subject.subject in
    let a = c.in_ok-subject.ensures in
    if_ok c.judge_all.result (IsVerdictOf n) (IsVerdictAt c.args.file.now c.args.number)
    (λ v h u e.
    let same : n.subject ≡ u = some_same (sym a.there ∙ e) in
    subst (λ (u : Subject). IsSubjectVerdict (image_of c.args.file.now) c.args.number u v) same
    (subst (λ (x : ℕ). IsSubjectVerdict (image_of c.args.file.now) x n.subject v) a.x_is
    (subst (λ (f : ImageFile). IsSubjectVerdict (image_of f) n.x n.subject v) a.file_is h)))
    c.judge_all.ensures.verdict

pub returns-clause-kept : goal.returns-clause-kept
returns-clause-kept c =
    let e = c.requires.image ∙ ap image_of (sym c.in_ok-subject.ensures.file_is) in
    on_ok c.judge_all.result (AreClosed (image_of c.in_ok-subject.subject.file) c.judge_all.new.pairs)
    (AreClosed c.args.judged.now c.judge_all.new.pairs)
    (λ h. subst (λ (m : Image). AreClosed m c.judge_all.new.pairs) (sym e) h) c.judge_all.ensures.kept
