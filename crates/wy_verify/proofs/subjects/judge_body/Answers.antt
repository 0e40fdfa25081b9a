use Rattle.std.proofs.Common.{sym, subst}
use Rattle.wy_verified.specs.CodeOf.{image_of}
use Rattle.wy_verify.specs.Closing.{AreClosed}
use Rattle.wy_verify.specs.Sites.{Site}
use Rattle.wy_verify.proofs.Finding.{on_ok}
use Rattle.wy_verify.proofs.subjects.judge_body.Goals as goal

pub walk-requires : goal.walk-requires
walk-requires c =
    subst (λ (t : Site). AreClosed t.image c.args.pairs.now) (sym c.in_ok-site.ensures) c.requires.closed

pub returns-clause-kept : goal.returns-clause-kept
returns-clause-kept c =
    on_ok c.walk.result (AreClosed c.in_ok-site.site.image c.walk.new.pairs)
    (AreClosed (image_of c.args.subject.now.file) c.walk.new.pairs)
    (λ h. subst (λ (t : Site). AreClosed t.image c.walk.new.pairs) c.in_ok-site.ensures h) c.walk.ensures.kept
