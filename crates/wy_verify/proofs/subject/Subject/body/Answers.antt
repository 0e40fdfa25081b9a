use Rattle.std.proofs.Common.{sym, ap, ◌∙◌, subst}
use Rattle.std.specs.Prelude.{slice_get}
use Rattle.std.specs.Option.{option_copied}
use Rattle.wy_code.specs.declared.code.Code.{Code}
use Rattle.wy_text.specs.Members.{In}
use Rattle.wy_verify.specs.Verdicts.{Numbered}
use Rattle.wy_verify.proofs.Siting.{body_lost}
use Rattle.wy_verify.proofs.subject.Subject.body.Goals as goal

pub unreachable-requires : goal.unreachable-requires
unreachable-requires c =
    let s = c.self.inside in
    let b = c.args.bounds.now in
    body_lost s.judged.now s.file.now s.x s.instance.now s.scope.now s.typing.now c.self.invariant.0 b
    (subst (λ (m : Numbered). In b m.subject.typing.bodies) (sym c.self.view_is) c.requires)
    (ap option_copied (sym c.in-None.is) ∙ c.get.ensures ∙ ap (λ (k : Code). slice_get k.bodies b.body) c.code.ensures)
