use Rattle.std.proofs.Common.{sym, ap, ◌∙◌, subst}
use Rattle.wy_text.specs.Members.{In}
use Rattle.wy_verified.specs.Verifying.{owner_of}
use Rattle.wy_verify.specs.Verdicts.{Numbered}
use Rattle.wy_verify.proofs.Owning.{owner_here}
use Rattle.wy_verify.proofs.Siting.{owner_by_file, owner_lost}
use Rattle.wy_verify.proofs.subject.Subject.owner.Goals as goal

pub unreachable-requires : goal.unreachable-requires
unreachable-requires c =
    let s = c.self.inside in
    let b = c.args.bounds.now in
    owner_lost s.judged.now s.file.now s.x s.instance.now s.scope.now s.typing.now c.self.invariant.0 b
    (subst (λ (m : Numbered). In b m.subject.typing.bodies) (sym c.self.view_is) c.requires)
    (sym c.in-None.is ∙ c.find.ensures ∙ c.self.invariant.1 (s.instance.now.scope, b.body) ∙
    owner_here s.judged.now.code.scopes s.instance.now.scope b.body ∙
    owner_by_file s.judged.now s.file.now s.x s.instance.now s.scope.now s.typing.now c.self.invariant.0 b.body)

pub returns : goal.returns
returns c =
    let s = c.self.inside in
    let b = c.args.bounds.now in
    ap (λ (m : Numbered). owner_of m.subject.scope b.body) (sym c.self.view_is) ∙
    sym (c.find.ensures ∙ c.self.invariant.1 (s.instance.now.scope, b.body) ∙
    owner_here s.judged.now.code.scopes s.instance.now.scope b.body ∙
    owner_by_file s.judged.now s.file.now s.x s.instance.now s.scope.now s.typing.now c.self.invariant.0 b.body) ∙
    c.in-Some.is
