use Rattle.std.proofs.Common.{sym, ap, ◌∙◌, subst}
use Rattle.std.specs.Prelude.{slice_get}
use Rattle.wy_text.specs.Members.{In}
use Rattle.wy_verified.specs.CodeOf.{image_of}
use Rattle.wy_verified.specs.Images.{Image}
use Rattle.wy_verified.specs.Verifying.{owner_of}
use Rattle.wy_verify.specs.Verdicts.{Numbered}
use Rattle.wy_verify.proofs.Siting.{is_stated, scope_here, short_parameters, short_vals, short_result, short_targets, short_values, rows_named}
use Rattle.wy_verify.proofs.site.Site.new.Goals as goal

pub effect_of-effect-requires : goal.effect_of-effect-requires
effect_of-effect-requires c =
    let s = c.subject.inside in
    let b = c.args.bounds.now in
    is_stated s.judged.now s.file.now s.x s.instance.now s.scope.now s.typing.now c.subject.invariant.0 b
    (subst (λ (m : Numbered). In b m.subject.typing.bodies) (sym c.subject.view_is) c.requires.stated)

pub invariant_of-result : goal.invariant_of-result
invariant_of-result c =
    let s = c.subject.inside in
    let b = c.args.bounds.now in
    let n = c.subject.invariant.0 in
    let at = subst (λ (m : Numbered). In b m.subject.typing.bodies) (sym c.subject.view_is) c.requires.stated in
    let is_owner = ap (λ (m : Numbered). owner_of m.subject.scope b.body) c.subject.view_is ∙ c.requires.owner in
    let is_body = ap (λ (m : Image). slice_get m.code.bodies b.body) n.image_is ∙
    ap (λ (m : Numbered). slice_get (image_of m.file).code.bodies b.body) c.subject.view_is ∙ c.requires.body in
    record {
      effect_is = c.effect_of-effect.ensures;
      typing_is = n.typing_is;
      scope_is = scope_here s.judged.now s.file.now s.x s.instance.now s.scope.now s.typing.now n;
      first = c.in_ok-targets.ensures.first;
      long = c.in_ok-targets.ensures.long ∙ c.len.ensures;
      parameters = short_parameters s.judged.now s.file.now s.x s.instance.now s.scope.now s.typing.now n b at;
      vals = short_vals s.judged.now s.file.now s.x s.instance.now s.scope.now s.typing.now n b at;
      result = short_result s.judged.now s.file.now s.x s.instance.now s.scope.now s.typing.now n b at;
      targets = short_targets s.judged.now s.file.now s.x s.instance.now s.scope.now s.typing.now n b at;
      values = short_values s.judged.now s.file.now s.x s.instance.now s.scope.now s.typing.now n;
      rows = rows_named s.judged.now s.file.now s.x s.instance.now s.scope.now s.typing.now n b at c.args.owner is_owner
          c.args.body.now is_body c.held-held.result;
    }
