use Rattle.std.proofs.Common.{◌≡◌, sym, ap, ◌∙◌, subst, Some, refl}
use Rattle.std.specs.Prelude.{slice_get}
use Rattle.wy_code.specs.declared.code.Code.{Code}
use Rattle.wy_code.specs.Machine.{all_instances}
use Rattle.wy_verified.proofs.Lists.{none_some}
use Rattle.wy_verify.proofs.Siting.{scope_there, typing_there, subject_there}
use Rattle.wy_verify.proofs.subject.Subject.new.Goals as goal

pub unreachable-requires : goal.unreachable-requires
unreachable-requires c =
    let i = c.instance_at-instance.result.now in
    let is : slice_get (all_instances c.args.judged.now.code) c.args.number ≡ Some i =
    subst (λ (k : Code). slice_get (all_instances k) c.args.number ≡ Some i) c.code-code.ensures
    c.instance_at-instance.ensures in
    none_some (ap Rattle.std.specs.Option.option_copied (sym c.in_default.is) ∙ c.get.ensures ∙
    ap (λ (k : Code). slice_get k.scopes i.scope) c.code-code.ensures ∙
    scope_there c.args.file.now c.args.judged.now c.requires.image c.requires.range c.args.number i is)

pub unreachable-requires-in_default-typing : goal.unreachable-requires-in_default-typing
unreachable-requires-in_default-typing c =
    let i = c.instance_at-instance.result.now in
    let is : slice_get (all_instances c.args.judged.now.code) c.args.number ≡ Some i =
    subst (λ (k : Code). slice_get (all_instances k) c.args.number ≡ Some i) c.code-code.ensures
    c.instance_at-instance.ensures in
    none_some (ap Rattle.std.specs.Option.option_copied (sym c.in_default-typing.is) ∙ c.typing.ensures ∙
    typing_there c.args.file.now c.args.judged.now c.requires.image c.requires.range c.args.number i is)

pub returns : goal.returns
returns c =
    let i = c.instance_at-instance.result.now in
    let t = c.in-Some-typing.typing.now in
    let is : slice_get (all_instances c.args.judged.now.code) c.args.number ≡ Some i =
    subst (λ (k : Code). slice_get (all_instances k) c.args.number ≡ Some i) c.code-code.ensures
    c.instance_at-instance.ensures in
    record {
      file_is = refl;
      x_is = refl;
      there = subject_there c.args.file.now c.args.judged.now c.requires.image c.requires.range c.args.number i is t
          (sym c.typing.ensures ∙ ap Rattle.std.specs.Option.option_copied c.in-Some-typing.is);
    }
