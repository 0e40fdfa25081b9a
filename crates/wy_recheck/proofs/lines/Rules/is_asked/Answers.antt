use Rattle.std.proofs.Common.{◌≡◌, ◌↔◌, List, true, ap, ◌∙◌, subst}
use Rattle.std.specs.Prelude.{slice_get}
use Rattle.std.proofs.lemmas.Result.{IfOk-weaker}
use Rattle.wy_types.specs.declared.resolved.OwnName.{OwnName}
use Rattle.wy_types.specs.Ground.{type_of}
use Rattle.wy_recheck.specs.Rules.{AskedOfType}
use Rattle.wy_recheck.proofs.lines.Rules.is_asked.Goals as goal

pub returns : goal.returns
returns c = IfOk-weaker c.type_is_asked.result _ _ (λ b tells x by. subst (λ t. (b ≡ true) ↔ AskedOfType x c.args.asked.now c.args.parameter.now.typ t) (c.in_ok-typ.ensures ∙ ap (λ (l : List OwnName). type_of (slice_get l c.args.argument)) c.as_slice.ensures) (tells x by)) c.type_is_asked.ensures
