use Rattle.std.proofs.Common.{◌≡◌, ◌↔◌, List, sym, ap, subst, ◌∙◌, true}
use Rattle.std.specs.Prelude.{IfOk, slice_get}
use Rattle.wy_types.specs.declared.types.TypeRef.{TypeRef}
use Rattle.wy_types.specs.declared.resolved.OwnName.{OwnName}
use Rattle.wy_types.specs.Program.{scope_of}
use Rattle.wy_types.specs.Types.{substituted}
use Rattle.wy_types.specs.Fitting.{IsTypeOf, own_count}
use Rattle.wy_types.specs.Ground.{type_of}
use Rattle.wy_subtype.specs.declared.verdict.Mode.{Mode}
use Rattle.wy_subtype.specs.declared.verdict.Mode.TheVariants.{Annotated}
use Rattle.wy_subtype.specs.Verdict.{IsSubtypeIn}
use Rattle.wy_link.proofs.Ranges.{substituted_fits, handed_as}
use Rattle.wy_link.proofs.instances.is_argument.Goals as goal

pub holds-requires-clause-left : goal.holds-requires-clause-left
holds-requires-clause-left c =
    let a = c.args.pairs.now.about in
    handed_as a.program a.scope (scope_of c.args.scope.now) c.requires.context c.as_slice.result.now c.args.argument c.in_ok-typ.typ c.as_slice.ensures c.in_ok-typ.ensures

pub holds-requires-clause-right : goal.holds-requires-clause-right
holds-requires-clause-right c =
    let a = c.args.pairs.now.about in
    subst (IsTypeOf a.program a.scope) (sym c.in_ok-expected.ensures) (substituted_fits a.program (own_count a.program a.scope) c.args.sets.now c.args.parameter.now.typ c.requires.sets c.requires.written)

pub returns-clause-outcome : goal.returns-clause-outcome
returns-clause-outcome c =
    let a = c.args.pairs.now.about in
    let Tells = λ (mode : Mode) (t u : TypeRef). IfOk c.holds.result (λ b. (b ≡ true) ↔ IsSubtypeIn a.program a.scope mode t u) in
    let is = c.in_ok-typ.ensures ∙ ap (λ (ns : List OwnName). type_of (slice_get ns c.args.argument)) c.as_slice.ensures in
    subst (λ (t : TypeRef). Tells Annotated t (substituted c.args.sets.now c.args.parameter.now.typ)) is
    (subst (λ (u : TypeRef). Tells Annotated c.in_ok-typ.typ u) c.in_ok-expected.ensures (subst (λ (m : Mode). Tells m c.in_ok-typ.typ c.in_ok-expected.expected) c.requires.mode c.holds.ensures.exact))
