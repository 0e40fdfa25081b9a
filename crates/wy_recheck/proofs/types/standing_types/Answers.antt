use Rattle.std.proofs.Common.{◌<◌, List, length, refl, sym, ap, ◌∙◌, subst}
use Rattle.std.specs.Prelude.{slice_get}
use Rattle.std.proofs.lemmas.Option.{slice_get_read}
use Rattle.std.proofs.lemmas.Result.{IfOk-weaker, IfErr-weaker}
use Rattle.wy_types.specs.declared.resolved.Scope.{Scope}
use Rattle.wy_recheck.proofs.ScopeFound.{few_atoms, types_hold, types_fail}
use Rattle.wy_recheck.proofs.types.standing_types.Goals as goal

pub types_in-requires-clause-atoms : goal.types_in-requires-clause-atoms
types_in-requires-clause-atoms c =
    let x = c.index-as_slice-number.result in
    let scopes = c.as_slice.result.now in
    let k = c.args.number in
    let below : k < length scopes = subst (λ (l : List Scope). k < length l) (sym c.as_slice.ensures) c.requires.there in
    let there = ap (λ (l : List Scope). slice_get l k) (sym c.as_slice.ensures) ∙ slice_get_read scopes _ k x refl below c.index-as_slice-number.is in
    few_atoms c.args.core.now k x there c.requires.core

pub returns-clause-stand : goal.returns-clause-stand
returns-clause-stand c =
    let x = c.index-as_slice-number.result in
    let scopes = c.as_slice.result.now in
    let k = c.args.number in
    let below : k < length scopes = subst (λ (l : List Scope). k < length l) (sym c.as_slice.ensures) c.requires.there in
    let there = ap (λ (l : List Scope). slice_get l k) (sym c.as_slice.ensures) ∙ slice_get_read scopes _ k x refl below c.index-as_slice-number.is in
    IfOk-weaker c.types_in.result _ _ (λ ts h s at. types_hold c.args.core.now k x there s at c.args.part.now c.as_slice-2.result.now c.as_slice-2.ensures h.1) c.types_in.ensures.types

pub returns-clause-first : goal.returns-clause-first
returns-clause-first c =
    let x = c.index-as_slice-number.result in
    let scopes = c.as_slice.result.now in
    let k = c.args.number in
    let below : k < length scopes = subst (λ (l : List Scope). k < length l) (sym c.as_slice.ensures) c.requires.there in
    let there = ap (λ (l : List Scope). slice_get l k) (sym c.as_slice.ensures) ∙ slice_get_read scopes _ k x refl below c.index-as_slice-number.is in
    IfErr-weaker c.types_in.result _ _ (λ f h s at. types_fail c.args.core.now k x there s at c.args.part.now c.as_slice-2.result.now c.as_slice-2.ensures f h) c.types_in.ensures.first
