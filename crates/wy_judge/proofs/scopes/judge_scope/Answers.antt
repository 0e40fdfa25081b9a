use Rattle.std.proofs.Common.{◌<◌, List, length, refl, sym, ap, subst, ◌∙◌}
use Rattle.std.specs.Prelude.{slice_get}
use Rattle.std.proofs.lemmas.Option.{slice_get_read}
use Rattle.std.proofs.lemmas.Result.{IfOk-weaker}
use Rattle.wy_types.specs.declared.resolved.Scope.{Scope}
use Rattle.wy_types.specs.Program.{program_of, scope_of}
use Rattle.wy_judge.specs.Walking.{IsJudged, IsJudgedAt}
use Rattle.wy_judge.proofs.Contexts.{in_range}
use Rattle.wy_judge.proofs.ScopeParts.{scope_there}
use Rattle.wy_judge.proofs.scopes.judge_scope.Goals as goal

pub new-requires : goal.new-requires
new-requires c =
    let p = program_of c.args.core.now in
    let k = c.args.number in
    let x = c.index-as_slice-number.result in
    let scopes = c.as_slice.result.now in
    let below : k < length scopes = subst (λ (l : List Scope). k < length l) (sym c.as_slice.ensures) c.requires.there in
    let there = ap (λ (l : List Scope). slice_get l k) (sym c.as_slice.ensures) ∙ slice_get_read scopes _ k x refl below c.index-as_slice-number.is in
    let h = scope_there c.args.core.now k x c.requires.keeps.core there in
    record { core = in_range p k (scope_of x) h }

pub judged-requires-clause-walk : goal.judged-requires-clause-walk
judged-requires-clause-walk c =
    let k = c.args.number in
    let x = c.index-as_slice-number.result in
    let scopes = c.as_slice.result.now in
    let below : k < length scopes = subst (λ (l : List Scope). k < length l) (sym c.as_slice.ensures) c.requires.there in
    let there = ap (λ (l : List Scope). slice_get l k) (sym c.as_slice.ensures) ∙ slice_get_read scopes _ k x refl below c.index-as_slice-number.is in
    let h = scope_there c.args.core.now k x c.requires.keeps.core there in
    record { context = h; owner = tt }

pub returns : goal.returns
returns c =
    let p = program_of c.args.core.now in
    let k = c.args.number in
    let x = c.index-as_slice-number.result in
    let scopes = c.as_slice.result.now in
    let below : k < length scopes = subst (λ (l : List Scope). k < length l) (sym c.as_slice.ensures) c.requires.there in
    let there = ap (λ (l : List Scope). slice_get l k) (sym c.as_slice.ensures) ∙ slice_get_read scopes _ k x refl below c.index-as_slice-number.is in
    let h = scope_there c.args.core.now k x c.requires.keeps.core there in
    let s = scope_of x in
    IfOk-weaker c.judged.result (λ j. IsJudged p k s j) (λ j. IsJudgedAt p k j) (λ j e. (s, h.there, e)) c.judged.ensures
