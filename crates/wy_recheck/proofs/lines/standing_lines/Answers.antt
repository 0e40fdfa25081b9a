use Rattle.std.proofs.Common.{◌<◌, List, length, refl, sym, ap, ◌∙◌, subst}
use Rattle.std.specs.Prelude.{slice_get}
use Rattle.std.proofs.lemmas.Option.{slice_get_read}
use Rattle.std.proofs.lemmas.Result.{on_ok_weaker, IfErr-weaker}
use Rattle.wy_types.specs.declared.resolved.Scope.{Scope}
use Rattle.wy_types.specs.Program.{program_of}
use Rattle.wy_types.proofs.Arities.{core_in_range}
use Rattle.wy_recheck.proofs.RulesHold.{lines_hold, lines_fail}
use Rattle.wy_recheck.proofs.lines.standing_lines.Goals as goal

pub test-requires : goal.test-requires
test-requires c = record { core = core_in_range (program_of c.args.core.now) c.requires.core }

pub returns-clause-hold : goal.returns-clause-hold
returns-clause-hold c =
    let x = c.index-as_slice-number.result in
    let scopes = c.as_slice.result.now in
    let k = c.args.number in
    let below : k < length scopes = subst (λ (l : List Scope). k < length l) (sym c.as_slice.ensures) c.requires.there in
    let there = ap (λ (l : List Scope). slice_get l k) (sym c.as_slice.ensures) ∙ slice_get_read scopes _ k x refl below c.index-as_slice-number.is in
    let part = c.args.part.now in
    on_ok_weaker c.test.result (λ h s at. lines_hold c.args.core.now k x there s at part c.in_ok-asked.asked c.as_slice-2.result.now c.as_slice-2.ensures c.in_ok-asked.ensures (h part (record { annotated = c.requires.annotated; plain = c.requires.plain }))) c.test.ensures.hold

pub returns-clause-first : goal.returns-clause-first
returns-clause-first c =
    let x = c.index-as_slice-number.result in
    let scopes = c.as_slice.result.now in
    let k = c.args.number in
    let below : k < length scopes = subst (λ (l : List Scope). k < length l) (sym c.as_slice.ensures) c.requires.there in
    let there = ap (λ (l : List Scope). slice_get l k) (sym c.as_slice.ensures) ∙ slice_get_read scopes _ k x refl below c.index-as_slice-number.is in
    let part = c.args.part.now in
    IfErr-weaker c.test.result _ _ (λ f h s at. lines_fail c.args.core.now k x there s at part c.in_ok-asked.asked c.as_slice-2.result.now c.as_slice-2.ensures c.in_ok-asked.ensures f (h part (record { annotated = c.requires.annotated; plain = c.requires.plain }))) c.test.ensures.first
