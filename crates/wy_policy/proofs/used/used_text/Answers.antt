use Rattle.std.proofs.Common.{◌≡◌, ◌<◌, ◌∙◌, List, None, Some, ℕ, ap, get_or, length, map, rules, slice_get, sym}
use Rattle.std.proofs.lemmas.Option.{slice_get-get_or, slice_get-map}
use Rattle.wy_authority.specs.declared.rows.InstanceRow.{InstanceRow}
use Rattle.wy_meaning.specs.declared.used.Account.{Account}
use Rattle.wy_text.specs.declared.fault.AtomName.{AtomName}
use Rattle.wy_policy.specs.Used.{used_lines}
use Rattle.wy_policy.proofs.UsedLines.{turn_goes, turn_stops}
use Rattle.wy_policy.proofs.used.used_text.Goals as goal

abbrev set_of : Account → List ℕ
set_of account = account.set

pub returns-in_default : goal.returns-in_default
returns-in_default c =
    let atoms = c.as_slice-atoms.result.now in
    let rows = c.as_slice-rows.result.now in
    let sets = map set_of c.args.used.now.accounts in
    let none : slice_get sets c.loop-at.at ≡ None = slice_get-map set_of c.args.used.now.accounts c.loop-at.at ∙ sym c.in_default.ensures in
    c.from_vec.ensures ∙ turn_stops atoms rows sets c.loop-at.at c.loop-at.text.items (used_lines atoms rows sets) none c.loop-at.invariant
    ∙ ap (λ (l : List AtomName). used_lines l rows sets) c.as_slice-atoms.ensures ∙ ap (λ (rs : List InstanceRow). used_lines c.args.authority.now.atoms rs sets) c.as_slice-rows.ensures

pub loop-at-preserved : goal.loop-at-preserved
loop-at-preserved c =
    let atoms = c.as_slice-atoms.result.now in
    let rows = c.as_slice-rows.result.now in
    let sets = map set_of c.args.used.now.accounts in
    let lt : c.loop-at.at < length rows = search rules in
    let row = get_or rows c.loop-at.at c.index-rows-at.result in
    let here : slice_get rows c.loop-at.at ≡ Some row = slice_get-get_or rows c.loop-at.at c.index-rows-at.result lt in
    let there : slice_get sets c.loop-at.at ≡ Some c.in-Some.set.now = slice_get-map set_of c.args.used.now.accounts c.loop-at.at ∙ sym c.in-Some.ensures in
    turn_goes atoms rows sets c.loop-at.at row c.in-Some.set.now c.loop-at.text.items c.push_line.new.text.items (used_lines atoms rows sets) here there c.in_ok-push_line.ensures c.loop-at.invariant
