use Rattle.std.proofs.Common.{ap, sym, ◌∙◌, ◌++◌, List, subst}
use Rattle.std.specs.Prelude.{slice_get}
use Rattle.std.specs.Option.{option_copied}
use Rattle.std.proofs.lemmas.Result.{on_ok_weaker}
use Rattle.wy_proving.specs.Certified.{Pair}
use Rattle.wy_recheck.specs.PairSet.{StandsFor}
use Rattle.wy_recheck.proofs.ListedPairs.{both_there}
use Rattle.wy_recheck.proofs.pairs.add_pair.Goals as goal

pub returns-in-Some-type_at : goal.returns-in-Some-type_at
returns-in-Some-type_at c =
    let a = slice_get c.args.types.now c.args.pair.now.left in
    let b = slice_get c.args.types.now c.args.pair.now.right in
    let e = both_there a b c.in-Some.left.now c.in-Some-type_at.right.now (sym c.type_at.ensures ∙ ap option_copied c.in-Some.is) (sym c.type_at-in-Some.ensures ∙ ap option_copied c.in-Some-type_at.is) in
    on_ok_weaker c.insert.result (λ h pairs st. (let P : List Pair → Type 0 = λ l. StandsFor c.insert.new.self (pairs ++ l) in subst P (sym e) (h pairs st))) c.insert.ensures
