use Rattle.std.proofs.Common.{◌≡◌, ℕ, List, subst}
use Rattle.std.specs.Prelude.{IfOk}
use Rattle.wy_symbols.proofs.NamesOfThings.{sets_named}
use Rattle.wy_symbols.proofs.type_uses.set_table.Goals as goal

pub returns : goal.returns
returns c =
    let P : List (List ℕ) → Type 0 = λ l. IfOk c.name_table.result (λ t. t ≡ l) in
    subst P (sets_named c.args.sets.now) c.name_table.ensures
