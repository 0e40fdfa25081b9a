use Rattle.std.proofs.Common.{rules, ◌≡◌, ◌<◌, ℕ, length, Option, subst, sym}
use Rattle.std.specs.Prelude.{IfSome}
use Rattle.wy_symbols.specs.Declarations.{first_from}
use Rattle.wy_symbols.proofs.Firsts.{number_below}
use Rattle.wy_symbols.proofs.tables.Table.number.Goals as goal

pub returns-clause-within : goal.returns-clause-within
returns-clause-within c =
    let value : c.copied.result ≡ first_from 0 c.args.self.now c.args.name.now = search rules in
    let P : Option ℕ → Type 0 = λ o. IfSome o (λ k. k < length c.args.self.now) in
    subst P (sym value) (number_below c.args.self.now c.args.name.now)
