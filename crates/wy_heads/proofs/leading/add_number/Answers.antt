use Rattle.std.proofs.Common.{ℕ, Option, subst, arith}
use Rattle.std.specs.Prelude.{option_to_list, OnOk}
use Rattle.wy_heads.specs.Leading.{Adds}
use Rattle.wy_heads.proofs.Searching.{adds_none}
use Rattle.wy_heads.proofs.leading.add_number.Goals as goal

pub add-requires : goal.add-requires
add-requires c = omega (arith, c.in-Some.ensures.within, c.requires)

pub returns-in-Some-clause-added : goal.returns-in-Some-clause-added
returns-in-Some-clause-added c =
    let P : Option ℕ → Type 0 = λ o. OnOk c.add.result (Adds c.args.list.now.list (option_to_list o) c.add.new.self.list) in
    subst P c.in-Some.ensures.value c.add.ensures.added

pub returns-in-None-clause-added : goal.returns-in-None-clause-added
returns-in-None-clause-added c =
    let P : Option ℕ → Type 0 = λ o. Adds c.args.list.now.list (option_to_list o) c.args.list.now.list in
    subst P c.in-None.ensures.value (adds_none c.args.list.now.list)
