use Rattle.std.proofs.Common.{List, ℕ, subst, sym, ◌∙◌, ap}
use Rattle.wy_verify.specs.Authority.{firsts_of, AreBodiesNumbered, AreInstancesNumbered}
use Rattle.wy_verify.proofs.authority.authority_of.Goals as goal
use Rattle.wy_verify.proofs.Numbering.{instances_numbered, main_numbered}

pub all_rows-requires-clause-instances : goal.all_rows-requires-clause-instances
all_rows-requires-clause-instances c =
    let P : List ℕ → Type 0 = λ l. AreInstancesNumbered l c.args.file.now.instances in
    subst P (sym (c.in_ok-firsts.ensures ∙ ap firsts_of c.as_slice-grants.ensures)) (instances_numbered c.args.file.now c.requires)

pub all_rows-requires-clause-main : goal.all_rows-requires-clause-main
all_rows-requires-clause-main c =
    let P : List ℕ → Type 0 = λ l. AreBodiesNumbered l c.args.file.now.main.typing.bodies in
    subst P (sym (c.in_ok-firsts.ensures ∙ ap firsts_of c.as_slice-grants.ensures)) (main_numbered c.args.file.now c.requires)
