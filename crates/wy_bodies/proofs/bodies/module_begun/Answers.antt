use Rattle.std.proofs.Common.{◌≡◌, subst}
use Rattle.std.specs.Prelude.{IfOk}
use Rattle.wy_types.specs.declared.resolved.Literal.{Literal}
use Rattle.wy_syntax.specs.Views.{part_trees}
use Rattle.wy_bodies.specs.Lending.{lent_within}
use Rattle.wy_bodies.specs.FoundBodies.{found_of, begun}
use Rattle.wy_bodies.proofs.Starts.{first_literal}
use Rattle.wy_bodies.proofs.bodies.module_begun.Goals as goal

pub returns : goal.returns
returns c =
    let w = lent_within c.args.within.now in
    let ps = part_trees c.args.parts.now in
    let P : Literal → Type 0 = λ l. IfOk c.begun.result (λ f. found_of f ≡ begun l c.args.least) in
    subst P (first_literal w c.new-variables.result ps c.in_ok-literal.literal c.new-variables.ensures c.in_ok-literal.ensures.captures c.in_ok-literal.ensures.fields) c.begun.ensures
