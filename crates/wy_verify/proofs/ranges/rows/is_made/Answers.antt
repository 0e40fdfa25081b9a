use Rattle.std.proofs.Common.{List, subst, ◌≡◌, sym, Some, None}
use Rattle.std.specs.Prelude.{slice_get}
use Rattle.wy_verify.specs.declared.ranges.needs.Need.{Need}
use Rattle.wy_verify.proofs.RangeNeeds.{made_by, made_needs, made_none}
use Rattle.wy_verify.proofs.RangeTests.{denied, reworded}
use Rattle.wy_verify.proofs.ranges.rows.is_made.Goals as goal

pub returns-in-Some : goal.returns-in-Some
returns-in-Some c =
    let there = subst (λ (ns : List Need). slice_get ns c.args.literal ≡ Some c.in-Some.need) c.requires (sym c.in-Some.ensures) in
    reworded c.is_needed_there.result c.is_needed_there.ensures
    (λ p. made_by c.args.standing.now.file.now c.args.standing.now.scope.now c.args.standing.now.owner c.args.standing.now.body.now c.args.standing.now.scope.now.literals c.args.literal c.in-Some.need there p.0 p.1)
    (made_needs c.args.standing.now.file.now c.args.standing.now.scope.now c.args.standing.now.owner c.args.standing.now.body.now c.args.standing.now.scope.now.literals c.args.literal c.in-Some.need there)

pub returns-in-None : goal.returns-in-None
returns-in-None c =
    let none = subst (λ (ns : List Need). slice_get ns c.args.literal ≡ None) c.requires (sym c.in-None.ensures) in
    denied (made_none c.args.standing.now.file.now c.args.standing.now.scope.now c.args.standing.now.owner c.args.standing.now.body.now c.args.standing.now.scope.now.literals c.args.literal none)
