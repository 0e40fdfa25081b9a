use Rattle.std.proofs.Common.{◌≡◌, arith, ap, ap₂, subst}
use Rattle.std.specs.Prelude.{OnOk, IfOk}
use Rattle.wy_types.specs.Code.{Values}
use Rattle.wy_types.specs.View.{values_of}
use Rattle.wy_syntax.specs.Views.{part_trees}
use Rattle.wy_bodies.specs.InSight.{Frame}
use Rattle.wy_bodies.specs.Lending.{lent_within}
use Rattle.wy_bodies.specs.Bodies.{part_values}
use Rattle.wy_bodies.specs.FoundBodies.{Found, found_of, after_parts}
use Rattle.wy_bodies.proofs.Starts.{outermost_is, inside_outermost}
use Rattle.wy_bodies.proofs.bodies.first_values.Goals as goal

pub part_values-requires : goal.part_values-requires
part_values-requires c =
    let outer = ap (λ (f : Frame). f.start) c.outermost-outer.ensures in
    let inner = ap (λ (f : Frame). f.start) c.in_ok-inner.ensures in
    record { outer = omega (arith, outer); inner = omega (arith, inner); in_method = ap (λ (f : Frame). f.in_method) c.in_ok-inner.ensures }

pub returns-clause-found : goal.returns-clause-found
returns-clause-found c =
    let w = lent_within c.args.within.now in
    let ps = part_trees c.args.parts.now in
    let f = found_of c.args.found.now in
    let ks = c.new-variables.result in
    let P : Found → Type 0 = λ g. OnOk c.part_values.result (found_of c.part_values.new.found ≡ g) in
    subst P
    (ap₂ (λ x y. after_parts w x y 0 f ps) (outermost_is c.outermost-outer.result ks c.new-variables.ensures c.outermost-outer.ensures) (inside_outermost c.in_ok-inner.inner ks ps c.new-variables.ensures c.in_ok-inner.ensures))
    c.part_values.ensures.found

pub returns-clause-value : goal.returns-clause-value
returns-clause-value c =
    let w = lent_within c.args.within.now in
    let ps = part_trees c.args.parts.now in
    let f = found_of c.args.found.now in
    let ks = c.new-variables.result in
    let P : Values → Type 0 = λ v. IfOk c.part_values.result (λ vs. values_of vs.items ≡ v) in
    subst P (ap (λ x. part_values w x f.count ps) (outermost_is c.outermost-outer.result ks c.new-variables.ensures c.outermost-outer.ensures)) c.part_values.ensures.value
