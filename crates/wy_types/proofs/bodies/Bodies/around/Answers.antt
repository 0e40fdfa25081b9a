use Rattle.std.proofs.Common.{◌≡◌, length, ◌-◌, ◌≤◌, take, drop, [], sym, ap, ◌∙◌, subst}
use Rattle.wy_types.specs.Bodies.{StandFrom, StandIn, owned_by}
use Rattle.wy_types.proofs.Spans.{in_bounds, owned_among, part_is}
use Rattle.wy_types.proofs.bodies.Bodies.around.Goals as goal

pub part-requires : goal.part-requires
part-requires c =
    let items = c.self.inside.items.items in
    let f = c.in-Some.field-0.now.0 in
    let e = c.in-Some.field-0.now.1 in
    let s : StandFrom items c.args.owner f e = subst (StandIn items c.args.owner) (sym c.in-Some.ensures.value) (c.self.invariant c.args.owner) in
    let at : c.as_slice.result.now ≡ items = c.as_slice.ensures.value in
    subst (λ l. (f ≤ e) × (e ≤ length l)) (sym at) (in_bounds items c.args.owner f e s)

pub returns-in-Some : goal.returns-in-Some
returns-in-Some c =
    let items = c.self.inside.items.items in
    let f = c.in-Some.field-0.now.0 in
    let e = c.in-Some.field-0.now.1 in
    let s : StandFrom items c.args.owner f e = subst (StandIn items c.args.owner) (sym c.in-Some.ensures.value) (c.self.invariant c.args.owner) in
    let at : c.as_slice.result.now ≡ items = c.as_slice.ensures.value in
    ap (owned_by c.args.owner) (c.part.ensures ∙ ap (λ l. take (e - f) (drop f l)) at ∙ part_is items c.args.owner f e s)
    ∙ owned_among items c.args.owner f e s ∙ ap (owned_by c.args.owner) c.self.view_is

pub returns-in-None : goal.returns-in-None
returns-in-None c =
    let items = c.self.inside.items.items in
    let none : owned_by c.args.owner items ≡ [] = subst (StandIn items c.args.owner) (sym c.in-None.ensures.value) (c.self.invariant c.args.owner) in
    sym none ∙ ap (owned_by c.args.owner) c.self.view_is
