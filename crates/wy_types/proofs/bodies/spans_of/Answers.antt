use Rattle.std.proofs.Common.{rules, length, nat_eq, ◌<◌, take, get_or, [], ◌∷◌, ◌++◌, sym, subst, arith, length-take-le}
use Rattle.std.proofs.lemmas.List.{take_more}
use Rattle.indexmap.specs.IndexMap.{get}
use Rattle.wy_types.specs.Bodies.{StandIn}
use Rattle.wy_types.proofs.Spans.{IsFirst, turned}
use Rattle.wy_types.proofs.bodies.spans_of.Goals as goal
use Rattle.wy_types.proofs.bodies.spans_of.Goals.{in-Some, in-None}

pub loop-i-preserved : goal.loop-i-preserved
loop-i-preserved c = λ o.
    let bs = c.args.bodies.now in
    let i = c.loop-i.i in
    let b = get_or bs i c.index-bodies-i.result in
    let lt : i < length bs = search rules in
    let first : IsFirst (get nat_eq c.loop-i.spans b.owner) i c.match-get.first =
    elim c.match-get.branch [
      | in-Some w ↦ subst (λ v. IsFirst v i c.match-get.first) w.in-Some.ensures.value w.first-is
      | in-None w ↦ subst (λ v. IsFirst v i c.match-get.first) w.in-None.ensures.value w.first-is
    ] in
    subst (λ l. StandIn l o (get nat_eq c.insert.new.self o)) (sym (take_more bs i c.index-bodies-i.result lt))
    (subst (λ v. StandIn (take i bs ++ b ∷ []) o v) (sym (c.in_ok-insert.ensures.updates.0 o))
    (turned (take i bs) b i c.match-get.first (length-take-le i bs (omega (arith, lt))) (λ x. get nat_eq c.loop-i.spans x) c.loop-i.invariant first o))
