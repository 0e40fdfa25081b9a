use Rattle.std.proofs.Common.{List, [], map, subst}
use Rattle.std.proofs.lemmas.Result.{IfOk-weaker}
use Rattle.wy_types.specs.Program.{program_of}
use Rattle.wy_proving.specs.Certified.{Pair}
use Rattle.wy_certify.specs.Pair.{pair_of}
use Rattle.wy_certify.specs.Closed.{pairs_in, all_looked_up, IsGrown}
use Rattle.wy_certify.proofs.PairsGrowing.{ready_first}
use Rattle.wy_certify.proofs.PairsListed.{listed_whole}
use Rattle.wy_certify.proofs.closing.closed_from.Goals as goal

pub explore-requires-clause-ready : goal.explore-requires-clause-ready
explore-requires-clause-ready g c =
    let p = program_of c.args.core.now in
    let asked : List Pair = map pair_of c.args.asked.now in
    let first : List Pair = pairs_in c.add_asked.new.self in
    let grown : IsGrown (all_looked_up c.args.mode asked) [] first = subst (λ (l : List Pair). IsGrown (all_looked_up c.args.mode asked) l first) c.new-work.ensures.none c.in_ok-add_asked.ensures.grown in
    ready_first p c.args.number c.args.mode asked first c.requires.hold grown

pub returns : goal.returns
returns g c =
    let p = program_of c.args.core.now in
    let asked : List Pair = map pair_of c.args.asked.now in
    let first : List Pair = pairs_in c.add_asked.new.self in
    let grown : IsGrown (all_looked_up c.args.mode asked) [] first = subst (λ (l : List Pair). IsGrown (all_looked_up c.args.mode asked) l first) c.new-work.ensures.none c.in_ok-add_asked.ensures.grown in
    IfOk-weaker c.listed.result _ _ (λ l e s at. listed_whole p c.args.number s c.args.mode asked first (pairs_in c.explore.new.work) grown c.in_ok-explore.ensures at (map pair_of l) e) c.listed.ensures
