use Rattle.std.proofs.Common.{◌≡◌, List, map, sym, ap, ◌∙◌, subst}
use Rattle.std.proofs.lemmas.Result.{IfOk-weaker}
use Rattle.wy_types.specs.Program.{program_of, scope_of}
use Rattle.wy_proving.specs.Certified.{Pair}
use Rattle.wy_certify.specs.Asking.{asks_in}
use Rattle.wy_certify.specs.Closed.{AllHold, IsClosedList}
use Rattle.wy_certify.specs.Pair.{pair_of}
use Rattle.wy_certify.specs.Step.{steps_of}
use Rattle.wy_certify.proofs.finding.closed_pairs.Goals as goal

pub closed_list-requires-clause-hold : goal.closed_list-requires-clause-hold
closed_list-requires-clause-hold c =
    let p = program_of c.args.core.now in
    let k = c.args.number in
    let mode = c.args.mode in
    let are : map pair_of c.as_slice.result.now ≡ asks_in mode p k (scope_of c.args.scope.now) (steps_of c.args.steps.now) = ap (map pair_of) c.as_slice.ensures ∙ c.in_ok-asked.ensures k in
    subst (λ (l : List Pair). AllHold p k mode l) (sym are) c.requires.hold

pub returns : goal.returns
returns c =
    let p = program_of c.args.core.now in
    let k = c.args.number in
    let mode = c.args.mode in
    let are : map pair_of c.as_slice.result.now ≡ asks_in mode p k (scope_of c.args.scope.now) (steps_of c.args.steps.now) = ap (map pair_of) c.as_slice.ensures ∙ c.in_ok-asked.ensures k in
    IfOk-weaker c.closed_list.result _ _ (λ list h s at. subst (λ (l : List Pair). IsClosedList p k s mode l (map pair_of list)) are (h s at)) c.closed_list.ensures
