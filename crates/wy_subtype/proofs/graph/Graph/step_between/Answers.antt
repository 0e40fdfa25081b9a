use Rattle.std.proofs.Common.{◌≡◌, ◌∙◌, ◌≤◌, length, map, ap, sym, subst}
use Rattle.wy_text.proofs.Lists.{In-unmap}
use Rattle.wy_types.specs.declared.types.TypeRef.{TypeRef}
use Rattle.wy_types.specs.Program.{Program, program_of}
use Rattle.wy_types.specs.Signature.{Signature}
use Rattle.wy_types.specs.Types.{signature}
use Rattle.wy_types.proofs.Arities.{few_parameters}
use Rattle.wy_subtype.specs.declared.graph.Graph.{Graph}
use Rattle.wy_subtype.specs.Steps.{Pair, StepsTo}
use Rattle.wy_subtype.specs.Nodes.{node_pair, pair_at, HasStep}
use Rattle.wy_subtype.specs.Graph.{about_of, pairs_in}
use Rattle.wy_subtype.proofs.Places.{slice_get-mapped}
use Rattle.wy_subtype.proofs.Knowing.{pair_at-is}
use Rattle.wy_subtype.proofs.Stepping.{read_step, step_read}
use Rattle.wy_subtype.proofs.graph.Graph.step_between.Goals as goal

pub asking_step-requires : goal.asking_step-requires
asking_step-requires c = record {
  few = λ m i.
      let r = In-unmap signature m c.as_slice.result.now i in
      let P : Signature TypeRef → Type 0 = λ v. length v.params ≤ 16 in
      subst P r.2 (few_parameters (program_of c.args.self.now.core.now) c.requires.core c.args.self.now.scope c.at-from.result.now.left c.as_slice.result.now (ap (map signature) c.as_slice.ensures.value ∙ c.in_ok-lefts.ensures) r.0 r.1);
}

pub returns : goal.returns
returns c =
    let g : Graph = c.args.self.now in
    let program : Program = program_of g.core.now in
    let p : Pair = node_pair c.at-from.result.now in
    let q : Pair = node_pair c.at-to.result.now in
    let ep : ◌≡◌ {A = Pair} (pair_at (pairs_in g) c.args.parent) p = pair_at-is (pairs_in g) c.args.parent p (slice_get-mapped node_pair g.nodes c.args.parent c.at-from.result.now c.at-from.ensures) in
    let eq : ◌≡◌ {A = Pair} (pair_at (pairs_in g) c.args.child) q = pair_at-is (pairs_in g) c.args.child q (slice_get-mapped node_pair g.nodes c.args.child c.at-to.result.now c.at-to.ensures) in
    let P : Pair → Type 0 = λ v. StepsTo program g.scope g.mode v c.in-Some.step q in
    let Q : Pair → Type 0 = λ v. StepsTo program g.scope g.mode (pair_at (pairs_in g) c.args.parent) c.in-Some.step v in
    let lefts = ap (map signature) c.as_slice.ensures.value ∙ c.in_ok-lefts.ensures in
    let rights = ap (map signature) c.as_slice-2.ensures.value ∙ c.in_ok-rights.ensures in
    subst Q (sym eq) (subst P (sym ep) (read_step program g.scope g.mode p q (map signature c.as_slice.result.now) (map signature c.as_slice-2.result.now) lefts rights c.in-Some.step (rw c.in-Some.is at c.in_ok-step.ensures.some)))

pub unreachable-requires : goal.unreachable-requires
unreachable-requires c =
    let g : Graph = c.args.self.now in
    let program : Program = program_of g.core.now in
    let p : Pair = node_pair c.at-from.result.now in
    let q : Pair = node_pair c.at-to.result.now in
    let ep : ◌≡◌ {A = Pair} (pair_at (pairs_in g) c.args.parent) p = pair_at-is (pairs_in g) c.args.parent p (slice_get-mapped node_pair g.nodes c.args.parent c.at-from.result.now c.at-from.ensures) in
    let eq : ◌≡◌ {A = Pair} (pair_at (pairs_in g) c.args.child) q = pair_at-is (pairs_in g) c.args.child q (slice_get-mapped node_pair g.nodes c.args.child c.at-to.result.now c.at-to.ensures) in
    let asked : HasStep (about_of g) (pair_at (pairs_in g) c.args.parent) (pair_at (pairs_in g) c.args.child) = c.requires.asked in
    let P : Pair → Type 0 = λ v. StepsTo program g.scope g.mode v asked.0 (pair_at (pairs_in g) c.args.child) in
    let Q : Pair → Type 0 = λ v. StepsTo program g.scope g.mode p asked.0 v in
    let lefts = ap (map signature) c.as_slice.ensures.value ∙ c.in_ok-lefts.ensures in
    let rights = ap (map signature) c.as_slice-2.ensures.value ∙ c.in_ok-rights.ensures in
    let none = rw c.in-None.is at c.in_ok-step.ensures.none in
    none asked.0 (step_read program g.scope g.mode p q (map signature c.as_slice.result.now) (map signature c.as_slice-2.result.now) lefts rights asked.0 (subst Q eq (subst P ep asked.1)))
