use Rattle.std.proofs.Common.{◌≡◌, ◌<◌, Some, refl, sym, subst, length, arith}
use Rattle.std.specs.Prelude.{slice_get}
use Rattle.std.proofs.lemmas.Option.{slice_get_within}
use Rattle.std.proofs.lemmas.Result.{IfOk-weaker}
use Rattle.std.proofs.lemmas.List.{length-map}
use Rattle.wy_text.specs.Members.{In}
use Rattle.wy_types.specs.Program.{program_of}
use Rattle.wy_types.specs.Fitting.{IsTypeOf}
use Rattle.wy_subtype.specs.declared.graph.Graph.{Graph}
use Rattle.wy_subtype.specs.declared.verdict.Verdict.{Verdict}
use Rattle.wy_subtype.specs.Verdict.{IsVerdict}
use Rattle.wy_subtype.specs.Steps.{Pair}
use Rattle.wy_subtype.specs.Decided.{Decided, Grows}
use Rattle.wy_subtype.specs.Nodes.{node_pair, pair_at}
use Rattle.wy_subtype.specs.Graph.{pairs_in, decided_of, IsWider}
use Rattle.wy_subtype.proofs.Knowing.{pair_at-is, meets_more}
use Rattle.wy_subtype.proofs.Widening.{wider_known, wider_decided, wider_grows}
use Rattle.wy_subtype.proofs.graph.Graph.ask.Goals as goal

pub returns-in_err-number-clause-graph : goal.returns-in_err-number-clause-graph
returns-in_err-number-clause-graph g c =
    let old : Graph = c.args.self.now in
    let mid : Graph = record old { nodes = c.number_of.new.self } in
    let q : Pair = (c.args.s.now, c.args.t.now) in
    wider_known old mid c.requires.graph (record { same = refl; more = meets_more q old.nodes mid.nodes c.number_of.ensures.meets; unfolded_same = refl })

pub returns-in_err-number-clause-grows : goal.returns-in_err-number-clause-grows
returns-in_err-number-clause-grows g c =
    let old : Graph = c.args.self.now in
    let mid : Graph = record old { nodes = c.number_of.new.self } in
    let q : Pair = (c.args.s.now, c.args.t.now) in
    wider_grows old mid c.requires.graph (record { same = refl; more = meets_more q old.nodes mid.nodes c.number_of.ensures.meets; unfolded_same = refl }) q c.args.steps.now

pub decide-requires : goal.decide-requires
decide-requires g c =
    let old : Graph = c.args.self.now in
    let mid : Graph = record old { nodes = c.number_of.new.self } in
    let q : Pair = (c.args.s.now, c.args.t.now) in
    let w : IsWider old mid = record { same = refl; more = meets_more q old.nodes mid.nodes c.number_of.ensures.meets; unfolded_same = refl } in
    let is : slice_get (pairs_in mid) c.in_ok-number.number ≡ Some q = c.in_ok-number.ensures.at in
    let at : ◌≡◌ {A = Pair} (pair_at (pairs_in mid) c.in_ok-number.number) q = pair_at-is (pairs_in mid) c.in_ok-number.number q is in
    let lt : c.in_ok-number.number < length (pairs_in mid) = slice_get_within (pairs_in mid) c.in_ok-number.number q is in
    let L : Pair → Type 0 = λ v. IsTypeOf (program_of old.core.now) old.scope v.0 in
    let R : Pair → Type 0 = λ v. IsTypeOf (program_of old.core.now) old.scope v.1 in
    record {
      graph = wider_known old mid c.requires.graph w;
      within = omega (arith, lt, length-map mid.nodes node_pair);
      left = subst L (sym at) c.requires.left;
      right = subst R (sym at) c.requires.right;
    }

pub returns : goal.returns
returns g c =
    let old : Graph = c.args.self.now in
    let mid : Graph = record old { nodes = c.number_of.new.self } in
    let q : Pair = (c.args.s.now, c.args.t.now) in
    let w : IsWider old mid = record { same = refl; more = meets_more q old.nodes mid.nodes c.number_of.ensures.meets; unfolded_same = refl } in
    let at : ◌≡◌ {A = Pair} (pair_at (pairs_in mid) c.in_ok-number.number) q = pair_at-is (pairs_in mid) c.in_ok-number.number q c.in_ok-number.ensures.at in
    let V : Verdict → Pair → Type 0 = λ v x. IsVerdict (program_of old.core.now) old.scope old.mode x v in
    let G : Pair → Decided → Type 0 = λ x d. Grows x d (decided_of c.decide.new.self) c.args.steps.now c.decide.new.steps in
    let GP : Pair → Type 0 = λ x. G x (decided_of mid) in
    let GD : Decided → Type 0 = λ d. G q d in
    let T : Pair → Type 0 = λ x. In x (decided_of c.decide.new.self).pairs in
    record {
      graph = c.decide.ensures.graph;
      verdict = IfOk-weaker c.decide.result _ _ (λ v h. (let P : Pair → Type 0 = λ x. V v x in subst P at h)) c.decide.ensures.verdict;
      grows = subst GD (wider_decided old mid c.requires.graph w) (subst GP at c.decide.ensures.grows);
      there = IfOk-weaker c.decide.result _ _ (λ v h. subst T at h) c.decide.ensures.there;
    }
