use Rattle.std.proofs.Common.{◌≡◌, ◌<◌, ◌≤◌, ℕ, List, length, arith, subst, Some}
use Rattle.std.specs.Prelude.{slice_get}
use Rattle.std.proofs.lemmas.List.{length-map}
use Rattle.std.proofs.lemmas.Result.{IfOk-weaker}
use Rattle.wy_text.specs.Members.{In}
use Rattle.wy_text.proofs.Lists.{In-slice_get}
use Rattle.wy_subtype.specs.declared.entry.Entry.{Entry}
use Rattle.wy_subtype.specs.declared.node.Node.{Node}
use Rattle.wy_subtype.specs.declared.graph.Graph.{Graph}
use Rattle.wy_subtype.specs.Steps.{Pair}
use Rattle.wy_subtype.specs.Decided.{Grows}
use Rattle.wy_subtype.specs.Nodes.{node_pair, pair_at, Continues}
use Rattle.wy_subtype.specs.Graph.{pairs_in, decided_of, IsGraph}
use Rattle.wy_subtype.specs.Worklist.{Met}
use Rattle.wy_subtype.proofs.Knowing.{continues_length, continues_at, noted_open}
use Rattle.wy_subtype.proofs.Numbering.{there_pair}
use Rattle.wy_subtype.proofs.Looking.{looked_numbers, looked_fails, looked_same, looked_on, met_at}
use Rattle.wy_subtype.proofs.graph.Graph.advance.Goals as goal

pub unfold_once-requires : goal.unfold_once-requires
unfold_once-requires g c =
    let e : Entry = c.entry_at.result.now in
    let E : List Entry → Type 0 = λ l. slice_get l c.args.at ≡ Some e in
    let is : slice_get c.args.work.now c.args.at ≡ Some e = subst E c.as_slice.ensures c.entry_at.ensures in
    let lt : e.node < length (pairs_in c.args.self.now) = c.requires.numbers e (In-slice_get c.args.work.now c.args.at e is) in
    record { graph = c.requires.graph; within = omega (arith, lt, length-map c.args.self.now.nodes node_pair) }

pub at-requires : goal.at-requires
at-requires g c =
    let e : Entry = c.entry_at.result.now in
    let E : List Entry → Type 0 = λ l. slice_get l c.args.at ≡ Some e in
    let is : slice_get c.args.work.now c.args.at ≡ Some e = subst E c.as_slice.ensures c.entry_at.ensures in
    let old : Graph = c.args.self.now in
    let mid : Graph = c.unfold_once.new.self in
    let lt : e.node < length (pairs_in old) = c.requires.numbers e (In-slice_get c.args.work.now c.args.at e is) in
    let le : length (pairs_in old) ≤ length (pairs_in mid) = continues_length (pairs_in old) (pairs_in mid) c.unfold_once.ensures.more in
    omega (arith, length-map mid.nodes node_pair)

pub go_on-requires : goal.go_on-requires
go_on-requires g c = λ h.
    let n : ℕ = c.entry_at.result.now.node in
    let mid : Graph = c.unfold_once.new.self in
    noted_open (In n mid.unfolded.items) c.at.result.now.outcome h (c.unfold_once.ensures.graph.noted n c.at.result.now c.at.ensures) c.in_ok-unfold_once.ensures.there

pub returns-in_err-unfold_once-clause-grows : goal.returns-in_err-unfold_once-clause-grows
returns-in_err-unfold_once-clause-grows g c = λ m h.
    let e : Entry = c.entry_at.result.now in
    let E : List Entry → Type 0 = λ l. slice_get l c.args.at ≡ Some e in
    let is : slice_get c.args.work.now c.args.at ≡ Some e = subst E c.as_slice.ensures c.entry_at.ensures in
    let old : Graph = c.args.self.now in
    let mid : Graph = c.unfold_once.new.self in
    let P : Met → Type 0 = λ v. Grows v.pair (decided_of old) (decided_of mid) c.args.steps.now c.unfold_once.new.steps in
    subst P (met_at (pairs_in old) c.args.work.now c.args.at e m is h) c.unfold_once.ensures.grows

pub returns : goal.returns
returns g c =
    let e : Entry = c.entry_at.result.now in
    let E : List Entry → Type 0 = λ l. slice_get l c.args.at ≡ Some e in
    let is : slice_get c.args.work.now c.args.at ≡ Some e = subst E c.as_slice.ensures c.entry_at.ensures in
    let old : Graph = c.args.self.now in
    let mid : Graph = c.unfold_once.new.self in
    let es : List Entry = c.args.work.now in
    let new : List Entry = c.go_on.new.work in
    let k : Node = c.at.result.now in
    let grown : Grows (pair_at (pairs_in old) e.node) (decided_of old) (decided_of mid) c.args.steps.now c.unfold_once.new.steps = c.unfold_once.ensures.grows in
    let more : Continues (pairs_in old) (pairs_in mid) = c.unfold_once.ensures.more in
    let h : IsGraph old = c.requires.graph in
    let h' : IsGraph mid = c.unfold_once.ensures.graph in
    let G : Met → Type 0 = λ v. Grows v.pair (decided_of old) (decided_of mid) c.args.steps.now c.unfold_once.new.steps in
    let T : Met → Type 0 = λ v. In v.pair (decided_of mid).pairs in
    let lt : e.node < length (pairs_in old) = c.requires.numbers e (In-slice_get es c.args.at e is) in
    let Q : Pair → Type 0 = λ v. In v (decided_of mid).pairs in
    let there : In (pair_at (pairs_in old) e.node) (decided_of mid).pairs =
    subst Q (continues_at (pairs_in old) (pairs_in mid) e.node more lt) (there_pair (pairs_in mid) mid.unfolded.items e.node c.in_ok-unfold_once.ensures.there) in
    record {
      graph = h';
      numbers = IfOk-weaker c.go_on.result _ _ (looked_numbers old mid es new c.args.at e k h h' grown.same more c.requires.numbers c.requires.seen is c.at.ensures) c.go_on.ensures;
      fails = IfOk-weaker c.go_on.result _ _ (looked_fails old mid es new c.args.at e k h h' grown.same more c.requires.numbers c.requires.seen is c.at.ensures) c.go_on.ensures;
      same = IfOk-weaker c.go_on.result _ _ (looked_same old mid es new c.args.at e k h h' grown.same more c.requires.numbers c.requires.seen is c.at.ensures) c.go_on.ensures;
      advances = IfOk-weaker c.go_on.result _ _ (looked_on old mid es new c.args.at e k h h' grown.same more c.requires.numbers c.requires.seen is c.at.ensures) c.go_on.ensures;
      grows = λ m i. subst G (met_at (pairs_in old) es c.args.at e m is i) grown;
      there = IfOk-weaker c.go_on.result _ _ (λ o w. λ m i. subst T (met_at (pairs_in old) es c.args.at e m is i) there) c.go_on.ensures;
    }
