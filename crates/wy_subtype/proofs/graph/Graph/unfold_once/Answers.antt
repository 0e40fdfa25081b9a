use Rattle.std.proofs.Common.{◌≡◌, ◌∙◌, ◌++◌, ◌∷◌, [], ℕ, List, refl, ap, sym, rules}
use Rattle.wy_text.specs.Members.{In}
use Rattle.wy_subtype.specs.declared.node.Outcome.{Outcome}
use Rattle.wy_subtype.specs.declared.graph.Graph.{Graph}
use Rattle.wy_subtype.specs.Graph.{pairs_in, decided_of, IsWider}
use Rattle.wy_subtype.specs.Nodes.{pair_at}
use Rattle.wy_subtype.proofs.Knowing.{more_none, continues_none, noted_there, noted_open}
use Rattle.wy_subtype.proofs.Growing.{grows_none}
use Rattle.wy_subtype.proofs.Widening.{wider_known, wider_grows, wider_more, unfolded_known_graph, unfolded_grows, unfolded_more, unfolded_there}
use Rattle.wy_subtype.proofs.graph.Graph.unfold_once.Goals as goal

pub returns-then-not-is_open : goal.returns-then-not-is_open
returns-then-not-is_open g c =
    let old : Graph = c.args.self.now in
    record {
      graph = c.requires.graph;
      grows = grows_none (pair_at (pairs_in old) c.args.number) (decided_of old) (decided_of old) c.args.steps.now c.args.steps.now refl refl;
      more = continues_none (pairs_in old) (pairs_in old) refl;
      there = noted_there (In c.args.number old.unfolded.items) c.at.result.now.outcome (sym c.if-not-is_open.ensures) (c.requires.graph.noted c.args.number c.at.result.now c.at.ensures);
    }

pub returns-in_err-reserve : goal.returns-in_err-reserve
returns-in_err-reserve g c =
    let old : Graph = c.args.self.now in
    let new : Graph = record old { unfolded = c.reserve.new.self } in
    let w : IsWider old new = record { same = refl; more = more_none old.nodes; unfolded_same = c.reserve.ensures.items } in
    record {
      graph = wider_known old new c.requires.graph w;
      grows = wider_grows old new c.requires.graph w (pair_at (pairs_in old) c.args.number) c.args.steps.now;
      more = wider_more old new c.requires.graph w;
      there = search rules;
    }

pub returns-in_err-outcome : goal.returns-in_err-outcome
returns-in_err-outcome g c =
    let old : Graph = c.args.self.now in
    let w : IsWider old c.test.new.self = record {
      same = c.test.ensures.wider.same;
      more = c.test.ensures.wider.more;
      unfolded_same = ◌∙◌ {A = List ℕ} c.test.ensures.wider.unfolded_same c.in_ok-reserve.ensures.items;
    } in
    record {
      graph = wider_known old c.test.new.self c.requires.graph w;
      grows = wider_grows old c.test.new.self c.requires.graph w (pair_at (pairs_in old) c.args.number) c.args.steps.now;
      more = wider_more old c.test.new.self c.requires.graph w;
      there = search rules;
    }

pub returns : goal.returns
returns g c =
    let old : Graph = c.args.self.now in
    let mid : Graph = c.test.new.self in
    let new : Graph = record mid { nodes = c.learn.new.self; unfolded = c.push_reserved.new.self } in
    let same : mid.unfolded.items ≡ old.unfolded.items = ◌∙◌ {A = List ℕ} c.test.ensures.wider.unfolded_same c.in_ok-reserve.ensures.items in
    let w : IsWider old mid = record { same = c.test.ensures.wider.same; more = c.test.ensures.wider.more; unfolded_same = same } in
    let n : ℕ = c.args.number in
    let o : Outcome = c.in_ok-outcome.outcome in
    let fresh : In n old.unfolded.items → ⊥ = noted_open (In n old.unfolded.items) c.at.result.now.outcome (sym c.if-not-is_open.ensures) (c.requires.graph.noted n c.at.result.now c.at.ensures) in
    let more : new.unfolded.items ≡ old.unfolded.items ++ n ∷ [] = ◌∙◌ {A = List ℕ} c.push_reserved.ensures.items (ap (λ (l : List ℕ). l ++ n ∷ []) same) in
    record {
      graph = unfolded_known_graph old mid new n o c.requires.graph w c.requires.within fresh c.in_ok-outcome.ensures.outcome c.in_ok-outcome.ensures.closed refl c.learn.ensures more;
      grows = unfolded_grows old mid new n o c.requires.graph w c.requires.within fresh c.in_ok-outcome.ensures.outcome c.in_ok-outcome.ensures.closed refl c.learn.ensures more c.args.steps.now c.tick.new.self c.tick.ensures;
      more = unfolded_more old mid new n o c.requires.graph w c.requires.within fresh c.in_ok-outcome.ensures.outcome c.in_ok-outcome.ensures.closed refl c.learn.ensures more;
      there = unfolded_there old mid new n o c.requires.graph w c.requires.within fresh c.in_ok-outcome.ensures.outcome c.in_ok-outcome.ensures.closed refl c.learn.ensures more;
    }
