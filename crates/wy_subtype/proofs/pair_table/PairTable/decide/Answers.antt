use Rattle.std.proofs.Common.{subst, sym}
use Rattle.std.specs.Prelude.{IfOk}
use Rattle.std.proofs.lemmas.Result.{IfOk-weaker}
use Rattle.wy_types.specs.Fitting.{IsTypeOf}
use Rattle.wy_subtype.specs.Verdict.{IsVerdict}
use Rattle.wy_subtype.specs.Steps.{Pair}
use Rattle.wy_subtype.specs.Decided.{Decided, Grows}
use Rattle.wy_subtype.specs.Graph.{decided_of}
use Rattle.wy_subtype.proofs.Working.{exact}
use Rattle.wy_subtype.proofs.Growing.{grown_reached}
use Rattle.wy_subtype.proofs.pair_table.PairTable.decide.Goals as goal

pub ask-requires : goal.ask-requires
ask-requires g c =
    let L : Decided → Type 0 = λ d. IsTypeOf d.about.program d.about.scope c.args.s.now in
    let R : Decided → Type 0 = λ d. IsTypeOf d.about.program d.about.scope c.args.t.now in
    record { graph = c.self.invariant; left = subst L (sym c.self.view_is) c.requires.left; right = subst R (sym c.self.view_is) c.requires.right }

pub returns : goal.returns
returns g c =
    let q : Pair = (c.args.s.now, c.args.t.now) in
    let old : Decided = c.args.self.now in
    let new : Decided = decided_of c.ask.new.self in
    let G : Decided → Type 0 = λ d. Grows q d new c.args.steps.now c.ask.new.steps in
    let grown : Grows q old new c.args.steps.now c.ask.new.steps = subst G c.self.view_is c.ask.ensures.grows in
    let V : Decided → Type 0 = λ d. IfOk c.ask.result (IsVerdict d.about.program d.about.scope d.about.mode q) in
    let verdict = subst V c.self.view_is c.ask.ensures.verdict in
    record {
      «exact» = IfOk-weaker c.ask.result _ _ (λ v h. exact old.about.program old.about.scope old.about.mode q v h) verdict;
      verdict = verdict;
      same = grown.same;
      there = c.ask.ensures.there;
      keeps = (grown.extends.tail, grown.extends.more);
      reached = λ r i. grown_reached q r old new c.args.steps.now c.ask.new.steps grown i;
      cost = grown.cost;
    }
