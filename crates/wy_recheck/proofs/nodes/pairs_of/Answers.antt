use Rattle.std.proofs.Common.{sym, subst, Bool}
use Rattle.wy_recheck.specs.PairSet.{StandsFor}
use Rattle.wy_recheck.specs.Nodes.{pairs_in}
use Rattle.wy_recheck.proofs.nodes.pairs_of.Goals as goal

pub returns-then-plain : goal.returns-then-plain
returns-then-plain c = λ s annotated bare. (let P : Bool → Type 0 = λ b. StandsFor c.args.bare.now (pairs_in s b) in subst P (sym c.if-plain.true) bare)

pub returns : goal.returns
returns c = λ s annotated bare. (let P : Bool → Type 0 = λ b. StandsFor c.args.annotated.now (pairs_in s b) in subst P (sym c.if-plain.false) annotated)
