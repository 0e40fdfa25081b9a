use Rattle.std.proofs.Common.{sym, ◌∙◌}
use Rattle.wy_premises.proofs.MemberSets.{abstract_more}
use Rattle.wy_premises.proofs.members.abstract_set.Goals as goal

pub loop-i-preserved : goal.loop-i-preserved
loop-i-preserved c =
    abstract_more c.args.name.now c.args.members.now c.args.sets.now c.loop-i.i c.index-members-i.result c.loop-i-test.true c.index-members-i.is (sym c.eq.ensures ∙ c.if-eq.false) ∙ c.loop-i.invariant
