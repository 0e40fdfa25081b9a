use Rattle.wy_subtype.proofs.Knowing.{more_none, meets_more}
use Rattle.wy_subtype.proofs.nodes.Nodes.add_number.Goals as goal

pub returns-then-is_same_base-clause-more : goal.returns-then-is_same_base-clause-more
returns-then-is_same_base-clause-more c = more_none c.args.self.now

pub returns-in_err-number-clause-more : goal.returns-in_err-number-clause-more
returns-in_err-number-clause-more c = meets_more (c.args.pair.now.left, c.args.pair.now.right) c.args.self.now c.number_of.new.self c.number_of.ensures.meets

pub returns-in_err-push-clause-more : goal.returns-in_err-push-clause-more
returns-in_err-push-clause-more c = meets_more (c.args.pair.now.left, c.args.pair.now.right) c.args.self.now c.number_of.new.self c.number_of.ensures.meets

pub returns-clause-more : goal.returns-clause-more
returns-clause-more c = meets_more (c.args.pair.now.left, c.args.pair.now.right) c.args.self.now c.number_of.new.self c.number_of.ensures.meets
