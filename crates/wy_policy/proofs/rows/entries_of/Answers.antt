use Rattle.std.proofs.Common.{ap}
use Rattle.std.specs.Option.{option_copied}
use Rattle.wy_policy.proofs.Entries.{turn_goes, turn_nearer, turn_stops}
use Rattle.wy_policy.proofs.rows.entries_of.Goals as goal

pub returns-then-not-branch : goal.returns-then-not-branch
returns-then-not-branch c =
    turn_stops c.loop-rest.entries c.push_entry.new.entries c.in_ok-push_entry.field-0 c.in-Some.text.now c.cut.result.0.now (option_copied c.cut.result.1) (option_copied c.loop-rest.rest) _
    (ap option_copied c.in-Some.is) c.cut.ensures c.in_ok-push_entry.ensures c.if-not-branch.true c.loop-rest.invariant

pub loop-rest-preserved : goal.loop-rest-preserved
loop-rest-preserved c =
    turn_goes c.loop-rest.entries c.push_entry.new.entries c.in_ok-push_entry.field-0 c.in-Some.text.now c.cut.result.0.now (option_copied c.cut.result.1) (option_copied c.loop-rest.rest) _
    (ap option_copied c.in-Some.is) c.cut.ensures c.in_ok-push_entry.ensures c.if-not-branch.false c.loop-rest.invariant

pub loop-rest-smaller : goal.loop-rest-smaller
loop-rest-smaller c =
    turn_nearer c.in-Some.text.now c.cut.result.0.now (option_copied c.cut.result.1) (option_copied c.loop-rest.rest) (ap option_copied c.in-Some.is) c.cut.ensures
