use Rattle.std.proofs.Common.{ℕ, List, refl, ap, subst}
use Rattle.std.specs.Option.{option_copied}
use Rattle.wy_policy.specs.Reading.{Adds, meant_of}
use Rattle.wy_policy.proofs.LineTurns.{turn_begins, turn_goes, turn_nearer}
use Rattle.wy_policy.proofs.reading.read_lines.Goals as goal

pub loop-rest-init : goal.loop-rest-init
loop-rest-init c = turn_begins c.args.bytes.now _ c.new.ensures refl

pub loop-rest-smaller : goal.loop-rest-smaller
loop-rest-smaller c =
    turn_nearer c.in-Some.text.now c.cut.result.0.now (option_copied c.cut.result.1) (option_copied c.loop-rest.rest) (ap option_copied c.in-Some.is) c.cut.ensures

pub loop-rest-preserved : goal.loop-rest-preserved
loop-rest-preserved c =
    turn_goes c.args.bytes.now c.loop-rest.said c.read_line.new.said c.loop-rest.number c.in-Some.text.now c.cut.result.0.now (option_copied c.cut.result.1) (option_copied c.loop-rest.rest) c.loop-rest.invariant
    (ap option_copied c.in-Some.is) c.cut.ensures
    (subst (λ (z : List ℕ). Adds c.loop-rest.number (meant_of c.loop-rest.number z) c.loop-rest.said c.read_line.new.said) c.content_of.ensures c.in_ok-read_line.ensures)
