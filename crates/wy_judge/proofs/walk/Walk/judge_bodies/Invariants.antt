use Rattle.wy_judge.specs.Walk.{Here, Asks}
use Rattle.wy_judge.specs.Walking.{BodiesWalked}
use Rattle.wy_judge.proofs.walk.Walk.judge_bodies.Given as goal

abbrev pub invariant-loop-i : goal.invariant-loop-i
invariant-loop-i l = record { walked : Here l.self BodiesWalked l.bodies l.initial.known.vals.items l.known.vals.items l.i; asks : Asks l.self l.known.pairs.about }
