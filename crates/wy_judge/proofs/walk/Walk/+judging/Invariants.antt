use Rattle.wy_types.specs.View.{value_of}
use Rattle.wy_judge.specs.Judging.{Fitting, Probing, Stepping}
use Rattle.wy_judge.specs.Results.{fits_of}
use Rattle.wy_judge.specs.Walk.{Here, Asks}
use Rattle.wy_judge.proofs.walk.Walk.+judging.Given as goal

abbrev pub invariant-fit_all-loop-i : goal.invariant-fit_all-loop-i
invariant-fit_all-loop-i l = record { walked : Here l.self Fitting l.self.owner l.initial.known.vals.items l.known.vals.items l.values.items l.types l.i (fits_of l.sofar); asks : Asks l.self l.known.pairs.about }

abbrev pub invariant-probe_all-loop-i : goal.invariant-probe_all-loop-i
invariant-probe_all-loop-i l = record { walked : Here l.self Probing l.self.owner l.initial.known.vals.items l.known.vals.items l.values.items l.i; asks : Asks l.self l.known.pairs.about }

abbrev pub invariant-steps-loop-i : goal.invariant-steps-loop-i
invariant-steps-loop-i l = record { walked : Here l.self Stepping l.self.owner l.initial.known.vals.items l.known.vals.items l.block.statements.items (value_of l.block.last.value) l.i l.sofar; asks : Asks l.self l.known.pairs.about }
