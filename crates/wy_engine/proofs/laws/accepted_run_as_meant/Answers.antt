use Rattle.wy_sound.specs.Programs.{IsResolved, program_starts}
use Rattle.wy_engine.proofs.FewAtoms.{few_atoms}
use Rattle.wy_engine.proofs.ProgramsMeant.{is_resolved}
use Rattle.wy_engine.proofs.laws.accepted_run_as_meant.Goals as goal

pub returns : goal.returns
returns c texts program passes =
    let is : IsResolved program = is_resolved c.resolved_keeps_all.ensures c.trees_have_words.ensures texts program passes.read in
    record {
      follows = λ depth bound tapes. c.accepted_code_follows.ensures program is passes.accepted.accepted depth bound tapes;
      stuck = c.accepted_is_never_stuck.ensures program is passes.accepted.accepted;
      cheap = λ depth tapes. c.nodes_cost_four.ensures depth program (program_starts program) tapes;
      ordered = λ depth. c.answers_are_taken_in_order.ensures depth program (program_starts program);
      bounded = λ depth tapes. c.events_are_bounded.ensures program is passes.accepted.accepted depth tapes;
      reported = c.allowed_is_reported.ensures program is;
      used = c.used_is_allowed.ensures program is;
      few = few_atoms program is.keeps.core;
      told = c.instances_are_told.ensures program is;
    }
