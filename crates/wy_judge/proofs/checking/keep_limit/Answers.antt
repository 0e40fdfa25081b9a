use Rattle.wy_types.specs.Program.{program_of}
use Rattle.wy_judge.proofs.Checks.{reached_within}
use Rattle.wy_judge.proofs.checking.keep_limit.Goals as goal
use Rattle.wy_judge.proofs.checking.keep_limit.Goals.{in-Ok, in-Err-Limit, in-Err-Memory}

pub returns-clause-within : goal.returns-clause-within
returns-clause-within c =
    elim c.match-reach.branch [
      | in-Ok w ↦ rw w.result-is (λ many. reached_within (program_of c.args.core.now) c.args.scope _ w.in-Ok.ensures many)
      | in-Err-Limit w ↦ rw w.result-is tt
      | in-Err-Memory w ↦ rw w.result-is tt
    ]
