use Rattle.std.proofs.Common.{rules, ◌≡◌, ◌∙◌, List, None, Some, ap, map, refl, subst}
use Rattle.wy_lower.specs.Counts.{lowering_limit}
use Rattle.wy_lower.specs.Lowering.{lowered}
use Rattle.wy_meaning.specs.Starts.{started_of, starts_of}
use Rattle.wy_types.specs.Program.{Program, program_of}
use Rattle.wy_types.specs.declared.linked.Instance.{Instance}
use Rattle.wy_engine.specs.Answering.{limited}
use Rattle.wy_engine.proofs.running.run_accepted.Goals as goal

pub run_code-requires-clause-code : goal.run_code-requires-clause-code
run_code-requires-clause-code g c =
    let program : Program = program_of c.args.accepted.now.core in
    c.in-Ok.ensures.code ∙ ap (λ (instances : List Instance). lowered program (starts_of program (map started_of instances))) c.requires.checked.linked.instances

pub run_code-requires-clause-within : goal.run_code-requires-clause-within
run_code-requires-clause-within g c =
    let program : Program = program_of c.args.accepted.now.core in
    subst (λ (instances : List Instance). lowering_limit program (starts_of program (map started_of instances)) ≡ None) c.requires.checked.linked.instances c.in-Ok.ensures.within

pub returns-in-Err-Limit : goal.returns-in-Err-Limit
returns-in-Err-Limit g c =
    let program : Program = program_of c.args.accepted.now.core in
    let passed : lowering_limit program (starts_of program (map started_of c.args.accepted.now.links.instances)) ≡ Some c.in-Err-Limit.name = search rules in
    limited c.in-Err-Limit.name
    (subst (λ (instances : List Instance). lowering_limit program (starts_of program (map started_of instances)) ≡ Some c.in-Err-Limit.name) c.requires.checked.linked.instances
    passed) (let is = c.in-Err-Limit.name-is in cc) refl refl refl
