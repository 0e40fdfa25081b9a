use Rattle.std.proofs.Common.{◌<◌, ◌+◌, List, ap, rules, drop, length, map, Bor}
use Rattle.wy_syntax.specs.declared.items.Program as code
use Rattle.wy_names.specs.Scopes.{scope_of_program, program_refusals, programs_refusals}
use Rattle.wy_symbols.specs.Lent.{module_tree, lent_program}
use Rattle.wy_symbols.proofs.Turns.{next_of}
use Rattle.wy_symbols.proofs.Leasts.{noted_turn}
use Rattle.wy_names.proofs.Judging.{pushed}
use Rattle.wy_names.proofs.resolving.add_programs.Goals as goal

pub loop-program-preserved : goal.loop-program-preserved
loop-program-preserved c =
    let lt : c.loop-program.program-index < length c.args.programs.now = search rules in
    let heads = c.args.heads.now in
    let modules = map module_tree c.args.modules.now in
    let g = lent_program c.program-item.result in
    let next = next_of c.args.programs.now c.loop-program.program-index c.program-item.result lt c.program-item.is in
    let left = map lent_program (drop c.loop-program.program-index c.args.programs.now) in
    let rest = map lent_program (drop (c.loop-program.program-index + 1) c.args.programs.now) in
    let make = scope_of_program heads modules in
    record {
      scopes = pushed c.loop-program.scopes c.push.new.self c.in_ok-program_scope.field-0 (make g) (map make rest) (map make left) _
          c.in_ok-push.ensures.ok c.in_ok-program_scope.ensures.scope (ap (λ (gs : List (Bor code.Program)). map make (map lent_program gs)) next) c.loop-program.invariant.scopes;
      least = noted_turn c.loop-program.least c.program_scope.new.least c.args.least.now (program_refusals heads modules g) (programs_refusals heads modules rest) (programs_refusals heads modules left)
          (programs_refusals heads modules (map lent_program c.args.programs.now)) c.in_ok-program_scope.ensures.noted (ap (λ (gs : List (Bor code.Program)). programs_refusals heads modules (map lent_program gs)) next) c.loop-program.invariant.least;
    }
