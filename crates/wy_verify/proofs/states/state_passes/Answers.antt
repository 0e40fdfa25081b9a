use Rattle.std.proofs.Common.{◌≤◌, length, arith}
use Rattle.wy_verify.specs.Turns.{popped_at}
use Rattle.wy_verify.proofs.Brought.{state_jump, state_jump_false}
use Rattle.wy_verify.proofs.states.state_passes.Goals as goal

pub returns-in-Jump-clause-decided : goal.returns-in-Jump-clause-decided
returns-in-Jump-clause-decided c = λ js are.
    let a = c.popped.ensures in
    let b = c.depth.ensures in
    let g = c.if-depth-popped.false in
    let few : popped_at c.args.site.now c.args.instruction ≤ length c.args.known.now.operands = omega (arith, a, b, g) in
    state_jump c.args.site.now c.args.known.now js c.in-Jump.to c.args.instruction c.brings_state.result c.in-Jump.is
    few (c.instruction_passes.ensures.0 c.if-not-instruction_passes.false) (c.brings_state.ensures js are)

pub returns-in-JumpFalse-clause-decided : goal.returns-in-JumpFalse-clause-decided
returns-in-JumpFalse-clause-decided c = λ js are.
    let a = c.popped.ensures in
    let b = c.depth.ensures in
    let g = c.if-depth-popped.false in
    let few : popped_at c.args.site.now c.args.instruction ≤ length c.args.known.now.operands = omega (arith, a, b, g) in
    state_jump_false c.args.site.now c.args.known.now js c.in-JumpFalse.to c.args.instruction
    c.brings_state-in-JumpFalse.result c.in-JumpFalse.is few
    (c.instruction_passes.ensures.0 c.if-not-instruction_passes.false) (c.brings_state-in-JumpFalse.ensures js are)
