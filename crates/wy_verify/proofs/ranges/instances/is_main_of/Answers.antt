use Rattle.std.proofs.Common.{ℕ, ◌↔◌, IsTrue, subst}
use Rattle.std.specs.Prelude.{IfOk}
use Rattle.wy_verified.specs.Ranges.{TypingInRange}
use Rattle.wy_verify.proofs.RangeTests.{refuted}
use Rattle.wy_verify.proofs.RangeJoins.{ok_reworded}
use Rattle.wy_verify.proofs.RangeWhole.{main_of, main_typing, main_arguments, scope_bodies_apart}
use Rattle.wy_verify.proofs.ranges.instances.is_main_of.Goals as goal

pub is_typing-requires-clause-once : goal.is_typing-requires-clause-once
is_typing-requires-clause-once c =
    scope_bodies_apart c.args.writer.now.file.now c.args.writer.now.file.now.main.scope c.args.writer.now.scope.now c.requires.scope c.requires.once

pub returns-then-not-has_no_values : goal.returns-then-not-has_no_values
returns-then-not-has_no_values c =
    refuted c.has_no_values.result c.if-not-has_no_values.true c.has_no_values.ensures (main_arguments c.args.writer.now.file.now c.args.writer.now.scope.now c.requires.scope)

pub returns : goal.returns
returns c =
    let none = c.has_no_values.ensures.0 c.if-not-has_no_values.false in
    ok_reworded c.is_typing.result
    (subst (λ (n : ℕ). IfOk c.is_typing.result (λ b. IsTrue b ↔ TypingInRange c.args.writer.now.file.now n c.args.writer.now.scope.now c.args.writer.now.file.now.main.typing)) c.requires.last c.is_typing.ensures)
    (main_of c.args.writer.now.file.now c.args.writer.now.scope.now c.requires.scope none.0 none.1) (main_typing c.args.writer.now.file.now c.args.writer.now.scope.now c.requires.scope)
