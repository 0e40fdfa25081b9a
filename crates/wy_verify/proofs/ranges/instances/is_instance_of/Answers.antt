use Rattle.wy_verify.proofs.RangeTests.{refuted}
use Rattle.wy_verify.proofs.RangeJoins.{ok_reworded}
use Rattle.wy_verify.proofs.RangeWhole.{instance_of, instance_arguments, instance_typing, scope_bodies_apart}
use Rattle.wy_verify.proofs.ranges.instances.is_instance_of.Goals as goal

pub is_typing-requires-clause-once : goal.is_typing-requires-clause-once
is_typing-requires-clause-once c =
    scope_bodies_apart c.args.writer.now.file.now c.args.instance.now.scope c.args.writer.now.scope.now c.requires.scope c.requires.once

pub returns-then-not-is_printed : goal.returns-then-not-is_printed
returns-then-not-is_printed c =
    refuted c.is_printed.result c.if-not-is_printed.true c.is_printed.ensures (λ i. i.printed)

pub returns-then-not-has_arguments : goal.returns-then-not-has_arguments
returns-then-not-has_arguments c =
    refuted c.has_arguments.result c.if-not-has_arguments.true c.has_arguments.ensures (instance_arguments c.args.writer.now.file.now c.args.writer.now.instance c.args.writer.now.scope.now c.args.instance.now c.requires.scope)

pub returns : goal.returns
returns c =
    ok_reworded c.is_typing.result c.is_typing.ensures
    (instance_of c.args.writer.now.file.now c.args.writer.now.instance c.args.writer.now.scope.now c.args.instance.now c.requires.scope (c.is_printed.ensures.0 c.if-not-is_printed.false) (c.has_arguments.ensures.0 c.if-not-has_arguments.false))
    (instance_typing c.args.writer.now.file.now c.args.writer.now.instance c.args.writer.now.scope.now c.args.instance.now c.requires.scope)
