use Rattle.std.proofs.Common.{◌≡◌, drop}
use Rattle.wy_types.specs.Code.{Block}
use Rattle.wy_types.specs.View.{values_of, stmts_block}
use Rattle.wy_recheck.specs.Nodes.{values_read, block_read, closing}
use Rattle.wy_recheck.proofs.NodesJoined.{before}
use Rattle.wy_recheck.proofs.reader.Reader.+reading.Given as goal

abbrev pub invariant-read_values-loop-i : goal.invariant-read_values-loop-i
invariant-read_values-loop-i l =
    values_read l.self l.initial.at (values_of l.values.items) ≡ before l.sofar.types l.sofar.effect (values_read l.self l.at (values_of (drop l.i l.values.items)))

abbrev pub invariant-read_statements-loop-i : goal.invariant-read_statements-loop-i
invariant-read_statements-loop-i l = (rest : Block) →
    block_read l.self l.initial.at (stmts_block l.block.statements.items rest) ≡ closing l.self l.waiting (block_read l.self l.at (stmts_block (drop l.i l.block.statements.items) rest))
