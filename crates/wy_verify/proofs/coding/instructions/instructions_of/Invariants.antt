use Rattle.std.proofs.Common.{◌≡◌, map, take}
use Rattle.wy_verified.specs.CodeOf.{placed_of}
use Rattle.wy_verify.proofs.coding.instructions.instructions_of.Given as goal

abbrev pub invariant-loop-row : goal.invariant-loop-row
invariant-loop-row l = l.instructions ≡ map (placed_of l.texts.keys) (take l.row-index l.rows)
