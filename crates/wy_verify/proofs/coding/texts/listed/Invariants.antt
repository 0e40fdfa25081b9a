use Rattle.std.proofs.Common.{◌≡◌, take}
use Rattle.wy_verify.proofs.coding.texts.listed.Given as goal

abbrev pub invariant-loop-text : goal.invariant-loop-text
invariant-loop-text l = l.texts ≡ take l.text-index l.table.keys
