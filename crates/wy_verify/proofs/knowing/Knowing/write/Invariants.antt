use Rattle.std.proofs.Common.{◌≡◌, take}
use Rattle.wy_verified.specs.Kinds.{kinds_in}
use Rattle.wy_verify.proofs.knowing.Knowing.write.Given as goal

abbrev pub invariant-loop-index : goal.invariant-loop-index
invariant-loop-index l = record {
  operands : l.self-inside.operands.items ≡ kinds_in l.x (take l.index l.references);
  stored : l.self-inside.stored ≡ l.fn.self.stored;
  set : l.self-inside.set ≡ l.fn.self.set;
}
