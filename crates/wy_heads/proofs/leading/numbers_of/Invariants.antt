use Rattle.std.proofs.Common.{◌≡◌, [], length, map, take}
use Rattle.wy_heads.specs.Leading.{numbers_of, Adds}
use Rattle.wy_symbols.specs.Lent.{module_tree, lent_name}
use Rattle.wy_heads.proofs.leading.numbers_of.Given as goal

abbrev pub invariant-loop-word : goal.invariant-loop-word
invariant-loop-word l = record {
  bound : l.list.below ≡ length l.modules;
  added : Adds [] (numbers_of (map module_tree l.modules) (map lent_name (take l.word-index l.words))) l.list.list;
}
