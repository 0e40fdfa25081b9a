use Rattle.std.proofs.Common.{◌≡◌, drop, map}
use Rattle.wy_heads.specs.Counts.{module_count, some_above}
use Rattle.wy_symbols.specs.Lent.{module_tree}
use Rattle.wy_heads.proofs.atom_counts.modules_pass.Given as goal

abbrev pub invariant-loop-view : goal.invariant-loop-view
invariant-loop-view l = some_above 512 (map (module_count l.types (map module_tree l.modules) l.counts) (map module_tree (drop l.view-index l.views))) ≡ some_above 512 (map (module_count l.types (map module_tree l.modules) l.counts) (map module_tree l.modules))
