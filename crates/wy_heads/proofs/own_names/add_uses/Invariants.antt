use Rattle.std.proofs.Common.{◌≡◌, ◌++◌, drop, map}
use Rattle.wy_heads.specs.Lines.{use_name}
use Rattle.wy_symbols.specs.Lent.{module_tree}
use Rattle.wy_heads.proofs.own_names.add_uses.Given as goal

abbrev pub invariant-loop-i : goal.invariant-loop-i
invariant-loop-i l =
    l.list ++ map (use_name l.owners.heads (map module_tree l.modules) l.owners.atoms) (drop l.i l.uses) ≡
    l.initial.list ++ map (use_name l.owners.heads (map module_tree l.modules) l.owners.atoms) l.uses
