use Rattle.std.proofs.Common.{◌≡◌, ◌++◌, map, drop}
use Rattle.wy_proving.specs.Proving.{names_rules}
use Rattle.wy_recheck.specs.Rules.{rule_of}
use Rattle.wy_recheck.proofs.lines.add_names_rules.Given as goal

abbrev pub invariant-loop-name : goal.invariant-loop-name
invariant-loop-name l = map rule_of l.rules ++ names_rules (drop l.name-index l.names) ≡ map rule_of l.initial.rules ++ names_rules l.names
