use Rattle.std.proofs.Common.{◌≡◌, ◌+◌, ◌*◌, ◌-◌, ◌≤◌, [], length, drop}
use Rattle.wy_types.specs.Program.{program_of}
use Rattle.wy_types.specs.Ground.{visit, visit_names, uses_among}
use Rattle.wy_link.specs.Linking.{visited}
use Rattle.wy_link.proofs.linking.+visiting_uses.Given as goal

abbrev pub decreases-visit_use : goal.decreases-visit_use
decreases-visit_use l = 2 * l.scopes + 1

abbrev pub decreases-visit_uses : goal.decreases-visit_uses
decreases-visit_uses l = 2 * l.scopes

abbrev pub invariant-visit_uses-loop-name : goal.invariant-visit_uses-loop-name
invariant-visit_uses-loop-name l =
    (visit_names (program_of l.core) (visit (program_of l.core) (l.scopes - 1)) l.outer [] (uses_among (drop l.name-index l.outer)) (visited l.started l.own) ≡
    visit (program_of l.core) l.scopes l.outer [] (uses_among l.outer) (visited l.initial.started l.initial.own)) ×
    (length l.started ≤ 1024)
