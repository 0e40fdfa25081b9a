use Rattle.std.proofs.Common.{◌≡◌, ◌+◌, ◌*◌, ◌-◌, ◌≤◌, length, drop}
use Rattle.wy_types.specs.Program.{program_of}
use Rattle.wy_types.specs.Ground.{visit, visit_names}
use Rattle.wy_link.specs.Linking.{CanSettleAll, visited}
use Rattle.wy_link.proofs.linking.+visiting.Given as goal

abbrev pub decreases-visit_name : goal.decreases-visit_name
decreases-visit_name l = 3 * l.scopes + 2

abbrev pub decreases-visit_module : goal.decreases-visit_module
decreases-visit_module l = 3 * l.scopes + 1

abbrev pub decreases-visit : goal.decreases-visit
decreases-visit l = 3 * l.scopes

abbrev pub invariant-visit-loop-name : goal.invariant-visit-loop-name
invariant-visit-loop-name l =
    (visit_names (program_of l.core) (visit (program_of l.core) (l.scopes - 1)) l.outer l.prefix (drop l.name-index l.outer) (visited l.started l.own) ≡
    visit (program_of l.core) l.scopes l.outer l.prefix l.outer (visited l.initial.started l.initial.own)) ×
    (length l.started ≤ 1024) ×
    CanSettleAll (program_of l.core) (drop l.name-index l.outer) (length l.own.actuals) (length l.own.sets)
