use Rattle.std.proofs.Common.{◌<◌, ◌+◌, ◌++◌, List, map, drop, length, ap, rules}
use Rattle.wy_text.proofs.Lists.{In-read}
use Rattle.wy_symbols.specs.declared.atom_scope.Opened.{Opened}
use Rattle.wy_symbols.specs.Atoms.{bounds_at, bounds_of_owners, opened_bounds}
use Rattle.wy_symbols.proofs.Nexts.{added_next}
use Rattle.wy_symbols.proofs.atom_scope.bounds_of.Goals as goal

pub loop-opened-preserved : goal.loop-opened-preserved
loop-opened-preserved c = λ atoms has.
    let list = c.args.list.now in
    let i = c.loop-opened.opened-index in
    let lt : i < length list = search rules in
    let x = c.opened-item.result in
    let heads = c.args.heads.now in
    let f = λ (ps : List Opened). bounds_of_owners heads atoms (map (λ (p : Opened). p.owner) ps) in
    let bounds = opened_bounds heads x.owner.opening in
    let sets = has x (In-read list i x x lt c.opened-item.is) in
    added_next list i x lt c.opened-item.is f c.loop-opened.bounds c.add_bounds.new.bounds (bounds_at x.sets bounds) (f list)
    (search rules) (ap (λ s. bounds_at s bounds ++ f (drop (i + 1) list)) sets) (c.loop-opened.invariant atoms has)
