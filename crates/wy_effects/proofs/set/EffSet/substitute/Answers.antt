use Rattle.std.proofs.Common.{◌≡◌, ◌+◌, [], None, Some, sym, ap, ◌∙◌, arith, rules}
use Rattle.std.specs.Prelude.{slice_index_or}
use Rattle.wy_lanes.specs.Numbers.{first_from}
use Rattle.wy_effects.specs.EffSet.{union, replace}
use Rattle.wy_effects.proofs.Numbers.{from_on, from_all, from_none, from_some, set_is, union-turn, union-none}
use Rattle.wy_effects.proofs.set.EffSet.substitute.Goals as goal

pub loop-atom-init : goal.loop-atom-init
loop-atom-init c =
    let by = c.args.by.now in
    let self = c.args.self.now in
    (ap (λ l. union l (replace by (from_on 0 self))) c.empty-set.ensures ∙ ap (replace by) (from_all 0 512 self c.is_set.ensures), omega arith)

pub overflow_add-from : goal.overflow_add-from
overflow_add-from c =
    let first : first_from c.loop-atom.from c.args.self.now ≡ Some c.in-Some.atom = search rules in
    let next = from_some c.loop-atom.from 0 512 c.in-Some.atom c.args.self.now c.is_set.ensures first in
    omega (arith, next.below)

pub loop-atom-smaller : goal.loop-atom-smaller
loop-atom-smaller c =
    let first : first_from c.loop-atom.from c.args.self.now ≡ Some c.in-Some.atom = search rules in
    let next = from_some c.loop-atom.from 0 512 c.in-Some.atom c.args.self.now c.is_set.ensures first in
    omega (arith, next.below, next.least)

pub loop-atom-preserved : goal.loop-atom-preserved
loop-atom-preserved c =
    let by = c.args.by.now in
    let self = c.args.self.now in
    let atom = c.in-Some.atom in
    let set = c.loop-atom.set in
    let first : first_from c.loop-atom.from self ≡ Some atom = search rules in
    let next = from_some c.loop-atom.from 0 512 atom self c.is_set.ensures first in
    let rest = replace by (from_on (atom + 1) self) in (
      ap (λ l. union l rest) c.unite_at.ensures ∙ union-turn (slice_index_or by atom []) set rest ∙ ap (λ l. union set (replace by l)) (sym next.is) ∙ c.loop-atom.invariant.0,
      omega (arith, next.below),
    )

pub returns : goal.returns
returns c =
    let by = c.args.by.now in
    let self = c.args.self.now in
    let set = c.loop-atom.set in
    let none : first_from c.loop-atom.from self ≡ None = search rules in
    sym (union-none 0 512 set (set_is 0 512 set c.is_ascending.ensures)) ∙ ap (λ l. union set (replace by l)) (sym (from_none c.loop-atom.from self none)) ∙ c.loop-atom.invariant.0
