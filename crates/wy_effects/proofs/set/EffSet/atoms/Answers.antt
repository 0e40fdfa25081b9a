use Rattle.std.proofs.Common.{◌≡◌, ℕ, [], ◌∷◌, ◌+◌, ◌++◌, map, None, Some, sym, ap, ◌∙◌, append_assoc, append-nil, arith, rules}
use Rattle.std.proofs.lemmas.List.{map-append}
use Rattle.wy_lanes.specs.Numbers.{first_from}
use Rattle.wy_effects.specs.declared.atom.Atom.{Atom}
use Rattle.wy_effects.proofs.Numbers.{from_on, from_all, from_none, from_some}
use Rattle.wy_effects.proofs.set.EffSet.atoms.Goals as goal

abbrev number : Atom → ℕ
number a = a.0

pub loop-atom-init : goal.loop-atom-init
loop-atom-init c =
    let self = c.args.self.now in
    (ap (λ l. map number l ++ from_on 0 self) c.new-out.ensures.items ∙ from_all 0 512 self c.is_set.ensures, omega arith)

pub overflow_add-from : goal.overflow_add-from
overflow_add-from c =
    let first : first_from c.loop-atom.from c.args.self.now ≡ Some c.in-Some.atom = search rules in
    let next = from_some c.loop-atom.from 0 512 c.in-Some.atom c.args.self.now c.is_set.ensures first in
    omega (arith, next.below)

pub loop-atom-smaller : goal.loop-atom-smaller
loop-atom-smaller c =
    let first : first_from c.loop-atom.from c.args.self.now ≡ Some c.in-Some.atom = search rules in
    let next = from_some c.loop-atom.from 0 512 c.in-Some.atom c.args.self.now c.is_set.ensures first in
    omega (arith, next.below, next.least)

pub loop-atom-preserved : goal.loop-atom-preserved
loop-atom-preserved c =
    let self = c.args.self.now in
    let atom = c.in-Some.atom in
    let out = c.loop-atom.out.items in
    let first : first_from c.loop-atom.from self ≡ Some atom = search rules in
    let next = from_some c.loop-atom.from 0 512 atom self c.is_set.ensures first in
    let rest = from_on (atom + 1) self in (
      ap (λ l. map number l ++ rest) c.in_ok-push.ensures.items ∙ ap (λ l. l ++ rest) (map-append number out (_ ∷ []))
          ∙ append_assoc (map number out) (_ ∷ []) rest ∙ ap (λ l. map number out ++ l) (sym next.is) ∙ c.loop-atom.invariant.0,
      omega (arith, next.below),
    )

pub returns : goal.returns
returns c =
    let self = c.args.self.now in
    let atoms = map number c.loop-atom.out.items in
    let none : first_from c.loop-atom.from self ≡ None = search rules in
    sym (append-nil atoms) ∙ ap (λ l. atoms ++ l) (sym (from_none c.loop-atom.from self none)) ∙ c.loop-atom.invariant.0
