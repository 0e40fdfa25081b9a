use Rattle.std.proofs.Common.{◌≡◌, ◌<◌, [], ◌∷◌, true, false, get_or, length, sym, ap, ◌∙◌, subst}
use Rattle.wy_effects.specs.EffSet.{has}
use Rattle.wy_heads.specs.Leading.{Adds, Numbers}
use Rattle.wy_heads.proofs.MarksPut.{more_marks, marked_in, unmarked_out}
use Rattle.wy_heads.proofs.Searching.{adds_there, adds_new}
use Rattle.wy_heads.proofs.marked.Marked.add.Goals as goal

pub returns-then-has-clause-added : goal.returns-then-has-clause-added
returns-then-has-clause-added c =
    let k = c.args.number in
    let list = c.self.inside.list in
    let marked : get_or c.self.inside.marks k false ≡ true = sym c.has.ensures ∙ c.if-has.true in
    let P : Numbers → Type 0 = λ n. Adds n.list (k ∷ []) n.list in
    subst P c.self.view_is (adds_there list k ((marked_in list c.self.inside.marks c.self.invariant k).0 marked))

pub invariant_of-self-2 : goal.invariant_of-self-2
invariant_of-self-2 c = λ j.
    let k = c.args.number in
    let P : Numbers → Type 0 = λ n. k < n.below in
    let lt : k < length c.self.inside.marks = subst P (sym c.self.view_is) c.requires in
    ap (has j) c.in_ok-push.ensures.ok
    ∙ more_marks c.self.inside.list c.self.inside.marks k lt c.self.invariant j
    ∙ ap (λ ms. get_or ms j false) (sym c.put.ensures)

pub returns-clause-added : goal.returns-clause-added
returns-clause-added c =
    let k = c.args.number in
    let list = c.self.inside.list in
    let unmarked : get_or c.self.inside.marks k false ≡ false = sym c.has.ensures ∙ c.if-has.false in
    let P : Numbers → Type 0 = λ n. Adds n.list (k ∷ []) c.push.new.self in
    subst P c.self.view_is (adds_new list c.push.new.self k c.in_ok-push.ensures.ok (unmarked_out list c.self.inside.marks c.self.invariant k unmarked))
