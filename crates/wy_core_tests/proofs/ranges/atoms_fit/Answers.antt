use Rattle.std.proofs.Common.{rules, subst, List, Option, ℕ, ◌≤◌, length}
use Rattle.wy_text.specs.Members.{In}
use Rattle.wy_effects.specs.Bounds.{GoDown}
use Rattle.wy_text.proofs.Lists.{each_more, each_all}
use Rattle.wy_types.specs.declared.resolved.Scope.{Scope}
use Rattle.wy_core_tests.proofs.RangeLemmas.{AtomsFit}
use Rattle.wy_core_tests.proofs.ranges.atoms_fit.Goals as goal

pub loop-one-preserved : goal.loop-one-preserved
loop-one-preserved c =
    let s = c.one-item.result in
    let R : List (Option (List ℕ)) → Type 0 = λ l. GoDown l × (length l ≤ 512) in
    let fits : AtomsFit s = subst R c.as_slice.ensures (c.in_ok-bounds_fit.ensures (search rules)) in
    each_more AtomsFit c.as_slice-scopes.result.now c.loop-one.one-index s c.loop-one-test.true c.loop-one.invariant (subst AtomsFit c.one-item.is fits)

pub returns : goal.returns
returns c = λ _.
    let Q : List Scope → Type 0 = λ l. (s : Scope) → In s l → AtomsFit s in
    subst Q c.as_slice-scopes.ensures (each_all AtomsFit c.as_slice-scopes.result.now c.loop-one.one-index c.loop-one-test.false c.loop-one.invariant)
