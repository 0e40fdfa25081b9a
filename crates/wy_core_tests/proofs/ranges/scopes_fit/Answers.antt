use Rattle.std.proofs.Common.{rules, subst, List}
use Rattle.wy_text.specs.Members.{In}
use Rattle.wy_text.proofs.Lists.{each_more, each_all}
use Rattle.wy_types.specs.declared.resolved.Body.{Body}
use Rattle.wy_types.specs.declared.resolved.Scope.{Scope}
use Rattle.wy_types.specs.Program.{program_of}
use Rattle.wy_core_tests.proofs.RangeLemmas.{BodyFits, ScopeFits}
use Rattle.wy_core_tests.proofs.ranges.scopes_fit.Goals as goal

pub loop-one-preserved : goal.loop-one-preserved
loop-one-preserved c =
    let P : Scope → Type 0 = λ s. ScopeFits (program_of c.args.core.now) s in
    let s = c.one-item.result in
    let R : List Body → Type 0 = λ l. (b : Body) → In b l → BodyFits (program_of c.args.core.now) b in
    let fits : P s = subst R c.as_slice.ensures (c.in_ok-bodies_fit.ensures (search rules)) in
    each_more P c.as_slice-scopes.result.now c.loop-one.one-index s c.loop-one-test.true c.loop-one.invariant (subst P c.one-item.is fits)

pub returns : goal.returns
returns c = λ _.
    let P : Scope → Type 0 = λ s. ScopeFits (program_of c.args.core.now) s in
    let Q : List Scope → Type 0 = λ l. (s : Scope) → In s l → P s in
    subst Q c.as_slice-scopes.ensures (each_all P c.as_slice-scopes.result.now c.loop-one.one-index c.loop-one-test.false c.loop-one.invariant)
