use Rattle.std.proofs.Common.{rules, subst, List, ℕ}
use Rattle.wy_text.specs.Members.{In}
use Rattle.wy_text.proofs.Lists.{each_more, each_all}
use Rattle.wy_types.specs.declared.types.Method.{Method}
use Rattle.wy_types.specs.declared.resolved.TypeDecl.{TypeDecl}
use Rattle.wy_types.specs.Program.{program_of}
use Rattle.wy_core_tests.proofs.RangeLemmas.{MethodFits, DeclarationFits}
use Rattle.wy_core_tests.proofs.ranges.declarations_fit.Goals as goal

pub loop-declaration-preserved : goal.loop-declaration-preserved
loop-declaration-preserved c =
    let P : TypeDecl → Type 0 = λ d. DeclarationFits (program_of c.args.core.now) d in
    let d = c.declaration-item.result in
    let Q : ℕ → Type 0 = λ n. (m : Method) → In m d.methods → MethodFits (program_of c.args.core.now) n m in
    let R : List Method → Type 0 = λ l. (m : Method) → In m l → MethodFits (program_of c.args.core.now) c.len-number.result m in
    let fits : P d = subst Q c.len-number.ensures (subst R c.as_slice.ensures (c.in_ok-methods_fit.ensures (search rules))) in
    each_more P c.as_slice-declarations.result.now c.loop-declaration.declaration-index d c.loop-declaration-test.true c.loop-declaration.invariant (subst P c.declaration-item.is fits)

pub returns : goal.returns
returns c = λ _.
    let P : TypeDecl → Type 0 = λ d. DeclarationFits (program_of c.args.core.now) d in
    let Q : List TypeDecl → Type 0 = λ l. (d : TypeDecl) → In d l → P d in
    subst Q c.as_slice-declarations.ensures (each_all P c.as_slice-declarations.result.now c.loop-declaration.declaration-index c.loop-declaration-test.false c.loop-declaration.invariant)
