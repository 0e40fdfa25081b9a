use Rattle.std.proofs.Common.{List, map, sym, subst}
use Rattle.wy_text.proofs.Lists.{In-read, In-map, In-unmap, each_more, each_all}
use Rattle.wy_types.specs.declared.types.Method.{Method}
use Rattle.wy_types.specs.declared.types.TypeRef.{TypeRef}
use Rattle.wy_types.specs.declared.path.Part.{Part}
use Rattle.wy_types.specs.Signature.{Signature, find_method}
use Rattle.wy_types.specs.Types.{signature}
use Rattle.wy_subtype.specs.Steps.{Pair}
use Rattle.wy_subtype.specs.Asked.{IsAskedOf}
use Rattle.wy_subtype.proofs.asked.asking_step.Goals as goal

pub returns-in-Some-clause-some : goal.returns-in-Some-clause-some
returns-in-Some-clause-some c = record {
  right = signature c.right-item.result;
  asked = In-map signature c.right-item.result c.args.rights.now (In-read c.args.rights.now c.loop-right.right-index c.right-item.result c.right-item.result c.loop-right-test.true c.right-item.is);
  named = sym c.in_ok-method.ensures;
  by = c.in-Some.ensures.some;
}

pub loop-right-preserved : goal.loop-right-preserved
loop-right-preserved c =
    let q : Pair = (c.args.s.now, c.args.t.now) in
    let lefts : List (Signature TypeRef) = map signature c.args.lefts.now in
    let P : Method → Type 0 = λ n. (part : Part) → IsAskedOf (find_method n.name lefts) (signature n) part q → ⊥ in
    each_more P c.args.rights.now c.loop-right.right-index c.right-item.result c.loop-right-test.true c.loop-right.invariant (subst P c.right-item.is c.in_default.ensures.none)

pub returns-clause-none : goal.returns-clause-none
returns-clause-none c = λ step h.
    let q : Pair = (c.args.s.now, c.args.t.now) in
    let lefts : List (Signature TypeRef) = map signature c.args.lefts.now in
    let P : Method → Type 0 = λ n. (part : Part) → IsAskedOf (find_method n.name lefts) (signature n) part q → ⊥ in
    let Q : Signature TypeRef → Type 0 = λ n. IsAskedOf (find_method n.name lefts) n step.part q in
    let r = In-unmap signature h.right c.args.rights.now h.asked in
    each_all P c.args.rights.now c.loop-right.right-index c.loop-right-test.false c.loop-right.invariant r.0 r.1 step.part (subst Q (sym r.2) h.by)
