use Rattle.std.proofs.Common.{subst, map}
use Rattle.wy_text.proofs.Lists.{In-read, In-map, In-unmap, each_more, each_all}
use Rattle.wy_types.specs.declared.types.Method.{Method}
use Rattle.wy_types.specs.declared.types.TypeRef.{TypeRef}
use Rattle.wy_types.specs.Program.{program_of}
use Rattle.wy_types.specs.Signature.{Signature, find_method}
use Rattle.wy_types.specs.Types.{signature}
use Rattle.wy_subtype.specs.Unfolding.{IsMet}
use Rattle.wy_subtype.proofs.Asking.{all_step, all_end}
use Rattle.wy_subtype.proofs.unfolding.meet_all.Goals as goal

pub meet-requires : goal.meet-requires
meet-requires c = record {
  core = c.requires.core;
  few = c.requires.few c.right-item.result (In-read c.args.rights.now c.loop-right.right-index c.right-item.result c.right-item.result c.loop-right-test.true c.right-item.is);
}

pub returns-in-Some : goal.returns-in-Some
returns-in-Some c = (
  signature c.right-item.result,
  In-map signature c.right-item.result c.args.rights.now (In-read c.args.rights.now c.loop-right.right-index c.right-item.result c.right-item.result c.loop-right-test.true c.right-item.is),
  rw c.in-Some.is at c.in_ok-cause.ensures.fault,
)

pub loop-right-preserved : goal.loop-right-preserved
loop-right-preserved c =
    let P : Method → Type 0 = λ n. IsMet (program_of c.args.order.now.core.now) c.args.order.now.scope c.args.order.now.mode (find_method n.name (map signature c.args.lefts.now)) (signature n) in
    let met = rw c.in_default.is at c.in_ok-cause.ensures.met in (
      all_step (map signature c.args.lefts.now) c.args.rights.now c.loop-right.right-index c.right-item.result c.right-item.result _ _ _ c.loop-right-test.true c.right-item.is (rw c.in_default.is at c.in_ok-cause.ensures.added) c.loop-right.invariant.0,
      each_more P c.args.rights.now c.loop-right.right-index c.right-item.result c.loop-right-test.true c.loop-right.invariant.1 (subst P c.right-item.is met),
    )

pub returns : goal.returns
returns c = (
  all_end (map signature c.args.lefts.now) c.args.rights.now c.loop-right.right-index c.loop-right.asked _ c.loop-right-test.false c.loop-right.invariant.0,
  λ n i.
      let r = In-unmap signature n c.args.rights.now i in
      let P : Method → Type 0 = λ m. IsMet (program_of c.args.order.now.core.now) c.args.order.now.scope c.args.order.now.mode (find_method m.name (map signature c.args.lefts.now)) (signature m) in
      let Q : Signature TypeRef → Type 0 = λ m. IsMet (program_of c.args.order.now.core.now) c.args.order.now.scope c.args.order.now.mode (find_method m.name (map signature c.args.lefts.now)) m in
      subst Q r.2 (each_all P c.args.rights.now c.loop-right.right-index c.loop-right-test.false c.loop-right.invariant.1 r.0 r.1),
)
