use Rattle.std.proofs.Common.{arith, rules, subst, sym}
use Rattle.wy_types.specs.Program.{Program, program_of}
use Rattle.wy_types.specs.Fitting.{own_count, IsTypeOf}
use Rattle.wy_types.proofs.Kept.{Fits-wider}
use Rattle.wy_core_tests.proofs.subtyping.answers.Goals as goal

pub holds-requires : goal.holds-requires
holds-requires c =
    let p : Program = program_of c.args.core.now in
    let scope = c.loop-pair.table.about.scope in
    let L : Program → Type 0 = λ v. IsTypeOf v scope c.in_ok-s.s in
    let R : Program → Type 0 = λ v. IsTypeOf v scope c.in_ok-t.t in
    record {
      left = subst L (sym c.loop-pair.invariant) (Fits-wider p 512 (own_count p scope) c.in_ok-s.s (omega arith) (c.in_ok-type_fits.ensures (search rules)));
      right = subst R (sym c.loop-pair.invariant) (Fits-wider p 512 (own_count p scope) c.in_ok-t.t (omega arith) (c.in_ok-type_fits-2.ensures (search rules)));
    }
