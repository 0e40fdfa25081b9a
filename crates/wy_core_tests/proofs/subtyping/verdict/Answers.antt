use Rattle.std.proofs.Common.{arith, rules}
use Rattle.wy_types.specs.Program.{program_of}
use Rattle.wy_types.specs.Fitting.{own_count}
use Rattle.wy_types.proofs.Kept.{Fits-wider}
use Rattle.wy_core_tests.proofs.subtyping.verdict.Goals as goal

pub subtype-requires : goal.subtype-requires
subtype-requires c =
    let program = program_of c.args.core.now in
    record {
      core = c.in_ok-is_in_range.ensures (search rules);
      left = Fits-wider program 512 (own_count program 0) c.args.s.now (omega arith) (c.in_ok-type_fits.ensures (search rules));
      right = Fits-wider program 512 (own_count program 0) c.args.t.now (omega arith) (c.in_ok-type_fits-2.ensures (search rules));
    }
