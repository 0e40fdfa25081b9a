use Rattle.std.proofs.Common.{refl}
use Rattle.std.proofs.lemmas.Option.{slice_get_read}
use Rattle.wy_types.specs.Program.{program_of}
use Rattle.wy_types.specs.Bounds.{bounds_of}
use Rattle.wy_premises.proofs.RespectedBounds.{first_found}
use Rattle.wy_premises.proofs.respecting.first_outside.Goals as goal

pub returns-then-is_some-clause-some : goal.returns-then-is_some-clause-some
returns-then-is_some-clause-some c =
    let bounds = c.args.bounds.now in
    let there = bounds_of (program_of c.args.core.now) c.args.scope in
    let at = slice_get_read bounds _ c.loop-member.member c.index-bounds-member.result refl c.loop-member-test.true c.index-bounds-member.is in
    first_found bounds there c.args.sets.now c.loop-member.member c.index-bounds-member.result c.in_ok-missing.missing at c.loop-member.invariant c.in_ok-missing.ensures.some
