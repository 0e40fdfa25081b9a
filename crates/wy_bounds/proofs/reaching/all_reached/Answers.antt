use Rattle.std.proofs.Common.{◌<◌, ◌≤◌, arith, length}
use Rattle.wy_types.specs.Program.{program_of}
use Rattle.wy_types.proofs.Finite.{marked_bound}
use Rattle.wy_bounds.proofs.Working.{work_start, work_left, work_more, work_all}
use Rattle.wy_bounds.proofs.reaching.all_reached.Goals as goal

pub loop-next-init : goal.loop-next-init
loop-next-init c =
    let first = c.in_ok-table.ensures in
    work_start (program_of c.args.core.now) c.requires.core c.args.scope c.args.t.now first.0 c.in_ok-table.table c.requires.typ first.1 first.2 first.3

pub loop-next-smaller : goal.loop-next-smaller
loop-next-smaller c =
    let less : c.loop-next.next < length c.loop-next.table = omega arith in
    let lt : c.loop-next.next < marked_bound (program_of c.args.core.now) c.args.scope =
    work_left (program_of c.args.core.now) c.requires.core c.args.scope c.args.t.now c.loop-next.table c.loop-next.next less c.loop-next.invariant in
    omega arith

pub loop-next-preserved : goal.loop-next-preserved
loop-next-preserved c =
    let less : c.loop-next.next < length c.loop-next.table = omega arith in
    work_more (program_of c.args.core.now) c.requires.core c.args.scope c.args.t.now c.loop-next.table c.advance.new.table c.loop-next.next less c.loop-next.invariant (c.in_ok-advance.ensures c.args.t.now c.loop-next.invariant.seen)

pub returns : goal.returns
returns c =
    let le : length c.loop-next.table ≤ c.loop-next.next = omega arith in
    work_all (program_of c.args.core.now) c.args.scope c.args.t.now c.loop-next.table c.loop-next.next le c.loop-next.invariant
