use Rattle.std.proofs.Common.{◌<◌, List, length, arith, rules}
use Rattle.std.proofs.lemmas.List.{length-map}
use Rattle.wy_types.specs.Program.{program_of}
use Rattle.wy_types.proofs.Finite.{pair_bound}
use Rattle.wy_proving.specs.Certified.{Pair}
use Rattle.wy_certify.specs.Pair.{pair_of}
use Rattle.wy_certify.specs.Closed.{pairs_in}
use Rattle.wy_certify.proofs.PairsGrowing.{explored_none, explored_more, explored_left}
use Rattle.wy_certify.proofs.closing.Closing.explore.Goals as goal

pub loop-next-init : goal.loop-next-init
loop-next-init g c = record {
  kept = c.requires.kept;
  explored = explored_none (program_of c.args.self.now.core.now) c.args.self.now.number c.args.self.now.mode (pairs_in c.args.work.now) c.requires.ready;
}

pub loop-next-smaller : goal.loop-next-smaller
loop-next-smaller g c =
    let p = program_of c.args.self.now.core.now in
    let k = c.args.self.now.number in
    let qs : List Pair = pairs_in c.loop-next.work in
    let less : c.loop-next.next < length c.loop-next.work.pairs = search rules in
    let lt : c.loop-next.next < length qs = omega (arith, less, length-map c.loop-next.work.pairs pair_of) in
    let left : c.loop-next.next < pair_bound p k = explored_left p k c.args.self.now.mode c.requires.core (pairs_in c.args.work.now) qs c.loop-next.next lt c.loop-next.invariant.explored in
    omega arith

pub loop-next-preserved : goal.loop-next-preserved
loop-next-preserved g c =
    let p = program_of c.args.self.now.core.now in
    let k = c.args.self.now.number in
    let qs : List Pair = pairs_in c.loop-next.work in
    let less : c.loop-next.next < length c.loop-next.work.pairs = search rules in
    let lt : c.loop-next.next < length qs = omega (arith, less, length-map c.loop-next.work.pairs pair_of) in
    record {
      kept = c.in_ok-advance.ensures.kept;
      explored = explored_more p k c.args.self.now.mode (pairs_in c.args.work.now) qs (pairs_in c.advance.new.work) c.loop-next.next lt c.loop-next.invariant.explored c.in_ok-advance.ensures.advances;
    }
