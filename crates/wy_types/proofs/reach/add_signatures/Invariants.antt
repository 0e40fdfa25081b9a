use Rattle.std.proofs.Common.{take, map}
use Rattle.wy_types.specs.Gathering.{IsGathered}
use Rattle.wy_types.specs.Signature.{signature_types}
use Rattle.wy_types.specs.Types.{signature}
use Rattle.wy_types.proofs.reach.add_signatures.Given as goal

abbrev pub invariant-loop-m : goal.invariant-loop-m
invariant-loop-m l = IsGathered l.initial.seen (signature_types (map signature (take l.m-index l.methods))) l.seen
