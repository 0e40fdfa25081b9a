use Rattle.std.proofs.Common.{ℕ, take}
use Rattle.wy_text.specs.Members.{In}
use Rattle.wy_verify.specs.RangeParts.{IsPrintedByte}
use Rattle.wy_verify.proofs.ranges.words.are_printed_bytes.Given as goal

abbrev pub invariant-loop-byte : goal.invariant-loop-byte
invariant-loop-byte l = (x : ℕ) → In x (take l.byte-index l.bytes) → IsPrintedByte x
