-- Bytes that begin with no truth value's.
use Rattle.std.proofs.Common.{◌<◌, ◌≤◌, ℕ, Bool, true, false, List, length, get_or, arith, lit≤}
use Rattle.wy_spelling.specs.Kinds.{truth_kind}
use Rattle.wy_spelling.specs.Plain.{IsTruthSpelled, truth_byte, truth_bytes}
use Rattle.wy_spelling.specs.Spelling.{IsStuck}
use Rattle.wy_spelling.proofs.Forms.{no_form}

byte_most : (b : Bool) → truth_byte b ≤ 1
byte_most false = lit≤ tt
byte_most true = lit≤ tt

pub no_truth : (bytes : List ℕ) → 1 < get_or bytes 0 0 → IsStuck IsTruthSpelled truth_bytes bytes (length bytes)
no_truth bytes more = no_form truth_kind bytes (λ b same. omega (arith, more, byte_most b, same))
