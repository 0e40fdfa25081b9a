use Rattle.std.proofs.Common.{◌≡◌, ◌++◌, ◌∷◌, [], drop}
use Rattle.wy_text.specs.Quoted.{quoted_bytes}
use Rattle.wy_text.proofs.quoting.between_quotes.Given as goal

abbrev pub invariant-loop-byte : goal.invariant-loop-byte
invariant-loop-byte l = l.bytes.items ++ quoted_bytes (drop l.byte-index l.text) ≡ 34 ∷ quoted_bytes l.text
