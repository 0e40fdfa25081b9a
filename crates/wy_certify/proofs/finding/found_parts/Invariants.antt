use Rattle.std.proofs.Common.{◌≡◌, ℕ, length, Some}
use Rattle.std.specs.Prelude.{slice_get}
use Rattle.wy_types.specs.Program.{Scope, program_of}
use Rattle.wy_certify.specs.declared.finding.ScopePart.{ScopePart}
use Rattle.wy_certify.specs.Parts.{IsFound}
use Rattle.wy_certify.proofs.finding.found_parts.Given as goal

abbrev pub invariant-loop-number : goal.invariant-loop-number
invariant-loop-number l = record {
  so_many : length l.parts ≡ l.number;
  each : (k : ℕ) (s : Scope) (part : ScopePart) → slice_get (program_of l.core).scopes k ≡ Some s → slice_get l.parts k ≡ Some part → IsFound (program_of l.core) k s part;
}
