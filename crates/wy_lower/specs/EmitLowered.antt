-- What lowering promises.
use Rattle.std.specs.Prelude.{◌≡◌, ℕ, Some}
use Rattle.wy_types.specs.Program.{Program, Scope}
use Rattle.wy_code.specs.declared.code.Scope as code
use Rattle.wy_meaning.specs.Starts.{Starts}
use Rattle.wy_lower.specs.declared.lowering.LowerRefusal.{LowerRefusal}
use Rattle.wy_lower.specs.declared.lowering.LowerRefusal.TheVariants.{Limit, Memory}
use Rattle.wy_lower.specs.Lowering.{scope_arguments, literals_code}
use Rattle.wy_lower.specs.Counts.{lowering_limit}

-- a limit is the one that the program passes; want of memory may be told at any time
abbrev pub IsLowerRefusal : Program → Starts → LowerRefusal → Type 0
IsLowerRefusal p starts (Limit name) = lowering_limit p starts ≡ Some name
IsLowerRefusal p starts Memory = Unit {0}

-- the code of a scope whose first body has this number
abbrev pub scope_code : Program → Starts → ℕ → Scope → code.Scope
scope_code p starts first s = record { arguments = scope_arguments s; start = first; literals = literals_code p starts s first 0 s.literals }
