-- The least atom of an effect that the declared one lacks, as a mode asks for it.
use Rattle.std.specs.Prelude.{◌≡◌, ℕ, List, Option, Some, None}
use Rattle.wy_text.specs.declared.fault.AtomName.{AtomName}
use Rattle.wy_text.specs.declared.fault.Place.{Place}
use Rattle.wy_text.specs.declared.fault.Fault.{Fault}
use Rattle.wy_text.specs.Members.{Within}
use Rattle.wy_effects.specs.Bounds.{IsOneOf, IsLeastMissing}
use Rattle.wy_effects.specs.Widened.{widened_set}
use Rattle.wy_types.specs.Program.{Program, Scope}
use Rattle.wy_types.specs.Types.{is_plain}
use Rattle.wy_types.specs.Bounds.{bounds_of}
use Rattle.wy_subtype.specs.declared.verdict.Mode.{Mode}
use Rattle.wy_subtype.specs.declared.verdict.Mode.TheVariants.{Annotated, Plain}
use Rattle.wy_judge.specs.Fit.{Fit}
use Rattle.wy_judge.specs.Fit as fit
use Rattle.wy_judge.specs.Fits.{Fits}
use Rattle.wy_judge.specs.Fits as fits
use Rattle.wy_judge.specs.Outcomes.{body_fault, init_fault}
use Rattle.wy_judge.specs.Targets.{mode_of}

-- plain modules have no effects to lack
abbrev pub LacksIn : Mode → List ℕ → List ℕ → Option ℕ → Type 0
LacksIn Plain f declared lack = lack ≡ None
LacksIn Annotated f declared None = Within f declared
LacksIn Annotated f declared (Some a) = IsLeastMissing IsOneOf a f declared

abbrev pub FitLacksIn : Mode → Fit → List ℕ → Option ℕ → Type 0
FitLacksIn mode (fit.Has f) declared lack = LacksIn mode f declared lack
FitLacksIn mode fit.Misfit declared lack = Unit {0}
FitLacksIn mode (fit.Fails fault) declared lack = Unit {0}

abbrev pub FitsLackIn : Mode → Fits → List ℕ → Option ℕ → Type 0
FitsLackIn mode (fits.Have f) declared lack = LacksIn mode f declared lack
FitsLackIn mode (fits.Misfit n) declared lack = Unit {0}
FitsLackIn mode (fits.Fails fault) declared lack = Unit {0}

-- what a body, and the initialisers of fields, come to
abbrev pub IsBodyFault : Mode → Place → List AtomName → List ℕ → Fit → Option Fault → Type 0
IsBodyFault mode place atoms declared u o = (lack : Option ℕ) × FitLacksIn mode u declared lack × (o ≡ body_fault place atoms lack u)

abbrev pub IsInitFault : Mode → Place → List AtomName → List ℕ → Fits → Option Fault → Type 0
IsInitFault mode place atoms declared u o = (lack : Option ℕ) × FitsLackIn mode u declared lack × (o ≡ init_fault place atoms lack u)

-- .. in the scope of a number, by its kind, where the effect that is declared is widened by the bounds of the scope's atoms
abbrev pub IsBodyFaultOf : Program → ℕ → Scope → Place → List ℕ → Fit → Option Fault → Type 0
IsBodyFaultOf p k s place declared u o = IsBodyFault (mode_of (is_plain s.kind)) place s.atoms (widened_set (bounds_of p k) declared) u o

abbrev pub IsInitFaultOf : Program → ℕ → Scope → Place → List ℕ → Fits → Option Fault → Type 0
IsInitFaultOf p k s place declared u o = IsInitFault (mode_of (is_plain s.kind)) place s.atoms (widened_set (bounds_of p k) declared) u o
