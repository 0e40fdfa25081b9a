-- Laws of runs. (docs/LANGUAGE.md, "Code")
use Rattle.std.specs.Prelude.{◌≡◌, ◌≢◌, ◌≤◌, ◌+◌, ℕ, List, ◌++◌}
use Rattle.wy_device.specs.declared.deed.Event.{Event}
use Rattle.wy_device.specs.RunEnds.{Spent}
use Rattle.wy_device.specs.Tapes.{Tapes}
use Rattle.wy_code.specs.declared.code.Code.{Code}
use Rattle.wy_code.specs.Running.{Ran, machine}

-- a run that is spent goes on in the second one, and any other run is the second one
pub record IsContinued (r s : Ran) : Type 0 where
  pub spent : r.end ≡ Spent → (later : List Event) × (s.events ≡ r.events ++ later)
  pub ends : r.end ≢ Spent → s ≡ r

abbrev pub MoreStepsContinue : Code → Type 0
MoreStepsContinue code = (n k more : ℕ) (tapes : Tapes) → IsContinued (machine code n k tapes) (machine code n (k + more) tapes)

abbrev pub FewStepsAreTaken : Code → Type 0
FewStepsAreTaken code = (n k : ℕ) (tapes : Tapes) → (machine code n k tapes).taken ≤ k

abbrev pub SpentTakesAll : Code → Type 0
SpentTakesAll code = (n k : ℕ) (tapes : Tapes) → (machine code n k tapes).end ≡ Spent → (machine code n k tapes).taken ≡ k
