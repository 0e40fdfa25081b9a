-- What a test of what is listed answers: that it stands, or where it fails first (docs/LANGUAGE.md, "Certificates").
use Rattle.std.specs.Prelude.{◌≡◌, ℕ, Option, Some, None}
use Rattle.wy_recheck.specs.declared.failure.Failure.{Failure}
use Rattle.wy_recheck.specs.declared.failure.Failure.TheVariants.{At, Memory as NoMemory}

-- what is listed has the property, and this is it; or it has it not
abbrev pub StandsAs : {X : Type 0} → (X → Type 0) → X → Option X → Type 0
StandsAs P x None = P x → ⊥
StandsAs P x (Some y) = (y ≡ x) × P x

-- a test that fails does so at this number first; of want of memory nothing is said
abbrev pub FailsFirst : (ℕ → Type 0) → Failure → Type 0
FailsFirst Fails (At i) = Fails i
FailsFirst Fails NoMemory = Unit {0}
