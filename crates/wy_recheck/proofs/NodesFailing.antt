-- What fails first, told of another thing that fails at the same number.
use Rattle.std.proofs.Common.{◌≡◌, ℕ, ap, Ok, Err}
use Rattle.std.specs.Prelude.{Result}
use Rattle.std.specs.Result.{IsErrAnd}
use Rattle.wy_recheck.specs.declared.failure.Failure.{Failure}
use Rattle.wy_recheck.specs.declared.failure.Failure.TheVariants.{At, Memory as NoMemory}
use Rattle.wy_recheck.specs.Standing.{FailsFirst}

pub first_weaker : (P Q : ℕ → Type 0) → ((i : ℕ) → P i → Q i) → (f : Failure) → FailsFirst P f → FailsFirst Q f
first_weaker P Q w (At i) h = w i h
first_weaker P Q w NoMemory h = tt

-- what a `?` hands on
pub handed_on : {X E : Type 0} (result : Result X E) (e : E) → IsErrAnd result (λ f. f ≡ e) → result ≡ Err e
handed_on (Ok x) e h = absurd h
handed_on (Err f) e h = ap (λ g. Err g) h
