-- What a clause says of a result: what the part comes to, by its value or by the first failing node. Of want of memory it says nothing.
use Rattle.std.specs.Prelude.{ℕ, List, Option, Some, None, Result, Ok, Err}
use Rattle.wy_text.specs.declared.fault.Fault.{Fault}
use Rattle.wy_judge.specs.declared.outcomes.Stop.{Stop}
use Rattle.wy_judge.specs.declared.outcomes.Stop.TheVariants as stop
use Rattle.wy_judge.specs.declared.outcomes.Least.{Least}
use Rattle.wy_judge.specs.declared.outcomes.Fit as one
use Rattle.wy_judge.specs.declared.outcomes.Fit.TheVariants as at
use Rattle.wy_judge.specs.declared.outcomes.Fits as several
use Rattle.wy_judge.specs.declared.outcomes.Fits.TheVariants as all
use Rattle.wy_judge.specs.Inference.{Inference}
use Rattle.wy_judge.specs.Inference as inferred
use Rattle.wy_judge.specs.Fit.{Fit}
use Rattle.wy_judge.specs.Fit as fit
use Rattle.wy_judge.specs.Fits.{Fits}
use Rattle.wy_judge.specs.Fits as fits
use Rattle.wy_judge.specs.Step.{Step}
use Rattle.wy_judge.specs.Step as step

abbrev pub IfFault : Stop → (Fault → Type 0) → Type 0
IfFault (stop.Fails fault) P = P fault
IfFault stop.Memory P = Unit {0}

-- an expression by itself
abbrev pub IfInferred : Result Least Stop → (Inference → Type 0) → Type 0
IfInferred (Ok l) P = P (inferred.Least l.typ l.effect)
IfInferred (Err e) P = IfFault e (λ fault. P (inferred.Fails fault))

-- a value at a type
abbrev pub fit_of : one.Fit → Fit
fit_of (at.Has e) = fit.Has e
fit_of at.Misfit = fit.Misfit

abbrev pub IfFit : Result one.Fit Stop → (Fit → Type 0) → Type 0
IfFit (Ok u) P = P (fit_of u)
IfFit (Err e) P = IfFault e (λ fault. P (fit.Fails fault))

-- several, each at its type
abbrev pub fits_of : several.Fits → Fits
fits_of (all.Have e) = fits.Have e
fits_of (all.Misfit n) = fits.Misfit n

abbrev pub IfFits : Result several.Fits Stop → (Fits → Type 0) → Type 0
IfFits (Ok u) P = P (fits_of u)
IfFits (Err e) P = IfFault e (λ fault. P (fits.Fails fault))

-- statements, by their effect
abbrev pub IfStep : Result (List ℕ) Stop → (Step → Type 0) → Type 0
IfStep (Ok e) P = P (step.Done e)
IfStep (Err e) P = IfFault e (λ fault. P (step.Fails fault))

-- a part of which only its nodes count
abbrev pub IfPassed : {A : Type 0} → Result A Stop → (Option Fault → Type 0) → Type 0
IfPassed (Ok a) P = P None
IfPassed (Err e) P = IfFault e (λ fault. P (Some fault))

-- several as one
abbrev pub as_fit : Fits → Fit
as_fit (fits.Have e) = fit.Has e
as_fit (fits.Misfit n) = fit.Misfit
as_fit (fits.Fails fault) = fit.Fails fault
