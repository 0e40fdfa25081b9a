-- What a result gives of a whole, by what it says of a part.
use Rattle.std.proofs.Common.{◌≡◌, subst, ap, Option, Some, None}
use Rattle.std.specs.Prelude.{Result, Ok, Err}
use Rattle.std.specs.Result.{IsErrAnd}
use Rattle.wy_text.specs.declared.fault.Fault.{Fault}
use Rattle.wy_judge.specs.declared.outcomes.Stop.{Stop}
use Rattle.wy_judge.specs.declared.outcomes.Stop.TheVariants as stop
use Rattle.wy_judge.specs.declared.outcomes.Least.{Least}
use Rattle.wy_judge.specs.Inference.{Inference}
use Rattle.wy_judge.specs.Inference as inferred
use Rattle.wy_judge.specs.declared.outcomes.Fit as one
use Rattle.wy_judge.specs.Fit.{Fit}
use Rattle.wy_judge.specs.Fit as fit
use Rattle.wy_judge.specs.Results.{IfFault, IfInferred, IfFit, IfPassed, fit_of}

pub fault_weaker : (e : Stop) (P Q : Fault → Type 0) → ((fault : Fault) → P fault → Q fault) → IfFault e P → IfFault e Q
fault_weaker (stop.Fails fault) P Q f h = f fault h
fault_weaker stop.Memory P Q f h = tt

pub passed_weaker : {A : Type 0} (r : Result A Stop) (P Q : Option Fault → Type 0) → ((o : Option Fault) → P o → Q o) → IfPassed r P → IfPassed r Q
passed_weaker (Ok a) P Q f h = f None h
passed_weaker (Err e) P Q f h = fault_weaker e (λ fault. P (Some fault)) (λ fault. Q (Some fault)) (λ fault. f (Some fault)) h

-- what a result says that is known
pub passed_none : {A : Type 0} (r : Result A Stop) (a : A) (P : Option Fault → Type 0) → r ≡ Ok a → IfPassed r P → P None
passed_none r a P e h = subst (λ z. IfPassed z P) e h

pub passed_fault : {A : Type 0} (r : Result A Stop) (fault : Fault) (P : Option Fault → Type 0) → r ≡ Err (stop.Fails fault) → IfPassed r P → P (Some fault)
passed_fault r fault P e h = subst (λ z. IfPassed z P) e h

pub inferred_weaker : (r : Result Least Stop) (P Q : Inference → Type 0) → ((u : Inference) → P u → Q u) → IfInferred r P → IfInferred r Q
inferred_weaker (Ok l) P Q f h = f (inferred.Least l.typ l.effect) h
inferred_weaker (Err e) P Q f h = fault_weaker e (λ fault. P (inferred.Fails fault)) (λ fault. Q (inferred.Fails fault)) (λ fault. f (inferred.Fails fault)) h

pub fit_weaker : (r : Result one.Fit Stop) (P Q : Fit → Type 0) → ((u : Fit) → P u → Q u) → IfFit r P → IfFit r Q
fit_weaker (Ok u) P Q f h = f (fit_of u) h
fit_weaker (Err e) P Q f h = fault_weaker e (λ fault. P (fit.Fails fault)) (λ fault. Q (fit.Fails fault)) (λ fault. f (fit.Fails fault)) h

-- what a `?` hands on
pub handed_on : {X E : Type 0} (result : Result X E) (e : E) → IsErrAnd result (λ f. f ≡ e) → result ≡ Err e
handed_on (Ok x) e h = absurd h
handed_on (Err f) e h = ap (λ g. Err g) h
