-- What judging a part comes to, told of the same part, asked types and outcome in another form.
use Rattle.std.proofs.Common.{◌≡◌, ℕ, List, [], sym, subst, Option}
use Rattle.std.specs.Prelude.{Result}
use Rattle.wy_text.specs.declared.fault.Fault.{Fault}
use Rattle.wy_text.specs.declared.fault.Place.{Place}
use Rattle.wy_types.specs.declared.types.TypeRef.{TypeRef}
use Rattle.wy_types.specs.declared.code.Stmt.{Stmt}
use Rattle.wy_types.specs.declared.code.Value as v
use Rattle.wy_types.specs.Code.{Expr, Value}
use Rattle.wy_types.specs.Program.{Program, Scope}
use Rattle.wy_judge.specs.declared.outcomes.Least.{Least}
use Rattle.wy_judge.specs.declared.outcomes.Stop.{Stop}
use Rattle.wy_judge.specs.declared.targets.Target.{Target}
use Rattle.wy_judge.specs.Inference.{Inference}
use Rattle.wy_judge.specs.Inference as inferred
use Rattle.wy_judge.specs.Fit.{Fit}
use Rattle.wy_judge.specs.Fits.{Fits}
use Rattle.wy_judge.specs.Step.{Step}
use Rattle.wy_judge.specs.Results.{IfInferred}
use Rattle.wy_judge.specs.Tables.{Table}
use Rattle.wy_judge.specs.Judging.{ArgumentsTo, InfersTo, FitsTo, AllFitTo, ProbesTo, StatesTo}

module _ {p : Program} {k : ℕ} {s : Scope} {owner : Option ℕ} {old new : Table} where
  -- a least type without an effect
  pub least_as : {x y : Expr} {l : Least} {t : TypeRef} → y ≡ x → l ≡ record { typ = t; effect = [] } → InfersTo p k s owner old new x (inferred.Least t []) → InfersTo p k s owner old new y (inferred.Least l.typ l.effect)
  least_as {x} {y} {l} {t} e f h = subst (λ (z : Least). InfersTo p k s owner old new y (inferred.Least z.typ z.effect)) (sym f) (subst (λ z. InfersTo p k s owner old new z (inferred.Least t [])) (sym e) h)

  -- an expression
  pub infers_as : {x y : Expr} {u : Inference} → y ≡ x → InfersTo p k s owner old new x u → InfersTo p k s owner old new y u
  infers_as {x} {y} {u} e h = subst (λ z. InfersTo p k s owner old new z u) (sym e) h

  -- a value at a type, and where none is asked
  pub fits_as : {x y : Value} {t : TypeRef} {u : Fit} → y ≡ x → FitsTo p k s owner old new x t u → FitsTo p k s owner old new y t u
  fits_as {x} {y} {t} {u} e h = subst (λ z. FitsTo p k s owner old new z t u) (sym e) h

  pub probes_as : {x y : Value} {o : Option Fault} → y ≡ x → ProbesTo p k s owner old new x o → ProbesTo p k s owner old new y o
  probes_as {x} {y} {o} e h = subst (λ z. ProbesTo p k s owner old new z o) (sym e) h

  -- several, at types
  pub all_fit_as : {xs : List v.Value} {ts us : List TypeRef} {u : Fits} → us ≡ ts → AllFitTo p k s owner old new xs ts u → AllFitTo p k s owner old new xs us u
  all_fit_as {xs} {ts} {us} {u} e h = subst (λ z. AllFitTo p k s owner old new xs z u) (sym e) h

  -- a statement
  pub states_as : {x y : Stmt} {u : Step} → y ≡ x → StatesTo p k s owner old new x u → StatesTo p k s owner old new y u
  states_as {x} {y} {u} e h = subst (λ z. StatesTo p k s owner old new z u) (sym e) h

module _ (p : Program) (k : ℕ) (s : Scope) (owner : Option ℕ) (old new : Table) (r : Result Least Stop) where
  -- an expression, by a result
  pub inferred_as : (x y : Expr) → y ≡ x → IfInferred r (λ u. InfersTo p k s owner old new x u) → IfInferred r (λ u. InfersTo p k s owner old new y u)
  inferred_as x y e h = subst (λ z. IfInferred r (λ u. InfersTo p k s owner old new z u)) (sym e) h

  -- the arguments of a call, by what its receiver offers
  pub arguments_as : (place : Place) (x y : Target) (xs : List v.Value) → y ≡ x → IfInferred r (λ u. ArgumentsTo p k s owner old new place x xs u) → IfInferred r (λ u. ArgumentsTo p k s owner old new place y xs u)
  arguments_as place x y xs e h = subst (λ z. IfInferred r (λ u. ArgumentsTo p k s owner old new place z xs u)) (sym e) h
