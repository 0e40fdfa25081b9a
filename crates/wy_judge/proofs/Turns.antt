-- A turn of the loop over values, each at its type: one more value, in which no node fails.
use Rattle.std.proofs.Common.{◌≡◌, ℕ, ◌+◌, List, sym, subst, Option, Some}
use Rattle.std.specs.Prelude.{slice_get}
use Rattle.wy_types.specs.declared.types.TypeRef.{TypeRef}
use Rattle.wy_types.specs.declared.code.Value as v
use Rattle.wy_types.specs.View.{value_of}
use Rattle.wy_types.specs.Program.{Program, Scope}
use Rattle.wy_judge.specs.declared.outcomes.Fit as one
use Rattle.wy_judge.specs.declared.outcomes.Fit.TheVariants as at
use Rattle.wy_judge.specs.Fits.{Fits}
use Rattle.wy_judge.specs.Outcomes.{push_fit}
use Rattle.wy_judge.specs.Results.{fit_of}
use Rattle.wy_judge.specs.Tables.{Table, IsScopeOf}
use Rattle.wy_judge.specs.Judging.{HasSet, FitsTo, Fitting}
use Rattle.wy_judge.proofs.ValueWalks.{fitting_has, fitting_misfits}

module _ (p : Program) (k : ℕ) (s : Scope) (c : IsScopeOf p k s) (owner : Option ℕ) where
  one_more : (xs : List v.Value) (ts : List TypeRef) (old mid new : Table) (i : ℕ) (sofar : Fits) (x : v.Value) (t : TypeRef) (u : one.Fit) → Fitting p k s owner old mid xs ts i sofar → slice_get xs i ≡ Some x → slice_get ts i ≡ Some t →
      FitsTo p k s owner mid new (value_of x) t (fit_of u) → HasSet (fit_of u) → Fitting p k s owner old new xs ts (i + 1) (push_fit sofar i (fit_of u))
  one_more xs ts old mid new i sofar x t (at.Has f) l e g h set = fitting_has p k s c owner xs ts old mid new i sofar x t f l e g h set
  one_more xs ts old mid new i sofar x t at.Misfit l e g h set = fitting_misfits p k s c owner xs ts old mid new i sofar x t l e g h

  pub values_go_on : (xs : List v.Value) (ts : List TypeRef) (old mid new : Table) (i : ℕ) (sofar r : Fits) (x : v.Value) (t : TypeRef) (u : one.Fit) → Fitting p k s owner old mid xs ts i sofar → slice_get xs i ≡ Some x → slice_get ts i ≡ Some t →
      FitsTo p k s owner mid new (value_of x) t (fit_of u) → HasSet (fit_of u) → r ≡ push_fit sofar i (fit_of u) → Fitting p k s owner old new xs ts (i + 1) r
  values_go_on xs ts old mid new i sofar r x t u l e g h set is = subst (Fitting p k s owner old new xs ts (i + 1)) (sym is) (one_more xs ts old mid new i sofar x t u l e g h set)
