-- What a table of pairs is asked and answers, in the words of the scope and the mode that it was made for.
use Rattle.std.proofs.Common.{◌≡◌, ℕ, sym, subst}
use Rattle.wy_types.specs.declared.types.TypeRef.{TypeRef}
use Rattle.wy_types.specs.Program.{Program}
use Rattle.wy_types.specs.Fitting.{IsTypeOf}
use Rattle.wy_subtype.specs.declared.verdict.Mode.{Mode}
use Rattle.wy_subtype.specs.Decided.{About}
use Rattle.wy_judge.specs.Inference.{Inference}
use Rattle.wy_judge.specs.Fit.{Fit}
use Rattle.wy_judge.specs.Targets.{about_in, IsFittedIn}

module _ (p : Program) (k : ℕ) (mode : Mode) (a : About) (is : a ≡ about_in p k mode) where
  pub asked_type : (t : TypeRef) → IsTypeOf p k t → IsTypeOf a.program a.scope t
  asked_type t h = subst (λ (b : About). IsTypeOf b.program b.scope t) (sym is) h

  pub fitted_in : (v : Inference) (t : TypeRef) (u : Fit) → IsFittedIn a.program a.scope a.mode v t u → IsFittedIn p k mode v t u
  fitted_in v t u h = subst (λ (b : About). IsFittedIn b.program b.scope b.mode v t u) is h
