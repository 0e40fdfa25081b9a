-- The least atom of an effect that another lacks is found, with no memory that may be wanting.
use Rattle.std.proofs.Common.{◌≡◌, ℕ, ◌≤◌, List, [], ◌∷◌, ◌⊎◌, inl, inr, refl, sym, subst, Option, Some, None, arith}
use Rattle.std.proofs.lemmas.Bool.{cases_lt}
use Rattle.wy_text.specs.Members.{In}
use Rattle.wy_effects.specs.EffSet.{without}
use Rattle.wy_effects.specs.Bounds.{Bounds, IsUnder, IsWithin, GoDown, IsLeastMissing}
use Rattle.wy_effects.specs.Widened.{widened_set}
use Rattle.wy_effects.proofs.Ordering.{missing_exactly, widened_exactly}
use Rattle.wy_effects.proofs.SetLaws.{without-from, In-without}
use Rattle.wy_effects.proofs.Widening.{widened_is}
use Rattle.wy_subtype.specs.declared.verdict.Mode.{Mode}
use Rattle.wy_subtype.specs.declared.verdict.Mode.TheVariants.{Annotated, Plain}
use Rattle.wy_judge.specs.Fit.{Fit}
use Rattle.wy_judge.specs.Fit as fit
use Rattle.wy_judge.specs.Fits.{Fits}
use Rattle.wy_judge.specs.Fits as fits
use Rattle.wy_judge.specs.Lacks.{LacksIn, FitLacksIn, FitsLackIn}
use Rattle.wy_judge.proofs.Lacking.{nothing_left}

pub least_of : (x : ℕ) (xs : List ℕ) → (a : ℕ) × In a (x ∷ xs) × ((b : ℕ) → In b (x ∷ xs) → a ≤ b)
least_of x [] = (x, inl refl, λ b i. elim i [ inl e ↦ omega (arith, e) | inr none ↦ absurd none ])
least_of x (y ∷ ys) =
    let r = least_of y ys in
    let a : ℕ = r.0 in
    elim (cases_lt x a) [
      | inl lt ↦ (x, inl refl, λ b i. elim i [ inl e ↦ omega (arith, e) | inr j ↦ (let l : a ≤ b = r.2 b j in omega arith) ])
      | inr ge ↦ (a, inr r.1, λ b i. elim i [ inl e ↦ omega (arith, e) | inr j ↦ r.2 b j ])
    ]

lack_by : (f declared left : List ℕ) → without f declared ≡ left → (lack : Option ℕ) × LacksIn Annotated f declared lack
lack_by f declared [] e = (None, nothing_left f declared e)
lack_by f declared (x ∷ xs) e =
    let r = least_of x xs in
    let from = without-from r.0 f declared (subst (λ l. In r.0 l) (sym e) r.1) in
    (Some r.0, (from.0, from.1, λ b i absent. r.2 b (subst (λ l. In b l) e (In-without b f declared i absent))))

pub lack_decided : (mode : Mode) (f declared : List ℕ) → (lack : Option ℕ) × LacksIn mode f declared lack
lack_decided Plain f declared = (None, refl)
lack_decided Annotated f declared = lack_by f declared (without f declared) refl

pub fit_lack_decided : (mode : Mode) (u : Fit) (declared : List ℕ) → (lack : Option ℕ) × FitLacksIn mode u declared lack
fit_lack_decided mode (fit.Has f) declared = lack_decided mode f declared
fit_lack_decided mode fit.Misfit declared = (None, tt)
fit_lack_decided mode (fit.Fails fault) declared = (None, tt)

pub fits_lack_decided : (mode : Mode) (u : Fits) (declared : List ℕ) → (lack : Option ℕ) × FitsLackIn mode u declared lack
fits_lack_decided mode (fits.Have f) declared = lack_decided mode f declared
fits_lack_decided mode (fits.Misfit n) declared = (None, tt)
fits_lack_decided mode (fits.Fails fault) declared = (None, tt)

-- .. over bounds that name earlier atoms
module _ (bounds : Bounds) (down : GoDown bounds) (e f : List ℕ) where
  by_lack : (lack : Option ℕ) → LacksIn Annotated e (widened_set bounds f) lack → IsWithin bounds e f ⊎ ((a : ℕ) × IsLeastMissing (IsUnder bounds) a e f)
  by_lack None w = inl ((widened_exactly bounds e f (widened_set bounds f) (widened_is bounds down f)).1 w)
  by_lack (Some a) m = inr (a, (missing_exactly bounds e f (widened_set bounds f) a (widened_is bounds down f)).1 m)

  pub within_or_missing : IsWithin bounds e f ⊎ ((a : ℕ) × IsLeastMissing (IsUnder bounds) a e f)
  within_or_missing = (let l = lack_decided Annotated e (widened_set bounds f) in by_lack l.0 l.1)
