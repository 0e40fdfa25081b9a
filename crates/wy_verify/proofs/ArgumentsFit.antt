-- V-Argument: arguments that fit, and the first that does not.
use Rattle.std.proofs.Common.{◌≡◌, ℕ, zero, suc, ◌+◌, ◌<◌, ◌≤◌, List, [], ◌∷◌, length, drop, inl, inr, refl, sym, ◌∙◌, subst, Some, arith}
use Rattle.std.specs.Prelude.{slice_get, ◌↔◌}
use Rattle.wy_code.specs.declared.code.Argument.{Argument}
use Rattle.wy_verified.specs.declared.known.Kind.{Kind}
use Rattle.wy_verified.specs.Images.{Image}
use Rattle.wy_verified.specs.Kinds.{Fits}
use Rattle.wy_verified.specs.Verifying.{argument_kind, ArgumentsPass, ArgumentsFail}
use Rattle.wy_verified.proofs.Lists.{drop_at, read_there, some_same}
use Rattle.wy_verify.specs.Subjects.{ArgumentFitsAt}

module _ (image : Image) (args : List Argument) (ks : List Kind) where
  -- the argument and the type at a place
  pub argument_there : (at : ℕ) (a : Argument) (k : Kind) → slice_get args at ≡ Some a → slice_get ks at ≡ Some k →
      (Fits image (argument_kind a) k ↔ ArgumentFitsAt image args ks at)
  argument_there at a k e f = (
    (λ h. (a, k, e, f, h)),
    (λ h. subst (λ (a : Argument). Fits image (argument_kind a) k) (some_same (sym h.2 ∙ e))
        (subst (λ (k : Kind). Fits image (argument_kind h.0) k) (some_same (sym h.3 ∙ f)) h.4)),
  )

  -- the arguments before a place fit: what holds of those from there on holds of all
  pub record Looked (at : ℕ) : Type 0 where
    pub passes : ArgumentsPass image (drop at args) (drop at ks) → ArgumentsPass image args ks
    pub fails : (n : ℕ) → ArgumentsFail image at (drop at args) (drop at ks) n → ArgumentsFail image 0 args ks n

  pub looked_first : Looked 0
  looked_first = record { passes = λ h. h; fails = λ n h. h }

  pub looked_on : (at : ℕ) → ArgumentFitsAt image args ks at → Looked at → Looked (at + 1)
  looked_on at f h =
      let z : suc at ≡ at + 1 = omega arith in
      let a = sym (drop_at args at f.0 f.2) in
      let b = sym (drop_at ks at f.1 f.3) in
      subst Looked z (record {
        passes = λ more. h.passes (subst (λ (t : List Argument). ArgumentsPass image t (drop at ks)) a
            (subst (λ (t : List Kind). ArgumentsPass image (f.0 ∷ drop (suc at) args) t) b (f.4, more)));
        fails = λ n more. h.fails n (subst (λ (t : List Argument). ArgumentsFail image at t (drop at ks) n) a
            (subst (λ (t : List Kind). ArgumentsFail image at (f.0 ∷ drop (suc at) args) t n) b (inr (f.4, more))));
      })

  -- one does not fit
  pub looked_fails : (at : ℕ) → at < length args → at < length ks → (ArgumentFitsAt image args ks at → ⊥) → Looked at →
      ArgumentsFail image 0 args ks at
  looked_fails at lt less never h =
      let a = read_there args at lt in
      let k = read_there ks at less in
      h.fails at (subst (λ (t : List Argument). ArgumentsFail image at t (drop at ks) at) (sym (drop_at args at a.0 a.1))
      (subst (λ (t : List Kind). ArgumentsFail image at (a.0 ∷ drop (suc at) args) t at) (sym (drop_at ks at k.0 k.1))
      (inl (refl, (λ fits. never (a.0, k.0, a.1, k.1, fits))))))

  nothing_left : {X : Type 0} (xs : List X) (at : ℕ) → length xs ≤ at → drop at xs ≡ []
  nothing_left [] zero h = refl
  nothing_left [] (suc at) h = refl
  nothing_left (p ∷ ps) zero h = absurd (omega arith)
  nothing_left (p ∷ ps) (suc at) h = nothing_left ps at (omega arith)

  -- all were looked at
  pub looked_all : (at : ℕ) → length args ≤ at → Looked at → ArgumentsPass image args ks
  looked_all at le h =
      h.passes (subst (λ (t : List Argument). ArgumentsPass image t (drop at ks)) (sym (nothing_left args at le)) tt)
