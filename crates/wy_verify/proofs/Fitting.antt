-- Types that fit, one by one.
use Rattle.std.proofs.Common.{◌≡◌, ℕ, zero, suc, ◌+◌, ◌<◌, ◌≤◌, List, [], ◌∷◌, length, drop, inl, inr, refl, sym, ap, ◌∙◌, subst, arith, Some, Bool, Result, Ok, Err}
use Rattle.std.specs.Prelude.{◌↔◌, slice_get, IfOk, IsTrue}
use Rattle.wy_code.specs.declared.instruction.Instruction.{Instruction}
use Rattle.wy_verified.specs.Images.{Image}
use Rattle.wy_verified.specs.Kinds.{IsObject, IsClosed, Fits, AllFit}
use Rattle.wy_verified.specs.declared.known.Kind.{Kind}
use Rattle.wy_verified.specs.declared.known.Kind.TheVariants.{Units}
use Rattle.wy_verified.specs.declared.known.Known.{Known}
use Rattle.wy_verified.specs.Rules.{reversed}
use Rattle.wy_verified.specs.Walking.{FinishTypes, top_kind}
use Rattle.wy_verified.proofs.Lists.{drop_at, read_there, some_same}
use Rattle.wy_verify.specs.Sites.{Site}
use Rattle.wy_verify.specs.Turns.{FitsAt, IsInTypes}
use Rattle.wy_verify.proofs.Backwards.{reversed_twice}

module _ (image : Image) where
  pub same_length : (ks ls : List Kind) → AllFit image ks ls → length ks ≡ length ls
  same_length [] [] h = refl
  same_length [] (l ∷ ls) h = absurd h
  same_length (k ∷ ks) [] h = absurd h
  same_length (k ∷ ks) (l ∷ ls) h = ap suc (same_length ks ls h.1)

  -- what is left to be looked at from a place on
  abbrev pub FitsFrom : ℕ → List Kind → List Kind → Type 0
  FitsFrom at ks ls = AllFit image (drop at ks) (drop at ls) ↔ AllFit image ks ls

  -- one fits: the question goes on behind it
  pub fits_on : (ks ls : List Kind) (at : ℕ) → FitsAt image ks ls at → FitsFrom at ks ls → FitsFrom (at + 1) ks ls
  fits_on ks ls at f h =
      let z : suc at ≡ at + 1 = omega arith in
      let a = drop_at ks at f.0 f.2 in
      let b = drop_at ls at f.1 f.3 in
      subst (λ n. FitsFrom n ks ls) z (
        (λ more. h.0 (subst (λ (t : List Kind). AllFit image t (drop at ls)) (sym a)
            (subst (λ (t : List Kind). AllFit image (f.0 ∷ drop (suc at) ks) t) (sym b) (f.4, more)))),
        (λ all. (subst (λ (t : List Kind). AllFit image (f.0 ∷ drop (suc at) ks) t) b
            (subst (λ (t : List Kind). AllFit image t (drop at ls)) a (h.1 all))).1),
      )

  -- one does not fit
  pub fits_not : (ks ls : List Kind) (at : ℕ) → at < length ks → at < length ls → (FitsAt image ks ls at → ⊥) →
      FitsFrom at ks ls → AllFit image ks ls → ⊥
  fits_not ks ls at lt less never h all =
      let k = read_there ks at lt in
      let l = read_there ls at less in
      never (
        k.0,
        l.0,
        k.1,
        l.1,
        (subst (λ (t : List Kind). AllFit image (k.0 ∷ drop (suc at) ks) t) (drop_at ls at l.0 l.1)
            (subst (λ (t : List Kind). AllFit image t (drop at ls)) (drop_at ks at k.0 k.1) (h.1 all))).0,
      )

  nothing_left : {X : Type 0} (xs : List X) (at : ℕ) → length xs ≤ at → drop at xs ≡ []
  nothing_left [] zero h = refl
  nothing_left [] (suc at) h = refl
  nothing_left (p ∷ ps) zero h = absurd (omega arith)
  nothing_left (p ∷ ps) (suc at) h = nothing_left ps at (omega arith)

  -- all were looked at
  pub fits_all : (ks ls : List Kind) (at : ℕ) → length ks ≤ at → length ks ≡ length ls → FitsFrom at ks ls →
      AllFit image ks ls
  fits_all ks ls at le e h =
      h.0 (subst (λ (t : List Kind). AllFit image t (drop at ls)) (sym (nothing_left ks at le))
      (subst (λ (t : List Kind). AllFit image [] t) (sym (nothing_left ls at (omega (arith, le, e)))) tt))

  -- both backwards
  onto : (ks ls ms ns : List Kind) → AllFit image ks ls → AllFit image ms ns →
      AllFit image (reversed ks ms) (reversed ls ns)
  onto [] [] ms ns h g = g
  onto [] (l ∷ ls) ms ns h g = absurd h
  onto (k ∷ ks) [] ms ns h g = absurd h
  onto (k ∷ ks) (l ∷ ls) ms ns h g = onto ks ls (k ∷ ms) (l ∷ ns) h.1 (h.0, g)

  pub fit_reversed : (ks ls : List Kind) → AllFit image ks ls ↔ AllFit image (reversed ks []) (reversed ls [])
  fit_reversed ks ls = (
    (λ h. onto ks ls [] [] h tt),
    (λ h. subst (λ (t : List Kind). AllFit image t ls) (reversed_twice ks)
        (subst (λ (t : List Kind). AllFit image (reversed (reversed ks []) []) t) (reversed_twice ls)
        (onto (reversed ks []) (reversed ls []) [] [] h tt))),
  )

  pub fit_lower : (ks ls ms : List Kind) → reversed ks [] ≡ ms → (AllFit image ks ls ↔ AllFit image ms (reversed ls []))
  fit_lower ks ls ms e =
      subst (λ (t : List Kind). AllFit image ks ls ↔ AllFit image t (reversed ls [])) e (fit_reversed ks ls)

  -- only a base type itself fits it
  pub base_fits : (k l : Kind) → (IsObject l → ⊥) → Fits image k l → k ≡ l
  base_fits k l never (inl e) = e
  base_fits k l never (inr sub) = of (sub.closed (k, l) sub.first)
    where
      of : IsClosed image sub.pairs (k, l) → k ≡ l
      of (inl h) = h.0
      of (inr h) = absurd (never h.1)

  -- the types at a place
  pub fits_there : (ks ls : List Kind) (at : ℕ) (k l : Kind) → slice_get ks at ≡ Some k → slice_get ls at ≡ Some l →
      (Fits image k l ↔ FitsAt image ks ls at)
  fits_there ks ls at k l e f = (
    (λ h. (k, l, e, f, h)),
    (λ h. subst (λ (k : Kind). Fits image k l) (some_same (sym h.2 ∙ e))
        (subst (λ (l : Kind). Fits image h.0 l) (some_same (sym h.3 ∙ f)) h.4)),
  )

-- what is decided is decided by what means the same
pub decides : {E : Type 0} (r : Result Bool E) (P Q : Type 0) → (P ↔ Q) → IfOk r (λ b. IsTrue b ↔ P) →
    IfOk r (λ b. IsTrue b ↔ Q)
decides (Ok b) P Q e h = ((λ t. e.0 (h.0 t)), (λ q. h.1 (e.1 q)))
decides (Err x) P Q e h = h

module _ (s : Site) (known : Known) where
  -- what is decided of an instruction in one form
  pub form_decides : {E : Type 0} (i j : Instruction) (r : Result Bool E) → i ≡ j →
      IfOk r (λ b. IsTrue b ↔ IsInTypes s known j) → IfOk r (λ b. IsTrue b ↔ IsInTypes s known i)
  form_decides i j r e h = subst (λ (i : Instruction). IfOk r (λ b. IsTrue b ↔ IsInTypes s known i)) (sym e) h

  -- an operand is left at the end
  pub left_fits : (ks : List Kind) → (length ks ≡ 0 → ⊥) →
      (Fits s.image (top_kind ks) Units ↔ FinishTypes s.image s.x s.owner s.body s.bounds s.held ks)
  left_fits [] some = absurd (some refl)
  left_fits (k ∷ ks) some = ((λ h. h), (λ h. h))
