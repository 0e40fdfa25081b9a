-- V-Type of `New`: captured values that fit, and the fields after them.
use Rattle.std.proofs.Common.{◌≡◌, ℕ, zero, suc, ◌+◌, ◌<◌, ◌≤◌, List, [], ◌∷◌, length, drop, refl, sym, ◌∙◌, subst, Some, arith}
use Rattle.std.specs.Prelude.{slice_get, ◌↔◌}
use Rattle.wy_code.specs.declared.code.Source.{Source}
use Rattle.wy_verified.specs.declared.known.Kind.{Kind}
use Rattle.wy_verified.specs.Kinds.{Fits, AllFit}
use Rattle.wy_verified.proofs.Lists.{drop_at, read_there, some_same}
use Rattle.wy_verify.specs.Sites.{Site}
use Rattle.wy_verify.specs.Turns.{AreCaptured, AreMade, SourceFitsAt, source_of}

module _ (s : Site) (stored : List ℕ) where
  -- the source and the type at a place
  pub source_there : (cs : List Source) (ks : List Kind) (at : ℕ) (c : Source) (k : Kind) → slice_get cs at ≡ Some c →
      slice_get ks at ≡ Some k → (Fits s.image (source_of s stored c) k ↔ SourceFitsAt s stored cs ks at)
  source_there cs ks at c k e f = (
    (λ h. (c, k, e, f, h)),
    (λ h. subst (λ (c : Source). Fits s.image (source_of s stored c) k) (some_same (sym h.2 ∙ e))
        (subst (λ (k : Kind). Fits s.image (source_of s stored h.0) k) (some_same (sym h.3 ∙ f)) h.4)),
  )

  -- what is left to be looked at from a place on
  abbrev pub CapturedFrom : ℕ → List Source → List Kind → Type 0
  CapturedFrom at cs ks = AreCaptured s stored (drop at cs) (drop at ks) ↔ AreCaptured s stored cs ks

  pub captured_on : (cs : List Source) (ks : List Kind) (at : ℕ) → SourceFitsAt s stored cs ks at →
      CapturedFrom at cs ks → CapturedFrom (at + 1) cs ks
  captured_on cs ks at f h =
      let z : suc at ≡ at + 1 = omega arith in
      let a = drop_at cs at f.0 f.2 in
      let b = drop_at ks at f.1 f.3 in
      subst (λ n. CapturedFrom n cs ks) z (
        (λ more. h.0 (subst (λ (t : List Source). AreCaptured s stored t (drop at ks)) (sym a)
            (subst (λ (t : List Kind). AreCaptured s stored (f.0 ∷ drop (suc at) cs) t) (sym b) (f.4, more)))),
        (λ all. (subst (λ (t : List Kind). AreCaptured s stored (f.0 ∷ drop (suc at) cs) t) b
            (subst (λ (t : List Source). AreCaptured s stored t (drop at ks)) a (h.1 all))).1),
      )

  pub captured_not : (cs : List Source) (ks : List Kind) (at : ℕ) → at < length cs → at < length ks →
      (SourceFitsAt s stored cs ks at → ⊥) → CapturedFrom at cs ks → AreCaptured s stored cs ks → ⊥
  captured_not cs ks at lt less never h all =
      let c = read_there cs at lt in
      let k = read_there ks at less in
      never (
        c.0,
        k.0,
        c.1,
        k.1,
        (subst (λ (t : List Kind). AreCaptured s stored (c.0 ∷ drop (suc at) cs) t) (drop_at ks at k.0 k.1)
            (subst (λ (t : List Source). AreCaptured s stored t (drop at ks)) (drop_at cs at c.0 c.1) (h.1 all))).0,
      )

  nothing_left : {X : Type 0} (xs : List X) (at : ℕ) → length xs ≤ at → drop at xs ≡ []
  nothing_left [] zero h = refl
  nothing_left [] (suc at) h = refl
  nothing_left (p ∷ ps) zero h = absurd (omega arith)
  nothing_left (p ∷ ps) (suc at) h = nothing_left ps at (omega arith)

  pub captured_all : (cs : List Source) (ks : List Kind) (at : ℕ) → length cs ≤ at → CapturedFrom at cs ks →
      AreCaptured s stored cs ks
  captured_all cs ks at le h =
      h.0 (subst (λ (t : List Source). AreCaptured s stored t (drop at ks)) (sym (nothing_left cs at le)) tt)

  -- captured values, and then fields
  pub made_of : (cs : List Source) (fields ks : List Kind) → AreCaptured s stored cs ks →
      AllFit s.image fields (drop (length cs) ks) → AreMade s stored cs fields ks
  made_of [] fields ks h g = g
  made_of (c ∷ cs) fields [] h g = absurd h
  made_of (c ∷ cs) fields (k ∷ ks) h g = (h.0, made_of cs fields ks h.1 g)

  pub made_captured : (cs : List Source) (fields ks : List Kind) → AreMade s stored cs fields ks →
      AreCaptured s stored cs ks
  made_captured [] fields ks h = tt
  made_captured (c ∷ cs) fields [] h = absurd h
  made_captured (c ∷ cs) fields (k ∷ ks) h = (h.0, made_captured cs fields ks h.1)

  pub made_fields : (cs : List Source) (fields ks : List Kind) → AreMade s stored cs fields ks →
      AllFit s.image fields (drop (length cs) ks)
  made_fields [] fields ks h = h
  made_fields (c ∷ cs) fields [] h = absurd h
  made_fields (c ∷ cs) fields (k ∷ ks) h = made_fields cs fields ks h.1

  pub captured_fewer : (cs : List Source) (ks : List Kind) → AreCaptured s stored cs ks → length cs ≤ length ks
  captured_fewer [] ks h = omega arith
  captured_fewer (c ∷ cs) [] h = absurd h
  captured_fewer (c ∷ cs) (k ∷ ks) h = let r = captured_fewer cs ks h.1 in omega (arith, r)

  -- where the captured values fit, it is left to look at the fields
  pub made_is : (cs : List Source) (fields made ks : List Kind) (n : ℕ) → fields ≡ made → n ≡ length cs →
      AreCaptured s stored cs ks → (AllFit s.image fields (drop n ks) ↔ AreMade s stored cs made ks)
  made_is cs fields made ks n e f h =
      subst (λ (t : List Kind). AllFit s.image fields (drop n ks) ↔ AreMade s stored cs t ks) e
      (subst (λ n. AllFit s.image fields (drop n ks) ↔ AreMade s stored cs fields ks) (sym f)
      ((λ g. made_of cs fields ks h g), (λ made. made_fields cs fields ks made)))
