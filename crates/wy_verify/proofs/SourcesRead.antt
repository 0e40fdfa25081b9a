-- V-State: captured values that can be read.
use Rattle.std.proofs.Common.{◌≡◌, ℕ, zero, suc, ◌+◌, ◌≤◌, List, [], ◌∷◌, length, drop, refl, sym, subst, Some, arith}
use Rattle.std.specs.Prelude.{slice_get, ◌↔◌}
use Rattle.wy_code.specs.declared.code.Source.{Source}
use Rattle.wy_verified.proofs.Lists.{drop_at}
use Rattle.wy_verify.specs.Sites.{Site}
use Rattle.wy_verify.specs.Turns.{IsReadSource, AreReadSources}

module _ (s : Site) (stored : List ℕ) (cs : List Source) where
  -- what is left to be looked at from a place on
  abbrev pub ReadFrom : ℕ → Type 0
  ReadFrom at = AreReadSources s stored (drop at cs) ↔ AreReadSources s stored cs

  pub read_on : (at : ℕ) (c : Source) → slice_get cs at ≡ Some c → IsReadSource s stored c → ReadFrom at →
      ReadFrom (at + 1)
  read_on at c e r h =
      let z : suc at ≡ at + 1 = omega arith in
      let a = drop_at cs at c e in
      subst ReadFrom z (
        (λ more. h.0 (subst (λ (t : List Source). AreReadSources s stored t) (sym a) (r, more))),
        (λ all. (subst (λ (t : List Source). AreReadSources s stored t) a (h.1 all)).1),
      )

  pub read_not : (at : ℕ) (c : Source) → slice_get cs at ≡ Some c → (IsReadSource s stored c → ⊥) → ReadFrom at →
      AreReadSources s stored cs → ⊥
  read_not at c e never h all =
      never (subst (λ (t : List Source). AreReadSources s stored t) (drop_at cs at c e) (h.1 all)).0

  nothing_left : {X : Type 0} (xs : List X) (at : ℕ) → length xs ≤ at → drop at xs ≡ []
  nothing_left [] zero h = refl
  nothing_left [] (suc at) h = refl
  nothing_left (p ∷ ps) zero h = absurd (omega arith)
  nothing_left (p ∷ ps) (suc at) h = nothing_left ps at (omega arith)

  pub read_all : (at : ℕ) → length cs ≤ at → ReadFrom at → AreReadSources s stored cs
  read_all at le h =
      h.0 (subst (λ (t : List Source). AreReadSources s stored t) (sym (nothing_left cs at le)) tt)
