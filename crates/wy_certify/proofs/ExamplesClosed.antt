-- Worked examples of closed lists: a base type has no method, so its pair with itself is closed alone, and nothing else arises from it.
use Rattle.std.proofs.Common.{◌≡◌, ℕ, [], ◌∷◌, inl, inr, refl, sym, ap, subst}
use Rattle.wy_text.specs.Members.{In}
use Rattle.wy_types.specs.declared.types.TypeRef.TheVariants.{Int, Bool}
use Rattle.wy_types.specs.Program.{Program, Scope}
use Rattle.wy_types.specs.Types.{methods_of}
use Rattle.wy_subtype.specs.declared.verdict.Mode.TheVariants.{Annotated}
use Rattle.wy_proving.specs.Certified.{Pair}
use Rattle.wy_proving.specs.Proving.{TypeStands}
use Rattle.wy_recheck.specs.Closing.{ClosedIn}
use Rattle.wy_certify.specs.Closed.{Arises, of_asked, of_pair, IsClosedList}

abbrev numbers : Pair
numbers = (Int, Int)

abbrev truths : Pair
truths = (Bool, Bool)

module _ (p : Program) (k : ℕ) (s : Scope) where
  -- asked alone it is listed alone
  alone : IsClosedList p k s Annotated (numbers ∷ []) (numbers ∷ [])
  alone = record {
    has = λ q i. i;
    closed = λ q i. elim i [ inl e ↦ subst (λ (v : Pair). ClosedIn p k Annotated (numbers ∷ []) v) e (inl (refl, λ o. o)) | inr z ↦ absurd z ];
    only = λ q i. of_asked q i;
    apart = (λ i. i, tt);
    form = refl;
    stand = λ q i. elim i [ inl e ↦ subst (λ (v : Pair). TypeStands p s v.0 × TypeStands p s v.1) e (tt, tt) | inr z ↦ absurd z ];
  }

  -- what arises from it is it
  itself : (q : Pair) → Arises p k Annotated (numbers ∷ []) q → numbers ≡ q
  itself _ (of_asked q i) = elim i [ inl e ↦ e | inr z ↦ absurd z ]
  itself _ (of_pair q r step a to) =
      let e = itself q a in
      let P : Pair → Type 0 = λ v. In to.right (methods_of p k v.1) in
      absurd (subst P (sym e) to.asked)

  -- a list with a pair that nothing asks is no closed list of it
  with_another : IsClosedList p k s Annotated (numbers ∷ []) (numbers ∷ truths ∷ []) → ⊥
  with_another c = let e : numbers ≡ truths = itself truths (c.only truths (inr (inl refl))) in let f : Int ≡ Bool = ap (λ (v : Pair). v.0) e in cc
