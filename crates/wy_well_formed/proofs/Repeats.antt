-- Names of which none is refused as a repetition: they differ, and none is among those before.
use Rattle.std.proofs.Common.{◌≡◌, ℕ, List, [], ◌∷◌, ◌++◌, inl, inr, Bool, true, false, refl, sym, ap, subst, if◌then◌else◌}
use Rattle.std.specs.Prelude.{◌||◌}
use Rattle.wy_syntax.specs.declared.types.Name.{Name}
use Rattle.wy_text.specs.Members.{In, Apart}
use Rattle.wy_text.proofs.Lists.{In-left, In-push}
use Rattle.wy_symbols.specs.declared.refusal.Refusal.{Refusal}
use Rattle.wy_symbols.specs.Declarations.{same_name, has_name, texts, repeated}
use Rattle.wy_symbols.proofs.Firsts.{same_itself}

-- a list is empty exactly where its parts are
pub append_empty : {X : Type 0} (xs ys : List X) → xs ++ ys ≡ [] → (xs ≡ []) × (ys ≡ [])
append_empty [] ys e = (refl, e)
append_empty (x ∷ xs) ys e = absurd (cc)

-- a name in a list is among its names
pub has_name_there : (x : List ℕ) (ns : List (List ℕ)) → In x ns → has_name x ns ≡ true
has_name_there x [] i = absurd i
has_name_there x (n ∷ ns) (inl e) =
    let P : List ℕ → Type 0 = λ y. same_name n y || has_name y ns ≡ true in
    subst P e (ap (λ b. b || has_name n ns) (same_itself n))
has_name_there x (n ∷ ns) (inr i) =
    let P : Bool → Type 0 = λ b. b || has_name x ns ≡ true in
    elim (same_name n x) as P [ true ↦ refl | false ↦ has_name_there x ns i ]

-- what is refused where a test holds is not refused where it does not
unrefused : (b : Bool) (r : Refusal) → (if b then r ∷ [] else []) ≡ [] → b ≡ false
unrefused true r e = absurd (cc)
unrefused false r e = refl

-- none is among those before
pub repeated_absent : (before : List (List ℕ)) (ns : List Name) (x : List ℕ) → repeated before ns ≡ [] → In x before → In x (texts ns) → ⊥
repeated_absent before [] x e i j = j
repeated_absent before (n ∷ ns) x e i (inl same) =
    let h = append_empty _ _ e in
    let new : has_name n.text before ≡ false = unrefused (has_name n.text before) _ h.0 in
    let P : List ℕ → Type 0 = λ y. In y before in
    let old : has_name n.text before ≡ true = has_name_there n.text before (subst P (sym same) i) in
    cc
repeated_absent before (n ∷ ns) x e i (inr j) =
    let h = append_empty _ _ e in
    repeated_absent (before ++ n.text ∷ []) ns x h.1 (In-left x before (n.text ∷ []) i) j

-- they differ
pub repeated_apart : (before : List (List ℕ)) (ns : List Name) → repeated before ns ≡ [] → Apart (texts ns)
repeated_apart before [] e = tt
repeated_apart before (n ∷ ns) e =
    let h = append_empty _ _ e in
    (repeated_absent (before ++ n.text ∷ []) ns n.text h.1 (In-push n.text before), repeated_apart (before ++ n.text ∷ []) ns h.1)
