-- The place of a name in a list of names.
use Rattle.std.proofs.Common.{◌≡◌, ℕ, List, [], ◌∷◌, get_or, refl, sym, ap, ◌∙◌, Bool, true, false, Some, inl, inr, rules}
use Rattle.std.specs.Prelude.{slice_get, position, ◌||◌}
use Rattle.std.specs.List.{list_any}
use Rattle.std.proofs.lemmas.List.Quantifiers.{position-Some}
use Rattle.std.proofs.lemmas.Option.{slice_get-get_or}
use Rattle.wy_text.specs.declared.fault.AtomName.{AtomName}
use Rattle.wy_text.specs.contracts.fault.AtomNamePartialEq.TheImpl as E
use Rattle.wy_text.specs.Members.{In}

pub found_at : {X : Type 0} (test : X → Bool) (x : X) → ((y : X) → test y ≡ true → y ≡ x) → (xs : List X) (i : ℕ) → position test xs ≡ Some i → slice_get xs i ≡ Some x
found_at {X} test x exact xs i e =
    let r = position-Some test xs i x e in
    slice_get-get_or xs i x r.0 ∙ ap (λ (y : X). Some y) (exact (get_or xs i x) r.1)

pub name_exact : (a b : AtomName) → (E.eq-value).it a b ≡ true → b ≡ a
name_exact a b e = search rules

pub name_same : (a : AtomName) → (E.eq-value).it a a ≡ true
name_same a = search rules

neither : (a b : Bool) → a || b ≡ false → (a ≡ false) × (b ≡ false)
neither true b e = absurd (cc)
neither false b e = (refl, e)

-- an element that no test passes isn't there
pub absent : {X : Type 0} (test : X → Bool) (xs : List X) (a : X) → list_any test xs ≡ false → test a ≡ true → In a xs → ⊥
absent test [] a n t h = absurd h
absent test (x ∷ xs) a n t (inl same) =
    let m : true ≡ false = sym t ∙ sym (ap test same) ∙ (neither (test x) (list_any test xs) n).0 in
    cc
absent test (x ∷ xs) a n t (inr h) = absent test xs a (neither (test x) (list_any test xs) n).1 t h
