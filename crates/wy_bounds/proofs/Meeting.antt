-- An entry is put into the table exactly where its key is new.
use Rattle.std.proofs.Common.{◌≡◌, List, [], ◌∷◌, ◌++◌, ℕ, map, inl, inr, refl, ap, ◌∙◌, subst, Bool as Truth, true, false}
use Rattle.std.specs.Prelude.{not}
use Rattle.std.specs.List.{list_any}
use Rattle.wy_types.specs.Keys.{mark_key}
use Rattle.wy_types.specs.contracts.key.KeyPartialEq.TheImpl as E
use Rattle.wy_types.proofs.Keyed.{mark_once, met, not_met}
use Rattle.wy_bounds.specs.declared.entry.Entry.{Entry}
use Rattle.wy_bounds.specs.Table.{Mark, mark_of, marks, entry_key, IsAdded}

abbrev key_of : Mark → List ℕ
key_of m = mark_key m.0 m.1

keys-marks : (es : List Entry) → map entry_key es ≡ map key_of (marks es)
keys-marks [] = refl
keys-marks (e ∷ es) = ap (λ l. entry_key e ∷ l) (keys-marks es)

not-true : (a b : Truth) → a ≡ not b → a ≡ true → b ≡ false
not-true a true e h = absurd (cc)
not-true a false e h = refl

not-false : (a b : Truth) → a ≡ not b → a ≡ false → b ≡ true
not-false a true e h = refl
not-false a false e h = absurd (cc)

module _ (old : List Entry) (e : Entry) (keys : List (List ℕ)) (key : List ℕ) (same : keys ≡ map entry_key old) (its : key ≡ entry_key e) (fresh : Truth) (answer : fresh ≡ not (list_any ((E.eq-value).it key) keys)) where
  of_marks : keys ≡ map key_of (marks old)
  of_marks = same ∙ keys-marks old

  pub added_last : (new : List Entry) → fresh ≡ true → new ≡ old ++ e ∷ [] → IsAdded old e new
  added_last new h eq =
      let P : List ℕ → Type 0 = λ k. list_any ((E.eq-value).it k) keys ≡ false in
      inr (not_met key_of mark_once (mark_of e) (marks old) keys of_marks (subst P its (not-true fresh (list_any ((E.eq-value).it key) keys) answer h)), eq)

  pub added_before : (new : List Entry) → fresh ≡ false → new ≡ old → IsAdded old e new
  added_before new h eq =
      let P : List ℕ → Type 0 = λ k. list_any ((E.eq-value).it k) keys ≡ true in
      inl (met key_of mark_once (mark_of e) (marks old) keys of_marks (subst P its (not-false fresh (list_any ((E.eq-value).it key) keys) answer h)), eq)
