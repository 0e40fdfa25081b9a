-- Pairs are found by their keys.
use Rattle.std.proofs.Common.{◌≡◌, ℕ, List, [], ◌∷◌, ◌++◌, inl, inr, refl, sym, ap, ◌∙◌, subst, Bool as Truth, true, false}
use Rattle.std.specs.Prelude.{if◌then◌else◌}
use Rattle.std.specs.List.{list_any}
use Rattle.std.proofs.lemmas.List.{map-id}
use Rattle.wy_text.specs.Members.{In}
use Rattle.wy_text.proofs.Lists.{In-left, In-right, In-cases}
use Rattle.wy_types.specs.Keys.{pair_key}
use Rattle.wy_types.specs.contracts.key.KeyPartialEq.TheImpl as E
use Rattle.wy_types.proofs.Keyed.{pair_once, met, not_met}
use Rattle.wy_proving.specs.Certified.{Pair}
use Rattle.wy_recheck.specs.PairSet.{StandsFor, Tells}

key_there : (key : List ℕ) (keys : List (List ℕ)) → list_any ((E.eq-value).it key) keys ≡ true → In key keys
key_there key keys h = met {X = List ℕ} (λ k. k) (λ x y e. e) key keys keys (sym (map-id keys)) h

key_absent : (key : List ℕ) (keys : List (List ℕ)) → list_any ((E.eq-value).it key) keys ≡ false → In key keys → ⊥
key_absent key keys h = not_met {X = List ℕ} (λ k. k) (λ x y e. e) key keys keys (sym (map-id keys)) h

module _ (keys : List (List ℕ)) (q : Pair) (key : List ℕ) (its : key ≡ pair_key q.0 q.1) where
  InKeys : List ℕ → Type 0
  InKeys k = In k keys

  -- what is found by the key is the pair
  pub tells_there : (b : Truth) → b ≡ list_any ((E.eq-value).it key) keys → Tells keys (λ pairs. In {X = Pair} q pairs) b
  unfolding InKeys
  tells_there true e = λ pairs st. (λ t. (st q).0 (subst InKeys its (key_there key keys (sym e))), λ i. refl)
  tells_there false e = λ pairs st. (λ t. absurd (cc), λ i. absurd (key_absent key keys (sym e) (subst InKeys (sym its) ((st q).1 i))))

  module _ (pairs : List Pair) (st : StandsFor keys pairs) (keys' : List (List ℕ)) where
    kept : In key keys → keys' ≡ keys → StandsFor keys' (pairs ++ q ∷ [])
    kept there e = λ r.
        let P : List (List ℕ) → Type 0 = λ l. In (pair_key r.0 r.1) l in
        let K : Pair → Type 0 = λ v. In (pair_key v.0 v.1) keys in
        let Q : List ℕ → Type 0 = λ k. In k keys in (
          λ i. In-left {X = Pair} r pairs (q ∷ []) ((st r).0 (subst P e i)),
          λ i. subst P (sym e) (elim (In-cases {X = Pair} r pairs (q ∷ []) i) [
            | inl j ↦ (st r).1 j
            | inr j ↦ elim j [ inl f ↦ subst K f (subst Q its there) | inr n ↦ absurd n ]
          ]),
        )

    added : keys' ≡ keys ++ key ∷ [] → StandsFor keys' (pairs ++ q ∷ [])
    added e = λ r.
        let P : List (List ℕ) → Type 0 = λ l. In (pair_key r.0 r.1) l in (
          λ i. elim (In-cases (pair_key r.0 r.1) keys (key ∷ []) (subst P e i)) [
            | inl j ↦ In-left {X = Pair} r pairs (q ∷ []) ((st r).0 j)
            | inr j ↦ In-right {X = Pair} r pairs (q ∷ []) (elim j [ inl f ↦ inl (pair_once q r (sym its ∙ f)) | inr n ↦ absurd n ])
          ],
          λ i. subst P (sym e) (elim (In-cases {X = Pair} r pairs (q ∷ []) i) [
            | inl j ↦ In-left (pair_key r.0 r.1) keys (key ∷ []) ((st r).1 j)
            | inr j ↦ In-right (pair_key r.0 r.1) keys (key ∷ []) (elim j [ inl f ↦ inl (its ∙ ap (λ (v : Pair). pair_key v.0 v.1) f) | inr n ↦ absurd n ])
          ]),
        )

    -- the keys after one was put in
    pub inserted : keys' ≡ (if list_any ((E.eq-value).it key) keys then keys else (keys ++ key ∷ [])) → StandsFor keys' (pairs ++ q ∷ [])
    inserted e =
        elim (list_any ((E.eq-value).it key) keys) as (λ b. list_any ((E.eq-value).it key) keys ≡ b → keys' ≡ (if b then keys else (keys ++ key ∷ [])) → StandsFor keys' (pairs ++ q ∷ [])) [
          | true ↦ λ h f. kept (key_there key keys h) f
          | false ↦ λ h f. added f
        ] refl e
