-- Pairs are met once: each is found by its key, and lists of them are taken one after another.
use Rattle.std.proofs.Common.{◌≡◌, ℕ, ◌+◌, ◌<◌, ◌≤◌, List, [], ◌∷◌, ◌++◌, map, take, length, get_or, refl, sym, ap, ◌∙◌, subst, Bool as Truth, true, false}
use Rattle.std.specs.Prelude.{if◌then◌else◌, not}
use Rattle.std.specs.List.{list_any}
use Rattle.std.proofs.lemmas.List.{take_more, take_all, map-append}
use Rattle.wy_text.specs.Members.{In}
use Rattle.wy_types.specs.Keys.{pair_key}
use Rattle.wy_types.specs.contracts.key.KeyPartialEq.TheImpl as E
use Rattle.wy_subtype.specs.declared.verdict.Mode.{Mode}
use Rattle.wy_subtype.specs.declared.verdict.Mode.TheVariants.{Annotated, Plain}
use Rattle.wy_proving.specs.Certified.{Pair, bare}
use Rattle.wy_recheck.specs.PairSet.{StandsFor}
use Rattle.wy_recheck.specs.Closing.{looked_up}
use Rattle.wy_recheck.proofs.PairKeys.{tells_there, inserted}
use Rattle.wy_certify.specs.Closed.{all_looked_up, IsGrown}
use Rattle.wy_certify.proofs.PairsGrowing.{grown_both}

-- an answer that says the opposite
pub not_there : (b : Truth) → not b ≡ true → b ≡ false
not_there true e = absurd (cc)
not_there false e = refl

pub is_there : (b : Truth) → not b ≡ false → b ≡ true
is_there true e = refl
is_there false e = absurd (cc)

module _ (keys : List (List ℕ)) (q : Pair) (key : List ℕ) (its : key ≡ pair_key q.0 q.1) (pairs : List Pair) (st : StandsFor keys pairs) where
  -- a key that is there is that of a pair of the list
  pub key_met : list_any ((E.eq-value).it key) keys ≡ true → In {X = Pair} q pairs
  key_met e = (tells_there keys q key its true (sym e) pairs st).0 refl

  -- .. and one that is not there is of none
  pub key_new : list_any ((E.eq-value).it key) keys ≡ false → In {X = Pair} q pairs → ⊥
  key_new e i = (let t : false ≡ true = (tells_there keys q key its false (sym e) pairs st).1 i in absurd (cc))

  module _ (keys' : List (List ℕ)) (is : keys' ≡ (if list_any ((E.eq-value).it key) keys then keys else (keys ++ key ∷ []))) where
    pub keys_kept : list_any ((E.eq-value).it key) keys ≡ true → StandsFor keys' pairs
    keys_kept e = subst (λ (l : List (List ℕ)). StandsFor l pairs) (sym (is ∙ ap (λ (b : Truth). if b then keys else (keys ++ key ∷ [])) e)) st

    pub keys_more : StandsFor keys' (pairs ++ q ∷ [])
    keys_more = inserted keys q key its pairs st keys' is

looked_up_last : (mode : Mode) (qs : List Pair) (q : Pair) → all_looked_up mode (qs ++ q ∷ []) ≡ all_looked_up mode qs ++ looked_up mode q ∷ []
looked_up_last Annotated qs q = refl
looked_up_last Plain qs q = map-append bare qs (q ∷ [])

module _ {X : Type 0} (f : X → Pair) (mode : Mode) (xs : List X) (i : ℕ) where
  -- one more was added
  pub grown_next : (x : X) → i < length xs → x ≡ get_or xs i x → (a b c : List Pair) → IsGrown (all_looked_up mode (map f (take i xs))) a b → (q : Pair) → q ≡ looked_up mode (f x) → IsGrown (q ∷ []) b c →
      IsGrown (all_looked_up mode (map f (take (i + 1) xs))) a c
  grown_next x lt is a b c g q e h =
      let taken : map f (take (i + 1) xs) ≡ map f (take i xs) ++ f x ∷ [] =
      ap (map f) (take_more xs i x lt) ∙ map-append f (take i xs) (get_or xs i x ∷ []) ∙ ap (λ (v : X). map f (take i xs) ++ f v ∷ []) (sym is) in
      let same : all_looked_up mode (map f (take (i + 1) xs)) ≡ all_looked_up mode (map f (take i xs)) ++ q ∷ [] =
      ap (λ (l : List Pair). all_looked_up mode l) taken ∙ looked_up_last mode (map f (take i xs)) (f x) ∙ ap (λ (v : Pair). all_looked_up mode (map f (take i xs)) ++ v ∷ []) (sym e) in
      subst (λ (l : List Pair). IsGrown l a c) (sym same) (grown_both (all_looked_up mode (map f (take i xs))) (q ∷ []) a b c g h)

  -- all were
  pub grown_all : length xs ≤ i → (a b : List Pair) → IsGrown (all_looked_up mode (map f (take i xs))) a b → IsGrown (all_looked_up mode (map f xs)) a b
  grown_all le a b g = subst (λ (l : List X). IsGrown (all_looked_up mode (map f l)) a b) (take_all i xs le) g

-- none were at first
pub grown_start : {X : Type 0} (f : X → Pair) (mode : Mode) (xs : List X) (a : List Pair) → IsGrown [] a a → IsGrown (all_looked_up mode (map f (take 0 xs))) a a
grown_start f Annotated xs a g = g
grown_start f Plain xs a g = g
