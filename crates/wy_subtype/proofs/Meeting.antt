-- A pair is found by its key, and comes last exactly where its key is new.
use Rattle.std.proofs.Common.{◌≡◌, ℕ, zero, suc, List, [], ◌∷◌, ◌++◌, inl, inr, map, length, refl, sym, ap, ◌∙◌, subst, rules, Option, Some, None, is_some, true, false}
use Rattle.std.specs.Prelude.{slice_get, position, if◌then◌else◌}
use Rattle.std.specs.List.{list_any}
use Rattle.std.specs.Option.{IfSome, IfNone}
use Rattle.std.proofs.lemmas.List.{map-append}
use Rattle.wy_text.specs.Members.{In}
use Rattle.wy_text.proofs.Lists.{In-left, In-right, In-cases}
use Rattle.wy_effects.proofs.Places.{found_at}
use Rattle.wy_types.specs.Keys.{pair_key}
use Rattle.wy_types.specs.contracts.key.KeyPartialEq.TheImpl as E
use Rattle.wy_types.proofs.Keyed.{pair_once, met, not_met}
use Rattle.wy_subtype.specs.declared.node.Node.{Node}
use Rattle.wy_subtype.specs.Verdict.{AreSameBase}
use Rattle.wy_subtype.specs.Steps.{Pair}
use Rattle.wy_subtype.specs.Nodes.{node_pair, node_key, open_node, Continues, Meets, IsNumbered, AreNumbersOf}
use Rattle.wy_subtype.proofs.Knowing.{continues_get}

abbrev key_of : Pair → List ℕ
key_of q = pair_key q.0 q.1

keys-pairs : (ks : List Node) → map node_key ks ≡ map key_of (map node_pair ks)
keys-pairs [] = refl
keys-pairs (k ∷ ks) = ap (λ l. node_key k ∷ l) (keys-pairs ks)

key_exact : (a b : List ℕ) → (E.eq-value).it a b ≡ true → b ≡ a
key_exact a b e = search rules

-- what stands at a place of the keys is the key of the pair at that place
pair_by_key : (ks : List Node) (k : ℕ) (key : List ℕ) → slice_get (map node_key ks) k ≡ Some key → (q : Pair) → key ≡ key_of q → slice_get (map node_pair ks) k ≡ Some q
pair_by_key [] k key e q h = absurd (cc)
pair_by_key (x ∷ ks) zero key e q h =
    let f : node_key x ≡ key = cc in
    ap (λ (v : Pair). Some v) (pair_once (node_pair x) q (f ∙ h))
pair_by_key (x ∷ ks) (suc k) key e q h = pair_by_key ks k key e q h

module _ (ks : List Node) (keys : List (List ℕ)) (key : List ℕ) (keyed : keys ≡ map node_key ks) (q : Pair) (its : key ≡ pair_key q.0 q.1) where
  of_pairs : keys ≡ map key_of (map node_pair ks)
  of_pairs = keyed ∙ keys-pairs ks

  pub found_pair : (o : Option ℕ) → o ≡ position ((E.eq-value).it key) keys → IfSome o (λ n. slice_get (map node_pair ks) n ≡ Some q)
  found_pair None e = tt
  found_pair (Some n) e =
      let P : List (List ℕ) → Type 0 = λ l. slice_get l n ≡ Some key in
      pair_by_key ks n key (subst P keyed (found_at ((E.eq-value).it key) key (λ y t. key_exact key y t) keys n (sym e))) q its

  pub found_none : (o : Option ℕ) → is_some o ≡ list_any ((E.eq-value).it key) keys → IfNone o (In q (map node_pair ks) → ⊥)
  found_none (Some n) e = tt
  found_none None e =
      let P : List ℕ → Type 0 = λ l. list_any ((E.eq-value).it l) keys ≡ false in
      not_met key_of pair_once q (map node_pair ks) keys of_pairs (subst P its (sym e))

  -- the key of a pair that isn't there is not among the keys
  absent_key : (In q (map node_pair ks) → ⊥) → list_any ((E.eq-value).it key) keys ≡ false
  absent_key n =
      elim (list_any ((E.eq-value).it key) keys) as (λ b. list_any ((E.eq-value).it key) keys ≡ b → b ≡ false) [
        | false ↦ λ e. refl
        | true ↦ λ e. (let P : List ℕ → Type 0 = λ l. list_any ((E.eq-value).it l) keys ≡ true in absurd (n (met key_of pair_once q (map node_pair ks) keys of_pairs (subst P its e))))
      ] refl

  -- a pair that isn't there comes last, and so does its key
  module _ (absent : In q (map node_pair ks) → ⊥) (k : Node) (is : k ≡ open_node q) (new : List Node) (last : new ≡ ks ++ k ∷ []) where
    last_open : new ≡ ks ++ open_node q ∷ []
    last_open = last ∙ ap (λ (v : Node). ks ++ v ∷ []) is

    pub last_keyed : (keys' : List (List ℕ)) → keys' ≡ (if list_any ((E.eq-value).it key) keys then keys else (keys ++ key ∷ [])) → keys' ≡ map node_key new
    last_keyed keys' e =
        e ∙ ap (λ b. if b then keys else (keys ++ key ∷ [])) (absent_key absent) ∙ ap (λ v. keys ++ v ∷ []) its ∙ ap (λ (l : List (List ℕ)). l ++ key_of q ∷ []) keyed ∙
        sym (map-append node_key ks (open_node q ∷ [])) ∙ ap (map node_key) (sym last_open)

    pub last_meets : Meets q ks new
    last_meets = inr (absent, last_open)

    pub last_number : slice_get (map node_pair new) (length ks) ≡ Some q
    last_number =
        let P : List Node → Type 0 = λ l. slice_get (map node_pair l) (length ks) ≡ Some q in
        subst P (sym last_open) (let Q : List Pair → Type 0 = λ l. slice_get l (length ks) ≡ Some q in subst Q (sym (map-append node_pair ks (open_node q ∷ []))) (last_pair ks))
      where
        last_pair : (xs : List Node) → slice_get (map node_pair xs ++ q ∷ []) (length xs) ≡ Some q
        last_pair [] = refl
        last_pair (x ∷ xs) = last_pair xs

------------------------------------------------------------
-- The numbers of asked pairs

pub numbers_none : (ps : List Pair) → AreNumbersOf ps [] []
numbers_none ps = record { asks = λ n i. absurd i; each = λ r i. absurd i }

numbers_still : (old new asked : List Pair) (ns : List ℕ) → Continues old new → AreNumbersOf old asked ns → AreNumbersOf new asked ns
numbers_still old new asked ns c h = record {
  asks = λ n i. (let r = h.asks n i in (r.0, continues_get old new n r.0 c r.1, r.2));
  each = λ r i. elim (h.each r i) [ inl b ↦ inl b | inr f ↦ inr (f.0, f.1, continues_get old new f.0 r c f.2) ];
}

-- one asked pair more
pub numbers_more : (old new asked : List Pair) (r : Pair) (ns ns' : List ℕ) → Continues old new → AreNumbersOf old asked ns → IsNumbered new r ns ns' → AreNumbersOf new (asked ++ r ∷ []) ns'
numbers_more old new asked r ns ns' c h (inl base) =
    let still = numbers_still old new asked ns c h in
    let P : List ℕ → Type 0 = λ l. AreNumbersOf new (asked ++ r ∷ []) l in
    subst P (sym base.1) (record {
      asks = λ n i. (let f = still.asks n i in (f.0, f.1, In-left f.0 asked (r ∷ []) f.2));
      each = λ x i. elim (In-cases x asked (r ∷ []) i) [
        | inl j ↦ still.each x j
        | inr j ↦ elim j [ inl e ↦ (let Q : Pair → Type 0 = λ v. AreSameBase v in inl (subst Q e base.0)) | inr none ↦ absurd none ]
      ];
    })
numbers_more old new asked r ns ns' c h (inr one) =
    let still = numbers_still old new asked ns c h in
    let P : List ℕ → Type 0 = λ l. AreNumbersOf new (asked ++ r ∷ []) l in
    let n : ℕ = one.0 in
    subst P (sym one.2) (record {
      asks = λ m i. elim (In-cases m ns (n ∷ []) i) [
        | inl j ↦ (let f = still.asks m j in (f.0, f.1, In-left f.0 asked (r ∷ []) f.2))
        | inr j ↦ elim j [ inl e ↦ (let Q : ℕ → Type 0 = λ v. slice_get new v ≡ Some r in (r, subst Q e one.1, In-right r asked (r ∷ []) (inl refl))) | inr none ↦ absurd none ]
      ];
      each = λ x i. elim (In-cases x asked (r ∷ []) i) [
        | inl j ↦ elim (still.each x j) [ inl b ↦ inl b | inr f ↦ inr (f.0, In-left f.0 ns (n ∷ []) f.1, f.2) ]
        | inr j ↦ elim j [
          | inl e ↦ (let Q : Pair → Type 0 = λ v. slice_get new n ≡ Some v in inr (n, In-right n ns (n ∷ []) (inl refl), subst Q e one.1))
          | inr none ↦ absurd none
        ]
      ];
    })
