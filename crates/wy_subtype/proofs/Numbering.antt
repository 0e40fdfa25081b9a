-- What a pair asks for, by numbers: as its own test says it, and as the pairs that were unfolded grow.
use Rattle.std.proofs.Common.{◌≡◌, ℕ, ◌<◌, List, [], ◌∷◌, ◌++◌, map, inl, inr, length, refl, ap, ◌∙◌, subst, arith}
use Rattle.std.proofs.lemmas.List.{length-map, map-append}
use Rattle.wy_text.specs.Members.{In}
use Rattle.wy_text.proofs.Lists.{In-map, In-unmap}
use Rattle.wy_types.specs.declared.types.TypeRef.{TypeRef}
use Rattle.wy_types.specs.declared.types.TypeRef.TheVariants.{Int, Bool, Text, Unit as Nothing, Named, At, Own}
use Rattle.wy_types.specs.Types.{IsObject}
use Rattle.wy_subtype.specs.declared.unfolding.UnfoldedPair.{UnfoldedPair}
use Rattle.wy_subtype.specs.declared.node.Outcome.{Outcome}
use Rattle.wy_subtype.specs.declared.node.Node.{Node}
use Rattle.wy_subtype.specs.Verdict.{AreSameBase}
use Rattle.wy_subtype.specs.Steps.{Pair, StepsTo}
use Rattle.wy_subtype.specs.Unfolding.{sides, Asks}
use Rattle.wy_subtype.specs.Decided.{About}
use Rattle.wy_subtype.specs.Nodes.{node_pair, with_outcome, pair_at, pairs_at, Continues, AreMore, AreNumbersOf, base_pairs, IsAsking}
use Rattle.wy_subtype.proofs.Knowing.{continues_at, pairs_at-left, pairs-with, more_continues}

base_in : (t : TypeRef) → (IsObject t → ⊥) → In {X = Pair} (t, t) base_pairs
base_in Int h = inl refl
base_in Bool h = inr (inl refl)
base_in Text h = inr (inr (inl refl))
base_in Nothing h = inr (inr (inr (inl refl)))
base_in (Named d ms) h = absurd (h tt)
base_in (At d e) h = absurd (h tt)
base_in (Own l) h = absurd (h tt)

same_base_in : (r : Pair) → AreSameBase r → In r base_pairs
same_base_in r h =
    let P : TypeRef → Type 0 = λ v. In {X = Pair} (r.0, v) base_pairs in
    subst P h.0 (base_in r.0 h.1)

-- the numbers of what a pair's own test asks for close it
pub numbers_close : (about : About) (ps : List Pair) (q : Pair) (asked : List UnfoldedPair) (ns : List ℕ) → Asks about.program about.scope about.mode q asked → AreNumbersOf ps (map sides asked) ns → IsAsking about ps q ns
numbers_close about ps q asked ns a h = record {
  steps = λ n i.
      let r = h.asks n i in
      let c = In-unmap sides r.0 asked r.2 in
      let P : Pair → Type 0 = λ v. StepsTo about.program about.scope about.mode q c.0.step v in
      (r.0, r.1, (c.0.step, subst P c.2 (a.steps c.0 c.1)));
  closes = λ qs base w. a.closes qs (λ r i. elim (h.each r i) [ inl b ↦ base r (same_base_in r b) | inr f ↦ w f.0 r f.1 f.2 ]);
}

-- the pairs that were unfolded, with one more, while others are met
pub unfolded_pairs : (old mid : List Node) (unfolded unfolded' : List ℕ) (n : ℕ) (o : Outcome) → AreMore old mid → ((m : ℕ) → In m unfolded → m < length old) → n < length old → unfolded' ≡ unfolded ++ n ∷ [] →
    pairs_at (map node_pair (with_outcome mid n o)) unfolded' ≡ pairs_at (map node_pair old) unfolded ++ pair_at (map node_pair old) n ∷ []
unfolded_pairs old mid unfolded unfolded' n o m within lt e =
    let ps : List Pair = map node_pair old in
    let qs : List Pair = map node_pair mid in
    let c : Continues ps qs = more_continues old mid m in
    let lt' : n < length ps = omega (arith, length-map old node_pair) in
    ap (λ (l : List Pair). pairs_at l unfolded') (pairs-with mid n o) ∙ ap (pairs_at qs) e ∙ map-append (pair_at qs) unfolded (n ∷ []) ∙
    ap (λ (l : List Pair). l ++ pair_at qs n ∷ []) (still_pairs ps qs unfolded c (λ k i. omega (arith, within k i, length-map old node_pair))) ∙
    ap (λ (v : Pair). pairs_at ps unfolded ++ v ∷ []) (continues_at ps qs n c lt')
  where
    still_pairs : (ps qs : List Pair) (ns : List ℕ) → Continues ps qs → ((k : ℕ) → In k ns → k < length ps) → pairs_at qs ns ≡ pairs_at ps ns
    still_pairs ps qs ns c h = ap (λ (l : List Pair). pairs_at l ns) c.1 ∙ pairs_at-left ps c.0 ns h

-- while others are met, the pairs that were unfolded stay
pub still_unfolded : (old mid : List Node) (unfolded : List ℕ) → AreMore old mid → ((m : ℕ) → In m unfolded → m < length old) → pairs_at (map node_pair mid) unfolded ≡ pairs_at (map node_pair old) unfolded
still_unfolded old mid unfolded m within =
    let c : Continues (map node_pair old) (map node_pair mid) = more_continues old mid m in
    ap (λ (l : List Pair). pairs_at l unfolded) c.1 ∙ pairs_at-left (map node_pair old) c.0 unfolded (λ k i. omega (arith, within k i, length-map old node_pair))

-- a pair of a number that was unfolded is among the pairs that were
pub there_pair : (ps : List Pair) (unfolded : List ℕ) (n : ℕ) → In n unfolded → In (pair_at ps n) (pairs_at ps unfolded)
there_pair ps unfolded n i = In-map (pair_at ps) n unfolded i
