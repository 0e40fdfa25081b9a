-- A graph of pairs while pairs are met, and while one of them is unfolded.
use Rattle.std.proofs.Common.{◌≡◌, ℕ, ◌+◌, ◌<◌, ◌≤◌, List, [], ◌∷◌, ◌++◌, map, inl, length, refl, sym, ap, ◌∙◌, subst, arith, false}
use Rattle.std.proofs.lemmas.List.{length-map}
use Rattle.std.proofs.Math.ListN.{length-append}
use Rattle.wy_text.specs.Members.{In}
use Rattle.wy_text.proofs.Lists.{In-right}
use Rattle.wy_subtype.specs.declared.node.Outcome.{Outcome}
use Rattle.wy_subtype.specs.declared.node.Outcome.TheVariants.{Open, Fails, Asks, Holds}
use Rattle.wy_subtype.specs.declared.node.Node.{Node}
use Rattle.wy_subtype.specs.declared.graph.Graph.{Graph}
use Rattle.wy_subtype.specs.Steps.{Pair}
use Rattle.wy_subtype.specs.Decided.{About, Grows}
use Rattle.wy_subtype.specs.Nodes.{is_open, IsOpen, node_pair, with_outcome, pair_at, pairs_at, Continues, IsOutcome, AreKnown}
use Rattle.wy_subtype.specs.Graph.{about_of, pairs_in, decided_of, IsGraph, IsWider}
use Rattle.wy_subtype.proofs.Knowing.{more_known, more_continues, continues_at, pairs-with, unfolded_known}
use Rattle.wy_subtype.proofs.Numbering.{still_unfolded, unfolded_pairs}
use Rattle.wy_subtype.proofs.Growing.{grows_none, grows_one}

closed_false : (o : Outcome) → (IsOpen o → ⊥) → is_open o ≡ false
closed_false Open h = absurd (h refl)
closed_false (Fails cause) h = refl
closed_false (Asks ns) h = refl
closed_false Holds h = refl

-- pairs are met
module _ (old new : Graph) (h : IsGraph old) (w : IsWider old new) where
  pub wider_known : IsGraph new
  wider_known =
      let A : About → Type 0 = λ v. AreKnown v new.nodes old.unfolded.items in
      let U : List ℕ → Type 0 = λ l. AreKnown (about_of new) new.nodes l in
      subst U (sym w.unfolded_same) (subst A (sym w.same) (more_known (about_of old) old.nodes new.nodes old.unfolded.items w.more h))

  wider_pairs : pairs_at (pairs_in new) new.unfolded.items ≡ pairs_at (pairs_in old) old.unfolded.items
  wider_pairs = ap (pairs_at (pairs_in new)) w.unfolded_same ∙ still_unfolded old.nodes new.nodes old.unfolded.items w.more h.within

  pub wider_decided : decided_of new ≡ decided_of old
  wider_decided = λ i. record { about = w.same i; pairs = wider_pairs i }

  pub wider_grows : (q : Pair) (before : ℕ) → Grows q (decided_of old) (decided_of new) before before
  wider_grows q before = grows_none q (decided_of old) (decided_of new) before before wider_decided refl

  pub wider_more : Continues (pairs_in old) (pairs_in new)
  wider_more = more_continues old.nodes new.nodes w.more

-- an open pair is unfolded, after those that it asks for were met
module _ (old mid new : Graph) (n : ℕ) (o : Outcome) (h : IsGraph old) (w : IsWider old mid) (lt : n < length old.nodes) (fresh : In n old.unfolded.items → ⊥)
    (right : IsOutcome (about_of old) (pairs_in mid) (pair_at (pairs_in old) n) o) (closed : IsOpen o → ⊥)
    (same : about_of new ≡ about_of mid) (nodes : new.nodes ≡ with_outcome mid.nodes n o) (more : new.unfolded.items ≡ old.unfolded.items ++ n ∷ []) where
  pub unfolded_known_graph : IsGraph new
  unfolded_known_graph =
      let longer : length old.nodes ≤ length mid.nodes = omega (arith, ap (λ (l : List Node). length l) w.more.more, length-append old.nodes w.more.tail) in
      let lt' : n < length mid.nodes = omega arith in
      let in_range : n < length (pairs_in old) = omega (arith, length-map old.nodes node_pair) in
      let at : ◌≡◌ {A = Pair} (pair_at (pairs_in mid) n) (pair_at (pairs_in old) n) = continues_at (pairs_in old) (pairs_in mid) n (more_continues old.nodes mid.nodes w.more) in_range in
      let P : Pair → Type 0 = λ q. IsOutcome (about_of old) (pairs_in mid) q o in
      let A : About → Type 0 = λ v. AreKnown v new.nodes new.unfolded.items in
      let N : List Node → Type 0 = λ l. AreKnown (about_of old) l new.unfolded.items in
      let known : AreKnown (about_of old) mid.nodes old.unfolded.items = more_known (about_of old) old.nodes mid.nodes old.unfolded.items w.more h in
      subst A (sym (same ∙ w.same)) (subst N (sym nodes) (unfolded_known (about_of old) mid.nodes old.unfolded.items new.unfolded.items n o known lt' fresh (subst P (sym at) right) (closed_false o closed) more))

  pub unfolded_grows : (before after : ℕ) → after ≡ before + 1 → Grows (pair_at (pairs_in old) n) (decided_of old) (decided_of new) before after
  unfolded_grows before after one =
      let pairs : pairs_at (pairs_in new) new.unfolded.items ≡ pairs_at (pairs_in old) old.unfolded.items ++ pair_at (pairs_in old) n ∷ [] =
      ap (λ (l : List Node). pairs_at (map node_pair l) new.unfolded.items) nodes ∙ unfolded_pairs old.nodes mid.nodes old.unfolded.items new.unfolded.items n o w.more h.within lt more in
      grows_one (pair_at (pairs_in old) n) (decided_of old) (decided_of new) before after (same ∙ w.same) pairs one

  pub unfolded_more : Continues (pairs_in old) (pairs_in new)
  unfolded_more =
      let c : Continues (pairs_in old) (pairs_in mid) = more_continues old.nodes mid.nodes w.more in
      (c.0, ap (map node_pair) nodes ∙ pairs-with mid.nodes n o ∙ c.1)

  pub unfolded_there : In n new.unfolded.items
  unfolded_there = let P : List ℕ → Type 0 = λ l. In n l in subst P (sym more) (In-right n old.unfolded.items (n ∷ []) (inl refl))
