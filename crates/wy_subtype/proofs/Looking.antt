-- What comes of a look at the pair at a place of a question's list, and of the way back from there.
use Rattle.std.proofs.Common.{◌≡◌, ◌∙◌, ℕ, ◌<◌, ◌≤◌, List, length, sym, subst, arith, Option, Some}
use Rattle.std.specs.Prelude.{slice_get}
use Rattle.std.specs.Option.{IfSome, IfNone}
use Rattle.wy_subtype.specs.declared.verdict.Cause.{Cause}
use Rattle.wy_subtype.specs.declared.entry.Entry.{Entry}
use Rattle.wy_subtype.specs.declared.node.Node.{Node}
use Rattle.wy_subtype.specs.declared.graph.Graph.{Graph}
use Rattle.wy_subtype.specs.Steps.{Pair}
use Rattle.wy_subtype.specs.Decided.{About}
use Rattle.wy_subtype.specs.Nodes.{node_pair, pair_at, Continues, HasStep, IsOutcome}
use Rattle.wy_subtype.specs.Work.{GoesOn}
use Rattle.wy_subtype.specs.Graph.{about_of, pairs_in, mets_in, IsGraph, AreNumbers}
use Rattle.wy_subtype.specs.Worklist.{Met, met_pair, met_by, mets, IsSeen, MetFails, Advances}
use Rattle.wy_subtype.proofs.Places.{slice_get-mapped}
use Rattle.wy_subtype.proofs.Knowing.{pair_at-is, continues_length}
use Rattle.wy_subtype.proofs.Deciding.{mets_still, went_fails, went_same, went_on, went_within}

-- the pair of an entry that is looked at, after it was unfolded
module _ (old mid : Graph) (es new : List Entry) (at : ℕ) (e : Entry) (k : Node) (h : IsGraph old) (h' : IsGraph mid) (same : about_of mid ≡ about_of old) (c : Continues (pairs_in old) (pairs_in mid)) (within : AreNumbers old es)
    (seen : IsSeen (about_of old).program (about_of old).scope (about_of old).mode (mets_in old es)) (is : slice_get es at ≡ Some e) (node : slice_get mid.nodes e.node ≡ Some k) where
  still : mets_in mid es ≡ mets_in old es
  still = mets_still (pairs_in old) (pairs_in mid) es c within

  met : Met
  met = met_by (pairs_in mid) e

  within_mid : AreNumbers mid es
  within_mid x i =
      let lt : x.node < length (pairs_in old) = within x i in
      let le : length (pairs_in old) ≤ length (pairs_in mid) = continues_length (pairs_in old) (pairs_in mid) c in
      omega arith

  there : slice_get (mets_in mid es) at ≡ Some met
  unfolding met
  there = slice_get-mapped (met_by (pairs_in mid)) es at e is

  right : IsOutcome (about_of old) (pairs_in mid) (met_pair met) k.outcome
  unfolding met
  right =
      let A : About → Type 0 = λ v. IsOutcome v (pairs_in mid) (node_pair k) k.outcome in
      let P : Pair → Type 0 = λ q. IsOutcome (about_of old) (pairs_in mid) q k.outcome in
      let pair : ◌≡◌ {A = Pair} (pair_at (pairs_in mid) e.node) (node_pair k) = pair_at-is (pairs_in mid) e.node (node_pair k) (slice_get-mapped node_pair mid.nodes e.node k node) in
      subst P (sym pair) (subst A same (h'.right e.node k node))

  seen_mid : IsSeen (about_of old).program (about_of old).scope (about_of old).mode (mets_in mid es)
  seen_mid = let S : List Met → Type 0 = λ l. IsSeen (about_of old).program (about_of old).scope (about_of old).mode l in subst S (sym still) seen

  pub looked_numbers : (r : Option Cause) → GoesOn k.outcome at es new r → AreNumbers mid new
  looked_numbers r g = went_within (about_of old) h.core (pairs_in mid) h'.apart k.outcome at es new met there right seen_mid within_mid r g

  pub looked_fails : (r : Option Cause) → GoesOn k.outcome at es new r → IfSome r (λ x. MetFails (about_of old).program (about_of old).scope (about_of old).mode (mets_in mid new) at x)
  looked_fails r g = went_fails (about_of old) h.core (pairs_in mid) h'.apart k.outcome at es new met there right seen_mid within_mid r g

  pub looked_same : (r : Option Cause) → GoesOn k.outcome at es new r → IfSome r (λ _. mets_in mid new ≡ mets_in old es)
  looked_same r g =
      let P : List Met → Type 0 = λ l. IfSome r (λ _. mets_in mid new ≡ l) in
      subst P still (went_same (about_of old) h.core (pairs_in mid) h'.apart k.outcome at es new met there right seen_mid within_mid r g)

  pub looked_on : (r : Option Cause) → GoesOn k.outcome at es new r → IfNone r (Advances (about_of old).program (about_of old).scope (about_of old).mode (mets_in old es) (mets_in mid new) at)
  looked_on r g =
      let P : List Met → Type 0 = λ l. IfNone r (Advances (about_of old).program (about_of old).scope (about_of old).mode l (mets_in mid new) at) in
      subst P still (went_on (about_of old) h.core (pairs_in mid) h'.apart k.outcome at es new met there right seen_mid within_mid r g)

-- what stands at a place stands for the pair of its number
pub met_at : (ps : List Pair) (es : List Entry) (at : ℕ) (e : Entry) (m : Met) → slice_get es at ≡ Some e → slice_get (mets ps es) at ≡ Some m → met_by ps e ≡ m
met_at ps es at e m is h = (let f : Some (met_by ps e) ≡ Some m = sym (slice_get-mapped (met_by ps) es at e is) ∙ h in cc)

-- the entry at a place but the first, and its parent
module _ (about : About) (ps : List Pair) (es : List Entry) (seen : IsSeen about.program about.scope about.mode (mets ps es)) (k : ℕ) (pos : 0 < k) (e : Entry) (is : slice_get es k ≡ Some e) where
  pub back_before : e.parent < k
  back_before = (seen.linked k (met_by ps e) pos (slice_get-mapped (met_by ps) es k e is)).before

  pub back_step : (p : Entry) → slice_get es e.parent ≡ Some p → HasStep about (pair_at ps p.node) (pair_at ps e.node)
  back_step p up =
      let link = seen.linked k (met_by ps e) pos (slice_get-mapped (met_by ps) es k e is) in
      let f : Some (met_by ps p) ≡ Some link.parent = sym (slice_get-mapped (met_by ps) es e.parent p up) ∙ link.at in
      let same : link.parent ≡ met_by ps p = cc in
      let P : Met → Type 0 = λ v. HasStep about v.pair (pair_at ps e.node) in
      subst P same (link.step, link.leads)
