-- The list that begins the work, of the asked pair alone, and the table that has no pair.
use Rattle.std.proofs.Common.{◌≡◌, ◌∙◌, ℕ, zero, suc, ◌<◌, List, [], ◌∷◌, inl, inr, length, refl, ap, sym, subst, arith, Some}
use Rattle.std.specs.Prelude.{slice_get}
use Rattle.wy_text.specs.Members.{In}
use Rattle.wy_types.specs.Program.{Program}
use Rattle.wy_types.specs.InRange.{IsInRange}
use Rattle.wy_types.specs.Fitting.{IsTypeOf}
use Rattle.wy_subtype.specs.declared.verdict.Mode.{Mode}
use Rattle.wy_subtype.specs.declared.entry.Entry.{Entry}
use Rattle.wy_subtype.specs.Steps.{Pair}
use Rattle.wy_subtype.specs.Decided.{About}
use Rattle.wy_subtype.specs.Nodes.{pair_at, AreKnown}
use Rattle.wy_subtype.specs.Work.{entry_node, IsAlone}
use Rattle.wy_subtype.specs.Worklist.{Met, mets, IsSeen, BeginsWith}

-- nothing is known of no pair
pub known_none : (about : About) → IsInRange about.program → AreKnown about [] []
known_none about core = record {
  core = core;
  apart = tt;
  right = λ n k e. absurd (cc);
  noted = λ n k e. absurd (cc);
  once = tt;
  within = λ n i. absurd i;
}

module _ (n : ℕ) (es : List Entry) (b : IsAlone n es) where
  pub alone_some : 0 < length es
  alone_some = let P : List Entry → Type 0 = λ l. 0 < length l in subst P (sym b.alone) (omega arith)

  pub alone_numbers : (ps : List Pair) → n < length ps → (e : Entry) → In e es → e.node < length ps
  alone_numbers ps lt =
      let P : List Entry → Type 0 = λ l. (e : Entry) → In e l → entry_node e < length ps in
      let own : entry_node b.entry < length ps = (let L : ℕ → Type 0 = λ v. v < length ps in subst L (sym b.node_is) lt) in
      subst P (sym b.alone) (λ e i. elim i [ inl same ↦ (let L : Entry → Type 0 = λ v. entry_node v < length ps in subst L same own) | inr none ↦ absurd none ])

  alone_mets : (ps : List Pair) → mets ps es ≡ record { pair = pair_at ps n; parent = b.entry.parent } ∷ []
  alone_mets ps = ap (mets ps) b.alone ∙ ap (λ (v : ℕ). let m : Met = record { pair = pair_at ps v; parent = b.entry.parent } in m ∷ []) b.node_is

  pub alone_begins : (ps : List Pair) → BeginsWith (pair_at ps n) (mets ps es)
  alone_begins ps =
      let P : List Met → Type 0 = λ l. BeginsWith (pair_at ps n) l in
      subst P (sym (alone_mets ps)) (record { pair = pair_at ps n; parent = b.entry.parent }, refl, refl)

  pub alone_seen : (program : Program) (scope : ℕ) (mode : Mode) (ps : List Pair) → IsTypeOf program scope (pair_at ps n).0 → IsTypeOf program scope (pair_at ps n).1 → IsSeen program scope mode (mets ps es)
  alone_seen program scope mode ps l r =
      let m : Met = record { pair = pair_at ps n; parent = b.entry.parent } in
      let P : List Met → Type 0 = λ v. IsSeen program scope mode v in
      subst P (sym (alone_mets ps)) (record {
        apart = (λ h. h, tt);
        fits = λ q i. elim i [ inl same ↦ (let Q : Pair → Type 0 = λ v. IsTypeOf program scope v.0 × IsTypeOf program scope v.1 in subst Q same (l, r)) | inr none ↦ absurd none ];
        linked = λ k f pos g. absurd (single m k f pos g);
      })
    where
      single : (m : Met) (k : ℕ) (f : Met) → 0 < k → slice_get (m ∷ []) k ≡ Some f → ⊥
      single m zero f pos g = omega arith
      single m (suc k) f pos g = cc
