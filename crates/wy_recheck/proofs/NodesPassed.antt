-- The node that comes next: a form's own, and T-Subs.
use Rattle.std.proofs.Common.{◌≡◌, ℕ, suc, ◌+◌, ◌<◌, List, [], ◌∷◌, length, get_or, drop, refl, sym, ap, ◌∙◌, subst, Bool as Truth, true, false, drop-cons, add-one}
use Rattle.std.specs.Prelude.{Result, if◌then◌else◌}
use Rattle.wy_text.specs.declared.fault.Place.{Place}
use Rattle.wy_types.specs.declared.types.TypeRef.{TypeRef}
use Rattle.wy_rules.specs.Readings.{Reading}
use Rattle.wy_rules.specs.Canonical.{both, found_type}
use Rattle.wy_cert.specs.declared.certificate.Rule.{Rule}
use Rattle.wy_cert.specs.declared.certificate.CertNode.{CertNode}
use Rattle.wy_proving.specs.Reading.{Lists, Part, part_stands, part_fails, says_sub, says_typed, is_sub_of, read_subs, read_node}
use Rattle.wy_recheck.specs.declared.failure.Failure.{Failure}
use Rattle.wy_recheck.specs.declared.reader.Reader.{Reader}
use Rattle.wy_recheck.specs.declared.reader.Read.{Read}
use Rattle.wy_recheck.specs.Nodes.{NextFails, IsNext, IsNotNext, IsRead, node_read}

-- what is left at a place
pub left_at : {X : Type 0} (xs : List X) (i : ℕ) (x : X) → i < length xs → x ≡ get_or xs i x → drop i xs ≡ x ∷ drop (i + 1) xs
left_at xs i x lt is = rw add-one (drop-cons xs i x lt ∙ ap (λ v. v ∷ drop (suc i) xs) (sym is))

module _ (y : Reading) (same : y.Kind → y.Kind → Truth) (c : Lists y.Kind) where
  ------------------------------------------------------------
  -- T-Subs

  module _ (q : Place) (t : y.Kind) (e : List ℕ) (at : ℕ) (n : CertNode) (ns : List CertNode) where
    abbrev more : Part y.Kind
    more = read_subs y same c q (found_type y (c.named n.typ)) n.effect (at + 1) ns

    -- another node comes next
    pub subs_end : says_sub n ≡ false → read_subs y same c q t e at (n ∷ ns) ≡ part_stands t e at (n ∷ ns)
    subs_end h = ap (λ b. if b then (if is_sub_of y same c q t e n then more else part_fails at) else part_stands t e at (n ∷ ns)) h

    -- a T-Sub that fails
    pub subs_fail : says_sub n ≡ true → is_sub_of y same c q t e n ≡ false → read_subs y same c q t e at (n ∷ ns) ≡ part_fails at
    subs_fail h f =
        ap (λ b. if b then (if is_sub_of y same c q t e n then more else part_fails at) else part_stands t e at (n ∷ ns)) h ∙
        ap (λ b. if b then more else part_fails at) f

    -- one that stands
    pub subs_more : says_sub n ≡ true → is_sub_of y same c q t e n ≡ true → read_subs y same c q t e at (n ∷ ns) ≡ more
    subs_more h f =
        ap (λ b. if b then (if is_sub_of y same c q t e n then more else part_fails at) else part_stands t e at (n ∷ ns)) h ∙
        ap (λ b. if b then more else part_fails at) f

  ------------------------------------------------------------
  -- A form's own node

  module _ (holds : Truth) (rule : Rule) (q : Place) (parts : ℕ) (t : y.Kind) (e : List ℕ) where
    abbrev says : CertNode → Truth
    says n = both holds (says_typed y same c rule q parts t e n)

    fails_there : (at : ℕ) (ns : List CertNode) → NextFails says ns → read_node y same c holds rule q parts t e at ns ≡ part_fails at
    fails_there at [] h = refl
    fails_there at (n ∷ ns) h = ap (λ b. if b then read_subs y same c q t e (at + 1) ns else part_fails at) h

    module _ (nodes : List CertNode) (at : ℕ) where
      pub node_fails : (i : ℕ) → IsNotNext nodes says at i → read_node y same c holds rule q parts t e at (drop at nodes) ≡ part_fails i
      node_fails i h = fails_there at (drop at nodes) h.fails ∙ ap (λ j. part_fails j) (sym h.place)

      pub node_stands : (new : ℕ) → IsNext nodes says at new → read_node y same c holds rule q parts t e at (drop at nodes) ≡ read_subs y same c q t e new (drop new nodes)
      node_stands new h =
          ap (read_node y same c holds rule q parts t e at) h.there ∙
          ap (λ b. if b then read_subs y same c q t e (at + 1) (drop new nodes) else part_fails at) h.said ∙
          ap (λ i. read_subs y same c q t e i (drop new nodes)) (sym h.next)

    -- whose premises fail
    pub premise_fails : (at : ℕ) (ns : List CertNode) → holds ≡ false → read_node y same c holds rule q parts t e at ns ≡ part_fails at
    premise_fails at [] h = refl
    premise_fails at (n ∷ ns) h = ap (λ b. if both b (says_typed y same c rule q parts t e n) then read_subs y same c q t e (at + 1) ns else part_fails at) h

-- the same node, said in other words
module _ (r : Reader) (at : ℕ) (rule : Rule) (q : Place) (parts new : ℕ) (result : Result Read Failure) where
  pub node_as : {holds premise : Truth} {t u : TypeRef} {e f : List ℕ} → premise ≡ holds → u ≡ t → f ≡ e →
      IsRead r.nodes.now (node_read r at holds rule q parts t e) new result → IsRead r.nodes.now (node_read r at premise rule q parts u f) new result
  node_as {holds} {premise} {t} {u} {e} {f} a b d h =
      let same : node_read r at premise rule q parts u f ≡ node_read r at holds rule q parts t e =
      ap (λ v. node_read r at v rule q parts u f) a ∙ ap (λ v. node_read r at holds rule q parts v f) b ∙ ap (λ v. node_read r at holds rule q parts t v) d in
      subst (λ (p : Part TypeRef). IsRead r.nodes.now p new result) (sym same) h
