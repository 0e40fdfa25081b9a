-- The pairs that are listed, one after another, and as erased.
use Rattle.std.proofs.Common.{◌≡◌, ℕ, ◌+◌, ◌<◌, ◌≤◌, List, [], ◌∷◌, ◌++◌, map, drop, length, get_or, Option, Some, None, refl, sym, ap, ◌∙◌, subst, append_assoc, append-nil}
use Rattle.std.specs.Prelude.{slice_get}
use Rattle.std.specs.Option.{option_map}
use Rattle.std.proofs.lemmas.List.{map-append}
use Rattle.std.proofs.lemmas.Option.{slice_get-map}
use Rattle.wy_effects.proofs.Walks.{drop_at, drop_none}
use Rattle.wy_types.specs.declared.types.TypeRef.{TypeRef}
use Rattle.wy_types.specs.Types.{erased}
use Rattle.wy_cert.specs.declared.certificate.CertPair.{CertPair}
use Rattle.wy_proving.specs.Certified.{Pair, pair_of, typed_pairs, bare}
use Rattle.wy_recheck.specs.PairSet.{StandsFor}

-- a pair whose numbers name types
pub both_there : (a b : Option TypeRef) (x z : TypeRef) → a ≡ Some x → b ≡ Some z → pair_of a b ≡ (x, z) ∷ []
both_there a b x z e f = ap (λ (o : Option TypeRef). pair_of o b) e ∙ ap (λ (o : Option TypeRef). pair_of (Some x) o) f

-- what is known once so many pairs were read
pub record Gathered (types : List TypeRef) (qs : List CertPair) (i : ℕ) (keys : List (List ℕ)) : Type 0 where
  pub pairs : List Pair
  pub stands : StandsFor keys pairs
  pub whole : pairs ++ typed_pairs types (drop i qs) ≡ typed_pairs types qs

module _ (types : List TypeRef) (qs : List CertPair) (i : ℕ) (keys : List (List ℕ)) (g : Gathered types qs i keys) where
  -- one pair more
  pub gathered_more : (d q : CertPair) → i < length qs → q ≡ get_or qs i d → (keys' : List (List ℕ)) →
      ((pairs : List Pair) → StandsFor keys pairs → StandsFor keys' (pairs ++ pair_of (slice_get types q.left) (slice_get types q.right))) → Gathered types qs (i + 1) keys'
  gathered_more d q lt is keys' adds =
      let one : List Pair = pair_of (slice_get types q.left) (slice_get types q.right) in
      let next : drop i qs ≡ q ∷ drop (i + 1) qs = drop_at qs i d lt ∙ ap (λ (v : CertPair). v ∷ drop (i + 1) qs) (sym is) in
      record {
        pairs = g.pairs ++ one;
        stands = adds g.pairs g.stands;
        whole = append_assoc g.pairs one (typed_pairs types (drop (i + 1) qs)) ∙ ap (λ (l : List CertPair). g.pairs ++ typed_pairs types l) (sym next) ∙ g.whole;
      }

  -- no pair is left
  pub gathered_all : length qs ≤ i → StandsFor keys (typed_pairs types qs)
  gathered_all le =
      let P : List Pair → Type 0 = λ l. StandsFor keys l in
      subst P (sym (append-nil g.pairs) ∙ ap (λ (l : List CertPair). g.pairs ++ typed_pairs types l) (sym (drop_none qs i le)) ∙ g.whole) g.stands

pair_erased : (a b : Option TypeRef) → pair_of (option_map erased a) (option_map erased b) ≡ map bare (pair_of a b)
pair_erased None None = refl
pair_erased None (Some b) = refl
pair_erased (Some a) None = refl
pair_erased (Some a) (Some b) = refl

-- the pairs of erased types are those of the types, erased
pub pairs_erased : (types : List TypeRef) (qs : List CertPair) → typed_pairs (map erased types) qs ≡ map bare (typed_pairs types qs)
pairs_erased types [] = refl
pairs_erased types (q ∷ qs) =
    let a = slice_get types q.left in
    let b = slice_get types q.right in
    let rest = typed_pairs (map erased types) qs in
    ap (λ (o : Option TypeRef). pair_of o (slice_get (map erased types) q.right) ++ rest) (slice_get-map erased types q.left) ∙
    ap (λ (o : Option TypeRef). pair_of (option_map erased a) o ++ rest) (slice_get-map erased types q.right) ∙ ap (λ (l : List Pair). l ++ rest) (pair_erased a b) ∙
    ap (λ (l : List Pair). map bare (pair_of a b) ++ l) (pairs_erased types qs) ∙ sym (map-append bare (pair_of a b) (typed_pairs types qs))
