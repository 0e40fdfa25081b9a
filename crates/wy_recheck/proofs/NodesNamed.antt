-- Types that numbers name, one after the other.
use Rattle.std.proofs.Common.{◌≡◌, ℕ, ◌+◌, ◌<◌, ◌≤◌, List, [], ◌∷◌, ◌++◌, length, get_or, drop, refl, sym, ap, ◌∙◌, append_assoc, append-nil, Option, Some, None}
use Rattle.std.specs.Prelude.{slice_get}
use Rattle.wy_effects.proofs.Walks.{drop_at, drop_none}
use Rattle.wy_types.specs.declared.types.TypeRef.{TypeRef}
use Rattle.wy_proving.specs.Certified.{named_types, with_type}

-- types that stand before others, where all are there
abbrev pub prefixed : List TypeRef → Option (List TypeRef) → Option (List TypeRef)
prefixed ts None = None
prefixed ts (Some us) = Some (ts ++ us)

pub prefixed_none : (o : Option (List TypeRef)) → o ≡ prefixed [] o
prefixed_none None = refl
prefixed_none (Some us) = refl

one_more : (ts : List TypeRef) (t : TypeRef) (o : Option (List TypeRef)) → prefixed ts (with_type (Some t) o) ≡ prefixed (ts ++ t ∷ []) o
one_more ts t None = refl
one_more ts t (Some us) = ap (λ (l : List TypeRef). Some l) (sym (append_assoc ts (t ∷ []) us))

none_there : (ts : List TypeRef) (o : Option (List TypeRef)) → prefixed ts (with_type None o) ≡ None
none_there ts None = refl
none_there ts (Some us) = refl

module _ (types : List TypeRef) (ns : List ℕ) (i : ℕ) (ts : List TypeRef) where
  module _ (lt : i < length ns) where
    next_named : named_types types (drop i ns) ≡ with_type (slice_get types (get_or ns i 0)) (named_types types (drop (i + 1) ns))
    next_named = ap (named_types types) (drop_at ns i 0 lt)

    pub named_more : (t : TypeRef) → slice_get types (get_or ns i 0) ≡ Some t → prefixed ts (named_types types (drop i ns)) ≡ prefixed (ts ++ t ∷ []) (named_types types (drop (i + 1) ns))
    named_more t h = ap (prefixed ts) (next_named ∙ ap (λ o. with_type o (named_types types (drop (i + 1) ns))) h) ∙ one_more ts t (named_types types (drop (i + 1) ns))

    pub unnamed : slice_get types (get_or ns i 0) ≡ None → prefixed ts (named_types types (drop i ns)) ≡ None
    unnamed h = ap (prefixed ts) (next_named ∙ ap (λ o. with_type o (named_types types (drop (i + 1) ns))) h) ∙ none_there ts (named_types types (drop (i + 1) ns))

  pub all_named : length ns ≤ i → prefixed ts (named_types types (drop i ns)) ≡ Some ts
  all_named le = ap (λ l. prefixed ts (named_types types l)) (drop_none ns i le) ∙ ap (λ (l : List TypeRef). Some l) (append-nil ts)
