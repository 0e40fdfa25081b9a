-- The pairs that rules ask, one after another.
use Rattle.std.proofs.Common.{◌≡◌, ℕ, ◌+◌, ◌<◌, ◌≤◌, List, [], ◌∷◌, ◌++◌, map, drop, length, get_or, sym, ap, ◌∙◌, subst, append_assoc, append-nil}
use Rattle.std.proofs.lemmas.List.{map-append}
use Rattle.wy_effects.proofs.Walks.{drop_at, drop_none}
use Rattle.wy_types.specs.declared.types.TypeRef.{TypeRef}
use Rattle.wy_proving.specs.Certified.{Pair}
use Rattle.wy_proving.specs.Proving.{LineRule as Rule}
use Rattle.wy_proving.specs.Written.{asked_by_all}
use Rattle.wy_certify.specs.declared.pair.TypePair.{TypePair}
use Rattle.wy_certify.specs.Pair.{pair_of}

-- a pair more
pub pair_pushed : (old new : List TypePair) (q : TypePair) → new ≡ old ++ q ∷ [] → map pair_of new ≡ map pair_of old ++ pair_of q ∷ []
pair_pushed old new q e = ap (map pair_of) e ∙ map-append pair_of old (q ∷ [])

-- what is added, and what is left to add, are what was to be added
pub added_next : {X : Type 0} (out next whole one rest : List X) (left : List X) → left ≡ one ++ rest → next ≡ out ++ one → out ++ left ≡ whole → next ++ rest ≡ whole
added_next out next whole one rest left e f g = ap (λ l. l ++ rest) f ∙ append_assoc out one rest ∙ ap (λ l. out ++ l) (sym e) ∙ g

pub added_all : {X : Type 0} (out whole left : List X) → left ≡ [] → out ++ left ≡ whole → out ≡ whole
added_all out whole left e g = sym (append-nil out) ∙ ap (λ l. out ++ l) (sym e) ∙ g

-- the rule at a place, and those behind it
pub rules_next : {X : Type 0} (f : Rule → List Pair) (rule : X → Rule) (xs : List X) (i : ℕ) (x : X) → i < length xs → x ≡ get_or xs i x →
    asked_by_all f (map rule (drop i xs)) ≡ f (rule x) ++ asked_by_all f (map rule (drop (i + 1) xs))
rules_next {X} f rule xs i x lt is =
    ap (λ (l : List X). asked_by_all f (map rule l)) (drop_at xs i x lt) ∙ ap (λ (v : X). f (rule v) ++ asked_by_all f (map rule (drop (i + 1) xs))) (sym is)

pub rules_none : {X : Type 0} (f : Rule → List Pair) (rule : X → Rule) (xs : List X) (i : ℕ) → length xs ≤ i → asked_by_all f (map rule (drop i xs)) ≡ []
rules_none {X} f rule xs i le = ap (λ (l : List X). asked_by_all f (map rule l)) (drop_none xs i le)
