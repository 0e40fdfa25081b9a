-- Whether a type can stand in a scope is decided.
use Rattle.std.proofs.Common.{◌≡◌, ℕ, ◌<◌, List, [], ◌∷◌, length, inl, inr, refl, subst, true, false}
use Rattle.std.specs.Prelude.{nat_lt}
use Rattle.std.proofs.lemmas.Bool.{lt-ltb, ltb-true}
use Rattle.wy_effects.specs.EffSet.{IsSet, AreSets}
use Rattle.wy_effects.proofs.Closure.{Decided}
use Rattle.wy_effects.proofs.SetLaws.{cases_equal}
use Rattle.wy_types.specs.declared.types.TypeRef.{TypeRef}
use Rattle.wy_types.specs.declared.types.TypeRef.TheVariants.{Int, Bool, Text, Unit as Nothing, Named, At, Own}
use Rattle.wy_types.specs.declared.resolved.ScopeKind.{ScopeKind}
use Rattle.wy_types.specs.declared.resolved.ScopeKind.TheVariants.{Pure, Resource, Plain, Program as Main}
use Rattle.wy_types.specs.Program.{Program, Scope}
use Rattle.wy_proving.specs.Proving.{TypeStands, sets_of, IsEmptyIn, IsOwn, ascends}
use Rattle.wy_proving.proofs.ExactLists.{ascending, ascended}

decide_and : {A B : Type 0} → Decided A → Decided B → Decided (A × B)
decide_and (inl a) (inl b) = inl (a, b)
decide_and (inl a) (inr n) = inr (λ h. n h.1)
decide_and (inr n) d = inr (λ h. n h.0)

decide_three : {A B C : Type 0} → Decided A → Decided B → Decided C → Decided (A × B × C)
decide_three (inl a) (inl b) (inl c) = inl (a, b, c)
decide_three (inl a) (inl b) (inr n) = inr (λ h. n h.2)
decide_three (inl a) (inr n) d = inr (λ h. n h.1)
decide_three (inr n) d f = inr (λ h. n h.0)

decide_less : (a b : ℕ) → Decided (a < b)
decide_less a b =
    elim (nat_lt a b) as (λ v. nat_lt a b ≡ v → Decided (a < b)) [
      | true ↦ λ e. inl (ltb-true a b e)
      | false ↦ λ e. inr (λ h. (let f = lt-ltb a b h in absurd (cc)))
    ] refl

decide_set : (n : ℕ) (e : List ℕ) → Decided (IsSet n e)
decide_set n e =
    elim (ascends 0 n e) as (λ v. ascends 0 n e ≡ v → Decided (IsSet n e)) [
      | true ↦ λ f. inl (ascending 0 n e f)
      | false ↦ λ f. inr (λ h. (let g = ascended 0 n e h in absurd (cc)))
    ] refl

decide_sets : (n : ℕ) (es : List (List ℕ)) → Decided (AreSets n es)
decide_sets n [] = inl (λ e i. absurd i)
decide_sets n (e ∷ es) = elim (decide_set n e) [
  | inr x ↦ inr (λ h. x (h e (inl refl)))
  | inl a ↦ elim (decide_sets n es) [
    | inr x ↦ inr (λ h. x (λ f i. h f (inr i)))
    | inl b ↦ inl (λ f i. elim i [ inl same ↦ subst (IsSet n) same a | inr j ↦ b f j ])
  ]
]

decide_empty : (kind : ScopeKind) (e : List ℕ) → Decided (IsEmptyIn kind e)
decide_empty Pure e = inl tt
decide_empty Resource e = inl tt
decide_empty Plain [] = inl refl
decide_empty Plain (a ∷ e) = inr (λ h. absurd (cc))
decide_empty Main e = inl tt

decide_own : (kind : ScopeKind) (l : ℕ) → Decided (IsOwn kind l)
decide_own Pure l = inl tt
decide_own Resource l = inl tt
decide_own Plain l = inl tt
decide_own Main l = decide_less 0 l

-- of any type
pub decide_stands : (p : Program) (s : Scope) (t : TypeRef) → Decided (TypeStands p s t)
decide_stands p s Int = inl tt
decide_stands p s Bool = inl tt
decide_stands p s Text = inl tt
decide_stands p s Nothing = inl tt
decide_stands p s (Named d es) = decide_three (decide_less d (length p.declarations)) (cases_equal (length es) (sets_of p s.kind d)) (decide_sets (length s.atoms) es)
decide_stands p s (At d e) = decide_three (decide_less d (length p.declarations)) (decide_set (length s.atoms) e) (decide_empty s.kind e)
decide_stands p s (Own l) = decide_and (decide_less l (length s.literals)) (decide_own s.kind l)
