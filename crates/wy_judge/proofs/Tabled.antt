-- Tables of known types: more room keeps them, and a type that is put in leaves the others.
use Rattle.std.proofs.Common.{◌≡◌, ℕ, zero, suc, ◌+◌, max, ◌<◌, [], ◌∷◌, ◌++◌, inl, inr, length, refl, sym, ap, ◌∙◌, Some, None, arith}
use Rattle.std.specs.Prelude.{slice_get, slice_set}
use Rattle.wy_types.specs.declared.types.TypeRef.{TypeRef}
use Rattle.wy_effects.proofs.SetLaws.{cases_equal}
use Rattle.wy_judge.specs.Tables.{Table, EndsKnown, IsKept, IsPut}

room_on : (xs : Table) (n : ℕ) (t : TypeRef) → slice_get (xs ++ None ∷ []) n ≡ Some (Some t) → slice_get xs n ≡ Some (Some t)
room_on [] zero t e = absurd (cc)
room_on [] (suc n) t e = absurd (cc)
room_on (x ∷ xs) zero t e = e
room_on (x ∷ xs) (suc n) t e = room_on xs n t e

room_back : (xs : Table) (n : ℕ) (t : TypeRef) → slice_get xs n ≡ Some (Some t) → slice_get (xs ++ None ∷ []) n ≡ Some (Some t)
room_back [] n t e = absurd (cc)
room_back (x ∷ xs) zero t e = e
room_back (x ∷ xs) (suc n) t e = room_back xs n t e

pub kept_more : (old new : Table) → IsKept old new → IsKept old (new ++ None ∷ [])
kept_more old new h n t = ((λ e. (h n t).0 (room_on new n t e)), (λ e. room_back new n t ((h n t).1 e)))

set_here : (xs : Table) (n : ℕ) (t : TypeRef) → n < length xs → slice_get (slice_set xs n (Some t)) n ≡ Some (Some t)
set_here [] n t lt = absurd (omega arith)
set_here (x ∷ xs) zero t lt = refl
set_here (x ∷ xs) (suc n) t lt = set_here xs n t (omega (arith, lt))

set_others : (xs : Table) (n : ℕ) (t : TypeRef) (m : ℕ) → (m ≡ n → ⊥) → slice_get (slice_set xs n (Some t)) m ≡ slice_get xs m
set_others [] n t m other = refl
set_others (x ∷ xs) zero t zero other = absurd (other refl)
set_others (x ∷ xs) zero t (suc m) other = refl
set_others (x ∷ xs) (suc n) t zero other = refl
set_others (x ∷ xs) (suc n) t (suc m) other = set_others xs n t m (λ e. other (ap suc e))

length-slice_set : (xs : Table) (n : ℕ) (t : TypeRef) → length (slice_set xs n (Some t)) ≡ length xs
length-slice_set [] n t = refl
length-slice_set (x ∷ xs) zero t = refl
length-slice_set (x ∷ xs) (suc n) t = ap suc (length-slice_set xs n t)

-- the last type is the one that was put in, or was the last before
ends_in : (old room : Table) (n : ℕ) (t : TypeRef) → IsKept old room → n < length room → length room ≡ max (length old) (n + 1) → EndsKnown old → EndsKnown (slice_set room n (Some t))
ends_in old room n t h lt size ends m e = elim (cases_equal m n) [
  | inl same ↦ (t, ap (slice_get (slice_set room n (Some t))) same ∙ set_here room n t lt)
  | inr other ↦
      let long : length room ≡ suc m = sym (length-slice_set room n t) ∙ e in
      let last = ends m (last_before (length room) (length old) n m lt size long other) in
      (last.0, set_others room n t m other ∙ (h m last.0).1 last.1)
]
  where
    last_before : (long short n m : ℕ) → n < long → long ≡ max short (n + 1) → long ≡ suc m → (m ≡ n → ⊥) → short ≡ suc m
    last_before long short n m lt size e other = grind arith

pub put_in : (old room : Table) (n : ℕ) (t : TypeRef) → IsKept old room → n < length room → length room ≡ max (length old) (n + 1) → IsPut old (slice_set room n (Some t)) n t
put_in old room n t h lt size = record {
  here = set_here room n t lt;
  others = λ m u other. (
    (λ e. (h m u).0 (sym (set_others room n t m other) ∙ e)),
    (λ e. set_others room n t m other ∙ (h m u).1 e),
  );
  ends = ends_in old room n t h lt size;
}
