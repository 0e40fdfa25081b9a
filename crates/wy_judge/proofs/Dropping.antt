-- Lists from a place on, and the spots of several values by their numbers.
use Rattle.std.proofs.Common.{◌≡◌, ℕ, zero, suc, ◌+◌, ◌<◌, ◌≤◌, List, [], ◌∷◌, refl, ◌∙◌, ap, subst, Some, map, drop, length, arith}
use Rattle.std.specs.Prelude.{slice_get}
use Rattle.std.specs.List.{range_with_len}
use Rattle.wy_types.specs.declared.types.TypeRef.{TypeRef}
use Rattle.wy_types.specs.Code.{Expr}
use Rattle.wy_rules.specs.Nodes.{written, argument, written_spots, argument_spots}

-- from a place on there is what stands there, and then what comes after it
pub drop_there : {X : Type 0} (xs : List X) (i : ℕ) (x : X) → slice_get xs i ≡ Some x → drop i xs ≡ x ∷ drop (i + 1) xs
drop_there [] i x e = absurd (cc)
drop_there (y ∷ xs) zero x e = let same : y ≡ x = cc in ap (λ v. v ∷ xs) same
drop_there (y ∷ xs) (suc i) x e = let same : suc (i + 1) ≡ suc i + 1 = omega arith in subst (λ n. drop i xs ≡ x ∷ drop n (y ∷ xs)) same (drop_there xs i x e)

pub drop_past : {X : Type 0} (xs : List X) (i : ℕ) → length xs ≤ i → drop i xs ≡ []
drop_past [] zero h = refl
drop_past [] (suc i) h = refl
drop_past (x ∷ xs) zero h = absurd (omega arith)
drop_past (x ∷ xs) (suc i) h = drop_past xs i (omega arith)

-- the spot of a number, where values have written types, and where they are arguments
pub written_spot_at : (ts : List TypeRef) (i : ℕ) (t : TypeRef) → slice_get ts i ≡ Some t → slice_get (written_spots ts) i ≡ Some (written t)
written_spot_at [] i t e = absurd (cc)
written_spot_at (u ∷ ts) zero t e = let same : u ≡ t = cc in ap (λ v. Some (written v)) same
written_spot_at (u ∷ ts) (suc i) t e = written_spot_at ts i t e

ranged_at : (x : Expr) (name : List ℕ) (arity a n i : ℕ) → i < n → slice_get (map (λ j. argument x name arity j) (range_with_len a n)) i ≡ Some (argument x name arity (a + i))
ranged_at x name arity a zero i lt = absurd (omega arith)
ranged_at x name arity a (suc n) zero lt = let same : a ≡ a + 0 = omega arith in ap (λ v. Some (argument x name arity v)) same
ranged_at x name arity a (suc n) (suc i) lt =
    let same : a + 1 + i ≡ a + suc i = omega arith in
    ranged_at x name arity (a + 1) n i (omega arith) ∙ ap (λ v. Some (argument x name arity v)) same

pub argument_spot_at : (x : Expr) (name : List ℕ) (arity i : ℕ) → i < arity → slice_get (argument_spots x name arity) i ≡ Some (argument x name arity i)
argument_spot_at x name arity i lt = let same : 0 + i ≡ i = omega arith in ranged_at x name arity 0 arity i lt ∙ ap (λ v. Some (argument x name arity v)) same
