-- Keys of pairs.
use Rattle.std.proofs.Common.{◌≡◌, ℕ, zero, suc, Bool, true, false, ◌&&◌, ◌||◌, List, [], ◌∷◌, map, take, inl, inr, refl, sym, ap, ◌∙◌, subst}
use Rattle.std.specs.List.{list_any}
use Rattle.wy_text.specs.Members.{In}
use Rattle.wy_verified.specs.Kinds.{Pair}
use Rattle.wy_verified.specs.declared.known.Kind.{Kind}
use Rattle.wy_verified.specs.declared.known.Kind.TheVariants.{Ints, Truths, Texts, Units, Named, Own, Granted}
use Rattle.wy_verify.specs.declared.pairs.KindPair.{KindPair}
use Rattle.wy_verify.specs.Tables.{same_triple}
use Rattle.wy_verify.specs.Closing.{IsAdded, both, kind_key, pair_key, same_key}
use Rattle.wy_verify.proofs.Noting.{triple_exact}

-- types of one key are one
key_once : (a b : Kind) → kind_key a ≡ kind_key b → a ≡ b
key_once a b e = sym (back a) ∙ ap of_key e ∙ back b
  where
    of_form : ℕ → ℕ → ℕ → Kind
    of_form zero x y = Ints
    of_form (suc zero) x y = Truths
    of_form (suc (suc zero)) x y = Texts
    of_form (suc (suc (suc zero))) x y = Units
    of_form (suc (suc (suc (suc zero)))) x y = Named x
    of_form (suc (suc (suc (suc (suc zero))))) x y = Own x y
    of_form (suc (suc (suc (suc (suc (suc n)))))) x y = Granted x

    of_key : ℕ × ℕ × ℕ → Kind
    of_key k = of_form k.0 k.1 k.2

    back : (k : Kind) → of_key (kind_key k) ≡ k
    back Ints = refl
    back Truths = refl
    back Texts = refl
    back Units = refl
    back (Named t) = refl
    back (Own x l) = refl
    back (Granted g) = refl

both_tests : (p q : Bool) → (p && q) ≡ true → (p ≡ true) × (q ≡ true)
both_tests true true e = (refl, refl)
both_tests true false e = cc
both_tests false q e = cc

-- a key that is there is that of a pair that is there
pub pair_there : (left right : Kind) (ps : List KindPair) → list_any (same_key (kind_key left, kind_key right)) (map pair_key ps) ≡ true → In {X = Pair} (left, right) (map both ps)
pair_there left right [] e = cc
pair_there left right (p ∷ ps) e =
    (elim (same_key (kind_key left, kind_key right) (pair_key p)) as (λ b. same_key (kind_key left, kind_key right) (pair_key p) ≡ b → (b || list_any (same_key (kind_key left, kind_key right)) (map pair_key ps)) ≡ true → In {X = Pair} (left, right) (map both (p ∷ ps))) [
      | true ↦ λ h f. inl (
          let t = both_tests (same_triple (kind_key left) (kind_key p.left)) (same_triple (kind_key right) (kind_key p.right)) h in
          let l = key_once left p.left (triple_exact (kind_key left) (kind_key p.left) t.0) in
          let r = key_once right p.right (triple_exact (kind_key right) (kind_key p.right) t.1) in
          ap (λ (k : Kind). let q : Pair = (k, p.right) in q) (sym l) ∙ ap (λ (k : Kind). let q : Pair = (left, k) in q) (sym r))
      | false ↦ λ h f. inr (pair_there left right ps f)
    ]) refl e

pub map_take : {X Y : Type 0} (f : X → Y) (n : ℕ) (xs : List X) → take n (map f xs) ≡ map f (take n xs)
map_take f zero xs = refl
map_take f (suc n) [] = refl
map_take f (suc n) (x ∷ xs) = ap (λ l. f x ∷ l) (map_take f n xs)

-- a pair that is found by its key was added
pub found_added : (left right : Kind) (key : (ℕ × ℕ × ℕ) × (ℕ × ℕ × ℕ)) (keys : List ((ℕ × ℕ × ℕ) × (ℕ × ℕ × ℕ))) (ps : List KindPair) (now : List Pair) (t : Bool) →
    key ≡ (kind_key left, kind_key right) → keys ≡ map pair_key ps → map both ps ≡ now → t ≡ true → t ≡ list_any (same_key key) keys → IsAdded now (left, right) now
found_added left right key keys ps now t k e v is h =
    let P : List Pair → Type 0 = λ l. In {X = Pair} (left, right) l in
    let there : list_any (same_key (kind_key left, kind_key right)) (map pair_key ps) ≡ true =
    ap (list_any (same_key (kind_key left, kind_key right))) (sym e) ∙ ap (λ (q : (ℕ × ℕ × ℕ) × (ℕ × ℕ × ℕ)). list_any (same_key q) keys) (sym k) ∙ sym h ∙ is in
    inl (subst P v (pair_there left right ps there), refl)
