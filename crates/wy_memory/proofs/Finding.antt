-- What is found first in a list, after an item was set or pushed.
use Rattle.std.proofs.Common.{◌≡◌, ◌≤◌, ◌<◌, ◌+◌, ℕ, zero, suc, Bool, true, false, cond, List, [], ◌∷◌, ◌++◌, Some, None, length, get_or, set, refl, ap, arith}
use Rattle.std.specs.Prelude.{filter, find, position, not}
use Rattle.std.specs.List.{position_or_len}
use Rattle.std.proofs.lemmas.Bool.Decides.{nat_tests}

module _ {X : Type 0} (test : X → Bool) where
  pub find-set_other : (xs : List X) (i : ℕ) (y d : X) → test y ≡ false → test (get_or xs i d) ≡ false → find test (set xs i y) ≡ find test xs
  find-set_other [] i y d new old = refl
  find-set_other (x ∷ xs) zero y d new old = rw (new, old) refl
  find-set_other (x ∷ xs) (suc i) y d new old = ap (cond (test x) (Some x)) (find-set_other xs i y d new old)

  pub find-set_first : (xs : List X) (i : ℕ) (y d : X) → i < length xs → test y ≡ true → ((k : ℕ) → k < i → test (get_or xs k d) ≡ false)
      → find test (set xs i y) ≡ Some y
  find-set_first [] i y d within new before = absurd (omega arith)
  find-set_first (x ∷ xs) zero y d within new before = rw new refl
  find-set_first (x ∷ xs) (suc i) y d within new before =
      let other : test x ≡ false = before 0 (omega arith) in
      rw other (find-set_first xs i y d (omega arith) new (λ k l. before (suc k) (omega arith)))

  pub find-push_other : (xs : List X) (y : X) → test y ≡ false → find test (xs ++ y ∷ []) ≡ find test xs
  find-push_other [] y new = rw new refl
  find-push_other (x ∷ xs) y new = ap (cond (test x) (Some x)) (find-push_other xs y new)

  -- no item passes the test
  pub record NonePasses (xs : List X) : Type 0 where
    pub none : length xs ≤ position_or_len test xs

  rest_passes_none : (x : X) (xs : List X) → NonePasses (x ∷ xs) → (test x ≡ false) × NonePasses xs
  rest_passes_none x xs h =
      elim (test x) as (λ b. suc (length xs) ≤ cond (not b) (1 + position_or_len test xs) 0 → (b ≡ false) × NonePasses xs) [
        | true ↦ λ l. absurd (omega arith)
        | false ↦ λ l. (refl, record { none = omega arith })
      ] h.none

  pub find-push_first : (xs : List X) (y : X) → NonePasses xs → test y ≡ true → find test (xs ++ y ∷ []) ≡ Some y
  find-push_first [] y none new = rw new refl
  find-push_first (x ∷ xs) y none new =
      let rest = rest_passes_none x xs none in
      rw rest.0 (find-push_first xs y rest.1 new)

  pub none_passes : (xs : List X) → position test xs ≡ None → NonePasses xs
  none_passes xs e = record { none = grind (arith, nat_tests) }

  -- what fails the test stays, and nothing passes it then
  pub find-filter_none : (xs : List X) → find test (filter (λ x. not (test x)) xs) ≡ None
  find-filter_none [] = refl
  find-filter_none (x ∷ xs) =
      elim (test x) as (λ b. test x ≡ b → find test (cond (not b) (x ∷ filter (λ x. not (test x)) xs) (filter (λ x. not (test x)) xs)) ≡ None) [
        | true ↦ λ e. find-filter_none xs
        | false ↦ λ e. rw e (find-filter_none xs)
      ] refl

  -- where only what fails this test is taken away, the same is found
  pub find-filter_other : (other : X → Bool) → ((x : X) → other x ≡ true → test x ≡ false) → (xs : List X)
      → find test (filter (λ x. not (other x)) xs) ≡ find test xs
  find-filter_other other apart [] = refl
  find-filter_other other apart (x ∷ xs) =
      elim (other x) as (λ b. other x ≡ b → find test (cond (not b) (x ∷ filter (λ x. not (other x)) xs) (filter (λ x. not (other x)) xs))
      ≡ cond (test x) (Some x) (find test xs)) [
        | true ↦ λ e. rw (apart x e) (find-filter_other other apart xs)
        | false ↦ λ e. ap (cond (test x) (Some x)) (find-filter_other other apart xs)
      ] refl
