-- One part more at the end of a certificate.
use Rattle.std.proofs.Common.{◌≡◌, ℕ, zero, suc, ◌+◌, List, [], ◌∷◌, ◌++◌, length, refl, subst, arith, Some}
use Rattle.std.specs.Prelude.{slice_get}

-- it is one longer
pub one_longer : {X : Type 0} (xs : List X) (x : X) → length (xs ++ x ∷ []) ≡ length xs + 1
one_longer [] x = refl
one_longer (y ∷ xs) x = (let rest = one_longer xs x in omega (arith, rest))

-- what holds of each part at its number holds with the one that is added
pub each_pushed : {X : Type 0} (P : ℕ → X → Type 0) (xs : List X) (x : X) → ((k : ℕ) (c : X) → slice_get xs k ≡ Some c → P k c) → P (length xs) x → (k : ℕ) (c : X) → slice_get (xs ++ x ∷ []) k ≡ Some c → P k c
each_pushed P [] x h last zero c e = (let same : x ≡ c = cc in subst (P 0) same last)
each_pushed P [] x h last (suc k) c e = absurd (cc)
each_pushed P (y ∷ xs) x h last zero c e = h 0 c e
each_pushed P (y ∷ xs) x h last (suc k) c e = each_pushed (λ j. P (suc j)) xs x (λ j v f. h (suc j) v f) last k c e
