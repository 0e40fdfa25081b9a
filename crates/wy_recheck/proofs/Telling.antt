-- Answers that hold whatever list of pairs the keys are of.
use Rattle.std.proofs.Common.{◌≡◌, ℕ, List, Bool as Truth, true, false}
use Rattle.std.specs.Prelude.{◌↔◌}
use Rattle.wy_proving.specs.Certified.{Pair}
use Rattle.wy_recheck.specs.PairSet.{StandsFor, Tells}

-- an answer about one fact is one about another that holds exactly where it does
pub tells_same : (keys : List (List ℕ)) (P Q : List Pair → Type 0) → ((pairs : List Pair) → P pairs ↔ Q pairs) → (b : Truth) → Tells keys P b → Tells keys Q b
tells_same keys P Q same b t = λ pairs st. (
  λ e. (same pairs).0 ((t pairs st).0 e),
  λ h. (t pairs st).1 ((same pairs).1 h),
)

-- no, where the fact cannot be
pub tells_not : (keys : List (List ℕ)) (Q : List Pair → Type 0) → ((pairs : List Pair) → StandsFor keys pairs → Q pairs → ⊥) → Tells keys Q false
tells_not keys Q never = λ pairs st. (λ e. absurd (cc), λ h. absurd (never pairs st h))

-- where the answer is no, the fact cannot be
pub not_told : (keys : List (List ℕ)) (P : List Pair → Type 0) (b : Truth) → b ≡ false → Tells keys P b → (pairs : List Pair) → StandsFor keys pairs → P pairs → ⊥
not_told keys P b f t pairs st h = let e : b ≡ true = (t pairs st).1 h in absurd (cc)
