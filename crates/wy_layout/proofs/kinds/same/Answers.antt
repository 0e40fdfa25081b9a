use Rattle.std.proofs.Common.{◌≡◌, ◌∙◌, ℕ, ◌==◌, Bool, true, false, ◌&&◌, List, [], ◌∷◌, refl, ap}
use Rattle.std.specs.Cmp.Lexicographic.{pointwise}
use Rattle.wy_layout.specs.Words.{same}
use Rattle.wy_layout.proofs.kinds.same.Goals as goal

turned : (a b : Bool) → (a && b) ≡ (b && a)
turned true true = refl
turned true false = refl
turned false true = refl
turned false false = refl

pointwise_same : (u v : List ℕ) → pointwise ◌==◌ u v ≡ same u v
pointwise_same [] [] = refl
pointwise_same [] (b ∷ v) = refl
pointwise_same (a ∷ u) [] = refl
pointwise_same (a ∷ u) (b ∷ v) = turned (a == b) (pointwise ◌==◌ u v) ∙ ap (λ (t : Bool). t && (a == b)) (pointwise_same u v)

pub returns : goal.returns
returns c = c.eq.ensures ∙ pointwise_same c.args.word.now c.args.other.now
