-- The method that a call finds: its parameters and its effect.
use Rattle.std.proofs.Common.{◌≡◌, ℕ, Bool, List, [], take, drop, subst, Option, Some, Result}
use Rattle.std.specs.Prelude.{◌↔◌, IfOk, IsTrue}
use Rattle.wy_verified.specs.declared.known.Kind.{Kind}
use Rattle.wy_verified.specs.declared.known.Known.{Known}
use Rattle.wy_verified.specs.Images.{Image}
use Rattle.wy_verified.specs.Kinds.{MethodType, methods, AllFit, Within}
use Rattle.wy_verified.specs.Rules.{reversed}
use Rattle.wy_verified.specs.Walking.{CallTypes, MethodEffect, top_kind}
use Rattle.wy_verify.specs.Sites.{Site}
use Rattle.wy_verify.specs.Turns.{IsCalled, IsWithinEffect}

module _ (s : Site) (known : Known) (m n : ℕ) where
  abbrev Effect : Option MethodType → Type 0
  Effect o = MethodEffect s.image s.x s.owner s.body s.bounds s.held o

  -- the test of the found method's effect decides the rule
  pub within_found : (image : Image) (k : Kind) (g : MethodType) (b : Bool) → image ≡ s.image →
      k ≡ top_kind (drop n known.operands) → Some g ≡ methods image k m → (IsTrue b ↔ Within g.effect s.bounds.effect) →
      (IsTrue b ↔ IsWithinEffect s known m n)
  within_found image k g b e f found h =
      subst (λ (i : Image). IsTrue b ↔ Effect (methods i (top_kind (drop n known.operands)) m)) e
      (subst (λ (k : Kind). IsTrue b ↔ Effect (methods image k m)) f
      (subst (λ (o : Option MethodType). IsTrue b ↔ Effect o) found h))

  abbrev Types : {E : Type 0} → Result Bool E → List Kind → Option MethodType → Type 0
  Types r ks o = IfOk r (λ b. IsTrue b ↔ CallTypes s.image s.x s.owner s.body s.bounds s.held ks o)

  -- the test of the arguments decides the rule
  pub called_found : {E : Type 0} (image : Image) (k : Kind) (g : MethodType) (ks : List Kind) (r : Result Bool E) →
      image ≡ s.image → k ≡ top_kind (drop n known.operands) → Some g ≡ methods image k m →
      ks ≡ reversed (take n known.operands) [] → IfOk r (λ b. IsTrue b ↔ AllFit s.image ks g.params) →
      IfOk r (λ b. IsTrue b ↔ IsCalled s known m n)
  called_found image k g ks r e f found same h =
      subst (λ (i : Image). Types r (reversed (take n known.operands) []) (methods i (top_kind (drop n known.operands)) m)) e
      (subst (λ (k : Kind). Types r (reversed (take n known.operands) []) (methods image k m)) f
      (subst (λ (o : Option MethodType). Types r (reversed (take n known.operands) []) o) found
      (subst (λ (ks : List Kind). Types r ks (Some g)) same h)))
