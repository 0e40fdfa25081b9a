-- The topmost operands, and those of operators.
use Rattle.std.proofs.Common.{◌≡◌, ℕ, zero, suc, ◌<◌, Bool, List, [], ◌∷◌, length, take, drop, inl, inr, refl, sym, ap, ◌∙◌, subst, arith}
use Rattle.std.specs.Prelude.{◌↔◌, IsTrue}
use Rattle.wy_code.specs.declared.instruction.Operator.{Operator}
use Rattle.wy_code.specs.declared.instruction.Operator.TheVariants as operator
use Rattle.wy_code.specs.Operations.{operand_count}
use Rattle.wy_verified.specs.declared.known.Kind.{Kind}
use Rattle.wy_verified.specs.declared.known.Kind.TheVariants.{Ints, Units}
use Rattle.wy_verified.specs.declared.known.Known.{Known}
use Rattle.wy_verified.specs.Images.{Image}
use Rattle.wy_verified.specs.Kinds.{IsObject, AllFit}
use Rattle.wy_verified.specs.Rules.{IsCompared, operand_kinds, reversed}
use Rattle.wy_verified.specs.Walking.{top_kind}
use Rattle.wy_verify.specs.Sites.{Site}
use Rattle.wy_verify.specs.Turns.{HasOperands, HasSame, IsOperated}
use Rattle.wy_verify.proofs.Fitting.{base_fits}

------------------------------------------------------------
-- The topmost operands

one_more : (n : ℕ) (ks ms : List Kind) → n < length ks →
    reversed (take (suc n) ks) ms ≡ top_kind (drop n ks) ∷ reversed (take n ks) ms
one_more n [] ms lt = absurd (omega (arith, lt))
one_more zero (k ∷ ks) ms lt = refl
one_more (suc n) (k ∷ ks) ms lt = one_more n ks (k ∷ ms) (omega (arith, lt))

first_same : {k l : Kind} {ks ls : List Kind} → k ∷ ks ≡ l ∷ ls → k ≡ l
first_same e = cc

rest_same : {k l : Kind} {ks ls : List Kind} → k ∷ ks ≡ l ∷ ls → ks ≡ ls
rest_same e = cc

module _ (n : ℕ) (ks : List Kind) (a x : Kind) (rest : List Kind) (lt : n < length ks) (top : x ≡ top_kind (drop n ks)) where
  pub more_has : (b : Bool) → x ≡ a → (IsTrue b ↔ (reversed (take n ks) [] ≡ rest)) →
      (IsTrue b ↔ (reversed (take (suc n) ks) [] ≡ a ∷ rest))
  more_has b e h = (
    (λ t. one_more n ks [] lt ∙ ap (λ k. k ∷ reversed (take n ks) []) (sym top ∙ e) ∙ ap (λ ks. a ∷ ks) (h.0 t)),
    (λ q. h.1 (rest_same (sym (one_more n ks [] lt) ∙ q))),
  )

  pub more_lacks : (x ≡ a → ⊥) → reversed (take (suc n) ks) [] ≡ a ∷ rest → ⊥
  more_lacks never q = never (top ∙ first_same (sym (one_more n ks [] lt) ∙ q))

------------------------------------------------------------
-- Base types

-- none is a type of objects
abbrev AreBase : List Kind → Type 0
AreBase [] = Unit {0}
AreBase (l ∷ ls) = (IsObject l → ⊥) × AreBase ls

compared_base : (k : Kind) → IsCompared k → IsObject k → ⊥
compared_base k (inl e) o = subst IsObject e o
compared_base k (inr (inl e)) o = subst IsObject e o
compared_base k (inr (inr e)) o = subst IsObject e o

module _ (image : Image) where
  -- types fit base types only if they are the same
  base_same : (ks ls : List Kind) → AreBase ls → AllFit image ks ls → ks ≡ ls
  base_same [] [] base h = refl
  base_same [] (l ∷ ls) base h = absurd h
  base_same (k ∷ ks) [] base h = absurd h
  base_same (k ∷ ks) (l ∷ ls) base h =
      ap (λ k. k ∷ ks) (base_fits image k l base.0 h.0) ∙ ap (λ ks. l ∷ ks) (base_same ks ls base.1 h.1)

  self_fit : (ks : List Kind) → AllFit image ks ks
  self_fit [] = tt
  self_fit (k ∷ ks) = (inl refl, self_fit ks)

  same_fit : (ks ls : List Kind) → ks ≡ ls → AllFit image ks ls
  same_fit ks ls e = subst (λ (t : List Kind). AllFit image ks t) e (self_fit ks)

  -- where the types are the same for each compared type
  plain : (o : Operator) (ks : List Kind) → ((k : Kind) → operand_kinds o k ≡ operand_kinds o Units) →
      AreBase (operand_kinds o Units) →
      ((ks ≡ operand_kinds o Units) ↔ ((k : Kind) × IsCompared k × AllFit image ks (operand_kinds o k)))
  plain o ks e base = (
    (λ h. (Ints, inl refl, same_fit ks (operand_kinds o Ints) (h ∙ sym (e Ints)))),
    (λ h. base_same ks (operand_kinds o Units) base (subst (λ (t : List Kind). AllFit image ks t) (e h.0) h.2)),
  )

  equal : (ks : List Kind) → (HasSame ks ↔ ((k : Kind) × IsCompared k × AllFit image ks (k ∷ k ∷ [])))
  equal ks = (
    (λ h. (h.0, h.1, same_fit ks (h.0 ∷ h.0 ∷ []) h.2)),
    (λ h. (h.0, h.1, base_same ks (h.0 ∷ h.0 ∷ []) (compared_base h.0 h.1, (compared_base h.0 h.1, tt)) h.2)),
  )

  pub operands_same : (o : Operator) (ks : List Kind) →
      (HasOperands o ks ↔ ((k : Kind) × IsCompared k × AllFit image ks (operand_kinds o k)))
  operands_same operator.Equal ks = equal ks
  operands_same operator.NotEqual ks = equal ks
  operands_same operator.Negate ks = plain operator.Negate ks (λ k. refl) ((λ x. x), tt)
  operands_same operator.Not ks = plain operator.Not ks (λ k. refl) ((λ x. x), tt)
  operands_same operator.Join ks = plain operator.Join ks (λ k. refl) ((λ x. x), ((λ x. x), tt))
  operands_same operator.Size ks = plain operator.Size ks (λ k. refl) ((λ x. x), tt)
  operands_same operator.Part ks = plain operator.Part ks (λ k. refl) ((λ x. x), ((λ x. x), ((λ x. x), tt)))
  operands_same operator.Code ks = plain operator.Code ks (λ k. refl) ((λ x. x), ((λ x. x), tt))
  operands_same operator.Byte ks = plain operator.Byte ks (λ k. refl) ((λ x. x), tt)
  operands_same operator.Show ks = plain operator.Show ks (λ k. refl) ((λ x. x), tt)
  operands_same operator.Add ks = plain operator.Add ks (λ k. refl) ((λ x. x), ((λ x. x), tt))
  operands_same operator.Subtract ks = plain operator.Subtract ks (λ k. refl) ((λ x. x), ((λ x. x), tt))
  operands_same operator.Multiply ks = plain operator.Multiply ks (λ k. refl) ((λ x. x), ((λ x. x), tt))
  operands_same operator.Divide ks = plain operator.Divide ks (λ k. refl) ((λ x. x), ((λ x. x), tt))
  operands_same operator.Remainder ks = plain operator.Remainder ks (λ k. refl) ((λ x. x), ((λ x. x), tt))
  operands_same operator.Less ks = plain operator.Less ks (λ k. refl) ((λ x. x), ((λ x. x), tt))
  operands_same operator.LessOrEqual ks = plain operator.LessOrEqual ks (λ k. refl) ((λ x. x), ((λ x. x), tt))
  operands_same operator.Greater ks = plain operator.Greater ks (λ k. refl) ((λ x. x), ((λ x. x), tt))
  operands_same operator.GreaterOrEqual ks = plain operator.GreaterOrEqual ks (λ k. refl) ((λ x. x), ((λ x. x), tt))

pub operator_same : (s : Site) (known : Known) (o : Operator) (b : Bool) →
    (IsTrue b ↔ HasOperands o (reversed (take (operand_count o) known.operands) [])) → (IsTrue b ↔ IsOperated s known o)
operator_same s known o b h =
    let e = operands_same s.image o (reversed (take (operand_count o) known.operands) []) in
    ((λ t. e.0 (h.0 t)), (λ q. h.1 (e.1 q)))
