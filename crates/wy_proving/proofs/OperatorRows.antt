-- The row of an operator that is taken, where the operands have the types of a row exactly.
use Rattle.std.proofs.Common.{◌≡◌, List, [], ◌∷◌, map, inl, inr, refl, sym, ◌∙◌, ap, subst, Bool as Truth, true, false}
use Rattle.wy_text.specs.Members.{In}
use Rattle.wy_types.specs.declared.types.TypeRef.{TypeRef}
use Rattle.wy_types.specs.declared.types.TypeRef.TheVariants.{Int, Bool, Text}
use Rattle.wy_types.specs.declared.code.UnaryOperator.{UnaryOperator}
use Rattle.wy_types.specs.declared.code.UnaryOperator.TheVariants.{Negate, Not}
use Rattle.wy_types.specs.declared.code.BinaryOperator.{BinaryOperator}
use Rattle.wy_types.specs.declared.code.BinaryOperator.TheVariants.{Add, Subtract, Multiply, Divide, Remainder, Join, Less, LessOrEqual, Greater, GreaterOrEqual, Equal, NotEqual, And, Or}
use Rattle.wy_types.specs.declared.code.TextOperator.{TextOperator}
use Rattle.wy_types.specs.declared.code.TextOperator.TheVariants.{Size, Part, Code, Byte, Show}
use Rattle.wy_rules.specs.Readings.{Reading}
use Rattle.wy_rules.specs.Operators.{Row, two, equality_rows, unary_rows, binary_rows, text_rows}
use Rattle.wy_rules.specs.Canonical.{first_row, first_operand, row_of, row_or}
use Rattle.wy_rules.proofs.Writing.{Exact}

only : (a r : Row) → In r (a ∷ []) → a ≡ r
only a r (inl e) = e
only a r (inr i) = absurd i

pub unary_only : (op : UnaryOperator) (r : Row) → In r (unary_rows op) → first_row (unary_rows op) ≡ r
unary_only Negate r i = only _ r i
unary_only Not r i = only _ r i

pub text_only : (op : TextOperator) (r : Row) → In r (text_rows op) → first_row (text_rows op) ≡ r
text_only Size r i = only _ r i
text_only Part r i = only _ r i
text_only Code r i = only _ r i
text_only Byte r i = only _ r i
text_only Show r i = only _ r i

-- what is taken is a row of the operator's, with as many operands
pub unary_row : (op : UnaryOperator) → In (first_row (unary_rows op)) (unary_rows op) × ((t : TypeRef) × ((first_row (unary_rows op)).operands ≡ t ∷ []))
unary_row Negate = (inl refl, (Int, refl))
unary_row Not = (inl refl, (Bool, refl))

pub text_row : (op : TextOperator) → In (first_row (text_rows op)) (text_rows op)
text_row Size = inl refl
text_row Part = inl refl
text_row Code = inl refl
text_row Byte = inl refl
text_row Show = inl refl

-- a row of two operands
abbrev IsTwo : List Row → Row → Type 0
IsTwo rows r = In r rows × ((t : TypeRef) × (u : TypeRef) × (r.operands ≡ t ∷ u ∷ []))

either_two : (rows : List Row) (b : Truth) (r a : Row) → IsTwo rows r → IsTwo rows a → IsTwo rows (row_or b r a)
either_two rows true r a h g = h
either_two rows false r a h g = g

false_true : (b : Truth) → b ≡ true → b ≡ false → ⊥
false_true b e f = absurd (cc)

module _ (y : Reading) (same : y.Kind → y.Kind → Truth) where
  equality_two : (k : y.Kind) → IsTwo equality_rows (row_of y same equality_rows k)
  equality_two k =
      either_two equality_rows (same k (y.read Int)) _ _ (inl refl, (Int, Int, refl))
      (either_two equality_rows (same k (y.read Bool)) _ _ (inr (inl refl), (Bool, Bool, refl)) (inr (inr (inl refl)), (Text, Text, refl)))

  pub binary_row : (op : BinaryOperator) (k : y.Kind) → IsTwo (binary_rows op) (row_of y same (binary_rows op) k)
  binary_row Add k = (inl refl, (Int, Int, refl))
  binary_row Subtract k = (inl refl, (Int, Int, refl))
  binary_row Multiply k = (inl refl, (Int, Int, refl))
  binary_row Divide k = (inl refl, (Int, Int, refl))
  binary_row Remainder k = (inl refl, (Int, Int, refl))
  binary_row Join k = (inl refl, (Text, Text, refl))
  binary_row Less k = (inl refl, (Int, Int, refl))
  binary_row LessOrEqual k = (inl refl, (Int, Int, refl))
  binary_row Greater k = (inl refl, (Int, Int, refl))
  binary_row GreaterOrEqual k = (inl refl, (Int, Int, refl))
  binary_row Equal k = equality_two k
  binary_row NotEqual k = equality_two k
  binary_row And k = (inl refl, (Bool, Bool, refl))
  binary_row Or k = (inl refl, (Bool, Bool, refl))

module _ (y : Reading) (same : y.Kind → y.Kind → Truth) (z : Exact y same) where
  -- a row that is read as another
  pub record IsReadAs (r a : Row) : Type 0 where
    pub operands : map y.read a.operands ≡ map y.read r.operands
    pub result : y.read a.result ≡ y.read r.result

  itself : (r : Row) → IsReadAs r r
  itself r = record { operands = refl; result = refl }

  two_read : (t u : TypeRef) → y.read u ≡ y.read t → IsReadAs (two t Bool) (two u Bool)
  two_read t u e = record { operands = ap (λ (v : y.Kind). v ∷ v ∷ []) e; result = refl }

  apart : (k : y.Kind) (t : TypeRef) → k ≡ y.read t → same k (y.read t) ≡ false → ⊥
  apart k t e f = false_true (same k (y.read t)) (subst (λ v. same k v ≡ true) e (z.itself k)) f

  abbrev taken : Truth → Truth → Row
  taken b c = row_or b (two Int Bool) (row_or c (two Bool Bool) (two Text Bool))

  -- of equality, by the first operand's type
  of_number : (k : y.Kind) → k ≡ y.read Int → (b c : Truth) → same k (y.read Int) ≡ b → IsReadAs (two Int Bool) (taken b c)
  of_number k e true c f = itself (two Int Bool)
  of_number k e false c f = absurd (apart k Int e f)

  of_truth : (k : y.Kind) → k ≡ y.read Bool → (b c : Truth) → same k (y.read Int) ≡ b → same k (y.read Bool) ≡ c → IsReadAs (two Bool Bool) (taken b c)
  of_truth k e true c f g = two_read Bool Int (sym (z.exact k (y.read Int) f) ∙ e)
  of_truth k e false true f g = itself (two Bool Bool)
  of_truth k e false false f g = absurd (apart k Bool e g)

  of_text : (k : y.Kind) → k ≡ y.read Text → (b c : Truth) → same k (y.read Int) ≡ b → same k (y.read Bool) ≡ c → IsReadAs (two Text Bool) (taken b c)
  of_text k e true c f g = two_read Text Int (sym (z.exact k (y.read Int) f) ∙ e)
  of_text k e false true f g = two_read Text Bool (sym (z.exact k (y.read Bool) g) ∙ e)
  of_text k e false false f g = itself (two Text Bool)

  equality : (k : y.Kind) (r : Row) → In r equality_rows → k ≡ first_operand y r.operands → IsReadAs r (row_of y same equality_rows k)
  equality k r i e =
      let a = row_of y same equality_rows k in
      let first : (v : Row) → v ≡ r → k ≡ first_operand y v.operands = λ v f. e ∙ ap (λ (w : Row). first_operand y w.operands) (sym f) in
      let P : Row → Type 0 = λ v. IsReadAs v a in
      elim i [
        | inl f ↦ subst P f (of_number k (first (two Int Bool) f) (same k (y.read Int)) (same k (y.read Bool)) refl)
        | inr j ↦ elim j [
          | inl f ↦ subst P f (of_truth k (first (two Bool Bool) f) (same k (y.read Int)) (same k (y.read Bool)) refl refl)
          | inr l ↦ elim l [
            | inl f ↦ subst P f (of_text k (first (two Text Bool) f) (same k (y.read Int)) (same k (y.read Bool)) refl refl)
            | inr n ↦ absurd n
          ]
        ]
      ]

  single : (a r : Row) → In r (a ∷ []) → IsReadAs r a
  single a r i = subst (λ v. IsReadAs v a) (only a r i) (itself a)

  pub binary_taken : (op : BinaryOperator) (k : y.Kind) (r : Row) → In r (binary_rows op) → k ≡ first_operand y r.operands → IsReadAs r (row_of y same (binary_rows op) k)
  binary_taken Add k r i e = single _ r i
  binary_taken Subtract k r i e = single _ r i
  binary_taken Multiply k r i e = single _ r i
  binary_taken Divide k r i e = single _ r i
  binary_taken Remainder k r i e = single _ r i
  binary_taken Join k r i e = single _ r i
  binary_taken Less k r i e = single _ r i
  binary_taken LessOrEqual k r i e = single _ r i
  binary_taken Greater k r i e = single _ r i
  binary_taken GreaterOrEqual k r i e = single _ r i
  binary_taken Equal k r i e = equality k r i e
  binary_taken NotEqual k r i e = equality k r i e
  binary_taken And k r i e = single _ r i
  binary_taken Or k r i e = single _ r i
