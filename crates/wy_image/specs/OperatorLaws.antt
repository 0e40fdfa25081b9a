-- Operators: a byte each.
use Rattle.std.proofs.Common.{◌≡◌, ◌≤◌, List, [], ◌∷◌, length, get_or, refl, sym, ap, ◌∙◌, lit≤}
use Rattle.wy_spelling.specs.Spelling.{AreApart}
use Rattle.wy_image.specs.Spelled.{IsOperatorSpelled, operator_byte, operator_bytes}
use Rattle.wy_code.specs.declared.instruction.Operator.{Operator}
use Rattle.wy_code.specs.declared.instruction.Operator.TheVariants as v
use Rattle.wy_spelling.specs.Kinds.{Kind}

-- one that has a spelling
pub some_operator : (x : Operator) × IsOperatorSpelled x
some_operator = (v.Add, tt)

-- each has a byte
pub operators_filled : (x : Operator) → 1 ≤ length (operator_bytes x)
operators_filled x = lit≤ tt

-- each at the place of its byte
abbrev all : List Operator
all =
    v.Add ∷ v.Subtract ∷ v.Multiply ∷ v.Divide ∷ v.Remainder ∷ v.Negate ∷ v.Less ∷ v.LessOrEqual ∷ v.Greater ∷
    v.GreaterOrEqual ∷ v.Equal ∷ v.NotEqual ∷ v.Not ∷ v.Join ∷ v.Size ∷ v.Part ∷ v.Code ∷ v.Byte ∷ v.Show ∷ []

found_at : (x : Operator) → get_or all (operator_byte x) v.Add ≡ x
found_at v.Add = refl
found_at v.Subtract = refl
found_at v.Multiply = refl
found_at v.Divide = refl
found_at v.Remainder = refl
found_at v.Negate = refl
found_at v.Less = refl
found_at v.LessOrEqual = refl
found_at v.Greater = refl
found_at v.GreaterOrEqual = refl
found_at v.Equal = refl
found_at v.NotEqual = refl
found_at v.Not = refl
found_at v.Join = refl
found_at v.Size = refl
found_at v.Part = refl
found_at v.Code = refl
found_at v.Byte = refl
found_at v.Show = refl

-- no bytes begin those of another
pub operators_apart : AreApart IsOperatorSpelled operator_bytes
operators_apart x y others more is_x is_y e =
    let same : operator_byte x ≡ operator_byte y = cc in
    (sym (found_at x) ∙ ap (λ byte. get_or all byte v.Add) same ∙ found_at y, cc)

-- the kind
abbrev pub operator_kind : Kind
operator_kind = record {
  Value = Operator;
  IsSpelled = IsOperatorSpelled;
  bytes_of = operator_bytes;
  some = some_operator;
  apart = operators_apart;
  filled = operators_filled;
}
