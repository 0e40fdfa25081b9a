-- The operands that an operator takes, by the row that is read and by the result that code finds.
use Rattle.std.proofs.Common.{◌≡◌, ℕ, refl, sym, ap, Option, Some, None, Bool as Truth, true, false}
use Rattle.std.specs.Prelude.{if◌then◌else◌}
use Rattle.wy_types.specs.declared.types.TypeRef.{TypeRef}
use Rattle.wy_types.specs.declared.types.TypeRef.TheVariants.{Int, Bool, Text, Unit as Nothing, Named, At, Own}
use Rattle.wy_types.specs.declared.code.UnaryOperator.{UnaryOperator}
use Rattle.wy_types.specs.declared.code.UnaryOperator.TheVariants.{Negate, Not}
use Rattle.wy_types.specs.declared.code.BinaryOperator.{BinaryOperator}
use Rattle.wy_types.specs.declared.code.BinaryOperator.TheVariants.{Add, Subtract, Multiply, Divide, Remainder, Join, Less, LessOrEqual, Greater, GreaterOrEqual, Equal, NotEqual, And, Or}
use Rattle.wy_rules.specs.Operators.{equality_rows, unary_rows, binary_rows}
use Rattle.wy_rules.specs.Canonical.{both, same_type, first_row, row_of, first_operand, second_operand}
use Rattle.wy_rules.proofs.SameTypes.{types_are_told_apart}
use Rattle.wy_premises.specs.Operators.{result_in, unary_result, binary_result}
use Rattle.wy_types.specs.Program.{Program}
use Rattle.wy_proving.specs.OneReading.{reading_at}

-- a premise fails where nothing is found, and else the result is the row's
abbrev pub Takes : Truth → Truth → TypeRef → Option TypeRef → Type 0
Takes premise holds given None = premise ≡ false
Takes premise holds given (Some t) = (premise ≡ holds) × (t ≡ given)

-- one row whose first operand is a type
one_taken : (b : Truth) (given : TypeRef) → Takes b true given (if b then Some given else None)
one_taken true given = (refl, refl)
one_taken false given = refl

-- .. whose operands are both of it
two_taken : (k l t given : TypeRef) → Takes (both (same_type k t) (same_type l t)) (same_type l k) given (if same_type k t then Some given else None)
two_taken k l t given =
    elim (same_type k t) as (λ b. same_type k t ≡ b → Takes (both b (same_type l t)) (same_type l k) given (if b then Some given else None)) [
      | true ↦ λ h. (ap (same_type l) (sym ((types_are_told_apart k t).0 h)), refl)
      | false ↦ λ h. refl
    ] refl

module _ (p : Program) (n : ℕ) (plain : Truth) where
  equality_taken : (k l : TypeRef) →
      let r = row_of (reading_at p n plain) same_type equality_rows k in
      Takes (both (same_type k (first_operand (reading_at p n plain) r.operands)) (same_type l (second_operand (reading_at p n plain) r.operands))) (same_type l k) r.result (result_in equality_rows k)
  equality_taken Int l = (refl, refl)
  equality_taken Bool l = (refl, refl)
  equality_taken Text l = (refl, refl)
  equality_taken Nothing l = refl
  equality_taken (Named d es) l = refl
  equality_taken (At d e) l = refl
  equality_taken (Own i) l = refl

  pub unary_taken : (op : UnaryOperator) (k : TypeRef) → Takes (same_type k (first_operand (reading_at p n plain) (first_row (unary_rows op)).operands)) true (first_row (unary_rows op)).result (unary_result op k)
  unary_taken Negate k = one_taken (same_type k Int) Int
  unary_taken Not k = one_taken (same_type k Bool) Bool

  pub binary_taken : (op : BinaryOperator) (k l : TypeRef) →
      let r = row_of (reading_at p n plain) same_type (binary_rows op) k in
      Takes (both (same_type k (first_operand (reading_at p n plain) r.operands)) (same_type l (second_operand (reading_at p n plain) r.operands))) (same_type l k) r.result (binary_result op k)
  binary_taken Add k l = two_taken k l Int Int
  binary_taken Subtract k l = two_taken k l Int Int
  binary_taken Multiply k l = two_taken k l Int Int
  binary_taken Divide k l = two_taken k l Int Int
  binary_taken Remainder k l = two_taken k l Int Int
  binary_taken Join k l = two_taken k l Text Text
  binary_taken Less k l = two_taken k l Int Bool
  binary_taken LessOrEqual k l = two_taken k l Int Bool
  binary_taken Greater k l = two_taken k l Int Bool
  binary_taken GreaterOrEqual k l = two_taken k l Int Bool
  binary_taken Equal k l = equality_taken k l
  binary_taken NotEqual k l = equality_taken k l
  binary_taken And k l = two_taken k l Bool Bool
  binary_taken Or k l = two_taken k l Bool Bool
