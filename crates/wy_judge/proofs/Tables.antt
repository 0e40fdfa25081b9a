-- The rows of the operators' tables, by the type of the first operand: there is at most one row for a type, and an operator's
-- result is that row's.
use Rattle.std.proofs.Common.{◌≡◌, List, [], ◌∷◌, inl, inr, refl, sym, ◌∙◌, ap, subst, Option, Some}
use Rattle.wy_text.specs.Members.{In}
use Rattle.wy_types.specs.declared.types.TypeRef.{TypeRef}
use Rattle.wy_types.specs.declared.types.TypeRef.TheVariants.{Int, Bool, Text, Unit as Nothing, Named, At, Own}
use Rattle.wy_types.specs.declared.code.UnaryOperator.{UnaryOperator}
use Rattle.wy_types.specs.declared.code.UnaryOperator.TheVariants.{Negate, Not}
use Rattle.wy_types.specs.declared.code.BinaryOperator.{BinaryOperator}
use Rattle.wy_types.specs.declared.code.BinaryOperator.TheVariants.{Add, Subtract, Multiply, Divide, Remainder, Join, Less, LessOrEqual, Greater, GreaterOrEqual, Equal, NotEqual, And, Or}
use Rattle.wy_types.specs.Types.{IsObject}
use Rattle.wy_rules.specs.Operators.{Row, row, unary_rows, equality_rows, binary_rows}
use Rattle.wy_premises.specs.Operators.{result_in, unary_result, binary_result}

-- an operand of the type, and the others that go with it
abbrev pub row_at : (TypeRef → List TypeRef) → TypeRef → TypeRef → Row
row_at others a c = row (a ∷ others a) c

-- no other operand, and one of the same type
abbrev pub no_others : TypeRef → List TypeRef
no_others a = []

abbrev pub same_other : TypeRef → List TypeRef
same_other a = a ∷ []

-- a row that has a base type's result
pub record IsRowOf (others : TypeRef → List TypeRef) (result : TypeRef → Option TypeRef) (r : Row) : Type 0 where
  pub operand : TypeRef
  pub typ : TypeRef
  pub is : r ≡ row_at others operand typ
  pub base : IsObject operand → ⊥
  pub base_result : IsObject typ → ⊥
  pub gives : result operand ≡ Some typ

-- the rows are those of the operator's results
pub record IsTable (others : TypeRef → List TypeRef) (rows : List Row) (result : TypeRef → Option TypeRef) : Type 0 where
  pub row_for : (t c : TypeRef) → result t ≡ Some c → In (row_at others t c) rows
  pub rows_are : (r : Row) → In r rows → IsRowOf others result r
  pub some_row : (r : Row) × In r rows

-- the operator's result is of a base type
pub base_of : (others : TypeRef → List TypeRef) (rows : List Row) (result : TypeRef → Option TypeRef) (table : IsTable others rows result) (t c : TypeRef) → result t ≡ Some c → IsObject c → ⊥
base_of others rows result table t c g =
    let m = table.rows_are (row_at others t c) (table.row_for t c g) in
    let same : c ≡ m.typ = ap (λ (v : Row). v.result) m.is in
    subst (λ v. IsObject v → ⊥) (sym same) m.base_result

------------------------------------------------------------
-- What is asked of the first operand

only_int : (c t d : TypeRef) → result_in (row (Int ∷ []) c ∷ []) t ≡ Some d → (Int ≡ t) × (c ≡ d)
only_int c Int d e = (refl, cc)
only_int c Bool d e = absurd (cc)
only_int c Text d e = absurd (cc)
only_int c Nothing d e = absurd (cc)
only_int c (Named n members) d e = absurd (cc)
only_int c (At n bound) d e = absurd (cc)
only_int c (Own l) d e = absurd (cc)

only_bool : (c t d : TypeRef) → result_in (row (Bool ∷ []) c ∷ []) t ≡ Some d → (Bool ≡ t) × (c ≡ d)
only_bool c Int d e = absurd (cc)
only_bool c Bool d e = (refl, cc)
only_bool c Text d e = absurd (cc)
only_bool c Nothing d e = absurd (cc)
only_bool c (Named n members) d e = absurd (cc)
only_bool c (At n bound) d e = absurd (cc)
only_bool c (Own l) d e = absurd (cc)

only_text : (c t d : TypeRef) → result_in (row (Text ∷ []) c ∷ []) t ≡ Some d → (Text ≡ t) × (c ≡ d)
only_text c Int d e = absurd (cc)
only_text c Bool d e = absurd (cc)
only_text c Text d e = (refl, cc)
only_text c Nothing d e = absurd (cc)
only_text c (Named n members) d e = absurd (cc)
only_text c (At n bound) d e = absurd (cc)
only_text c (Own l) d e = absurd (cc)

------------------------------------------------------------
-- Tables

row_of : (others : TypeRef → List TypeRef) (result : TypeRef → Option TypeRef) (a c : TypeRef) (r : Row) → (IsObject a → ⊥) → (IsObject c → ⊥) → result a ≡ Some c → row_at others a c ≡ r → IsRowOf others result r
row_of others result a c r b d g e = record { operand = a; typ = c; is = sym e; base = b; base_result = d; gives = g }

-- a table of one row
one_row : (others : TypeRef → List TypeRef) (result : TypeRef → Option TypeRef) (a c : TypeRef) → (IsObject a → ⊥) → (IsObject c → ⊥) → result a ≡ Some c →
    ((t d : TypeRef) → result t ≡ Some d → (a ≡ t) × (c ≡ d)) → IsTable others (row_at others a c ∷ []) result
one_row others result a c b d g only = record {
  row_for = λ t u e. (let both = only t u e in let first : a ≡ t = both.0 in let second : c ≡ u = both.1 in inl (cc));
  rows_are = λ r i. elim i [ inl e ↦ row_of others result a c r b d g e | inr z ↦ absurd z ];
  some_row = (row_at others a c, inl refl);
}

pub unary_table : (op : UnaryOperator) → IsTable no_others (unary_rows op) (unary_result op)
unary_table Negate = one_row no_others (unary_result Negate) Int Int (λ o. o) (λ o. o) refl (λ t d e. only_int Int t d e)
unary_table Not = one_row no_others (unary_result Not) Bool Bool (λ o. o) (λ o. o) refl (λ t d e. only_bool Bool t d e)

equality_row_for : (t c : TypeRef) → result_in equality_rows t ≡ Some c → In (row_at same_other t c) equality_rows
equality_row_for Int c e = inl (cc)
equality_row_for Bool c e = inr (inl (cc))
equality_row_for Text c e = inr (inr (inl (cc)))
equality_row_for Nothing c e = absurd (cc)
equality_row_for (Named n members) c e = absurd (cc)
equality_row_for (At n bound) c e = absurd (cc)
equality_row_for (Own l) c e = absurd (cc)

equality_table : (result : TypeRef → Option TypeRef) → ((t : TypeRef) → result t ≡ result_in equality_rows t) → IsTable same_other equality_rows result
equality_table result same = record {
  row_for = λ t c e. equality_row_for t c (sym (same t) ∙ e);
  rows_are = λ r i. elim i [
    | inl e ↦ row_of same_other result Int Bool r (λ o. o) (λ o. o) (same Int) e
    | inr j ↦ elim j [
      | inl e ↦ row_of same_other result Bool Bool r (λ o. o) (λ o. o) (same Bool) e
      | inr h ↦ elim h [
        | inl e ↦ row_of same_other result Text Bool r (λ o. o) (λ o. o) (same Text) e
        | inr z ↦ absurd z
      ]
    ]
  ];
  some_row = (row_at same_other Int Bool, inl refl);
}

two_ints : (op : BinaryOperator) (c : TypeRef) → (IsObject c → ⊥) → ((t : TypeRef) → binary_result op t ≡ result_in (row (Int ∷ []) c ∷ []) t) → IsTable same_other (row_at same_other Int c ∷ []) (binary_result op)
two_ints op c b same = one_row same_other (binary_result op) Int c (λ o. o) b (same Int) (λ t d e. only_int c t d (sym (same t) ∙ e))

two_bools : (op : BinaryOperator) → ((t : TypeRef) → binary_result op t ≡ result_in (row (Bool ∷ []) Bool ∷ []) t) → IsTable same_other (row_at same_other Bool Bool ∷ []) (binary_result op)
two_bools op same = one_row same_other (binary_result op) Bool Bool (λ o. o) (λ o. o) (same Bool) (λ t d e. only_bool Bool t d (sym (same t) ∙ e))

two_texts : (op : BinaryOperator) → ((t : TypeRef) → binary_result op t ≡ result_in (row (Text ∷ []) Text ∷ []) t) → IsTable same_other (row_at same_other Text Text ∷ []) (binary_result op)
two_texts op same = one_row same_other (binary_result op) Text Text (λ o. o) (λ o. o) (same Text) (λ t d e. only_text Text t d (sym (same t) ∙ e))

pub binary_table : (op : BinaryOperator) → IsTable same_other (binary_rows op) (binary_result op)
binary_table Add = two_ints Add Int (λ o. o) (λ t. refl)
binary_table Subtract = two_ints Subtract Int (λ o. o) (λ t. refl)
binary_table Multiply = two_ints Multiply Int (λ o. o) (λ t. refl)
binary_table Divide = two_ints Divide Int (λ o. o) (λ t. refl)
binary_table Remainder = two_ints Remainder Int (λ o. o) (λ t. refl)
binary_table Join = two_texts Join (λ t. refl)
binary_table Less = two_ints Less Bool (λ o. o) (λ t. refl)
binary_table LessOrEqual = two_ints LessOrEqual Bool (λ o. o) (λ t. refl)
binary_table Greater = two_ints Greater Bool (λ o. o) (λ t. refl)
binary_table GreaterOrEqual = two_ints GreaterOrEqual Bool (λ o. o) (λ t. refl)
binary_table Equal = equality_table (binary_result Equal) (λ t. refl)
binary_table NotEqual = equality_table (binary_result NotEqual) (λ t. refl)
binary_table And = two_bools And (λ t. refl)
binary_table Or = two_bools Or (λ t. refl)
