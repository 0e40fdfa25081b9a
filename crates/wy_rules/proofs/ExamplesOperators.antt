-- Operations that are refused, by the operand whose type is wrong.
use Rattle.std.proofs.Common.{ℕ, List, [], ◌∷◌, refl, sym, subst, inl, inr, Some, None, map, take}
use Rattle.wy_text.specs.declared.fault.RuleName.TheVariants.{TOp}
use Rattle.wy_text.specs.Members.{In}
use Rattle.wy_types.specs.declared.types.TypeRef.{TypeRef}
use Rattle.wy_types.specs.declared.types.TypeRef.TheVariants.{Int, Bool, Text}
use Rattle.wy_types.specs.declared.code.BinaryOperator.TheVariants.{Add, Equal}
use Rattle.wy_types.specs.declared.code.TextOperator.TheVariants.{Part}
use Rattle.wy_types.specs.Code as code
use Rattle.wy_rules.specs.Readings.{annotated_reading}
use Rattle.wy_rules.specs.Operators.{Row, row, two}
use Rattle.wy_rules.specs.Typing.{AllHaveAt}
use Rattle.wy_rules.specs.Failing.{IsScopeFault}
use Rattle.wy_rules.proofs.Laboratory.{lab, lab_program, x, i, t, fault, laws, in_body, i_has, i_not, t_has, t_not, x_not}
use Rattle.wy_rules.proofs.Needs.{first_has, others_have, all_at, none_at, binary_needs, text_needs}
use Rattle.wy_rules.proofs.Sources.{at, one, last}

-- values of the one body have these types
abbrev Have : code.Block → TypeRef → code.Values → List TypeRef → Type 0
Have b r xs ts = AllHaveAt (annotated_reading (lab_program b r) 0) (lab b r) [] (Some 0) xs ts

-- where no row of a table fits
none_of : (P : Row → Type 0) (q : Row) → (P q → ⊥) → ((r : Row) × In r (q ∷ []) × P r) → ⊥
none_of P q n h = elim h.1 [ inl e ↦ n (subst P (sym e) h.2) | inr z ↦ z ]

none_of_three : (P : Row → Type 0) (a b c : Row) → (P a → ⊥) → (P b → ⊥) → (P c → ⊥) → ((r : Row) × In r (a ∷ b ∷ c ∷ []) × P r) → ⊥
none_of_three P a b c l m n h = elim h.1 [
  | inl e ↦ l (subst P (sym e) h.2)
  | inr (inl e) ↦ m (subst P (sym e) h.2)
  | inr (inr (inl e)) ↦ n (subst P (sym e) h.2)
  | inr (inr (inr z)) ↦ z
]

-- the first operands have a row's types, or all have
abbrev FirstHave : code.Block → TypeRef → code.Values → ℕ → Row → Type 0
FirstHave b r xs n q = Have b r xs (map (λ v. v) (take n q.operands))

abbrev WholeHave : code.Block → TypeRef → code.Values → Row → Type 0
WholeHave b r xs q = Have b r xs (map (λ v. v) q.operands)

abbrev pair : code.Expr → code.Expr → code.Values
pair a b = code.more (code.Plain a) (one b)

------------------------------------------------------------
-- 10      t + i           the first operand is no number

abbrev text_plus : code.Block
text_plus = last (code.Binary (at 10 7) Add (t 5) (i 9))

first_operand_refused : IsScopeFault (lab_program text_plus Int) 0 (lab text_plus Int) (fault 7 TOp 1)
first_operand_refused =
    let y = annotated_reading (lab_program text_plus Int) 0 in
    let w = laws text_plus Int in
    let s = lab text_plus Int in
    let wrong = t_not text_plus Int [] 5 Int (λ e. cc) (λ o. o) in
    in_body text_plus Int [] (fault 7 TOp 1) (inl (record {
      expected = None;
      atom = None;
      spot = refl;
      stands_not = λ h. none_of (WholeHave text_plus Int (pair (t 5) (i 9))) (two Int Int) (λ g. wrong (first_has y w s [] (Some 0) _ _ Int _ g)) (binary_needs y w s [] (Some 0) (at 10 7) Add (t 5) (i 9) h);
      premise = ((0, refl, (two Int Int, inl refl, none_at y w s [] (Some 0)), none_of (FirstHave text_plus Int (one (t 5)) 1) (two Int Int) (λ g. wrong (first_has y w s [] (Some 0) _ _ Int _ g))), refl);
      place = refl;
      rule = refl;
      lacks = refl;
    }))

------------------------------------------------------------
-- 10      i + t           the second is none

abbrev plus_text : code.Block
plus_text = last (code.Binary (at 10 7) Add (i 5) (t 9))

second_operand_refused : IsScopeFault (lab_program plus_text Int) 0 (lab plus_text Int) (fault 7 TOp 2)
second_operand_refused =
    let y = annotated_reading (lab_program plus_text Int) 0 in
    let w = laws plus_text Int in
    let s = lab plus_text Int in
    let wrong : Have plus_text Int (pair (i 5) (t 9)) (Int ∷ Int ∷ []) → ⊥ = λ g.
    t_not plus_text Int [] 9 Int (λ e. cc) (λ o. o) (first_has y w s [] (Some 0) _ _ Int [] (others_have y w s [] (Some 0) _ _ Int (Int ∷ []) g)) in
    in_body plus_text Int [] (fault 7 TOp 2) (inl (record {
      expected = None;
      atom = None;
      spot = refl;
      stands_not = λ h. none_of (WholeHave plus_text Int (pair (i 5) (t 9))) (two Int Int) wrong (binary_needs y w s [] (Some 0) (at 10 7) Add (i 5) (t 9) h);
      premise = (
        (1, refl, (two Int Int, inl refl, all_at y w s [] (Some 0) _ _ Int [] (i_has plus_text Int [] 5) (none_at y w s [] (Some 0))), none_of (FirstHave plus_text Int (pair (i 5) (t 9)) 2) (two Int Int) wrong),
        refl,
      );
      place = refl;
      rule = refl;
      lacks = refl;
    }))

------------------------------------------------------------
-- 10      text_part(t, i, t)          the third is none

abbrev part_to_text : code.Block
part_to_text = last (code.TextCall (at 10 5) Part (code.more (code.Plain (t 15)) (pair (i 18) (t 21))))

third_operand_refused : IsScopeFault (lab_program part_to_text Text) 0 (lab part_to_text Text) (fault 5 TOp 3)
third_operand_refused =
    let y = annotated_reading (lab_program part_to_text Text) 0 in
    let w = laws part_to_text Text in
    let s = lab part_to_text Text in
    let whole : Row = row (Text ∷ Int ∷ Int ∷ []) Text in
    let xs : code.Values = code.more (code.Plain (t 15)) (pair (i 18) (t 21)) in
    let wrong : Have part_to_text Text (code.more (code.Plain (t 15)) (pair (i 18) (t 21))) (Text ∷ Int ∷ Int ∷ []) → ⊥ = λ g.
    t_not part_to_text Text [] 21 Int (λ e. cc) (λ o. o)
    (first_has y w s [] (Some 0) _ _ Int [] (others_have y w s [] (Some 0) _ _ Int (Int ∷ []) (others_have y w s [] (Some 0) _ _ Text (Int ∷ Int ∷ []) g))) in
    in_body part_to_text Text [] (fault 5 TOp 3) (inl (record {
      expected = None;
      atom = None;
      spot = refl;
      stands_not = λ h. none_of (WholeHave part_to_text Text xs) whole wrong (text_needs y w s [] (Some 0) (at 10 5) Part xs h);
      premise = (
        (
          2,
          refl,
          (whole, inl refl, all_at y w s [] (Some 0) _ _ Text _ (t_has part_to_text Text [] 15) (all_at y w s [] (Some 0) _ _ Int [] (i_has part_to_text Text [] 18) (none_at y w s [] (Some 0)))),
          none_of (FirstHave part_to_text Text xs 3) whole wrong,
        ),
        refl,
      );
      place = refl;
      rule = refl;
      lacks = refl;
    }))

------------------------------------------------------------
-- 10      i == t          the second is not of the first's type

abbrev number_is_text : code.Block
number_is_text = last (code.Binary (at 10 7) Equal (i 5) (t 10))

other_type_refused : IsScopeFault (lab_program number_is_text Bool) 0 (lab number_is_text Bool) (fault 7 TOp 2)
other_type_refused =
    let y = annotated_reading (lab_program number_is_text Bool) 0 in
    let w = laws number_is_text Bool in
    let s = lab number_is_text Bool in
    let numbers : Have number_is_text Bool (pair (i 5) (t 10)) (Int ∷ Int ∷ []) → ⊥ = λ g.
    t_not number_is_text Bool [] 10 Int (λ e. cc) (λ o. o) (first_has y w s [] (Some 0) _ _ Int [] (others_have y w s [] (Some 0) _ _ Int (Int ∷ []) g)) in
    let truths : Have number_is_text Bool (pair (i 5) (t 10)) (Bool ∷ Bool ∷ []) → ⊥ = λ g.
    i_not number_is_text Bool [] 5 Bool (λ e. cc) (λ o. o) (first_has y w s [] (Some 0) _ _ Bool (Bool ∷ []) g) in
    let texts : Have number_is_text Bool (pair (i 5) (t 10)) (Text ∷ Text ∷ []) → ⊥ = λ g.
    i_not number_is_text Bool [] 5 Text (λ e. cc) (λ o. o) (first_has y w s [] (Some 0) _ _ Text (Text ∷ []) g) in
    in_body number_is_text Bool [] (fault 7 TOp 2) (inl (record {
      expected = None;
      atom = None;
      spot = refl;
      stands_not = λ h.
          none_of_three (WholeHave number_is_text Bool (pair (i 5) (t 10))) (two Int Bool) (two Bool Bool) (two Text Bool) numbers truths texts
          (binary_needs y w s [] (Some 0) (at 10 7) Equal (i 5) (t 10) h);
      premise = (
        (
          1,
          refl,
          (two Int Bool, inl refl, all_at y w s [] (Some 0) _ _ Int [] (i_has number_is_text Bool [] 5) (none_at y w s [] (Some 0))),
          none_of_three (FirstHave number_is_text Bool (pair (i 5) (t 10)) 2) (two Int Bool) (two Bool Bool) (two Text Bool) numbers truths texts,
        ),
        refl,
      );
      place = refl;
      rule = refl;
      lacks = refl;
    }))

------------------------------------------------------------
-- 10      x == x          objects are not compared

abbrev object_is_object : code.Block
object_is_object = last (code.Binary (at 10 7) Equal (x 5) (x 10))

objects_refused : IsScopeFault (lab_program object_is_object Bool) 0 (lab object_is_object Bool) (fault 7 TOp 1)
objects_refused =
    let y = annotated_reading (lab_program object_is_object Bool) 0 in
    let w = laws object_is_object Bool in
    let s = lab object_is_object Bool in
    let number = x_not object_is_object Bool [] 5 Int (λ e. cc) (λ o. o) in
    let truth = x_not object_is_object Bool [] 5 Bool (λ e. cc) (λ o. o) in
    let text = x_not object_is_object Bool [] 5 Text (λ e. cc) (λ o. o) in
    in_body object_is_object Bool [] (fault 7 TOp 1) (inl (record {
      expected = None;
      atom = None;
      spot = refl;
      stands_not = λ h.
          none_of_three (WholeHave object_is_object Bool (pair (x 5) (x 10))) (two Int Bool) (two Bool Bool) (two Text Bool)
          (λ g. number (first_has y w s [] (Some 0) _ _ Int _ g)) (λ g. truth (first_has y w s [] (Some 0) _ _ Bool _ g)) (λ g. text (first_has y w s [] (Some 0) _ _ Text _ g))
          (binary_needs y w s [] (Some 0) (at 10 7) Equal (x 5) (x 10) h);
      premise = (
        (
          0,
          refl,
          (two Int Bool, inl refl, none_at y w s [] (Some 0)),
          none_of_three (FirstHave object_is_object Bool (one (x 5)) 1) (two Int Bool) (two Bool Bool) (two Text Bool)
              (λ g. number (first_has y w s [] (Some 0) _ _ Int _ g)) (λ g. truth (first_has y w s [] (Some 0) _ _ Bool _ g)) (λ g. text (first_has y w s [] (Some 0) _ _ Text _ g)),
        ),
        refl,
      );
      place = refl;
      rule = refl;
      lacks = refl;
    }))
