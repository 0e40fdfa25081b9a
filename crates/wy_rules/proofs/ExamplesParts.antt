-- Other forms that are refused, by each premise of their rules.
use Rattle.std.proofs.Common.{◌≡◌, ℕ, [], ◌∷◌, refl, sym, subst, inl, inr, Option, Some, None}
use Rattle.std.specs.Prelude.{codes}
use Rattle.wy_text.specs.declared.fault.Fault.{Fault}
use Rattle.wy_text.specs.declared.fault.RuleName.TheVariants.{TNew, TIf, TSeq, TVal, TSet, TAsc, TBody}
use Rattle.wy_types.specs.declared.types.TypeRef.TheVariants.{Int, Bool, Text, Unit as Nothing}
use Rattle.wy_types.specs.declared.code.Binding.TheVariants as to
use Rattle.wy_types.specs.declared.resolved.Field.{Field}
use Rattle.wy_types.specs.Code as code
use Rattle.wy_rules.specs.Readings.{annotated_reading}
use Rattle.wy_rules.specs.Derivations.{T-Var, T-Set}
use Rattle.wy_rules.specs.Typing.{HasAt, AllHaveAt, BlockHasAt}
use Rattle.wy_rules.specs.Failing.{IsScopeFault}
use Rattle.wy_rules.proofs.Laboratory.{lab, lab_program, i, t, c, fault, laws, in_body, i_least, c_has, i_not, t_not}
use Rattle.wy_rules.proofs.Least.{choice_parts, last_has}
use Rattle.wy_rules.proofs.Needs.{first_has, new_needs, ascription_needs, assignment_needs}
use Rattle.wy_rules.proofs.Sources.{at, local, one, last, then, var_field as var}

------------------------------------------------------------
-- 10      new             the field `f` is a number
--           val f: Int = t

abbrev text_field : code.Block
text_field = last (code.New (at 10 5) 1 (one (t 14)))

text_field_refused : IsScopeFault (lab_program text_field Nothing) 0 (lab text_field Nothing) (fault 5 TNew 1)
text_field_refused =
    let y = annotated_reading (lab_program text_field Nothing) 0 in
    let wrong : AllHaveAt (annotated_reading (lab_program text_field Nothing) 0) (lab text_field Nothing) [] (Some 0) (one (t 14)) (Int ∷ []) → ⊥ = λ h.
    t_not text_field Nothing [] 14 Int (λ e. cc) (λ o. o) (first_has y (laws text_field Nothing) (lab text_field Nothing) [] (Some 0) _ _ Int [] h) in
    in_body text_field Nothing [] (fault 5 TNew 1) (inl (record {
      expected = None;
      atom = None;
      spot = refl;
      stands_not = λ h. wrong (new_needs y (laws text_field Nothing) (lab text_field Nothing) [] (Some 0) (at 10 5) 1 (one (t 14)) h);
      premise = (inl (wrong, refl), refl);
      place = refl;
      rule = refl;
      lacks = refl;
    }))

------------------------------------------------------------
-- 10      if i then () else ()        the condition is no truth value

abbrev nothing_at : ℕ → code.Block
nothing_at column = last (code.Nothing (at 10 column))

abbrev on_number : code.Block
on_number = code.Last (code.If (at 10 5) (i 8) (nothing_at 15) (nothing_at 23))

condition_refused : IsScopeFault (lab_program on_number Nothing) 0 (lab on_number Nothing) (fault 5 TIf 1)
condition_refused =
    let wrong = i_not on_number Nothing [] 8 Bool (λ e. cc) (λ o. o) in
    in_body on_number Nothing [] (fault 5 TIf 1) (inl (record {
      expected = Some Nothing;
      atom = None;
      spot = refl;
      stands_not = λ h. wrong (choice_parts (annotated_reading (lab_program on_number Nothing) 0) (laws on_number Nothing) (lab on_number Nothing) [] (Some 0) (at 10 5) (i 8) _ _ Nothing h).test_has;
      premise = (inl (wrong, refl), refl);
      place = refl;
      rule = refl;
      lacks = refl;
    }))

-- 10      if c then t else i          the first branch is no number

abbrev first_text : code.Block
first_text = code.Last (code.If (at 10 5) (c 8) (last (t 15)) (last (i 22)))

first_refused : IsScopeFault (lab_program first_text Int) 0 (lab first_text Int) (fault 5 TIf 2)
first_refused =
    let y = annotated_reading (lab_program first_text Int) 0 in
    let wrong : BlockHasAt (annotated_reading (lab_program first_text Int) 0) (lab first_text Int) [] (Some 0) (last (t 15)) Int → ⊥ = λ h.
    t_not first_text Int [] 15 Int (λ e. cc) (λ o. o) (last_has y (laws first_text Int) (lab first_text Int) [] (Some 0) _ Int h) in
    in_body first_text Int [] (fault 5 TIf 2) (inl (record {
      expected = Some Int;
      atom = None;
      spot = refl;
      stands_not = λ h. wrong (choice_parts y (laws first_text Int) (lab first_text Int) [] (Some 0) (at 10 5) (c 8) _ _ Int h).first_has;
      premise = (inr (c_has first_text Int [] 8, inl (wrong, refl)), refl);
      place = refl;
      rule = refl;
      lacks = refl;
    }))

------------------------------------------------------------
-- 10      i               a statement that isn't last gives nothing
-- 11      ()

abbrev number_statement : code.Block
number_statement = then (i 5) (nothing_at 1)

statement_refused : IsScopeFault (lab_program number_statement Nothing) 0 (lab number_statement Nothing) (fault 5 TSeq 1)
statement_refused =
    let wrong = i_not number_statement Nothing [] 5 Nothing (λ e. cc) (λ o. o) in
    in_body number_statement Nothing [] (fault 5 TSeq 1) (inl (record {
      expected = None;
      atom = None;
      spot = refl;
      stands_not = wrong;
      premise = (inl (wrong, refl), refl);
      place = refl;
      rule = refl;
      lacks = refl;
    }))

------------------------------------------------------------
-- 10      val z: Int = t  the initialiser is no number
-- 11      ()

abbrev text_val : code.Block
text_val = code.Val (at 10 9) 0 (Some Int) (code.Plain (t 18)) (nothing_at 1)

val_refused : IsScopeFault (lab_program text_val Nothing) 0 (lab text_val Nothing) (fault 9 TVal 1)
val_refused =
    let wrong = t_not text_val Nothing [] 18 Int (λ e. cc) (λ o. o) in
    in_body text_val Nothing [] (fault 9 TVal 1) (inl (record {
      expected = None;
      atom = None;
      spot = refl;
      stands_not = wrong;
      premise = (inl (wrong, refl), refl);
      place = refl;
      rule = refl;
      lacks = refl;
    }))

------------------------------------------------------------
-- 10      k = i           a `val` field is not assigned to

abbrev assigned_val : code.Block
assigned_val = last (code.Assign (at 10 5) (to.Field 1) (code.Plain (i 9)))

no_var : (v : Field) → ◌≡◌ {A = Option Field} None (Some v) → ⊥
no_var v e = absurd (cc)

assigned_val_refused : IsScopeFault (lab_program assigned_val Nothing) 0 (lab assigned_val Nothing) (fault 5 TSet 1)
assigned_val_refused =
    in_body assigned_val Nothing [] (fault 5 TSet 1) (inl (record {
      expected = None;
      atom = None;
      spot = refl;
      stands_not = λ h. (let k = assignment_needs (annotated_reading (lab_program assigned_val Nothing) 0) (laws assigned_val Nothing) (lab assigned_val Nothing) [] (Some 0) (at 10 5) (to.Field 1) _ h in no_var k.0 k.1);
      premise = (inl (λ h. no_var h.0 h.1, refl), refl);
      place = refl;
      rule = refl;
      lacks = refl;
    }))

-- 10      v = t           the field is a number

abbrev assigned_text : code.Block
assigned_text = last (code.Assign (at 10 5) (to.Field 0) (code.Plain (t 9)))

assigned_text_refused : IsScopeFault (lab_program assigned_text Nothing) 0 (lab assigned_text Nothing) (fault 5 TSet 2)
assigned_text_refused =
    let v : Field = var (at 7 7) (codes "v") Int in
    let wrong = t_not assigned_text Nothing [] 9 Int (λ e. cc) (λ o. o) in
    let P : Field → Type 0 = λ f. HasAt (annotated_reading (lab_program assigned_text Nothing) 0) (lab assigned_text Nothing) [] (Some 0) (code.Plain (t 9)) f.typ in
    in_body assigned_text Nothing [] (fault 5 TSet 2) (inl (record {
      expected = None;
      atom = None;
      spot = refl;
      stands_not = λ h.
          let k = assignment_needs (annotated_reading (lab_program assigned_text Nothing) 0) (laws assigned_text Nothing) (lab assigned_text Nothing) [] (Some 0) (at 10 5) (to.Field 0) _ h in
          wrong (subst P (same_field k.0 (var (at 7 7) (codes "v") Int) (sym k.1)) k.2);
      premise = (inr ((v, refl), inl (λ h. wrong (h v refl), refl)), refl);
      place = refl;
      rule = refl;
      lacks = refl;
    }))
  where
    same_field : (a b : Field) → ◌≡◌ {A = Option Field} (Some a) (Some b) → a ≡ b
    same_field a b e = cc

------------------------------------------------------------
-- 10      (t : Int)       the text is no number

abbrev text_as_number : code.Block
text_as_number = last (code.Ascribe (at 10 5) (code.Plain (t 6)) Int)

ascription_refused : IsScopeFault (lab_program text_as_number Int) 0 (lab text_as_number Int) (fault 5 TAsc 1)
ascription_refused =
    let wrong = t_not text_as_number Int [] 6 Int (λ e. cc) (λ o. o) in
    in_body text_as_number Int [] (fault 5 TAsc 1) (inl (record {
      expected = None;
      atom = None;
      spot = refl;
      stands_not = λ h. wrong (ascription_needs (annotated_reading (lab_program text_as_number Int) 0) (laws text_as_number Int) (lab text_as_number Int) [] (Some 0) (at 10 5) _ Int h);
      premise = (inl (wrong, refl), refl);
      place = refl;
      rule = refl;
      lacks = refl;
    }))

------------------------------------------------------------
--  9    def m(..): {} String
-- 10      i               the body gives a number; the fault is at `def`

abbrev number_result : code.Block
number_result = last (i 5)

abbrev result_fault : Fault
result_fault = record { place = at 9 3; rule = TBody; premise = 1; atom = None }

result_refused : IsScopeFault (lab_program number_result Text) 0 (lab number_result Text) result_fault
result_refused =
    let wrong : BlockHasAt (annotated_reading (lab_program number_result Text) 0) (lab number_result Text) [] (Some 0) (last (i 5)) Text → ⊥ = λ h.
    i_not number_result Text [] 5 Text (λ e. cc) (λ o. o)
    (last_has (annotated_reading (lab_program number_result Text) 0) (laws number_result Text) (lab number_result Text) [] (Some 0) _ Text h) in
    in_body number_result Text [] result_fault (inl (record {
      expected = None;
      atom = None;
      spot = refl;
      stands_not = λ h. wrong (record { effect = h.0; has = h.1 });
      premise = inl (inl (wrong, refl), refl);
      place = refl;
      rule = refl;
      lacks = refl;
    }))

------------------------------------------------------------
-- 10      val z = i       `z` has the initialiser's type
-- 11      v = z
-- 12      k = z           the assignment after it is the first that fails

abbrev after_val : code.Block
after_val =
    code.Val (at 10 9) 0 None (code.Plain (i 13))
    (then (code.Assign (at 11 5) (to.Field 0) (code.Plain (local (at 11 9) 0))) (last (code.Assign (at 12 5) (to.Field 1) (code.Plain (local (at 12 9) 0)))))

abbrev after_fault : Fault
after_fault = record { place = at 12 5; rule = TSet; premise = 1; atom = None }

z_has : HasAt (annotated_reading (lab_program after_val Nothing) 0) (lab after_val Nothing) (Int ∷ []) (Some 0) (code.Plain (code.Assign (at 11 5) (to.Field 0) (code.Plain (local (at 11 9) 0)))) Nothing
z_has = record { effect = []; has = record { derivation = T-Set (at 11 5) (T-Var (at 11 9)); derives = (var (at 7 7) (codes "v") Int, refl, refl, (refl, refl, refl), refl) } }

after_val_refused : IsScopeFault (lab_program after_val Nothing) 0 (lab after_val Nothing) after_fault
after_val_refused =
    let l = i_least after_val Nothing (Int ∷ []) 13 in
    in_body after_val Nothing (Int ∷ []) after_fault
    (inr (
      record { expected = None; spot = refl; stands = record { typ = Int; effect = []; has = l.has }; settles = (Int, [], l, refl) },
      inr (
        record { expected = None; spot = refl; stands = record { typ = Nothing; effect = z_has.effect; has = z_has.has }; settles = tt },
        inr (
          record { expected = None; spot = refl; stands = z_has; settles = tt },
          inl (record {
            expected = None;
            atom = None;
            spot = refl;
            stands_not = λ h. (let k = assignment_needs (annotated_reading (lab_program after_val Nothing) 0) (laws after_val Nothing) (lab after_val Nothing) (Int ∷ []) (Some 0) (at 12 5) (to.Field 1) _ h in no_var k.0 k.1);
            premise = (inl (λ h. no_var h.0 h.1, refl), refl);
            place = refl;
            rule = refl;
            lacks = refl;
          }),
        ),
      ),
    ))
