-- Calls that are refused, by each premise of T-Call; and what becomes of an `if` where such a call leaves no type to expect.
use Rattle.std.proofs.Common.{◌≡◌, ℕ, [], ◌∷◌, refl, sym, subst, inl, inr, Option, Some, None, length, arith}
use Rattle.std.specs.Prelude.{codes}
use Rattle.wy_text.specs.declared.fault.RuleName.TheVariants.{TCall}
use Rattle.wy_types.specs.declared.types.TypeRef.{TypeRef}
use Rattle.wy_types.specs.declared.types.TypeRef.TheVariants.{Int, Unit as Nothing, Named}
use Rattle.wy_types.specs.Code as code
use Rattle.wy_types.specs.Signature.{Signature, find_method}
use Rattle.wy_types.specs.Types.{methods_of}
use Rattle.wy_rules.specs.Readings.{annotated_reading}
use Rattle.wy_rules.specs.Typing.{AllHaveAt}
use Rattle.wy_rules.specs.Failing.{IsScopeFault, IsTarget}
use Rattle.wy_rules.proofs.Laboratory.{lab, lab_program, x, n, i, t, c, fault, laws, in_body, x_least, n_least, i_least, t_not}
use Rattle.wy_rules.proofs.Needs.{call_needs, first_has, none_too_few}
use Rattle.wy_rules.proofs.Sources.{at, one, last}

same_method : (m k : Signature TypeRef) → ◌≡◌ {A = Option (Signature TypeRef)} (Some m) (Some k) → m ≡ k
same_method m k e = cc

------------------------------------------------------------
-- 10      i.go()          a number is no object

abbrev on_number : code.Block
on_number = last (code.Call (at 10 7) (i 5) (codes "go") code.none)

number_refused : IsScopeFault (lab_program on_number Nothing) 0 (lab on_number Nothing) (fault 7 TCall 1)
number_refused =
    let l = i_least on_number Nothing [] 5 in
    in_body on_number Nothing [] (fault 7 TCall 1) (inl (record {
      expected = None;
      atom = None;
      spot = refl;
      stands_not = λ h. (call_needs (annotated_reading (lab_program on_number Nothing) 0) (laws on_number Nothing) (lab on_number Nothing) [] (Some 0) (at 10 7) (i 5) (codes "go") code.none Int [] l h).object;
      premise = ((Int, [], l, inl (λ o. o, refl)), refl);
      place = refl;
      rule = refl;
      lacks = refl;
    }))

------------------------------------------------------------
-- 10      x.b()           the type has no such method

abbrev unknown_method : code.Block
unknown_method = last (code.Call (at 10 7) (x 5) (codes "b") code.none)

no_b : (p : code.Block) (m : Signature TypeRef) → find_method (codes "b") (methods_of (lab_program p Nothing) 0 (Named 5 [])) ≡ Some m → ⊥
no_b p m e = absurd (cc)

method_refused : IsScopeFault (lab_program unknown_method Nothing) 0 (lab unknown_method Nothing) (fault 7 TCall 2)
method_refused =
    let l = x_least unknown_method Nothing [] 5 in
    in_body unknown_method Nothing [] (fault 7 TCall 2) (inl (record {
      expected = None;
      atom = None;
      spot = refl;
      stands_not = λ h. (let k = call_needs (annotated_reading (lab_program unknown_method Nothing) 0) (laws unknown_method Nothing) (lab unknown_method Nothing) [] (Some 0) (at 10 7) (x 5) (codes "b") code.none (Named 5 []) [] l h in no_b unknown_method k.method k.found);
      premise = ((Named 5 [], [], l, inr (tt, inl (λ h. no_b unknown_method h.0 h.1, refl))), refl);
      place = refl;
      rule = refl;
      lacks = refl;
    }))

------------------------------------------------------------
-- The method `n` has one parameter, a number

abbrev n_method : Signature TypeRef
n_method = record { name = codes "n"; params = Int ∷ []; effect = []; result = Int }

found_n : (p : code.Block) (m : Signature TypeRef) → find_method (codes "n") (methods_of (lab_program p Int) 0 (Named 6 [])) ≡ Some m → m ≡ n_method
found_n p m e = same_method m n_method (sym e)

-- 10      n.n()           it has another number of parameters

abbrev no_argument : code.Block
no_argument = last (code.Call (at 10 7) (n 5) (codes "n") code.none)

one_not_none : ◌≡◌ {A = ℕ} 1 0 → ⊥
one_not_none e = omega arith

arity_refused : IsScopeFault (lab_program no_argument Int) 0 (lab no_argument Int) (fault 7 TCall 3)
arity_refused =
    let y = annotated_reading (lab_program no_argument Int) 0 in
    let w = laws no_argument Int in
    let s = lab no_argument Int in
    let l = n_least no_argument Int [] 5 in
    in_body no_argument Int [] (fault 7 TCall 3) (inl (record {
      expected = None;
      atom = None;
      spot = refl;
      stands_not = λ h.
          let k = call_needs y w s [] (Some 0) (at 10 7) (n 5) (codes "n") code.none (Named 6 []) [] l h in
          let P : Signature TypeRef → Type 0 = λ m. AllHaveAt (annotated_reading (lab_program no_argument Int) 0) (lab no_argument Int) [] (Some 0) code.none m.params in
          none_too_few y w s [] (Some 0) Int [] (subst P (found_n no_argument k.method k.found) k.arguments);
      premise = ((Named 6 [], [], l, inr (tt, inr ((n_method, refl), inl (λ h. one_not_none (h n_method refl), refl)))), refl);
      place = refl;
      rule = refl;
      lacks = refl;
    }))

-- 10      n.n(t)          the argument is no number

abbrev text_argument : code.Block
text_argument = last (code.Call (at 10 7) (n 5) (codes "n") (one (t 9)))

argument_refused : IsScopeFault (lab_program text_argument Int) 0 (lab text_argument Int) (fault 7 TCall 4)
argument_refused =
    let y = annotated_reading (lab_program text_argument Int) 0 in
    let w = laws text_argument Int in
    let s = lab text_argument Int in
    let l = n_least text_argument Int [] 5 in
    let wrong : AllHaveAt (annotated_reading (lab_program text_argument Int) 0) (lab text_argument Int) [] (Some 0) (one (t 9)) (Int ∷ []) → ⊥ = λ h.
    t_not text_argument Int [] 9 Int (λ e. cc) (λ o. o) (first_has y w s [] (Some 0) _ _ Int [] h) in
    in_body text_argument Int [] (fault 7 TCall 4) (inl (record {
      expected = None;
      atom = None;
      spot = refl;
      stands_not = λ h.
          let k = call_needs y w s [] (Some 0) (at 10 7) (n 5) (codes "n") (one (t 9)) (Named 6 []) [] l h in
          let P : Signature TypeRef → Type 0 = λ m. AllHaveAt (annotated_reading (lab_program text_argument Int) 0) (lab text_argument Int) [] (Some 0) (one (t 9)) m.params in
          wrong (subst P (found_n text_argument k.method k.found) k.arguments);
      premise = ((Named 6 [], [], l, inr (tt, inr ((n_method, refl), inr ((λ m e. let P : Signature TypeRef → Type 0 = λ v. length v.params ≡ 1 in subst P (sym (found_n text_argument m e)) refl), inl (λ h. wrong (h n_method refl), refl))))), refl);
      place = refl;
      rule = refl;
      lacks = refl;
    }))

------------------------------------------------------------
-- 10      x.b(if c then i else t)
--
-- Where the call has no method, the place of its argument expects no type: the `if`, whose branches have no type in common, is no
-- failing node; the call is.

abbrev choice_argument : code.Block
choice_argument = last (code.Call (at 10 7) (x 5) (codes "b") (code.more (code.If (at 10 9) (c 12) (last (i 19)) (last (t 26))) code.none))

no_target : (m : Signature TypeRef) → IsTarget (annotated_reading (lab_program choice_argument Nothing) 0) (lab choice_argument Nothing) [] (Some 0) (Named 5 []) (codes "b") 1 m → ⊥
no_target m h = no_b choice_argument m h.found

choice_refused : IsScopeFault (lab_program choice_argument Nothing) 0 (lab choice_argument Nothing) (fault 7 TCall 2)
choice_refused =
    let l = x_least choice_argument Nothing [] 5 in
    in_body choice_argument Nothing [] (fault 7 TCall 2)
    (inr (
      record { expected = None; spot = (Named 5 [], [], l, no_target); stands = tt; settles = tt },
      inl (record {
        expected = None;
        atom = None;
        spot = refl;
        stands_not = λ h. (let k = call_needs (annotated_reading (lab_program choice_argument Nothing) 0) (laws choice_argument Nothing) (lab choice_argument Nothing) [] (Some 0) (at 10 7) (x 5) (codes "b") _ (Named 5 []) [] l h in no_b choice_argument k.method k.found);
        premise = ((Named 5 [], [], l, inr (tt, inl (λ h. no_b choice_argument h.0 h.1, refl))), refl);
        place = refl;
        rule = refl;
        lacks = refl;
      }),
    ))
