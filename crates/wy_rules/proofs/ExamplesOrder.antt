-- Of several nodes that fail, the first in the order of evaluation is named.
use Rattle.std.proofs.Common.{ℕ, ◌+◌, [], refl, inl, Some, None}
use Rattle.std.specs.Prelude.{codes}
use Rattle.wy_text.specs.declared.fault.RuleName.TheVariants.{TSeq, TAsc}
use Rattle.wy_types.specs.declared.types.TypeRef.{TypeRef}
use Rattle.wy_types.specs.declared.types.TypeRef.TheVariants.{Int, Unit as Nothing}
use Rattle.wy_types.specs.Code as code
use Rattle.wy_rules.specs.Readings.{annotated_reading}
use Rattle.wy_rules.specs.Nodes.{node, nothing, part}
use Rattle.wy_rules.specs.Failing.{IsScopeFault, FailsBy}
use Rattle.wy_rules.proofs.Laboratory.{lab, lab_program, i, t, c, fault, laws, in_body, i_not, t_not}
use Rattle.wy_rules.proofs.Needs.{ascription_needs}
use Rattle.wy_rules.proofs.Sources.{at, one, last, then}

-- `(t : Int)`, which fails at its parenthesis
abbrev wrong_at : ℕ → code.Expr
wrong_at column = code.Ascribe (at 10 column) (code.Plain (t (column + 1))) Int

wrong_fails : (b : code.Block) (r : TypeRef) (column : ℕ) → FailsBy (lab_program b r) 0 (lab b r) [] (node (at 10 column) TAsc (Some 0) nothing (part (code.Plain (wrong_at column)))) (fault column TAsc 1)
wrong_fails b r column =
    let wrong = t_not b r [] (column + 1) Int (λ e. cc) (λ o. o) in
    record {
      expected = None;
      atom = None;
      spot = refl;
      stands_not = λ h. wrong (ascription_needs (annotated_reading (lab_program b r) 0) (laws b r) (lab b r) [] (Some 0) (at 10 column) _ Int h);
      premise = (inl (wrong, refl), refl);
      place = refl;
      rule = refl;
      lacks = refl;
    }

------------------------------------------------------------
-- 10      (t : Int).n((t : Int))          the receiver comes before the argument

abbrev two_wrong : code.Block
two_wrong = last (code.Call (at 10 15) (wrong_at 5) (codes "n") (one (wrong_at 17)))

receiver_first : IsScopeFault (lab_program two_wrong Nothing) 0 (lab two_wrong Nothing) (fault 5 TAsc 1)
receiver_first = in_body two_wrong Nothing [] (fault 5 TAsc 1) (inl (wrong_fails two_wrong Nothing 5))

------------------------------------------------------------
-- 10      if c then (t : Int) else (t : Int)      the first branch comes before the second, and both before the `if`

abbrev wrong_branches : code.Block
wrong_branches = code.Last (code.If (at 10 5) (c 8) (last (wrong_at 15)) (last (wrong_at 30)))

first_branch_first : IsScopeFault (lab_program wrong_branches Int) 0 (lab wrong_branches Int) (fault 15 TAsc 1)
first_branch_first = in_body wrong_branches Int [] (fault 15 TAsc 1) (inl (wrong_fails wrong_branches Int 15))

------------------------------------------------------------
-- 10      i               a statement is asked for its own premise before the rest is judged
-- 10      (t : Int)

abbrev statement_and_rest : code.Block
statement_and_rest = then (i 5) (last (wrong_at 9))

statement_first : IsScopeFault (lab_program statement_and_rest Int) 0 (lab statement_and_rest Int) (fault 5 TSeq 1)
statement_first =
    let wrong = i_not statement_and_rest Int [] 5 Nothing (λ e. cc) (λ o. o) in
    in_body statement_and_rest Int [] (fault 5 TSeq 1) (inl (record {
      expected = None;
      atom = None;
      spot = refl;
      stands_not = wrong;
      premise = (inl (wrong, refl), refl);
      place = refl;
      rule = refl;
      lacks = refl;
    }))

------------------------------------------------------------
-- 10      if i then (t : Int) else ()     the condition's own nodes, the branches', and then the `if`

abbrev wrong_inside : code.Block
wrong_inside = code.Last (code.If (at 10 5) (i 8) (last (wrong_at 15)) (last (code.Nothing (at 10 31))))

branch_before_choice : IsScopeFault (lab_program wrong_inside Nothing) 0 (lab wrong_inside Nothing) (fault 15 TAsc 1)
branch_before_choice = in_body wrong_inside Nothing [] (fault 15 TAsc 1) (inl (wrong_fails wrong_inside Nothing 15))
