-- A module in which one body at a time is tried:
--
-- type A
--   def a(): {} Unit
-- type N
--   def n(x: Int): {} Int
-- type Nothing
-- resource module lab(): Nothing
--   var v: Int = 1
--   val k: Int = 2
--   def m(x: A, n: N, i: Int, t: String, c: Bool): {} RESULT
--     BLOCK
--
-- Its literal 1 is that of a `new` with one field of type Int.
use Rattle.std.proofs.Common.{◌≡◌, ℕ, pos, List, [], ◌∷◌, ◌++◌, refl, inr, Some, None}
use Rattle.std.specs.Prelude.{codes}
use Rattle.wy_text.specs.declared.fault.Fault.{Fault}
use Rattle.wy_text.specs.declared.fault.RuleName.{RuleName}
use Rattle.wy_effects.specs.Bounds.{by_member}
use Rattle.wy_types.specs.declared.types.TypeRef.{TypeRef}
use Rattle.wy_types.specs.declared.types.TypeRef.TheVariants.{Int, Bool, Text, Unit as Nothing, Named}
use Rattle.wy_types.specs.declared.resolved.ScopeKind.TheVariants as kind
use Rattle.wy_types.specs.Code as code
use Rattle.wy_types.specs.Program.{Program, Scope}
use Rattle.wy_types.specs.Types.{IsObject, methods_of}
use Rattle.wy_rules.specs.Readings.{Reading, IsBelow, annotated_reading}
use Rattle.wy_rules.specs.Derivations.{T-Lit, none, more}
use Rattle.wy_rules.specs.Typing.{HasAt, AllHave}
use Rattle.wy_rules.specs.Nodes.{bodies_nodes, seal_nodes}
use Rattle.wy_rules.specs.Failing.{IsLeast, IsScopeFault, FirstFailing}
use Rattle.wy_rules.proofs.Closed.{annotated_subtype}
use Rattle.wy_rules.proofs.Forms.{Lawful}
use Rattle.wy_rules.proofs.Lawfulness.{annotated_lawful}
use Rattle.wy_rules.proofs.Least.{name_least, nothing_least, not_at, has_at}
use Rattle.wy_rules.proofs.Needs.{not_below}
use Rattle.wy_rules.proofs.Sources.{at, parameter, method, declaration, val_field, var_field, object, body, head, module_of, idle, program}

abbrev pub lab : code.Block → TypeRef → Scope
lab block result =
    module_of (head kind.Resource (at 6 17) (codes "lab") [] [] 7 [])
    (object (var_field (at 7 7) (codes "v") Int ∷ val_field (at 8 7) (codes "k") Int ∷ []) ∷ object (val_field (at 12 9) (codes "f") Int ∷ []) ∷ [])
    (at 6 1) [] (code.more (code.Plain (code.Number (at 7 16) (pos 1))) (code.more (code.Plain (code.Number (at 8 16) (pos 2))) code.none))
    (body 0 (at 9 3) (method (codes "m") (Named 5 [] ∷ Named 6 [] ∷ Int ∷ Text ∷ Bool ∷ []) [] result) block ∷ [])

abbrev pub lab_program : code.Block → TypeRef → Program
lab_program block result =
    program
    (declaration (codes "A") [] (method (codes "a") [] [] Nothing ∷ []) ∷
    declaration (codes "N") [] (method (codes "n") (Int ∷ []) [] Int ∷ []) ∷
    declaration (codes "Nothing") [] [] ∷ [])
    (lab block result ∷ idle ∷ [])

-- the parameters, at a column of line 10
abbrev pub x : ℕ → code.Expr
x column = parameter (at 10 column) 0 0

abbrev pub n : ℕ → code.Expr
n column = parameter (at 10 column) 0 1

abbrev pub i : ℕ → code.Expr
i column = parameter (at 10 column) 0 2

abbrev pub t : ℕ → code.Expr
t column = parameter (at 10 column) 0 3

abbrev pub c : ℕ → code.Expr
c column = parameter (at 10 column) 0 4

-- a fault without a missing atom
abbrev pub fault : ℕ → RuleName → ℕ → Fault
fault column rule premise = record { place = at 10 column; rule = rule; premise = premise; atom = None }

module _ (b : code.Block) (r : TypeRef) where
  abbrev pub reading : Reading
  reading = annotated_reading (lab_program b r) 0

  abbrev pub laws : Lawful (annotated_reading (lab_program b r) 0)
  laws = annotated_lawful (lab_program b r) 0

  base_itself : IsBelow (annotated_reading (lab_program b r) 0) Int Int × IsBelow (annotated_reading (lab_program b r) 0) Text Text × IsBelow (annotated_reading (lab_program b r) 0) Bool Bool × IsBelow (annotated_reading (lab_program b r) 0) Nothing Nothing
  base_itself = (
    annotated_subtype (methods_of (lab_program b r) 0) ((Int, Int) ∷ []) Int Int refl refl,
    annotated_subtype (methods_of (lab_program b r) 0) ((Text, Text) ∷ []) Text Text refl refl,
    annotated_subtype (methods_of (lab_program b r) 0) ((Bool, Bool) ∷ []) Bool Bool refl refl,
    annotated_subtype (methods_of (lab_program b r) 0) ((Nothing, Nothing) ∷ []) Nothing Nothing refl refl,
  )

  module _ (locals : List TypeRef) where
    -- the start of the module passes
    pub in_body : (f : Fault) → FirstFailing (lab_program b r) 0 (lab b r) locals (bodies_nodes (lab b r) (lab b r).bodies ++ seal_nodes (lab b r) (lab b r).ascribed) f → IsScopeFault (lab_program b r) 0 (lab b r) f
    in_body f h =
        let start : AllHave (annotated_reading (lab_program b r) 0) (lab b r) locals None (code.more (code.Plain (code.Number (at 7 16) (pos 1))) (code.more (code.Plain (code.Number (at 8 16) (pos 2))) code.none)) (Int ∷ Int ∷ []) [] = record {
          derivations = more (T-Lit (at 7 16)) [] (more (T-Lit (at 8 16)) [] none);
          derives = ((Int, refl, refl, refl, refl), ((Int, refl, refl, refl, refl), tt));
          effects = refl;
        } in
        record { locals = locals; first = inr (record { expected = None; spot = refl; stands = ([], start, λ a j. by_member a j); settles = tt }, h) }

    pub x_least : (column : ℕ) → IsLeast (annotated_reading (lab_program b r) 0) (lab b r) locals (Some 0) (code.Plain (x column)) (Named 5 []) []
    x_least column =
        name_least (annotated_reading (lab_program b r) 0) laws (lab b r) locals (Some 0) _ _ (Named 5 []) refl
        (annotated_subtype (methods_of (lab_program b r) 0) ((Named 5 [], Named 5 []) ∷ (Nothing, Nothing) ∷ []) (Named 5 []) (Named 5 []) refl refl)

    pub n_least : (column : ℕ) → IsLeast (annotated_reading (lab_program b r) 0) (lab b r) locals (Some 0) (code.Plain (n column)) (Named 6 []) []
    n_least column =
        name_least (annotated_reading (lab_program b r) 0) laws (lab b r) locals (Some 0) _ _ (Named 6 []) refl
        (annotated_subtype (methods_of (lab_program b r) 0) ((Named 6 [], Named 6 []) ∷ (Int, Int) ∷ []) (Named 6 []) (Named 6 []) refl refl)

    pub i_least : (column : ℕ) → IsLeast (annotated_reading (lab_program b r) 0) (lab b r) locals (Some 0) (code.Plain (i column)) Int []
    i_least column = name_least (annotated_reading (lab_program b r) 0) laws (lab b r) locals (Some 0) _ _ Int refl base_itself.0

    pub t_least : (column : ℕ) → IsLeast (annotated_reading (lab_program b r) 0) (lab b r) locals (Some 0) (code.Plain (t column)) Text []
    t_least column = name_least (annotated_reading (lab_program b r) 0) laws (lab b r) locals (Some 0) _ _ Text refl base_itself.1

    pub c_least : (column : ℕ) → IsLeast (annotated_reading (lab_program b r) 0) (lab b r) locals (Some 0) (code.Plain (c column)) Bool []
    c_least column = name_least (annotated_reading (lab_program b r) 0) laws (lab b r) locals (Some 0) _ _ Bool refl base_itself.2

    pub nothing_least_at : (column : ℕ) → IsLeast (annotated_reading (lab_program b r) 0) (lab b r) locals (Some 0) (code.Plain (code.Nothing (at 10 column))) Nothing []
    nothing_least_at column = nothing_least (annotated_reading (lab_program b r) 0) laws (lab b r) locals (Some 0) _ base_itself.3

    -- the parameter has its type
    pub i_has : (column : ℕ) → HasAt (annotated_reading (lab_program b r) 0) (lab b r) locals (Some 0) (code.Plain (i column)) Int
    i_has column = has_at (annotated_reading (lab_program b r) 0) laws (lab b r) locals (Some 0) _ Int [] (i_least column)

    pub t_has : (column : ℕ) → HasAt (annotated_reading (lab_program b r) 0) (lab b r) locals (Some 0) (code.Plain (t column)) Text
    t_has column = has_at (annotated_reading (lab_program b r) 0) laws (lab b r) locals (Some 0) _ Text [] (t_least column)

    pub c_has : (column : ℕ) → HasAt (annotated_reading (lab_program b r) 0) (lab b r) locals (Some 0) (code.Plain (c column)) Bool
    c_has column = has_at (annotated_reading (lab_program b r) 0) laws (lab b r) locals (Some 0) _ Bool [] (c_least column)

    -- and no other base type
    pub i_not : (column : ℕ) (u : TypeRef) → (Int ≡ u → ⊥) → (IsObject u → ⊥) → HasAt (annotated_reading (lab_program b r) 0) (lab b r) locals (Some 0) (code.Plain (i column)) u → ⊥
    i_not column u d o = not_at (annotated_reading (lab_program b r) 0) laws (lab b r) locals (Some 0) _ Int u [] (i_least column) (not_below (annotated_reading (lab_program b r) 0) laws Int u d o)

    pub t_not : (column : ℕ) (u : TypeRef) → (Text ≡ u → ⊥) → (IsObject u → ⊥) → HasAt (annotated_reading (lab_program b r) 0) (lab b r) locals (Some 0) (code.Plain (t column)) u → ⊥
    t_not column u d o = not_at (annotated_reading (lab_program b r) 0) laws (lab b r) locals (Some 0) _ Text u [] (t_least column) (not_below (annotated_reading (lab_program b r) 0) laws Text u d o)

    pub x_not : (column : ℕ) (u : TypeRef) → (Named 5 [] ≡ u → ⊥) → (IsObject u → ⊥) → HasAt (annotated_reading (lab_program b r) 0) (lab b r) locals (Some 0) (code.Plain (x column)) u → ⊥
    x_not column u d o = not_at (annotated_reading (lab_program b r) 0) laws (lab b r) locals (Some 0) _ (Named 5 []) u [] (x_least column) (not_below (annotated_reading (lab_program b r) 0) laws (Named 5 []) u d o)
