-- The canonical derivations of small scopes, written out: a logger, a choice between two objects of different types, a kept callback, a body with
-- each form of expressions and statements, and a `val` in a literal's method; and derivations in which T-Sub stands above another.
use Rattle.std.proofs.Common.{◌≡◌, ℕ, pos, List, [], ◌∷◌, refl, Some, None}
use Rattle.std.specs.Prelude.{codes}
use Rattle.wy_text.specs.declared.fault.Place.{Place}
use Rattle.wy_types.specs.declared.types.TypeRef.{TypeRef}
use Rattle.wy_types.specs.declared.types.TypeRef.TheVariants.{Int, Bool, Text, Unit as Nothing, Named, At, Own}
use Rattle.wy_types.specs.declared.resolved.ScopeKind.TheVariants as kind
use Rattle.wy_types.specs.Code as code
use Rattle.wy_types.specs.Program.{Program, Scope}
use Rattle.wy_rules.specs.Readings.{annotated_reading}
use Rattle.wy_rules.specs.Operators.{row, two as two_of}
use Rattle.wy_rules.specs.Derivations.{Derivation, T-Lit, T-Var, T-This, T-Call, T-New, T-If, T-Set, T-Op, T-Asc, T-Sub, none, more, Result, T-Seq, T-Val, Block-Sub, T-Body, T-Body-Init}
use Rattle.wy_rules.specs.EachVal.{EachVal}
use Rattle.wy_rules.specs.Canonical.{canonical_over, locals_of, same_type, IsSettled}
use Rattle.wy_rules.specs.Sparse.{Sparse, BlockSparse}
use Rattle.wy_rules.proofs.ExamplesForms.{block}
use Rattle.wy_rules.proofs.ExamplesLogger.{logger_with, main_with, logger_program, second}
use Rattle.wy_rules.proofs.ExamplesPlug.{plug, main_at, plug_program}
use Rattle.wy_rules.proofs.Laboratory.{lab, lab_program}
use Rattle.wy_rules.proofs.Sources.{at, parameter, local, last, method, declaration, object, body, folder, head, module_of, main_of, idle, program}

------------------------------------------------------------
-- A logger, the program of ExamplesLogger

abbrev logging : Program
logging = logger_program (2 ∷ []) (4 ∷ [])

-- the body of `log` is a call on the folder that the module was given
logger_canonical : canonical_over logging 0 (logger_with (2 ∷ [])) (locals_of logging 0 (logger_with (2 ∷ []))) ≡ record {
  locals = [];
  start = T-Body-Init (at 4 1) none;
  bodies = T-Body (at 6 3) (Result (T-Call (at 6 41) (T-Var (at 6 36)) folder [] (more (T-Lit (at 6 48)) [] (more (T-Var (at 6 55)) [] none)))) (2 ∷ []) ∷ [];
}
logger_canonical = refl

-- the body of `run` is a call on the instance
logging_canonical : canonical_over logging 1 (main_with (4 ∷ [])) (locals_of logging 1 (main_with (4 ∷ []))) ≡ record {
  locals = [];
  start = T-Body (second 4 3) (Result (T-Call (second 5 8) (T-Var (second 5 5)) (Named 5 ((4 ∷ []) ∷ [])) [] (more (T-Lit (second 5 12)) [] none))) (4 ∷ []);
  bodies = [];
}
logging_canonical = refl

------------------------------------------------------------
-- A choice between two objects of different types, at the type that is asked for:
--
--  1  type A
--  2    def a(): {} Unit
--  3  type B
--  4    def a(): {} Unit
--  5    def b(): {} Unit
--  6  type C
--  7    def a(): {} Unit
--  8    def c(): {} Unit
--  9  type Pick
-- 10    def pick(c: Bool, x: B, y: C): {} A
-- 11  resource module pick(): Pick
-- 12    def pick(c: Bool, x: B, y: C): {} A = if c then x else y
--
-- .. and in the place of the last line
--
-- 12    def pick(c: Bool, x: B, y: C): {} A
-- 13      val z: A = x
-- 14      val w = y
-- 15      z

abbrev pick_with : code.Block → Scope
pick_with block =
    module_of (head kind.Resource (at 11 17) (codes "pick") [] [] 8 [])
    (object [] ∷ []) (at 11 1) [] code.none
    (body 0 (at 12 3) (method (codes "pick") (Bool ∷ Named 6 [] ∷ Named 7 [] ∷ []) [] (Named 5 [])) block ∷ [])

abbrev picking : code.Block → Program
picking block =
    program
    (declaration (codes "A") [] (method (codes "a") [] [] Nothing ∷ []) ∷
    declaration (codes "B") [] (method (codes "a") [] [] Nothing ∷ method (codes "b") [] [] Nothing ∷ []) ∷
    declaration (codes "C") [] (method (codes "a") [] [] Nothing ∷ method (codes "c") [] [] Nothing ∷ []) ∷
    declaration (codes "Pick") [] (method (codes "pick") (Bool ∷ Named 6 [] ∷ Named 7 [] ∷ []) [] (Named 5 []) ∷ []) ∷ [])
    (pick_with block ∷ idle ∷ [])

abbrev choice : code.Block
choice = code.Last (code.If (at 12 41) (parameter (at 12 44) 0 0) (last (parameter (at 12 51) 0 1)) (last (parameter (at 12 58) 0 2)))

-- T-Sub stands over each branch, and none over the choice
pick_canonical : canonical_over (picking choice) 0 (pick_with choice) (locals_of (picking choice) 0 (pick_with choice)) ≡ record {
  locals = [];
  start = T-Body-Init (at 11 1) none;
  bodies =
      T-Body (at 12 3)
      (Result
      (T-If (at 12 41) (T-Var (at 12 44)) [] (Block-Sub (at 12 51) (Result (T-Var (at 12 51))) (Named 6 []) []) [] (Block-Sub (at 12 58) (Result (T-Var (at 12 58))) (Named 7 []) []) []))
      [] ∷ [];
}
pick_canonical = refl

abbrev kept : code.Block
kept =
    code.Val (at 13 9) 0 (Some (Named 5 [])) (code.Plain (parameter (at 13 16) 0 1))
    (code.Val (at 14 9) 1 None (code.Plain (parameter (at 14 13) 0 2)) (last (local (at 15 5) 0)))

-- a `val` has its written type, by T-Sub, or that of its initialiser
kept_canonical : canonical_over (picking kept) 0 (pick_with kept) (locals_of (picking kept) 0 (pick_with kept)) ≡ record {
  locals = Named 5 [] ∷ Named 7 [] ∷ [];
  start = T-Body-Init (at 11 1) none;
  bodies =
      T-Body (at 12 3)
      (T-Val (at 13 9) (T-Sub (at 13 16) (T-Var (at 13 16)) (Named 6 []) []) (Named 5 []) [] (T-Val (at 14 9) (T-Var (at 14 13)) (Named 7 []) [] (Result (T-Var (at 15 5))) []) [])
      [] ∷ [];
}
kept_canonical = refl

-- .. over another type of the second one: T-Sub stands there too
widened_canonical : canonical_over (picking kept) 0 (pick_with kept) (Named 5 [] ∷ Named 5 [] ∷ []) ≡ record {
  locals = Named 5 [] ∷ Named 5 [] ∷ [];
  start = T-Body-Init (at 11 1) none;
  bodies =
      T-Body (at 12 3)
      (T-Val (at 13 9) (T-Sub (at 13 16) (T-Var (at 13 16)) (Named 6 []) []) (Named 5 []) []
      (T-Val (at 14 9) (T-Sub (at 14 13) (T-Var (at 14 13)) (Named 7 []) []) (Named 5 []) [] (Result (T-Var (at 15 5))) []) [])
      [] ∷ [];
}
widened_canonical = refl

------------------------------------------------------------
-- A callback that is kept, the program of ExamplesPlug

abbrev bound : List ℕ
bound = 2 ∷ 4 ∷ []

abbrev plugged : Program
plugged = plug_program bound

-- in the plain module, with no effects
plug_canonical : canonical_over plugged 1 plug (locals_of plugged 1 plug) ≡ record {
  locals = [];
  start = T-Body-Init (at 11 1) (more (T-Var (at 12 20)) [] none);
  bodies =
      T-Body (at 13 3) (Result (T-Set (at 14 5) (T-Var (at 14 9)))) [] ∷
      T-Body (at 15 3) (Result (T-Call (at 15 22) (T-Var (at 15 20)) (Named 5 []) [] (more (T-Lit (at 15 27)) [] none))) [] ∷ [];
}
plug_canonical = refl

-- in the annotated program: the `val` has the literal's own type, and T-Sub stands where it is handed to `keep`
plugged_canonical : canonical_over plugged 2 (main_at bound) (locals_of plugged 2 (main_at bound)) ≡ record {
  locals = Own 1 ∷ [];
  start =
      T-Body (at 20 3)
      (T-Seq (at 21 7) (T-Call (at 21 7) (T-Var (at 21 5)) (At 6 bound) [] none) bound
      (T-Val (at 22 9) (T-New (at 22 13) none) (Own 1) []
      (T-Seq (at 24 7) (T-Call (at 24 7) (T-Var (at 24 5)) (At 6 bound) [] (more (T-Sub (at 24 12) (T-Var (at 24 12)) (Own 1) []) [] none)) bound
      (Result (T-Call (at 25 7) (T-Var (at 25 5)) (At 6 bound) [] none)) bound) bound) bound)
      bound;
  bodies = T-Body (at 23 7) (Result (T-Call (at 23 54) (T-Var (at 23 49)) folder [] (more (T-Lit (at 23 61)) [] (more (T-Var (at 23 66)) [] none)))) (2 ∷ []) ∷ [];
}
plugged_canonical = refl

------------------------------------------------------------
-- Each form of expressions and statements, the body of ExamplesForms

forms_canonical : canonical_over (lab_program block Text) 0 (lab block Text) (locals_of (lab_program block Text) 0 (lab block Text)) ≡ record {
  locals = Int ∷ Own 0 ∷ Own 1 ∷ [];
  start = T-Body-Init (at 6 1) (more (T-Lit (at 7 16)) [] (more (T-Lit (at 8 16)) [] none));
  bodies =
      T-Body (at 9 3)
      (T-Val (at 10 9)
      (T-Op (at 10 21) (two_of Int Int)
      (more (T-Op (at 10 18) (row (Int ∷ []) Int) (more (T-Var (at 10 19)) [] none)) [] (more (T-Call (at 10 25) (T-Var (at 10 23)) (Named 6 []) [] (more (T-Lit (at 10 27)) [] none)) [] none)))
      Int []
      (T-Seq (at 11 5) (T-Set (at 11 5) (T-Var (at 11 9))) []
      (T-Seq (at 12 5)
      (T-If (at 12 5)
      (T-Op (at 12 10) (two_of Bool Bool) (more (T-Var (at 12 8)) [] (more (T-Op (at 12 15) (two_of Int Bool) (more (T-Var (at 12 13)) [] (more (T-Var (at 12 18)) [] none))) [] none))) []
      (Result (T-Lit (at 12 25))) [] (Result (T-Lit (at 12 33))) []) []
      (T-Val (at 13 9) (T-This (at 13 13)) (Own 0) []
      (T-Val (at 14 9) (T-New (at 14 13) (more (T-Op (at 15 22) (row (Text ∷ []) Int) (more (T-Var (at 15 32)) [] none)) [] none)) (Own 1) []
      (Result (T-Asc (at 16 5) (T-Op (at 16 6) (row (Text ∷ Int ∷ Int ∷ []) Text) (more (T-Var (at 16 16)) [] (more (T-Var (at 16 19)) [] (more (T-Lit (at 16 22)) [] none)))))) []) []) []) []) [])
      [] ∷ [];
}
forms_canonical = refl

------------------------------------------------------------
-- A `val` in a literal's method: it is found after those of the block round it, and has the number between
--
--  1  program
--  2    run: {}
--  3      val z = new
--  4        def m(): {} Int
--  5          val w = 2
--  6          w
--  7      val v = "a"
--  8      ()

abbrev nested : Scope
nested =
    main_of [] [] (object [] ∷ []) (at 2 3) []
    (code.Val (at 3 11) 0 None (code.Plain (code.New (at 3 15) 1 code.none)) (code.Val (at 7 11) 2 None (code.Plain (code.Quoted (at 7 15) (codes "a"))) (last (code.Nothing (at 8 7)))))
    (body 1 (at 4 9) (method (codes "m") [] [] Int) (code.Val (at 5 15) 1 None (code.Plain (code.Number (at 5 19) (pos 2))) (last (local (at 6 11) 1))) ∷ [])

abbrev nesting : Program
nesting = program [] (nested ∷ [])

nested_canonical : canonical_over nesting 0 nested (locals_of nesting 0 nested) ≡ record {
  locals = Own 1 ∷ Int ∷ Text ∷ [];
  start = T-Body (at 2 3) (T-Val (at 3 11) (T-New (at 3 15) none) (Own 1) [] (T-Val (at 7 11) (T-Lit (at 7 15)) Text [] (Result (T-Lit (at 8 7))) []) []) [];
  bodies = T-Body (at 4 9) (T-Val (at 5 15) (T-Lit (at 5 19)) Int [] (Result (T-Var (at 6 11))) []) [] ∷ [];
}
nested_canonical = refl

-- each of the three is settled, and over other types the one in the method is not
nested_settled : EachVal (IsSettled (annotated_reading nesting 0) same_type nested (Own 1 ∷ Int ∷ Text ∷ [])) nested
nested_settled = ((tt, refl, (tt, refl, tt)), ((tt, refl, tt), tt))

nested_not_settled : EachVal (IsSettled (annotated_reading nesting 0) same_type nested (Own 1 ∷ Text ∷ Text ∷ [])) nested → ⊥
nested_not_settled h = absurd (let e = h.1.0.1 in cc)

------------------------------------------------------------
-- T-Sub above another: directly, at a receiver, over the value of a block, over a block's rest

module _ (q : Place) where
  abbrev by_sub : TypeRef → Derivation TypeRef
  by_sub t = T-Sub q (T-Var q) t []

  twice_is_not : Sparse (T-Sub q (by_sub Int) Int []) → ⊥
  twice_is_not h = h.0

  receiver_is_not : Sparse (T-Call q (by_sub folder) folder [] none) → ⊥
  receiver_is_not h = h.0

  value_is_not : BlockSparse (Block-Sub q (Result (by_sub Int)) Int []) → ⊥
  value_is_not h = h.0

  rest_is_not : BlockSparse (T-Seq q (T-Var q) [] (Block-Sub q (Result (T-Var q)) Int []) []) → ⊥
  rest_is_not h = h.1

  once_is : BlockSparse (T-Seq q (by_sub Nothing) [] (Result (T-Var q)) [])
  once_is = ((tt, tt), tt, tt)
