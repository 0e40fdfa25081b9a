-- A body with each form of expressions and statements, and its derivation:
--
--  9    def m(x: A, n: N, i: Int, t: String, c: Bool): {} String
-- 10      val z: Int = -i + n.n(2)
-- 11      v = z
-- 12      if c && z == k then () else ()
-- 13      val w = this
-- 14      val o = new
-- 15        val f: Int = text_size(t)
-- 16      (text_part(t, z, 3) : String)
use Rattle.std.proofs.Common.{pos, [], ◌∷◌, refl, inl, Some, None}
use Rattle.std.specs.Prelude.{codes}
use Rattle.wy_effects.specs.Bounds.{by_member}
use Rattle.wy_types.specs.declared.types.TypeRef.TheVariants.{Int, Bool, Text, Unit as Nothing, Named, Own}
use Rattle.wy_types.specs.declared.code.Binding.TheVariants as to
use Rattle.wy_types.specs.declared.code.UnaryOperator.TheVariants.{Negate}
use Rattle.wy_types.specs.declared.code.BinaryOperator.TheVariants.{Add, And, Equal}
use Rattle.wy_types.specs.declared.code.TextOperator.TheVariants.{Size, Part}
use Rattle.wy_types.specs.Code as code
use Rattle.wy_rules.specs.Readings.{annotated_reading}
use Rattle.wy_rules.specs.Operators.{row, two as two_of}
use Rattle.wy_rules.specs.Derivations.{T-Lit, T-Var, T-This, T-Call, T-New, T-If, T-Set, T-Op, T-Asc, none, more, Result, T-Seq, T-Val, T-Body, T-Body-Init}
use Rattle.wy_rules.specs.Typing.{ScopeHolds}
use Rattle.wy_rules.proofs.Laboratory.{lab, lab_program}
use Rattle.wy_rules.proofs.Sources.{at, parameter, local, field, one, two, last, then, var_field as var}

abbrev sum : code.Expr
sum =
    code.Binary (at 10 21) Add (code.Unary (at 10 18) Negate (parameter (at 10 19) 0 2))
    (code.Call (at 10 25) (parameter (at 10 23) 0 1) (codes "n") (one (code.Number (at 10 27) (pos 2))))

abbrev condition : code.Expr
condition = code.Binary (at 12 10) And (parameter (at 12 8) 0 4) (code.Binary (at 12 15) Equal (local (at 12 13) 0) (field (at 12 18) 1))

abbrev pub block : code.Block
block =
    code.Val (at 10 9) 0 (Some Int) (code.Plain sum)
    (then (code.Assign (at 11 5) (to.Field 0) (code.Plain (local (at 11 9) 0)))
    (code.Then (code.If (at 12 5) condition (last (code.Nothing (at 12 25))) (last (code.Nothing (at 12 33))))
    (code.Val (at 13 9) 1 None (code.Plain (code.This (at 13 13)))
    (code.Val (at 14 9) 2 None (code.Plain (code.New (at 14 13) 1 (one (code.TextCall (at 15 22) Size (one (parameter (at 15 32) 0 3))))))
    (last (code.Ascribe (at 16 5) (code.Plain (code.TextCall (at 16 6) Part (code.more (code.Plain (parameter (at 16 16) 0 3)) (two (local (at 16 19) 0) (code.Number (at 16 22) (pos 3)))))) Text))))))

forms_derive : ScopeHolds (annotated_reading (lab_program block Text) 0) (lab block Text)
forms_derive = record {
  derivation = record {
    locals = Int ∷ Own 0 ∷ Own 1 ∷ [];
    start = T-Body-Init (at 6 1) (more (T-Lit (at 7 16)) [] (more (T-Lit (at 8 16)) [] none));
    bodies =
        T-Body (at 9 3)
        (T-Val (at 10 9)
        (T-Op (at 10 21) (two_of Int Int)
        (more (T-Op (at 10 18) (row (Int ∷ []) Int) (more (T-Var (at 10 19)) [] none)) []
        (more (T-Call (at 10 25) (T-Var (at 10 23)) (Named 6 []) [] (more (T-Lit (at 10 27)) [] none)) [] none)))
        Int []
        (T-Seq (at 11 5) (T-Set (at 11 5) (T-Var (at 11 9))) []
        (T-Seq (at 12 5)
        (T-If (at 12 5)
        (T-Op (at 12 10) (two_of Bool Bool) (more (T-Var (at 12 8)) [] (more (T-Op (at 12 15) (two_of Int Bool) (more (T-Var (at 12 13)) [] (more (T-Var (at 12 18)) [] none))) [] none))) []
        (Result (T-Lit (at 12 25))) [] (Result (T-Lit (at 12 33))) []) []
        (T-Val (at 13 9) (T-This (at 13 13)) (Own 0) []
        (T-Val (at 14 9) (T-New (at 14 13) (more (T-Op (at 15 22) (row (Text ∷ []) Int) (more (T-Var (at 15 32)) [] none)) [] none)) (Own 1) []
        (Result (T-Asc (at 16 5) (T-Op (at 16 6) (row (Text ∷ Int ∷ Int ∷ []) Text) (more (T-Var (at 16 16)) [] (more (T-Var (at 16 19)) [] (more (T-Lit (at 16 22)) [] none)))))) []) []) []) []) [])
        [] ∷ [];
  };
  derives = (
    (refl, ((Int, refl, refl, refl, refl), ((Int, refl, refl, refl, refl), tt)), λ a i. by_member a i),
    (
      (
        refl,
        (
          refl,
          refl,
          refl,
          (_, refl, refl, inl refl, ((_, refl, refl, inl refl, ((refl, refl, refl), tt), refl, refl), ((_, refl, (refl, refl, refl), tt, refl, ((Int, refl, refl, refl, refl), tt), refl, refl), tt)), refl, refl),
          (
            refl,
            (var (at 7 7) (codes "v") Int, refl, refl, (refl, refl, refl), refl),
            (
              refl,
              (
                refl,
                (_, refl, refl, inl refl, ((refl, refl, refl), ((_, refl, refl, inl refl, ((refl, refl, refl), ((refl, refl, refl), tt)), refl, refl), tt)), refl, refl),
                (Nothing, refl, refl, refl, refl),
                (Nothing, refl, refl, refl, refl),
                refl,
              ),
              (
                refl,
                refl,
                tt,
                (0, refl, refl, refl, refl),
                (
                  refl,
                  refl,
                  tt,
                  (refl, ((_, refl, refl, inl refl, ((refl, refl, refl), tt), refl, refl), tt), refl, refl),
                  (refl, (_, refl, refl, inl refl, ((refl, refl, refl), ((refl, refl, refl), ((Int, refl, refl, refl, refl), tt))), refl, refl), refl),
                  refl,
                ),
                refl,
              ),
              refl,
            ),
            refl,
          ),
          refl,
        ),
        λ a i. by_member a i,
      ),
      tt,
    ),
  );
}
