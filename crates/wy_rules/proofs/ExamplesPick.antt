-- A choice whose branches have different types, typed at the type that its place expects:
--
-- 1  type A
-- 2    def a(): {} Unit
-- 3  type B
-- 4    def a(): {} Unit
-- 5    def b(): {} Unit
-- 6  type Pick
-- 7    def pick(c: Bool, x: B, y: A): {} A
-- 8  resource module pick(): Pick
-- 9    def pick(c: Bool, x: B, y: A): {} A = if c then x else y
use Rattle.std.proofs.Common.{[], ◌∷◌, refl}
use Rattle.std.specs.Prelude.{codes}
use Rattle.wy_effects.specs.Bounds.{by_member}
use Rattle.wy_types.specs.declared.types.TypeRef.{TypeRef}
use Rattle.wy_types.specs.declared.types.TypeRef.TheVariants.{Bool, Unit as Nothing, Named}
use Rattle.wy_types.specs.declared.resolved.ScopeKind.TheVariants as kind
use Rattle.wy_types.specs.Code as code
use Rattle.wy_types.specs.Program.{Program, Scope}
use Rattle.wy_types.specs.Types.{methods_of}
use Rattle.wy_rules.specs.Readings.{annotated_reading}
use Rattle.wy_rules.specs.Derivations.{T-Var, T-If, T-Sub, none, Result, T-Body, T-Body-Init}
use Rattle.wy_rules.specs.Typing.{ScopeHolds}
use Rattle.wy_rules.proofs.Closed.{annotated_subtype}
use Rattle.wy_rules.proofs.Sources.{at, parameter, method, declaration, object, body, head, module_of, idle, program}

abbrev pub choice : code.Value
choice = code.If (at 9 41) (parameter (at 9 44) 0 0) (code.Last (code.Plain (parameter (at 9 51) 0 1))) (code.Last (code.Plain (parameter (at 9 58) 0 2)))

-- the module, with the result type that `pick` declares
abbrev pub pick_with : TypeRef → Scope
pick_with result =
    module_of (head kind.Resource (at 8 17) (codes "pick") [] [] 7 [])
    (object [] ∷ []) (at 8 1) [] code.none
    (body 0 (at 9 3) (method (codes "pick") (Bool ∷ Named 6 [] ∷ Named 5 [] ∷ []) [] result) (code.Last choice) ∷ [])

abbrev pub pick_program : TypeRef → Program
pick_program result =
    program
    (declaration (codes "A") [] (method (codes "a") [] [] Nothing ∷ []) ∷
    declaration (codes "B") [] (method (codes "a") [] [] Nothing ∷ method (codes "b") [] [] Nothing ∷ []) ∷
    declaration (codes "Pick") [] (method (codes "pick") (Bool ∷ Named 6 [] ∷ Named 5 [] ∷ []) [] (Named 5 []) ∷ []) ∷ [])
    (pick_with result ∷ idle ∷ [])

-- the first branch has the type A by T-Sub
pick_derives : ScopeHolds (annotated_reading (pick_program (Named 5 [])) 0) (pick_with (Named 5 []))
pick_derives = record {
  derivation = record {
    locals = [];
    start = T-Body-Init (at 8 1) none;
    bodies =
        T-Body (at 9 3)
        (Result (T-If (at 9 41) (T-Var (at 9 44)) [] (Result (T-Sub (at 9 51) (T-Var (at 9 51)) (Named 6 []) [])) [] (Result (T-Var (at 9 58))) []))
        [] ∷ [];
  };
  derives = (
    (refl, tt, λ a i. by_member a i),
    (
      (
        refl,
        (
          refl,
          (refl, refl, refl),
          (refl, (refl, refl, refl), annotated_subtype (methods_of (pick_program (Named 5 [])) 0) ((Named 6 [], Named 5 []) ∷ (Nothing, Nothing) ∷ []) (Named 6 []) (Named 5 []) refl refl, λ a i. i),
          (refl, refl, refl),
          refl,
        ),
        λ a i. by_member a i,
      ),
      tt,
    ),
  );
}
