-- The choice between two types again, with `{} B` for the result in line 9: its second branch is no `B`.
--
-- 9    def pick(c: Bool, x: B, y: A): {} B = if c then x else y
use Rattle.std.proofs.Common.{[], ◌∷◌, refl, inl, inr, Some, None}
use Rattle.std.specs.Prelude.{codes}
use Rattle.wy_text.specs.declared.fault.RuleName.TheVariants.{TIf}
use Rattle.wy_effects.specs.Bounds.{by_member}
use Rattle.wy_types.specs.declared.types.TypeRef.{TypeRef}
use Rattle.wy_types.specs.declared.types.TypeRef.TheVariants.{Bool, Unit as Nothing, Named}
use Rattle.wy_types.specs.Code as code
use Rattle.wy_types.specs.Program.{Program, Scope}
use Rattle.wy_types.specs.Types.{methods_of, signature}
use Rattle.wy_rules.specs.Readings.{IsBelow, annotated_reading}
use Rattle.wy_rules.specs.Derivations.{none}
use Rattle.wy_rules.specs.Failing.{IsLeast, IsScopeFault}
use Rattle.wy_rules.specs.Typing.{BlockHasAt}
use Rattle.wy_rules.proofs.Closed.{annotated_subtype}
use Rattle.wy_rules.proofs.ExamplesPick.{pick_with, pick_program}
use Rattle.wy_rules.proofs.Lawfulness.{annotated_lawful}
use Rattle.wy_rules.proofs.Least.{name_least, choice_parts, last_has, last_at, not_at, has_at}
use Rattle.wy_rules.proofs.Sources.{at, parameter, method}

abbrev A : TypeRef
A = Named 5 []

abbrev B : TypeRef
B = Named 6 []

abbrev p : Program
p = pick_program B

abbrev s : Scope
s = pick_with B

A_not_B : IsBelow (annotated_reading p 0) A B → ⊥
A_not_B h =
    elim (h.closed (A, B) h.first) [
      | inl base ↦ base.1 tt
      | inr object ↦ object.2 (signature (method (codes "b") [] [] Nothing)) (inr (inl refl))
    ]

second_least : IsLeast (annotated_reading p 0) s [] (Some 0) (code.Plain (parameter (at 9 58) 0 2)) A []
second_least =
    name_least (annotated_reading p 0) (annotated_lawful p 0) s [] (Some 0) _ _ A refl
    (annotated_subtype (methods_of p 0) ((A, A) ∷ (Nothing, Nothing) ∷ []) A A refl refl)

first_least : IsLeast (annotated_reading p 0) s [] (Some 0) (code.Plain (parameter (at 9 51) 0 1)) B []
first_least =
    name_least (annotated_reading p 0) (annotated_lawful p 0) s [] (Some 0) _ _ B refl
    (annotated_subtype (methods_of p 0) ((B, B) ∷ (Nothing, Nothing) ∷ []) B B refl refl)

test_least : IsLeast (annotated_reading p 0) s [] (Some 0) (code.Plain (parameter (at 9 44) 0 0)) Bool []
test_least =
    name_least (annotated_reading p 0) (annotated_lawful p 0) s [] (Some 0) _ _ Bool refl
    (annotated_subtype (methods_of p 0) ((Bool, Bool) ∷ []) Bool Bool refl refl)

second_not : BlockHasAt (annotated_reading p 0) s [] (Some 0) (code.Last (code.Plain (parameter (at 9 58) 0 2))) B → ⊥
second_not h =
    not_at (annotated_reading p 0) (annotated_lawful p 0) s [] (Some 0) _ A B [] second_least A_not_B (last_has (annotated_reading p 0) (annotated_lawful p 0) s [] (Some 0) _ B h)

-- line 9, column 41: T-If, premise 3
pick_refused : IsScopeFault p 0 s (record { place = at 9 41; rule = TIf; premise = 3; atom = None })
pick_refused =
    let y = annotated_reading p 0 in
    let w = annotated_lawful p 0 in
    record {
      locals = [];
      first =
          inr (
            record { expected = None; spot = refl; stands = ([], record { derivations = none; derives = tt; effects = refl }, λ a i. by_member a i); settles = tt },
            inl (record {
              expected = Some B;
              atom = None;
              spot = refl;
              stands_not = λ h. second_not (choice_parts y w s [] (Some 0) _ _ _ _ B h).second_has;
              premise = (inr (has_at y w s [] (Some 0) _ Bool [] test_least, inr (last_at y w s [] (Some 0) _ B (has_at y w s [] (Some 0) _ B [] first_least), inl (second_not, refl))), refl);
              place = refl;
              rule = refl;
              lacks = refl;
            }),
          );
    }
