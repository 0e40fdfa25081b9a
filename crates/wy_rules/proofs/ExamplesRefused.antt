-- The faults of two whole programs: the logger's module is at fault before anything else; its program's body is at fault where the
-- module and the line pass.
use Rattle.std.proofs.Common.{[], ◌∷◌, refl, inl, inr, true, Some, None}
use Rattle.std.specs.Prelude.{codes}
use Rattle.wy_effects.specs.Bounds.{by_member}
use Rattle.wy_effects.proofs.Ordering.{none_bounded}
use Rattle.wy_types.specs.declared.types.TypeRef.TheVariants.{Bool, Text, Unit as Nothing, Named, Own}
use Rattle.wy_types.specs.declared.resolved.Origin.TheVariants.{Parameter, Instance}
use Rattle.wy_types.specs.Code as code
use Rattle.wy_types.specs.Program.{Program, Scope}
use Rattle.wy_types.specs.Types.{methods_of}
use Rattle.wy_rules.specs.Readings.{annotated_reading}
use Rattle.wy_rules.specs.Derivations.{T-Lit, T-Var, T-Call, none, more, Result}
use Rattle.wy_rules.specs.Typing.{Has}
use Rattle.wy_rules.specs.Acceptance.{Handed, HasMembers, IsArgument, RespectsBounds, LineHolds}
use Rattle.wy_rules.specs.Refusals.{ScopePasses}
use Rattle.wy_rules.specs.ProgramRefusal.{IsRefusal}
use Rattle.wy_rules.proofs.Closed.{annotated_subtype}
use Rattle.wy_rules.proofs.Each.{arguments_hold, members_hold}
use Rattle.wy_rules.proofs.ExamplesBodies.{lacks, logger_refused, main_refused}
use Rattle.wy_rules.proofs.ExamplesLogger.{append_call, logger_with, main_with, logger_program}
use Rattle.wy_rules.proofs.Sources.{at, own, folder}

-- in the first file
module_is_refused : IsRefusal (logger_program [] (4 ∷ [])) (lacks 1 6 3 (codes "disk") (codes "Append"))
module_is_refused = inr (tt, inl (inl logger_refused))

------------------------------------------------------------
-- The program with `run: {}`

abbrev q : Program
q = logger_program (2 ∷ []) []

abbrev s : Scope
s = logger_with (2 ∷ [])

append_has : Has (annotated_reading q 0) s [] (Some 0) (code.Plain append_call) Nothing (2 ∷ [])
append_has = record {
  derivation = T-Call (at 6 41) (T-Var (at 6 36)) folder [] (more (T-Lit (at 6 48)) [] (more (T-Var (at 6 55)) [] none));
  derives = (_, refl, (refl, refl, refl), tt, refl, ((_, refl, refl, refl, refl), ((refl, refl, refl), tt)), refl, refl);
}

module_passes : ScopePasses q 0 s
module_passes = record {
  locals = [];
  nodes = (
    record { expected = None; spot = refl; stands = ([], record { derivations = none; derives = tt; effects = refl }, λ a i. by_member a i); settles = tt },
    (
      record { expected = None; spot = refl; stands = record { typ = Nothing; effect = 2 ∷ []; has = append_has }; settles = tt },
      (
        record { expected = None; spot = refl; stands = (2 ∷ [], record { derivation = Result append_has.derivation; derives = append_has.derives }, λ a i. by_member a i); settles = tt },
        (
          record {
            expected = None;
            spot = refl;
            stands = (annotated_subtype (methods_of q 0) ((Own 0, Named 5 ((2 ∷ []) ∷ [])) ∷ (Text, Text) ∷ (Nothing, Nothing) ∷ []) (Own 0) (Named 5 ((2 ∷ []) ∷ [])) refl refl, λ a b e. absurd (none_bounded 1 a b e));
            settles = tt;
          },
          tt,
        ),
      ),
    ),
  );
}

abbrev handed_disk : Handed
handed_disk = record { parameter = own (at 4 24) (codes "disk") folder (Parameter true); argument = 0 }

line_holds : LineHolds q 1 (main_with []).names (Instance 0 (0 ∷ []))
line_holds =
    let names = (main_with []).names in
    record {
      resource = (logger_with (2 ∷ []), refl, refl);
      numbers = refl;
      members = arguments_hold q 1 names (HasMembers q 1 names) 0 (0 ∷ []) (members_hold q 1 names handed_disk ((_, refl), ((_, refl), ((_, refl), ((_, refl), tt)))), tt);
      types = arguments_hold q 1 names (IsArgument q 1 names ((0 ∷ []) ∷ (1 ∷ []) ∷ (2 ∷ []) ∷ (3 ∷ []) ∷ [])) 0 (0 ∷ [])
          (annotated_subtype (methods_of q 1) ((folder, folder) ∷ (Text, Text) ∷ (Bool, Bool) ∷ (Nothing, Nothing) ∷ []) folder folder refl refl, tt);
      bounds = arguments_hold q 1 names (RespectsBounds q 1 names) 0 (0 ∷ []) (λ a b e. absurd (none_bounded 4 a b e), tt);
    }

-- in the second file
program_is_refused : IsRefusal q (lacks 2 4 3 (codes "lg") (codes "Log"))
program_is_refused =
    inr (tt, inr ((module_passes, tt), inr ((tt, ((record { expected = None; spot = refl; stands = line_holds; settles = tt }, tt), tt)), inl main_refused)))
