-- A program that is accepted, with its derivations; the module is in the first file, the program in the second:
--
-- 1  type Logger
-- 2    effect Log
-- 3    def log(t: String): {Log} Unit
-- 4  resource module logger(disk: Folder): Logger
-- 5    effect Log = {disk.Append}
-- 6    def log(t: String): {Log} Unit = disk.append("log", t)
--
-- 1  program
-- 2    grant disk: Folder
-- 3    instance lg = logger(disk)
-- 4    run: {lg.Log}
-- 5      lg.log("a")
use Rattle.std.proofs.Common.{ℕ, List, [], ◌∷◌, refl, true, Some}
use Rattle.std.specs.Prelude.{codes, ◌++◌}
use Rattle.wy_text.specs.declared.fault.Place.{Place}
use Rattle.wy_effects.specs.Bounds.{by_member}
use Rattle.wy_effects.proofs.Ordering.{none_bounded}
use Rattle.wy_types.specs.declared.types.TypeRef.TheVariants.{Bool, Text, Unit as Nothing, Named, Own}
use Rattle.wy_types.specs.declared.resolved.TypeDecl.{TypeDecl}
use Rattle.wy_types.specs.declared.resolved.Origin.TheVariants.{Parameter, Grant, Instance}
use Rattle.wy_types.specs.declared.resolved.ScopeKind.TheVariants as kind
use Rattle.wy_types.specs.Code as code
use Rattle.wy_types.specs.Program.{Program, Scope}
use Rattle.wy_types.specs.Types.{methods_of}
use Rattle.wy_rules.specs.Readings.{annotated_reading}
use Rattle.wy_rules.specs.Derivations.{T-Lit, T-Var, T-Call, none, more, Result, T-Body, T-Body-Init}
use Rattle.wy_rules.specs.Typing.{ScopeHolds}
use Rattle.wy_rules.specs.Acceptance.{Handed, HasMembers, IsArgument, RespectsBounds, SealHolds, LineHolds, ScopeAccepted, Accepted}
use Rattle.wy_rules.proofs.Closed.{annotated_subtype}
use Rattle.wy_rules.proofs.Each.{by_number, arguments_hold, members_hold, lines_hold}
use Rattle.wy_rules.proofs.Sources.{at, parameter, own_name, one, two, last, method, declaration, own, object, body, atoms_of, folder_atoms, folder, head, module_of, main_of, program}

abbrev pub logger_type : TypeDecl
logger_type = declaration (codes "Logger") (codes "Log" ∷ []) (method (codes "log") (Text ∷ []) (0 ∷ []) Nothing ∷ [])

abbrev pub append_call : code.Expr
append_call = code.Call (at 6 41) (own_name (at 6 36) 0) (codes "append") (two (code.Quoted (at 6 48) (codes "log")) (parameter (at 6 55) 0 0))

-- the module, with the effect that `log` declares
abbrev pub logger_with : List ℕ → Scope
logger_with effect =
    module_of (head kind.Resource (at 4 17) (codes "logger") (folder_atoms (codes "disk")) (own (at 4 24) (codes "disk") folder (Parameter true) ∷ []) 5 ((2 ∷ []) ∷ []))
    (object [] ∷ []) (at 4 1) [] code.none
    (body 0 (at 6 3) (method (codes "log") (Text ∷ []) effect Nothing) (last append_call) ∷ [])

abbrev pub second : ℕ → ℕ → Place
second line column = record { file = 2; line = line; column = column }

abbrev pub log_call : code.Expr
log_call = code.Call (second 5 8) (own_name (second 5 5) 1) (codes "log") (one (code.Quoted (second 5 12) (codes "a")))

-- the program, with the effect that `run` declares
abbrev pub main_with : List ℕ → Scope
main_with effect =
    main_of (folder_atoms (codes "disk") ++ atoms_of (codes "lg") (codes "Log" ∷ []))
    (own (second 2 9) (codes "disk") folder Grant ∷ own (second 3 12) (codes "lg") (Named 5 ((4 ∷ []) ∷ [])) (Instance 0 (0 ∷ [])) ∷ [])
    [] (second 4 3) effect (last log_call) []

abbrev pub logger_program : List ℕ → List ℕ → Program
logger_program log run = program (logger_type ∷ []) (logger_with log ∷ main_with run ∷ [])

abbrev accepted_program : Program
accepted_program = logger_program (2 ∷ []) (4 ∷ [])

-- the body of `log`: a call on the folder, whose effect is `disk.Append`
logger_derives : ScopeHolds (annotated_reading accepted_program 0) (logger_with (2 ∷ []))
logger_derives = record {
  derivation = record {
    locals = [];
    start = T-Body-Init (at 4 1) none;
    bodies = T-Body (at 6 3) (Result (T-Call (at 6 41) (T-Var (at 6 36)) folder [] (more (T-Lit (at 6 48)) [] (more (T-Var (at 6 55)) [] none)))) (2 ∷ []) ∷ [];
  };
  derives = (
    (refl, tt, λ a i. by_member a i),
    ((refl, (_, refl, (refl, refl, refl), tt, refl, ((_, refl, refl, refl, refl), ((refl, refl, refl), tt)), refl, refl), λ a i. by_member a i), tt),
  );
}

-- the body of `run`: a call on the instance, whose effect is `lg.Log`
main_derives : ScopeHolds (annotated_reading accepted_program 1) (main_with (4 ∷ []))
main_derives = record {
  derivation = record {
    locals = [];
    start = T-Body (second 4 3) (Result (T-Call (second 5 8) (T-Var (second 5 5)) (Named 5 ((4 ∷ []) ∷ [])) [] (more (T-Lit (second 5 12)) [] none))) (4 ∷ []);
    bodies = [];
  };
  derives = (
    (refl, (_, refl, (refl, refl, refl), tt, refl, ((_, refl, refl, refl, refl), tt), refl, refl), λ a i. by_member a i),
    tt,
  );
}

-- M-Ascribe: the module's own method has the effect that the module defines
logger_sealed : SealHolds (annotated_reading accepted_program 0) (logger_with (2 ∷ [])) (Some 5)
logger_sealed =
    annotated_subtype (methods_of accepted_program 0) ((Own 0, Named 5 ((2 ∷ []) ∷ [])) ∷ (Text, Text) ∷ (Nothing, Nothing) ∷ [])
    (Own 0) (Named 5 ((2 ∷ []) ∷ [])) refl refl

abbrev handed_disk : Handed
handed_disk = record { parameter = own (at 4 24) (codes "disk") folder (Parameter true); argument = 0 }

-- M-Inst: the folder has all members of a folder, and is one
line_holds : LineHolds accepted_program 1 (main_with (4 ∷ [])).names (Instance 0 (0 ∷ []))
line_holds =
    let names = (main_with (4 ∷ [])).names in
    record {
      resource = (logger_with (2 ∷ []), refl, refl);
      numbers = refl;
      members = arguments_hold accepted_program 1 names (HasMembers accepted_program 1 names) 0 (0 ∷ [])
          (members_hold accepted_program 1 names handed_disk ((_, refl), ((_, refl), ((_, refl), ((_, refl), tt)))), tt);
      types = arguments_hold accepted_program 1 names (IsArgument accepted_program 1 names ((0 ∷ []) ∷ (1 ∷ []) ∷ (2 ∷ []) ∷ (3 ∷ []) ∷ [])) 0 (0 ∷ [])
          (annotated_subtype (methods_of accepted_program 1) ((folder, folder) ∷ (Text, Text) ∷ (Bool, Bool) ∷ (Nothing, Nothing) ∷ []) folder folder refl refl, tt);
      bounds = arguments_hold accepted_program 1 names (RespectsBounds accepted_program 1 names) 0 (0 ∷ []) (λ a b e. absurd (none_bounded 4 a b e), tt);
    }

logger_accepted : Accepted accepted_program
logger_accepted = record {
  scopes = by_number (ScopeAccepted accepted_program) accepted_program.scopes (
    record { pure = tt; bodies = logger_derives; seal = (logger_sealed, λ a b e. absurd (none_bounded 1 a b e)); lines = lines_hold accepted_program 0 (logger_with (2 ∷ [])).names (tt, tt) },
    (record { pure = tt; bodies = main_derives; seal = (tt, tt); lines = lines_hold accepted_program 1 (main_with (4 ∷ [])).names (tt, (line_holds, tt)) }, tt),
  );
}
