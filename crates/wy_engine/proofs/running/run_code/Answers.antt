use Rattle.std.proofs.Common.{rules, ◌≡◌, ◌∙◌, Bool, List, ap, false, map, refl, sym, true}
use Rattle.wy_code.specs.declared.code.Code.{Code}
use Rattle.wy_code.specs.declared.code.Grant.{Grant}
use Rattle.wy_lower.specs.Lowering.{lowered}
use Rattle.wy_settings.specs.Folders.{GivenFolder, given_folder}
use Rattle.wy_sound.specs.Programs.{program_starts}
use Rattle.wy_types.specs.Program.{Program, program_of}
use Rattle.wy_engine.specs.Answering.{lacking}
use Rattle.wy_engine.specs.Folders.{fit_grants, fit_program, grants_of}
use Rattle.wy_engine.proofs.running.run_code.Goals as goal

-- the grants of a program's code are the program's
lowered_grants : (program : Program) → (lowered program (program_starts program)).grants ≡ grants_of program
unfolding lowered
lowered_grants program = refl

fit_code : (program : Program) (code : Code) (folders : List GivenFolder) (fits : Bool) → code ≡ lowered program (program_starts program) → fit_grants code.grants folders ≡ fits → fit_program program folders ≡ fits
fit_code program code folders fits is fit =
    ap (λ (grants : List Grant). fit_grants grants folders) (sym (ap (λ (l : Code). l.grants) is ∙ lowered_grants program)) ∙ fit

pub report_and_run-requires-clause-folders : goal.report_and_run-requires-clause-folders
report_and_run-requires-clause-folders g c =
    fit_code (program_of c.args.accepted.now.core) c.args.code.now (map given_folder c.args.manner.folders.now) true c.requires.code (search rules)

pub returns-then-not-fit_grants : goal.returns-then-not-fit_grants
returns-then-not-fit_grants g c =
    lacking c.requires.within
    (fit_code (program_of c.args.accepted.now.core) c.args.code.now (map given_folder c.args.manner.folders.now) false c.requires.code (search rules)) refl refl refl refl
