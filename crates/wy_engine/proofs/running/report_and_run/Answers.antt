use Rattle.std.proofs.Common.{◌≡◌, ◌∙◌, ℕ, List, ap, subst, sym}
use Rattle.wy_text.specs.Outside.{SinkState}
use Rattle.wy_device.specs.Devices.{DevicesState}
use Rattle.wy_authority.specs.Authority.{authority_of}
use Rattle.wy_authority.specs.Report.{report_text}
use Rattle.wy_authority.specs.declared.rows.Authority.{Authority}
use Rattle.wy_code.specs.declared.code.Code.{Code}
use Rattle.wy_lower.specs.Lowering.{lowered}
use Rattle.wy_machine.specs.Observing.{instance_names}
use Rattle.wy_machine.specs.Runs.{ImageState}
use Rattle.wy_policy.specs.Used.{used_sets, used_text}
use Rattle.wy_sound.specs.Programs.{program_starts}
use Rattle.wy_types.specs.Program.{Program, program_of}
use Rattle.wy_engine.specs.Answering.{ran_program}
use Rattle.wy_engine.specs.Judgement.{observed_text}
use Rattle.wy_engine.specs.ProgramLaws.{row_names}
use Rattle.wy_engine.specs.Running.{RunsAs, RunsImage, summary_in}
use Rattle.wy_engine.specs.declared.running.Mode.{Mode}
use Rattle.wy_engine.specs.declared.status.Status.{Status}
use Rattle.wy_engine.proofs.NamesInCode.{names_in_code}
use Rattle.wy_engine.proofs.Outcomes.{ran_on}
use Rattle.wy_engine.proofs.running.report_and_run.Goals as goal

-- what was loaded is a program's code, and what is written beside its run is of its authority
runs_as : (way : Mode) (program : Program) (summary : List ℕ) (a : Authority) (image : ImageState) (depth steps : ℕ) (out out' : SinkState) (devices devices' : DevicesState) (end : Status)
    → summary ≡ summary_in way program → a ≡ authority_of program → image.code ≡ lowered program (program_starts program) → image.depth ≡ depth
    → RunsImage way summary (λ events. used_text a (used_sets a events)) image.code image.depth steps out out' devices devices' end → RunsAs way program depth steps out out' devices devices' end
runs_as way program summary a image depth steps out out' devices devices' end sums is code deep so =
    subst (λ (text : List ℕ). RunsImage way text (observed_text program) (lowered program (program_starts program)) depth steps out out' devices devices' end) sums
    (subst (λ (b : Authority). RunsImage way summary (λ events. used_text b (used_sets b events)) (lowered program (program_starts program)) depth steps out out' devices devices' end) is
    (subst (λ (d : ℕ). RunsImage way summary (λ events. used_text a (used_sets a events)) (lowered program (program_starts program)) d steps out out' devices devices' end) deep
    (subst (λ (l : Code). RunsImage way summary (λ events. used_text a (used_sets a events)) l image.depth steps out out' devices devices' end) code so)))

pub run_image-requires-clause-names : goal.run_image-requires-clause-names
run_image-requires-clause-names g c =
    ap (λ (l : Code). instance_names l) c.requires.code ∙ names_in_code (program_of c.args.accepted.now.core)
    ∙ ap (λ (a : Authority). row_names a.rows) (sym c.in-Ok.ensures)

pub returns-in-Ok-write_report : goal.returns-in-Ok-write_report
returns-in-Ok-write_report g c =
    let program : Program = program_of c.args.accepted.now.core in
    ran_program c.requires.within c.requires.folders (ran_on c.args.manner.way program c.args.manner.depth c.args.manner.steps (report_text c.in-Ok.authority) _ _ _ _ _ _ _
    (ap (λ (a : Authority). report_text a) c.in-Ok.ensures) c.in-Ok-write_report.ensures.whole
    (runs_as c.args.manner.way program c.as_bytes-text.result.now c.in-Ok.authority c.args.image.now c.args.manner.depth c.args.manner.steps _ _ _ _ _
    (c.as_bytes-text.ensures ∙ c.in-Ok-summary_of.ensures program c.in-Ok.ensures) c.in-Ok.ensures c.requires.code c.requires.deep c.run_image.ensures))
