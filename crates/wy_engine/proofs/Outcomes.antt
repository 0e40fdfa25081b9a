-- What a run came to, by how far it got.
use Rattle.std.proofs.Common.{◌≡◌, ℕ, List, [], refl, inl, inr, subst}
use Rattle.wy_text.specs.Outside.{Rose, SinkState}
use Rattle.wy_text.specs.Writing.{StopsShort, WritesUpTo}
use Rattle.wy_device.specs.Devices.{DevicesState}
use Rattle.wy_types.specs.Program.{Program}
use Rattle.wy_engine.specs.Writing.{Wrote, starved}
use Rattle.wy_engine.specs.declared.running.Mode.{Mode}
use Rattle.wy_engine.specs.Judgement.{authority_text}
use Rattle.wy_engine.specs.Running.{Ran, RunsAs, performed, stopped}
use Rattle.wy_engine.specs.declared.status.Status.{Status}
use Rattle.wy_engine.specs.declared.status.Status.TheVariants as status

pub ran_cut : (way : Mode) (program : Program) (depth steps : ℕ) (text : List ℕ) (out report report' : SinkState) (devices : DevicesState) → text ≡ authority_text program
    → StopsShort text report report' × Rose report.faults report'.faults → Ran way program depth steps out out report report' devices devices status.Unwritten
ran_cut way program depth steps text out report report' devices is cut = stopped (subst (λ x. StopsShort x report report') is cut.0) refl refl (inr (refl, cut.1))

pub ran_starved : (way : Mode) (program : Program) (depth steps : ℕ) (text : List ℕ) (out report report' : SinkState) (devices : DevicesState) → text ≡ authority_text program
    → StopsShort text report report' → Ran way program depth steps out out report report' devices devices status.Memory
ran_starved way program depth steps text out report report' devices is short = stopped (subst (λ x. StopsShort x report report') is short) refl refl (inl refl)

pub ran_on : (way : Mode) (program : Program) (depth steps : ℕ) (text : List ℕ) (out out' report report' : SinkState) (devices devices' : DevicesState) (end : Status) → text ≡ authority_text program
    → WritesUpTo text [] report report' → RunsAs way program depth steps out out' devices devices' end → Ran way program depth steps out out' report report' devices devices' end
ran_on way program depth steps text out out' report report' devices devices' end is written runs = performed (subst (λ x. WritesUpTo x [] report report') is written) runs

pub wrote_part : (text : List ℕ) (out out' : SinkState) → StopsShort text out out' → Wrote text out out' status.Memory
wrote_part text out out' short = starved short.rest short.written refl
