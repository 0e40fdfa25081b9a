-- What the layers below say together of an accepted program.
use Rattle.std.specs.Prelude.{◌≤◌, ℕ, List, length, map}
use Rattle.wy_authority.specs.Authority.{authority_of}
use Rattle.wy_authority.specs.declared.rows.InstanceRow.{InstanceRow}
use Rattle.wy_code.specs.Running.{NeverStuck, machine}
use Rattle.wy_device.specs.Tapes.{Tapes}
use Rattle.wy_device.specs.declared.deed.Event.{Event}
use Rattle.wy_text.specs.Members.{Apart, In}
use Rattle.wy_lower.specs.Correct.{Follows}
use Rattle.wy_lower.specs.Lowering.{lowered}
use Rattle.wy_meaning.specs.Bounds.{Bounded}
use Rattle.wy_meaning.specs.Laws.{IsCheap, TakesInOrder}
use Rattle.wy_sound.specs.Courses.{course}
use Rattle.wy_sound.specs.Programs.{allowed, program_starts}
use Rattle.wy_sound.specs.Used.{IsUsedWithin}
use Rattle.wy_types.specs.Program.{Program}
use Rattle.wy_engine.specs.Judgement.{IsReported}
use Rattle.wy_engine.specs.Passing.{Passes}

-- the names of the instances of a report
abbrev pub row_names : List InstanceRow → List (List ℕ)
row_names rows = map (λ (r : InstanceRow). r.name) rows

-- Its code does what it means, at every depth, bound and answers, and is never stuck; no run of it takes more than four
-- steps a node, or answers out of their order; each operation in one is in the authority of every call that is open; and that
-- authority is what the report says. Of events that keep to it, what was used of an instance is within what the report's line of the instance
-- says. The report has few atoms, and tells its instances apart.
pub record RunsAsMeant (program : Program) : Type 0 where
  pub follows : (depth bound : ℕ) (tapes : Tapes) → Follows (course program depth tapes) bound (machine (lowered program (program_starts program)) depth bound tapes)
  pub stuck : NeverStuck (lowered program (program_starts program))
  pub cheap : (depth : ℕ) (tapes : Tapes) → IsCheap (course program depth tapes)
  pub ordered : (depth : ℕ) → TakesInOrder depth program (program_starts program)
  pub bounded : (depth : ℕ) (tapes : Tapes) → Bounded (allowed program) (course program depth tapes).events
  pub reported : IsReported program
  pub used : (events : List Event) → Bounded (allowed program) events → (r : InstanceRow) → In r (authority_of program).rows → IsUsedWithin program events r
  pub few : length (authority_of program).atoms ≤ 512
  pub told : Apart (row_names (authority_of program).rows)

abbrev pub AcceptedRunAsMeant : Type 0
AcceptedRunAsMeant = (texts : List (List ℕ)) (program : Program) → Passes texts program → RunsAsMeant program
