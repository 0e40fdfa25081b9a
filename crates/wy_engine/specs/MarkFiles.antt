-- The marks of the code of accepted texts are places in these texts.
use Rattle.std.specs.Prelude.{◌≤◌, ℕ, List, length}
use Rattle.wy_text.specs.Members.{In}
use Rattle.wy_types.specs.Program.{Program}
use Rattle.wy_code.specs.declared.code.Body.{Body}
use Rattle.wy_code.specs.declared.instruction.Placed.{Placed}
use Rattle.wy_lower.specs.Lowering.{lowered}
use Rattle.wy_sound.specs.Programs.{program_starts}
use Rattle.wy_engine.specs.Passing.{Passes}

-- the mark of each instruction is in one of the files, which count from 1
abbrev pub MarksAreInFiles : Type 0
MarksAreInFiles =
    (texts : List (List ℕ)) (program : Program) → Passes texts program →
    (b : Body) → In b (lowered program (program_starts program)).bodies → (x : Placed) → In x b.instructions → (1 ≤ x.place.file) × (x.place.file ≤ length texts)
