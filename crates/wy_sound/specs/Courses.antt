-- What a program does over given answers.
use Rattle.std.specs.Prelude.{ℕ}
use Rattle.wy_types.specs.Program.{Program}
use Rattle.wy_device.specs.Tapes.{Tapes}
use Rattle.wy_meaning.specs.Start.{Course, meaning}
use Rattle.wy_sound.specs.Programs.{program_starts}

-- what a program does over these tapes, where at most n calls on objects are open at once
abbrev pub course : Program → ℕ → Tapes → Course
course p n tapes = meaning n p (program_starts p) tapes
