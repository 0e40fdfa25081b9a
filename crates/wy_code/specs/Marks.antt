-- Tests of the marks of code: of the places of its instructions. (docs/LANGUAGE.md, "Marks")
use Rattle.std.specs.Prelude.{◌≡◌, Bool, true, List, [], ◌∷◌}
use Rattle.wy_text.specs.declared.fault.Place.{Place}
use Rattle.wy_code.specs.declared.instruction.Placed.{Placed}
use Rattle.wy_code.specs.declared.code.Body.{Body}
use Rattle.wy_code.specs.declared.code.Code.{Code}

-- the mark of each instruction passes the test
abbrev pub InstructionsPass : (Place → Bool) → List Placed → Type 0
InstructionsPass test [] = Unit {0}
InstructionsPass test (x ∷ xs) = (test x.place ≡ true) × InstructionsPass test xs

abbrev pub BodiesPass : (Place → Bool) → List Body → Type 0
BodiesPass test [] = Unit {0}
BodiesPass test (b ∷ bs) = InstructionsPass test b.instructions × BodiesPass test bs

abbrev pub CodePasses : (Place → Bool) → Code → Type 0
CodePasses test code = BodiesPass test code.bodies
