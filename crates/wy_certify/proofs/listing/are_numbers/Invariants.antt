use Rattle.std.proofs.Common.{take}
use Rattle.wy_text.specs.Members.{In}
use Rattle.wy_spelling.specs.Spelling.{IsNumber}
use Rattle.wy_certify.specs.declared.step.Step as own
use Rattle.wy_certify.proofs.listing.are_numbers.Given as goal

abbrev pub invariant-loop-step : goal.invariant-loop-step
invariant-loop-step l = (x : own.Step) → In x (take l.step-index l.steps) → IsNumber x.parts
