use Rattle.std.proofs.Common.{take}
use Rattle.wy_image.specs.declared.file.Literal.{Literal}
use Rattle.wy_text.specs.Members.{In}
use Rattle.wy_verified.specs.Ranges.{EntriesInRange}
use Rattle.wy_verify.proofs.ranges.scopes.are_literals.Given as goal

abbrev pub invariant-loop-literal : goal.invariant-loop-literal
invariant-loop-literal l = (x : Literal) → In x (take l.literal-index l.literals) → (λ (x : Literal). EntriesInRange l.file x.entries) x
