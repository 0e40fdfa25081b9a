use Rattle.std.proofs.Common.{ℕ, ◌≡◌, ◌<◌, List, Some}
use Rattle.std.specs.Prelude.{slice_get}
use Rattle.wy_image.specs.declared.typing.Reference.{Reference}
use Rattle.wy_verified.specs.Ranges.{LiteralStated}
use Rattle.wy_verify.proofs.ranges.instances.are_literals_stated.Given as goal

abbrev pub invariant-loop-l : goal.invariant-loop-l
invariant-loop-l l = (k : ℕ) (y : List Reference) → k < l.l → slice_get l.literals k ≡ Some y → (λ (k : ℕ) (rs : List Reference). LiteralStated l.writer.file.now l.writer.instance l.writer.scope.now (slice_get l.writer.scope.now.literals k) rs) k y
