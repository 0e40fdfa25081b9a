use Rattle.std.proofs.Common.{◌↔◌, IsTrue, ℕ, List, subst}
use Rattle.wy_text.specs.Members.{In}
use Rattle.wy_image.specs.declared.typing.Target.{Target}
use Rattle.wy_verified.specs.Ranges.{TargetInRange}
use Rattle.wy_verify.proofs.ranges.bounds.has_targets.Goals as goal

pub returns : goal.returns
returns c =
    subst (λ (k : ℕ). IsTrue c.are_targets.result ↔ ((t : Target) → In t c.args.bounds.now.targets → TargetInRange c.args.writer.now.file.now c.args.writer.now.instance c.args.writer.now.scope.now c.args.body.now k t)) c.len.ensures
    (subst (λ (l : List Target). IsTrue c.are_targets.result ↔ ((t : Target) → In t l → TargetInRange c.args.writer.now.file.now c.args.writer.now.instance c.args.writer.now.scope.now c.args.body.now c.len.result t)) c.as_slice.ensures c.are_targets.ensures)
