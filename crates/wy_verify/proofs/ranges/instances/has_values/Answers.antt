use Rattle.std.proofs.Common.{◌↔◌, IsTrue, ℕ, List, subst, ◌≡◌, Some}
use Rattle.std.specs.Prelude.{slice_get}
use Rattle.wy_image.specs.declared.typing.Reference.{Reference}
use Rattle.wy_verified.specs.Ranges.{ValuesInRange, LiteralStated}
use Rattle.wy_verify.proofs.RangeWhole.{has_values_of}
use Rattle.wy_verify.proofs.RangeTests.{refuted, reworded}
use Rattle.wy_verify.proofs.ranges.instances.has_values.Goals as goal

pub returns-then-not-are_values : goal.returns-then-not-are_values
returns-then-not-are_values c =
    refuted c.are_values.result c.if-not-are_values.true
    (subst (λ (l : List Reference). IsTrue c.are_values.result ↔ ValuesInRange c.args.writer.now.file.now c.args.writer.now.instance c.args.writer.now.scope.now c.args.writer.now.scope.now.arguments c.args.writer.now.scope.now.fields l) c.as_slice-values.ensures c.are_values.ensures)
    (λ v. v.values)

pub returns-then-not-has_all_literals : goal.returns-then-not-has_all_literals
returns-then-not-has_all_literals c =
    refuted c.has_all_literals.result c.if-not-has_all_literals.true
    (c.has_all_literals.ensures)
    (λ v. v.count)

pub returns : goal.returns
returns c =
    reworded c.are_literals_stated.result
    (subst (λ (l : List (List Reference)). IsTrue c.are_literals_stated.result ↔ ((k : ℕ) (rs : List Reference) → slice_get l k ≡ Some rs → LiteralStated c.args.writer.now.file.now c.args.writer.now.instance c.args.writer.now.scope.now (slice_get c.args.writer.now.scope.now.literals k) rs)) c.as_slice-literals.ensures c.are_literals_stated.ensures)
    (λ p. has_values_of c.args.writer.now.file.now c.args.writer.now.instance c.args.writer.now.scope.now c.args.typing.now ((subst (λ (l : List Reference). IsTrue c.are_values.result ↔ ValuesInRange c.args.writer.now.file.now c.args.writer.now.instance c.args.writer.now.scope.now c.args.writer.now.scope.now.arguments c.args.writer.now.scope.now.fields l) c.as_slice-values.ensures c.are_values.ensures).0 c.if-not-are_values.false) ((c.has_all_literals.ensures).0 c.if-not-has_all_literals.false) p)
    (λ v. v.literals)
