use Rattle.std.proofs.Common.{◌↔◌, IsTrue, List, subst, map}
use Rattle.wy_text.specs.Members.{In, Apart}
use Rattle.wy_image.specs.declared.typing.Bounds.{Bounds}
use Rattle.wy_verify.specs.RangeParts.{AreStatedOnce, BoundsFit}
use Rattle.wy_verify.proofs.RangeWhole.{typing_of, typing_values, typing_once, typing_each}
use Rattle.wy_verify.proofs.RangeTests.{refuted, reworded}
use Rattle.wy_verify.proofs.ranges.instances.is_typing.Goals as goal

pub returns-then-not-has_values : goal.returns-then-not-has_values
returns-then-not-has_values c =
    refuted c.has_values.result c.if-not-has_values.true
    (c.has_values.ensures)
    (typing_values c.args.writer.now.file.now c.args.writer.now.instance c.args.writer.now.scope.now c.args.typing.now)

pub returns-then-not-once : goal.returns-then-not-once
returns-then-not-once c =
    refuted c.in_ok-once.once c.if-not-once.true
    (subst (λ (l : List Bounds). IsTrue c.in_ok-once.once ↔ AreStatedOnce c.args.writer.now.scope.now l) c.as_slice-bodies.ensures c.in_ok-once.ensures)
    (typing_once c.args.writer.now.file.now c.args.writer.now.instance c.args.writer.now.scope.now c.args.typing.now)

pub returns-then-not-apart : goal.returns-then-not-apart
returns-then-not-apart c =
    refuted c.in_ok-apart.apart c.if-not-apart.true
    (subst (λ (l : List Bounds). IsTrue c.in_ok-apart.apart ↔ Apart (map (λ (n : Bounds). n.name) l)) c.as_slice-bodies.ensures c.in_ok-apart.ensures)
    (λ h. h.names)

pub returns : goal.returns
returns c =
    reworded c.fit_their_bodies.result
    (subst (λ (l : List Bounds). IsTrue c.fit_their_bodies.result ↔ ((n : Bounds) → In n l → BoundsFit c.args.writer.now.file.now c.args.writer.now.instance c.args.writer.now.scope.now n)) c.as_slice-bodies.ensures c.fit_their_bodies.ensures)
    (λ p. typing_of c.args.writer.now.file.now c.args.writer.now.instance c.args.writer.now.scope.now c.args.typing.now ((c.has_values.ensures).0 c.if-not-has_values.false) ((subst (λ (l : List Bounds). IsTrue c.in_ok-once.once ↔ AreStatedOnce c.args.writer.now.scope.now l) c.as_slice-bodies.ensures c.in_ok-once.ensures).0 c.if-not-once.false) ((subst (λ (l : List Bounds). IsTrue c.in_ok-apart.apart ↔ Apart (map (λ (n : Bounds). n.name) l)) c.as_slice-bodies.ensures c.in_ok-apart.ensures).0 c.if-not-apart.false) p)
    (typing_each c.args.writer.now.file.now c.args.writer.now.instance c.args.writer.now.scope.now c.args.typing.now)
