use Rattle.std.proofs.Common.{◌↔◌, IsTrue, List, subst}
use Rattle.std.specs.Prelude.{IfOk}
use Rattle.wy_text.specs.Members.{In}
use Rattle.wy_image.specs.declared.typing.Signature.{Signature}
use Rattle.wy_image.specs.declared.file.Scope.{Scope}
use Rattle.wy_verified.specs.Ranges.{TypeInRange, ScopeInRange}
use Rattle.wy_verify.proofs.RangeWhole.{parts_of}
use Rattle.wy_verify.proofs.RangeTests.{refuted}
use Rattle.wy_verify.proofs.RangeJoins.{ok_reworded}
use Rattle.wy_verify.proofs.ranges.are_parts_in_range.Goals as goal

pub returns-then-not-typed : goal.returns-then-not-typed
returns-then-not-typed c =
    refuted c.in_ok-typed.typed c.if-not-typed.true
    (subst (λ (l : List (List Signature)). IsTrue c.in_ok-typed.typed ↔ ((t : List Signature) → In t l → TypeInRange c.args.file.now t)) c.as_slice-types.ensures c.in_ok-typed.ensures)
    (λ h. h.types)

pub returns-then-not-once : goal.returns-then-not-once
returns-then-not-once c =
    refuted c.in_ok-once.once c.if-not-once.true
    (c.in_ok-once.ensures)
    (λ h. h.bodies)

pub returns : goal.returns
returns c =
    ok_reworded c.are_scopes.result
    (subst (λ (l : List Scope). IfOk c.are_scopes.result (λ b. IsTrue b ↔ ((s : Scope) → In s l → ScopeInRange c.args.file.now s))) c.as_slice-scopes.ensures c.are_scopes.ensures)
    (λ p. parts_of c.args.file.now ((subst (λ (l : List (List Signature)). IsTrue c.in_ok-typed.typed ↔ ((t : List Signature) → In t l → TypeInRange c.args.file.now t)) c.as_slice-types.ensures c.in_ok-typed.ensures).0 c.if-not-typed.false) ((c.in_ok-once.ensures).0 c.if-not-once.false) p)
    (λ h. h.scopes)
