use Rattle.std.proofs.Common.{◌↔◌, IsTrue, List, subst}
use Rattle.wy_text.specs.Members.{In}
use Rattle.wy_image.specs.declared.file.Entry.{Entry}
use Rattle.wy_image.specs.declared.file.Literal.{Literal}
use Rattle.wy_verified.specs.Ranges.{EntriesInRange}
use Rattle.wy_verify.proofs.RangeWhole.{scope_of, scope_rows}
use Rattle.wy_verify.proofs.RangeTests.{refuted}
use Rattle.wy_verify.proofs.RangeJoins.{ok_reworded}
use Rattle.wy_verify.proofs.ranges.scopes.is_scope.Goals as goal

pub returns-then-not-has_no_parameters : goal.returns-then-not-has_no_parameters
returns-then-not-has_no_parameters c =
    refuted c.has_no_parameters.result c.if-not-has_no_parameters.true
    (c.has_no_parameters.ensures)
    (λ h. h.no_parameters)

pub returns-then-not-own : goal.returns-then-not-own
returns-then-not-own c =
    refuted c.in_ok-own.own c.if-not-own.true
    (subst (λ (l : List Entry). IsTrue c.in_ok-own.own ↔ EntriesInRange c.args.file.now l) c.as_slice-entries.ensures c.in_ok-own.ensures)
    (λ h. h.entries)

pub returns-then-not-all : goal.returns-then-not-all
returns-then-not-all c =
    refuted c.in_ok-all.all c.if-not-all.true
    (subst (λ (l : List Literal). IsTrue c.in_ok-all.all ↔ ((x : Literal) → In x l → EntriesInRange c.args.file.now x.entries)) c.as_slice-literals.ensures c.in_ok-all.ensures)
    (λ h. h.literals)

pub returns : goal.returns
returns c =
    ok_reworded c.has_rows.result
    (c.has_rows.ensures)
    (λ p. scope_of c.args.file.now c.args.scope.now ((c.has_no_parameters.ensures).0 c.if-not-has_no_parameters.false) ((subst (λ (l : List Entry). IsTrue c.in_ok-own.own ↔ EntriesInRange c.args.file.now l) c.as_slice-entries.ensures c.in_ok-own.ensures).0 c.if-not-own.false) ((subst (λ (l : List Literal). IsTrue c.in_ok-all.all ↔ ((x : Literal) → In x l → EntriesInRange c.args.file.now x.entries)) c.as_slice-literals.ensures c.in_ok-all.ensures).0 c.if-not-all.false) p)
    (scope_rows c.args.file.now c.args.scope.now)
