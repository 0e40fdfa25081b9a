use Rattle.std.proofs.Common.{List, Option, None, map, sym, ap, subst, ◌∙◌, refl}
use Rattle.std.specs.Prelude.{slice_get}
use Rattle.std.proofs.lemmas.Option.{slice_get_read}
use Rattle.wy_effects.proofs.Walks.{drop_none}
use Rattle.wy_text.specs.declared.fault.Fault.{Fault}
use Rattle.wy_types.specs.declared.resolved.Scope.{Scope}
use Rattle.wy_types.specs.Program.{program_of, scope_of}
use Rattle.wy_judge.proofs.ScopeParts.{scope_there}
use Rattle.wy_link.specs.Lines.{LinesFrom}
use Rattle.wy_premises.proofs.Trying.{left_at}
use Rattle.wy_link.proofs.LineNodes.{next_scope, this_scope, no_scope, lines_from}
use Rattle.wy_link.proofs.lines.judge_lines.Goals as goal

pub scope_fault-requires-clause-context : goal.scope_fault-requires-clause-context
scope_fault-requires-clause-context c =
    let k = c.loop-number.number in
    let x = c.index-scopes-number.result in
    let scopes = c.as_slice-scopes.result.now in
    scope_there c.args.core.now k x c.requires.keeps.core
    (ap (λ (l : List Scope). slice_get l k) (sym c.as_slice-scopes.ensures) ∙ slice_get_read scopes _ k x refl c.loop-number-test.true c.index-scopes-number.is)

pub returns-then-is_some : goal.returns-then-is_some
returns-then-is_some c =
    let p = program_of c.args.core.now in
    let k = c.loop-number.number in
    let x = c.index-scopes-number.result in
    let scopes = c.as_slice-scopes.result.now in
    let W = λ (o : Option Fault). LinesFrom p 0 (map scope_of scopes) o in
    lines_from p c.in_ok-next.next
    (subst (λ (l : List Scope). LinesFrom p 0 (map scope_of l) c.in_ok-next.next) c.as_slice-scopes.ensures
    (this_scope p W k _ _ x c.in_ok-next.next (left_at scopes k x c.loop-number-test.true c.index-scopes-number.is) c.in_ok-next.ensures (sym c.if-is_some.ensures) c.loop-number.invariant))

pub loop-number-preserved : goal.loop-number-preserved
loop-number-preserved c =
    let p = program_of c.args.core.now in
    let k = c.loop-number.number in
    let x = c.index-scopes-number.result in
    let scopes = c.as_slice-scopes.result.now in
    let W = λ (o : Option Fault). LinesFrom p 0 (map scope_of scopes) o in
    next_scope p W k _ _ x c.in_ok-next.next (left_at scopes k x c.loop-number-test.true c.index-scopes-number.is) c.in_ok-next.ensures (sym c.if-is_some.ensures) c.loop-number.invariant

pub returns : goal.returns
returns c =
    let p = program_of c.args.core.now in
    let k = c.loop-number.number in
    let scopes = c.as_slice-scopes.result.now in
    let W = λ (o : Option Fault). LinesFrom p 0 (map scope_of scopes) o in
    lines_from p None
    (subst (λ (l : List Scope). LinesFrom p 0 (map scope_of l) None) c.as_slice-scopes.ensures (no_scope p W k _ (drop_none scopes k c.loop-number-test.false) c.loop-number.invariant))
