use Rattle.std.proofs.Common.{List, Option, None, sym, subst, ◌∙◌}
use Rattle.wy_effects.proofs.Walks.{drop_none}
use Rattle.wy_text.specs.declared.fault.Fault.{Fault}
use Rattle.wy_types.specs.declared.resolved.OwnName.{OwnName}
use Rattle.wy_types.specs.Program.{program_of, scope_of}
use Rattle.wy_rules.specs.Nodes.{lines_nodes}
use Rattle.wy_link.specs.Lines.{NodesComeTo}
use Rattle.wy_premises.proofs.Trying.{left_at}
use Rattle.wy_link.proofs.LineNodes.{next_name, this_name, no_name}
use Rattle.wy_link.proofs.lines.names_fault.Goals as goal

pub returns-then-is_some : goal.returns-then-is_some
returns-then-is_some c =
    let p = program_of c.args.core.now in
    let k = c.args.number in
    let s = scope_of c.args.scope.now in
    let names = c.as_slice-names.result.now in
    let i = c.loop-name.name-index in
    let W = λ (o : Option Fault). NodesComeTo p k s (lines_nodes names) o in
    subst (λ (ns : List OwnName). NodesComeTo p k s (lines_nodes ns) c.in_ok-next.next) c.as_slice-names.ensures
    (this_name p k s W _ _ c.name-item.result c.in_ok-next.next (left_at names i c.name-item.result c.loop-name-test.true c.name-item.is) c.in_ok-next.ensures.outcome (sym c.if-is_some.ensures) c.loop-name.invariant.tried)

pub loop-name-preserved : goal.loop-name-preserved
loop-name-preserved c =
    let p = program_of c.args.core.now in
    let k = c.args.number in
    let s = scope_of c.args.scope.now in
    let names = c.as_slice-names.result.now in
    let i = c.loop-name.name-index in
    let W = λ (o : Option Fault). NodesComeTo p k s (lines_nodes names) o in
    record {
      tried = next_name p k s W _ _ c.name-item.result c.in_ok-next.next (left_at names i c.name-item.result c.loop-name-test.true c.name-item.is) c.in_ok-next.ensures.outcome (sym c.if-is_some.ensures) c.loop-name.invariant.tried;
      annotated = c.name_fault.ensures.same_annotated ∙ c.loop-name.invariant.annotated;
      plain = c.name_fault.ensures.same_plain ∙ c.loop-name.invariant.plain;
    }

pub returns : goal.returns
returns c =
    let p = program_of c.args.core.now in
    let k = c.args.number in
    let s = scope_of c.args.scope.now in
    let names = c.as_slice-names.result.now in
    let i = c.loop-name.name-index in
    let W = λ (o : Option Fault). NodesComeTo p k s (lines_nodes names) o in
    subst (λ (ns : List OwnName). NodesComeTo p k s (lines_nodes ns) None) c.as_slice-names.ensures (no_name p k s W _ (drop_none names i c.loop-name-test.false) c.loop-name.invariant.tried)
