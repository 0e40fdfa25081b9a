use Rattle.std.proofs.Common.{◌≡◌, [], Option, sym, ap, ◌∙◌, subst}
use Rattle.wy_effects.specs.EffSet.{union}
use Rattle.wy_effects.proofs.Numbers.{union-none}
use Rattle.wy_types.specs.declared.types.TypeRef.{TypeRef}
use Rattle.wy_types.specs.Program.{program_of}
use Rattle.wy_rules.specs.Canonical.{both, same_type, first_operand, second_operand, row_of}
use Rattle.wy_rules.specs.Operators.{binary_rows}
use Rattle.wy_cert.specs.declared.certificate.Rule.TheVariants as by
use Rattle.wy_recheck.specs.Nodes.{reading_of, lists_of, left}
use Rattle.wy_recheck.proofs.NodesOperators.{Takes, binary_taken}
use Rattle.wy_recheck.proofs.NodesPassed.{premise_fails, node_as}
use Rattle.wy_recheck.proofs.reader.Reader.binary.Goals as goal

pub returns-in-None : goal.returns-in-None
returns-in-None c =
    let r = c.args.self.now in
    let k = c.args.first.typ in
    let l = c.args.second.typ in
    let row = row_of (reading_of r) same_type (binary_rows c.args.operator) k in
    let premise = both (same_type k (first_operand (reading_of r) row.operands)) (same_type l (second_operand (reading_of r) row.operands)) in
    let P : Option TypeRef → Type 0 = λ o. Takes premise (same_type l k) row.result o in
    let fails = subst P (sym c.binary_result.ensures ∙ c.in-None.is) (binary_taken (program_of r.core.now) r.number r.plain c.args.operator k l) in
    premise_fails (reading_of r) same_type (lists_of r) premise by.Op c.args.place 2 row.result _ c.args.at.now (left r c.args.at.now) fails

pub returns : goal.returns
returns c =
    let r = c.args.self.now in
    let k = c.args.first.typ in
    let l = c.args.second.typ in
    let row = row_of (reading_of r) same_type (binary_rows c.args.operator) k in
    let premise = both (same_type k (first_operand (reading_of r) row.operands)) (same_type l (second_operand (reading_of r) row.operands)) in
    let P : Option TypeRef → Type 0 = λ o. Takes premise (same_type l k) row.result o in
    let holds = subst P (sym c.binary_result.ensures ∙ c.in-Some.is) (binary_taken (program_of r.core.now) r.number r.plain c.args.operator k l) in
    let effect : union c.args.first.effect (union c.args.second.effect []) ≡ c.in_ok-effect-in-Some.effect = ap (union c.args.first.effect) (union-none 0 512 c.args.second.effect c.is_set.ensures) ∙ sym c.in_ok-effect-in-Some.ensures in
    node_as r c.args.at.now by.Op c.args.place 2 c.read_node.new.at c.read_node.result (holds.0 ∙ sym c.same-holds.ensures) (sym holds.1) effect c.read_node.ensures
