use Rattle.std.proofs.Common.{Option, sym, ◌∙◌, subst, true}
use Rattle.wy_effects.proofs.Numbers.{union-none}
use Rattle.wy_types.specs.declared.types.TypeRef.{TypeRef}
use Rattle.wy_types.specs.Program.{program_of}
use Rattle.wy_rules.specs.Canonical.{same_type, first_operand, first_row}
use Rattle.wy_rules.specs.Operators.{unary_rows}
use Rattle.wy_cert.specs.declared.certificate.Rule.TheVariants as by
use Rattle.wy_recheck.specs.Nodes.{reading_of, lists_of, left}
use Rattle.wy_recheck.proofs.NodesOperators.{Takes, unary_taken}
use Rattle.wy_recheck.proofs.NodesPassed.{premise_fails, node_as}
use Rattle.wy_recheck.proofs.reader.Reader.unary.Goals as goal

pub returns-in-None : goal.returns-in-None
returns-in-None c =
    let r = c.args.self.now in
    let row = first_row (unary_rows c.args.operator) in
    let premise = same_type c.args.operand.typ (first_operand (reading_of r) row.operands) in
    let P : Option TypeRef → Type 0 = λ o. Takes premise true row.result o in
    let fails = subst P (sym c.unary_result.ensures ∙ c.in-None.is) (unary_taken (program_of r.core.now) r.number r.plain c.args.operator c.args.operand.typ) in
    premise_fails (reading_of r) same_type (lists_of r) premise by.Op c.args.place 1 row.result _ c.args.at.now (left r c.args.at.now) fails

pub returns : goal.returns
returns c =
    let r = c.args.self.now in
    let row = first_row (unary_rows c.args.operator) in
    let premise = same_type c.args.operand.typ (first_operand (reading_of r) row.operands) in
    let P : Option TypeRef → Type 0 = λ o. Takes premise true row.result o in
    let holds = subst P (sym c.unary_result.ensures ∙ c.in-Some.is) (unary_taken (program_of r.core.now) r.number r.plain c.args.operator c.args.operand.typ) in
    node_as r c.args.at.now by.Op c.args.place 1 c.read_node.new.at c.read_node.result holds.0 (sym holds.1) (union-none 0 512 c.args.operand.effect c.is_set.ensures) c.read_node.ensures
