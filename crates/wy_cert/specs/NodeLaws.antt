-- Nodes: a rule, five numbers and a set.
use Rattle.std.proofs.Common.{ℕ, ◌≤◌, List, length, refl, arith, lit<}
use Rattle.wy_spelling.specs.ListLaws.{lists_apart, some_list}
use Rattle.wy_spelling.specs.NumberLaws.{numbers_apart}
use Rattle.wy_spelling.specs.PairLaws.{pairs_apart as both_apart}
use Rattle.wy_spelling.specs.ShapeLaws.{IsShape, apart_in_shape}
use Rattle.wy_spelling.specs.Spelling.{AreApart, AreBoth, IsNumber, both_bytes, number_bytes}
use Rattle.wy_cert.specs.RuleLaws.{IsRuleSpelled, one_byte, rules_apart}
use Rattle.wy_cert.specs.Spelled.{IsNodeSpelled, IsSetSpelled, node_bytes, set_bytes}
use Rattle.wy_cert.specs.declared.certificate.CertNode.{CertNode}
use Rattle.wy_cert.specs.declared.certificate.Rule.{Rule}
use Rattle.wy_cert.specs.declared.certificate.Rule.TheVariants.{Lit}

-- the parts of a node, in the order of their bytes
abbrev pub NodeParts : Type 0
NodeParts = Rule × (ℕ × (ℕ × (ℕ × (ℕ × (ℕ × List ℕ)))))

abbrev pub AreFromTyp : ℕ × List ℕ → Type 0
AreFromTyp = AreBoth IsNumber IsSetSpelled

abbrev pub AreFromParts : ℕ × (ℕ × List ℕ) → Type 0
AreFromParts = AreBoth IsNumber AreFromTyp

abbrev pub AreFromColumn : ℕ × (ℕ × (ℕ × List ℕ)) → Type 0
AreFromColumn = AreBoth IsNumber AreFromParts

abbrev pub AreFromLine : ℕ × (ℕ × (ℕ × (ℕ × List ℕ))) → Type 0
AreFromLine = AreBoth IsNumber AreFromColumn

abbrev pub AreFromFile : ℕ × (ℕ × (ℕ × (ℕ × (ℕ × List ℕ)))) → Type 0
AreFromFile = AreBoth IsNumber AreFromLine

abbrev pub AreNodeParts : NodeParts → Type 0
AreNodeParts = AreBoth IsRuleSpelled AreFromFile

abbrev pub from_typ_bytes : ℕ × List ℕ → List ℕ
from_typ_bytes = both_bytes number_bytes set_bytes

abbrev pub from_parts_bytes : ℕ × (ℕ × List ℕ) → List ℕ
from_parts_bytes = both_bytes number_bytes from_typ_bytes

abbrev pub from_column_bytes : ℕ × (ℕ × (ℕ × List ℕ)) → List ℕ
from_column_bytes = both_bytes number_bytes from_parts_bytes

abbrev pub from_line_bytes : ℕ × (ℕ × (ℕ × (ℕ × List ℕ))) → List ℕ
from_line_bytes = both_bytes number_bytes from_column_bytes

abbrev pub from_file_bytes : ℕ × (ℕ × (ℕ × (ℕ × (ℕ × List ℕ)))) → List ℕ
from_file_bytes = both_bytes number_bytes from_line_bytes

abbrev pub node_parts_bytes : NodeParts → List ℕ
node_parts_bytes = both_bytes one_byte from_file_bytes

abbrev pub node_of : NodeParts → CertNode
node_of p = record { rule = p.0; file = p.1.0; line = p.1.1.0; column = p.1.1.1.0; parts = p.1.1.1.1.0; typ = p.1.1.1.1.1.0; effect = p.1.1.1.1.1.1 }

abbrev pub node_parts : CertNode → NodeParts
node_parts n = (n.rule, (n.file, (n.line, (n.column, (n.parts, (n.typ, n.effect))))))

pub node_shape : IsShape AreNodeParts node_parts_bytes IsNodeSpelled node_bytes node_of node_parts
node_shape = record {
  back = λ n. refl;
  whole_spelled = λ p is. record { file = is.1.0; line = is.1.1.0; column = is.1.1.1.0; parts = is.1.1.1.1.0; typ = is.1.1.1.1.1.0; effect = is.1.1.1.1.1.1 };
  whole_bytes = λ p. refl;
  parts_spelled = λ n is. (tt, (is.file, (is.line, (is.column, (is.parts, (is.typ, is.effect))))));
  parts_bytes = λ n. refl;
}

pub node_parts_apart : AreApart AreNodeParts node_parts_bytes
node_parts_apart =
    let effect = lists_apart IsNumber number_bytes numbers_apart in
    let typ = both_apart IsNumber number_bytes IsSetSpelled set_bytes numbers_apart effect in
    let parts = both_apart IsNumber number_bytes AreFromTyp from_typ_bytes numbers_apart typ in
    let column = both_apart IsNumber number_bytes AreFromParts from_parts_bytes numbers_apart parts in
    let line = both_apart IsNumber number_bytes AreFromColumn from_column_bytes numbers_apart column in
    let file = both_apart IsNumber number_bytes AreFromLine from_line_bytes numbers_apart line in
    both_apart IsRuleSpelled one_byte AreFromFile from_file_bytes rules_apart file

pub nodes_apart : AreApart IsNodeSpelled node_bytes
nodes_apart = apart_in_shape AreNodeParts node_parts_bytes IsNodeSpelled node_bytes node_of node_parts node_shape node_parts_apart

pub nodes_filled : (n : CertNode) → 1 ≤ length (node_bytes n)
nodes_filled n = omega arith

pub some_node : (n : CertNode) × IsNodeSpelled n
some_node =
    let none = some_list IsNumber in (
      record { rule = Lit; file = 0; line = 0; column = 0; parts = 0; typ = 0; effect = none.0 },
      record { file = lit< tt; line = lit< tt; column = lit< tt; parts = lit< tt; typ = lit< tt; effect = none.1 },
    )
