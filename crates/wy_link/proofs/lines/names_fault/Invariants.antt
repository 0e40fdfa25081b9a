use Rattle.std.proofs.Common.{◌≡◌, Option, drop}
use Rattle.wy_text.specs.declared.fault.Fault.{Fault}
use Rattle.wy_types.specs.Program.{program_of, scope_of}
use Rattle.wy_rules.specs.Nodes.{lines_nodes}
use Rattle.wy_subtype.specs.declared.verdict.Mode.TheVariants.{Annotated, Plain}
use Rattle.wy_judge.specs.Targets.{about_in}
use Rattle.wy_link.specs.Lines.{NodesComeTo}
use Rattle.wy_link.proofs.lines.names_fault.Given as goal

abbrev pub invariant-loop-name : goal.invariant-loop-name
invariant-loop-name l = record {
  tried :
      (o : Option Fault) →
      NodesComeTo (program_of l.core) l.number (scope_of l.scope) (lines_nodes (drop l.name-index l.names)) o →
      NodesComeTo (program_of l.core) l.number (scope_of l.scope) (lines_nodes l.names) o;
  annotated : l.annotated.about ≡ about_in (program_of l.core) l.number Annotated;
  plain : l.plain.about ≡ about_in (program_of l.core) l.number Plain;
}
