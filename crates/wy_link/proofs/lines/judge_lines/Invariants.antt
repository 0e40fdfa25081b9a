use Rattle.std.proofs.Common.{Option, drop, map}
use Rattle.wy_text.specs.declared.fault.Fault.{Fault}
use Rattle.wy_types.specs.Program.{program_of, scope_of}
use Rattle.wy_link.specs.Lines.{LinesFrom}
use Rattle.wy_link.proofs.lines.judge_lines.Given as goal

abbrev pub invariant-loop-number : goal.invariant-loop-number
invariant-loop-number l =
    (o : Option Fault) → LinesFrom (program_of l.core) l.number (map scope_of (drop l.number l.scopes)) o → LinesFrom (program_of l.core) 0 (map scope_of l.scopes) o
