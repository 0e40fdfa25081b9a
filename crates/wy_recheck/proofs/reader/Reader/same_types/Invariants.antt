use Rattle.std.proofs.Common.{◌≡◌, drop}
use Rattle.wy_rules.specs.Canonical.{same_type}
use Rattle.wy_proving.specs.Reading.{same_types}
use Rattle.wy_recheck.specs.Nodes.{reading_of, lists_of}
use Rattle.wy_recheck.proofs.reader.Reader.same_types.Given as goal

abbrev pub invariant-loop-i : goal.invariant-loop-i
invariant-loop-i l = same_types (reading_of l.self) same_type (lists_of l.self) l.left l.right ≡ same_types (reading_of l.self) same_type (lists_of l.self) (drop l.i l.left) (drop l.i l.right)
