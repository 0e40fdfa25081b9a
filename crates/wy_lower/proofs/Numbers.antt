-- The texts and the method names of a program's code, by their numbers.
use Rattle.std.proofs.Common.{◌++◌}
use Rattle.wy_types.specs.Program.{Program}
use Rattle.wy_meaning.specs.Starts.{Starts}
use Rattle.wy_lower.specs.Parts.{scopes_parts, texts_in, calls_in}
use Rattle.wy_lower.specs.Lowering.{entry_names, lowered}
use Rattle.wy_lower.specs.Laws.{HasItsTexts, HasItsMethodNames}
use Rattle.wy_lower.proofs.Tables.{found_in_table}

pub has_texts : (p : Program) (s : Starts) → HasItsTexts p s
unfolding lowered
has_texts p s bytes i = found_in_table bytes (texts_in (scopes_parts p.scopes)) i

pub has_method_names : (p : Program) (s : Starts) → HasItsMethodNames p s
unfolding lowered
has_method_names p s name i = found_in_table name (calls_in (scopes_parts p.scopes) ++ entry_names p.scopes) i
