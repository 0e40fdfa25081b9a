use Rattle.std.proofs.Common.{◌≡◌, ℕ, List, drop}
use Rattle.indexmap.specs.IndexMap.{get}
use Rattle.wy_syntax.specs.Views.{part_trees}
use Rattle.wy_symbols.specs.Declarations.{same_name, texts}
use Rattle.wy_bodies.specs.BodyRefusals.{field_names}
use Rattle.wy_bodies.specs.Sight.{seen}
use Rattle.wy_bodies.specs.InSight.{field_entries, or_else}
use Rattle.wy_bodies.proofs.sight.add_fields.Given as goal

abbrev pub invariant-loop-part : goal.invariant-loop-part
invariant-loop-part l =
    (x : List ℕ) → or_else (seen (field_entries l.number (texts (field_names (part_trees (drop l.part-index l.parts))))) x) (get same_name l.fields x) ≡ seen (field_entries 0 (texts (field_names (part_trees l.parts)))) x
