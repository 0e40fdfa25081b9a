-- What was used of an instance is within what its line of the report says. (docs/LANGUAGE.md, "Observation")
use Rattle.std.specs.Prelude.{List}
use Rattle.wy_text.specs.Members.{In, Within}
use Rattle.wy_types.specs.Program.{Program}
use Rattle.wy_device.specs.declared.deed.Event.{Event}
use Rattle.wy_authority.specs.declared.rows.InstanceRow.{InstanceRow}
use Rattle.wy_authority.specs.Authority.{authority_of, whole_set}
use Rattle.wy_authority.specs.Report.{named_atoms}
use Rattle.wy_meaning.specs.Bounds.{Bounded}
use Rattle.wy_meaning.specs.Used.{used_of, used_set}
use Rattle.wy_sound.specs.Programs.{IsResolved, allowed}

-- of events that keep to what each call may do: the atoms that were used of an instance, and those that stand in the set of them
pub record IsUsedWithin (p : Program) (events : List Event) (r : InstanceRow) : Type 0 where
  pub atoms : Within (used_of r.name events) (named_atoms (authority_of p).atoms (whole_set r.bodies))
  pub names : Within (named_atoms (authority_of p).atoms (used_set (authority_of p).atoms events r.name)) (named_atoms (authority_of p).atoms (whole_set r.bodies))

abbrev pub UsedIsAllowed : Type 0
UsedIsAllowed =
    (p : Program) → IsResolved p → (events : List Event) → Bounded (allowed p) events →
    (r : InstanceRow) → In r (authority_of p).rows → IsUsedWithin p events r
