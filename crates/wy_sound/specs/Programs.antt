-- A program's run with its start list, and what each call in it may do.
-- (docs/LANGUAGE.md, "Starting a program" and "Authority and report")
use Rattle.std.specs.Prelude.{List, [], ◌∷◌, ◌++◌, ℕ, map, bytes_eq, if◌then◌else◌}
use Rattle.wy_text.specs.declared.fault.AtomName.{AtomName}
use Rattle.wy_types.specs.Program.{Program}
use Rattle.wy_types.specs.Ground.{start_list}
pub use Rattle.wy_rules.specs.Resolved.{IsResolved}
use Rattle.wy_authority.specs.declared.rows.BodyRow.{BodyRow}
use Rattle.wy_authority.specs.declared.rows.InstanceRow.{InstanceRow}
use Rattle.wy_authority.specs.Authority.{authority_of}
use Rattle.wy_authority.specs.Report.{named_atoms}
use Rattle.wy_meaning.specs.Starts.{Starts, starts_of, started_of}
use Rattle.wy_meaning.specs.Bounds.{Call}

-- the instances of the start list, and `main` after them
abbrev pub program_starts : Program → Starts
program_starts p = starts_of p (map started_of (start_list p))

------------------------------------------------------------
-- What a call may do

-- the atoms of the bodies of a name
abbrev pub body_atoms : List AtomName → List ℕ → List BodyRow → List AtomName
body_atoms atoms name [] = []
body_atoms atoms name (b ∷ bs) = if bytes_eq b.name name then named_atoms atoms b.set ++ body_atoms atoms name bs else body_atoms atoms name bs

-- those of the instances of a call's name
abbrev pub call_atoms : List AtomName → Call → List InstanceRow → List AtomName
call_atoms atoms call [] = []
call_atoms atoms call (r ∷ rs) =
    if bytes_eq r.name call.instance then body_atoms atoms call.body r.bodies ++ call_atoms atoms call rs else call_atoms atoms call rs

-- the authority of a call's body in its instance
abbrev pub allowed : Program → Call → List AtomName
allowed p call = call_atoms (authority_of p).atoms call (authority_of p).rows
