use Rattle.std.proofs.Common.{◌≡◌, ◌++◌, take, map}
use Rattle.wy_effects.specs.AtomTable.{atom_name}
use Rattle.wy_authority.proofs.body_rows.add_members.Given as goal

abbrev pub invariant-loop-member : goal.invariant-loop-member
invariant-loop-member l = l.atoms ≡ l.initial.atoms ++ map (atom_name l.owner) (take l.member-index l.members)
