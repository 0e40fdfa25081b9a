-- Sets of members, in the order of the members.
use Rattle.std.specs.Prelude.{ℕ, List, map}
use Rattle.wy_types.specs.declared.types.TypeRef.{TypeRef}
use Rattle.wy_types.specs.Program.{Program}
use Rattle.wy_types.specs.Ground.{set_or_empty, member_set}

abbrev pub sets_of_members : Program → TypeRef → List (List ℕ) → List (List ℕ)
sets_of_members p t members = map (λ member. set_or_empty (member_set p t member)) members
