-- How many abstract members a declaration has.
use Rattle.std.specs.Prelude.{ℕ, Option, Some, None, length}
use Rattle.wy_types.specs.declared.resolved.TypeDecl.{TypeDecl}

-- how many abstract members a declaration has
abbrev pub member_count : Option TypeDecl → ℕ
member_count None = 0
member_count (Some d) = length d.members
