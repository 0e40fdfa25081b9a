-- The order of places.
use Rattle.std.specs.Prelude.{Bool, ◌==◌, nat_lt, if◌then◌else◌}
use Rattle.wy_text.specs.declared.fault.Place.{Place}

-- files come in order, then lines, then columns
abbrev pub is_before : Place → Place → Bool
is_before a b =
    if a.file == b.file then (if a.line == b.line then nat_lt a.column b.column else nat_lt a.line b.line)
    else nat_lt a.file b.file
