-- Values in front of others.
use Rattle.std.specs.Prelude.{List, [], ◌∷◌}
use Rattle.wy_types.specs.declared.code.Value.{Value}
use Rattle.wy_types.specs.Code as plain
use Rattle.wy_types.specs.View.{value_of}

abbrev pub values_then : List Value → plain.Values → plain.Values
values_then [] rest = rest
values_then (v ∷ vs) rest = plain.more (value_of v) (values_then vs rest)
