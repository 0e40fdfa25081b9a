-- Names that may be given to things: those of the language that are no reserved word.
use Rattle.std.specs.Prelude.{ℕ, not, ◌&&◌, Bool, List}
use Rattle.std.specs.Str.{chars, is_utf8}
use Rattle.wy_layout.specs.Characters.{is_name_of}
use Rattle.wy_layout.specs.Words.{among, reserved}

-- its characters are a name's, and it is no reserved word
abbrev pub is_identifier : List ℕ → Bool
is_identifier w = is_utf8 w && (is_name_of (chars w) && not (among w reserved))
