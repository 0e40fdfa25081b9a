-- Names by their characters.
use Rattle.std.specs.Prelude.{◌≡◌, ◌==◌, ℕ, Bool, true, false, ◌&&◌, ◌||◌, List, [], ◌∷◌}
use Rattle.std.specs.Str.{chars, IsUtf8}
use Rattle.unicode_ident.specs.Ident.{is_xid_start, is_xid_continue}
use Rattle.wy_layout.specs.Names.{is_name}

-- each character goes on in a name
abbrev pub all_continue : List ℕ → Bool
all_continue [] = true
all_continue (c ∷ cs) = is_xid_continue c && all_continue cs

-- an underscore or a character that begins a name, and any number that go on in it
abbrev pub is_name_of : List ℕ → Bool
is_name_of [] = false
is_name_of (c ∷ cs) = (is_xid_start c || (c == 95)) && all_continue cs

-- bytes that are text are a name exactly where their characters are
abbrev pub NamesByCharacters : Type 0
NamesByCharacters = (w : List ℕ) → IsUtf8 w → is_name w ≡ is_name_of (chars w)
