-- How far bytes of a class go at the front of a list.
use Rattle.std.specs.Prelude.{ℕ, suc, Bool, cond, List, [], ◌∷◌}
use Rattle.wy_lanes.specs.declared.runs.Class.{Class}
use Rattle.wy_lanes.specs.declared.runs.Class.TheVariants.{Newline, Space, Word, Quote}
use Rattle.wy_lanes.specs.Classes.{is_newline, is_quote, is_space, is_word}

-- whether a byte is of the class
abbrev pub is_of : Class → ℕ → Bool
is_of Newline = is_newline
is_of Space = is_space
is_of Word = is_word
is_of Quote = is_quote

-- how many bytes stand before the first one that is not such
abbrev pub front_len : (ℕ → Bool) → List ℕ → ℕ
front_len is_such [] = 0
front_len is_such (byte ∷ bytes) = cond (is_such byte) (suc (front_len is_such bytes)) 0
