-- The lines of a file, and places in it.
use Rattle.std.specs.Prelude.{ℕ, suc, ◌-◌, ◌==◌, Bool, true, false, ◌&&◌, ◌||◌, cond, List, [], ◌∷◌, take}
use Rattle.wy_text.specs.declared.fault.Place.{Place}
use Rattle.wy_layout.specs.declared.row.Row.{Row}

-- a line's number and where it begins, and what stands before its end
pub record Line : Type 0 where
  pub row : Row
  pub content : List ℕ

-- the place of an offset in the line
abbrev pub spot : Row → ℕ → Place
spot row o = record { file = row.file; line = row.number; column = suc (o - row.start) }

-- a newline, or a carriage return directly before one
abbrev pub ends_line : List ℕ → Bool
ends_line [] = false
ends_line (a ∷ []) = a == 10
ends_line (a ∷ b ∷ cs) = (a == 10) || ((a == 13) && (b == 10))

-- what stands before the line's end
abbrev pub content_of : List ℕ → List ℕ
content_of [] = []
content_of (c ∷ cs) = cond (ends_line (c ∷ cs)) [] (c ∷ content_of cs)

-- the line at the front of bytes
abbrev pub line_at : Row → List ℕ → Line
line_at row bs = record { row = row; content = content_of bs }

-- the first line of a file
abbrev pub first_row : ℕ → Row
first_row file = record { file = file; number = 1; start = 0 }

-- the row of a line that begins at the offset, behind the row's
abbrev pub next_row : Row → ℕ → Row
next_row row at = record { file = row.file; number = suc row.number; start = at }

-- a line begins after each newline; bs are the bytes from the offset on
abbrev pub later_lines : Row → ℕ → List ℕ → List Line
later_lines row at [] = []
later_lines row at (b ∷ bs) = cond (b == 10) (line_at (next_row row (suc at)) bs ∷ later_lines (next_row row (suc at)) (suc at) bs) (later_lines row (suc at) bs)

-- the lines from a row on, which begins with the bytes
abbrev pub lines : Row → List ℕ → List Line
lines row bs = line_at row bs ∷ later_lines row row.start bs

-- the row of the offset: one line more behind each newline before it
abbrev pub row_of : Row → ℕ → List ℕ → Row
row_of row at [] = row
row_of row at (b ∷ bs) = row_of (cond (b == 10) (next_row row (suc at)) row) (suc at) bs

-- the place of an offset in a file: its line is one more than the newlines before it, and its column one
-- more than the bytes before it in the line
abbrev pub place_at : ℕ → List ℕ → ℕ → Place
place_at file bs o = spot (row_of (first_row file) 0 (take o bs)) o

-- ---- the parts of a line

-- how many spaces it begins with
abbrev pub width : List ℕ → ℕ
width [] = 0
width (c ∷ cs) = cond (c == 32) (suc (width cs)) 0

-- what is left behind the leading spaces
abbrev pub after_spaces : List ℕ → List ℕ
after_spaces [] = []
after_spaces (c ∷ cs) = cond (c == 32) (after_spaces cs) (c ∷ cs)

-- what is left behind spaces and tabs
abbrev pub after_blanks : List ℕ → List ℕ
after_blanks [] = []
after_blanks (c ∷ cs) = cond ((c == 32) || (c == 9)) (after_blanks cs) (c ∷ cs)

-- nothing or a comment
abbrev pub is_done : List ℕ → Bool
is_done [] = true
is_done (a ∷ []) = false
is_done (a ∷ b ∷ cs) = (a == 47) && (b == 47)

-- a tab is at the front
abbrev pub has_tab : List ℕ → Bool
has_tab [] = false
has_tab (c ∷ cs) = c == 9
