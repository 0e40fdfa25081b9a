-- Texts between quotes.
use Rattle.std.specs.Prelude.{◌≡◌, ℕ, ◌+◌, ◌*◌, ◌-◌, ◌==◌, nat_lt, Bool, true, not, ◌&&◌, ◌||◌, cond, List, [], ◌∷◌, ◌++◌, map}
use Rattle.std.specs.List.{AllByRecursion}
use Rattle.std.specs.Char.{is_ascii_hexdigit}

-- what stands between the quotes: bytes as they are, a backslash and a letter, \x and two digits
pub data Piece : Type 0 where
  plain : ℕ → Piece
  short : ℕ → Piece
  hex : ℕ → ℕ → Piece

-- a control character that is no tab
abbrev pub is_control : ℕ → Bool
is_control c = (nat_lt c 32 && not (c == 9)) || (c == 127)

-- n, t, a backslash or a quote
abbrev pub is_short : ℕ → Bool
is_short c = (c == 110) || (c == 116) || (c == 92) || (c == 34)

-- the byte that the letter stands for behind a backslash
abbrev pub short_value : ℕ → ℕ
short_value c = cond (c == 110) 10 (cond (c == 116) 9 c)

-- the value of a hexadecimal digit of either case
abbrev pub hex_value : ℕ → ℕ
hex_value c = cond (nat_lt c 58) (c - 48) (cond (nat_lt c 71) (c - 55) (c - 87))

-- the bytes that a piece is written with
abbrev pub spelling : Piece → List ℕ
spelling (plain c) = c ∷ []
spelling (short c) = 92 ∷ c ∷ []
spelling (hex h l) = 92 ∷ 120 ∷ h ∷ l ∷ []

-- the byte that it stands for
abbrev pub byte_of : Piece → ℕ
byte_of (plain c) = c
byte_of (short c) = short_value c
byte_of (hex h l) = hex_value h * 16 + hex_value l

-- a byte that stands for itself
abbrev pub is_plain : ℕ → Bool
is_plain c = not (c == 34) && (not (c == 92) && not (is_control c))

-- a piece that may stand in a text
abbrev pub good : Piece → Bool
good (plain c) = is_plain c
good (short c) = is_short c
good (hex h l) = is_ascii_hexdigit h && is_ascii_hexdigit l

-- pieces that may
abbrev pub Good : List Piece → Type 0
Good ps = AllByRecursion (λ p. good p ≡ true) ps

-- the bytes that pieces are written with
abbrev pub spell : List Piece → List ℕ
spell [] = []
spell (p ∷ ps) = spelling p ++ spell ps

-- w is a text between quotes, which stands for the bytes v
pub record IsText (v w : List ℕ) : Type 0 where
  pub pieces : List Piece
  pub are_good : Good pieces
  pub quoted : w ≡ 34 ∷ (spell pieces ++ 34 ∷ [])
  pub stands_for : v ≡ map byte_of pieces
