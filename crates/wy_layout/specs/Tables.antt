-- Parts of the tables.
use Rattle.std.specs.Prelude.{ℕ, ◌==◌, cond, List, [], ◌∷◌, length, Option, None}
use Rattle.wy_layout.specs.Words.{lookup, symbols}
use Rattle.wy_text.specs.declared.token.TokenKind.{TokenKind}
use Rattle.wy_text.specs.Spelling.{spelling_of}

-- the kinds whose spelling has the length
abbrev pub of_length : ℕ → List TokenKind → List TokenKind
of_length n [] = []
of_length n (k ∷ ks) = cond (length (spelling_of k) == n) (k ∷ of_length n ks) (of_length n ks)

-- the symbol of two bytes at the front of a text, and the one of a single byte
abbrev pub pair_of : List ℕ → Option TokenKind
pair_of [] = None
pair_of (a ∷ []) = None
pair_of (a ∷ b ∷ u) = lookup (a ∷ b ∷ []) symbols

-- the symbol of a single byte at the front of a text
abbrev pub single_of : List ℕ → Option TokenKind
single_of [] = None
single_of (a ∷ u) = lookup (a ∷ []) symbols
