-- What the tokens of a file keep: the limits on indents and marks, and that the end comes once.
use Rattle.std.specs.Prelude.{◌≡◌, ℕ, suc, ◌-◌, ◌≤◌, ◌==◌, Bool, true, false, ◌&&◌, cond, List, [], ◌∷◌}
use Rattle.wy_text.specs.declared.token.Token.{Token}
use Rattle.wy_text.specs.declared.token.TokenKind.{TokenKind}
use Rattle.wy_text.specs.declared.token.TokenKind.TheVariants as kind
use Rattle.wy_text.specs.declared.limit.LimitName.TheVariants as limit
use Rattle.wy_text.specs.LimitName.{limit_number}

-- the most indents that may be open, and the most marks of a line
abbrev pub most_indents : ℕ
most_indents = limit_number limit.Indents

abbrev pub most_marks : ℕ
most_marks = limit_number limit.Marks

-- the kinds that are marks: the operators, of which the single = is none, the full stop, the opening parenthesis, and if
abbrev pub is_mark : TokenKind → Bool
is_mark kind.SymEqualEqual = true
is_mark kind.SymNotEqual = true
is_mark kind.SymLess = true
is_mark kind.SymLessEqual = true
is_mark kind.SymGreater = true
is_mark kind.SymGreaterEqual = true
is_mark kind.SymPlus = true
is_mark kind.SymMinus = true
is_mark kind.SymStar = true
is_mark kind.SymSlash = true
is_mark kind.SymPercent = true
is_mark kind.SymPlusPlus = true
is_mark kind.SymAndAnd = true
is_mark kind.SymOrOr = true
is_mark kind.SymNot = true
is_mark kind.SymDot = true
is_mark kind.SymOpenParen = true
is_mark kind.KwIf = true
is_mark other = false

-- how many braces are open behind a token of the line; one that closes none changes nothing
abbrev pub braces_after : ℕ → TokenKind → ℕ
braces_after open_braces kind.SymOpenBrace = suc open_braces
braces_after open_braces kind.SymCloseBrace = open_braces - 1
braces_after open_braces other = open_braces

-- a token that is counted: a mark outside braces
abbrev pub is_counted : ℕ → TokenKind → Bool
is_counted open_braces k = is_mark k && (open_braces == 0)

-- the marks of the line so far
abbrev pub marks_after : ℕ → ℕ → TokenKind → ℕ
marks_after marks open_braces k = cond (is_counted open_braces k) (suc marks) marks

-- the indents that are open behind a token
abbrev pub indents_after : ℕ → TokenKind → ℕ
indents_after indents kind.In = suc indents
indents_after indents kind.Out = indents - 1
indents_after indents other = indents

-- ---- of all tokens of a file

-- never more indents are open than may be, where so many are open before
abbrev pub IndentsWithin : ℕ → List Token → Type 0
IndentsWithin indents [] = Unit {0}
IndentsWithin indents (t ∷ ts) = (indents_after indents t.kind ≤ most_indents) × IndentsWithin (indents_after indents t.kind) ts

-- the token of a line's end
abbrev pub is_line_end : TokenKind → Bool
is_line_end kind.Nl = true
is_line_end other = false

-- no line has more marks than may be, where a line has so many before, and so many open braces
abbrev pub MarksWithin : ℕ → ℕ → List Token → Type 0
MarksWithin marks open_braces [] = Unit {0}
MarksWithin marks open_braces (t ∷ ts) =
    (marks_after marks open_braces t.kind ≤ most_marks) ×
    MarksWithin (cond (is_line_end t.kind) 0 (marks_after marks open_braces t.kind)) (cond (is_line_end t.kind) 0 (braces_after open_braces t.kind)) ts

-- the token of the file's end
abbrev pub is_end : TokenKind → Bool
is_end kind.End = true
is_end other = false

-- the last token and no other is End
abbrev pub EndsOnce : List Token → Type 0
EndsOnce [] = ⊥
EndsOnce (t ∷ []) = t.kind ≡ kind.End
EndsOnce (t ∷ u ∷ ts) = (is_end t.kind ≡ false) × EndsOnce (u ∷ ts)
