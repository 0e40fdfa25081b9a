-- The limits that are counted over tokens, and what the layers above may rely on.
use Rattle.std.specs.Prelude.{ℕ, suc, ◌≤◌, nat_le, ◌&&◌, cond, List, length}
use Rattle.wy_text.specs.declared.token.Token.{Token}
use Rattle.wy_text.specs.declared.token.TokenKind.{TokenKind}
use Rattle.wy_text.specs.declared.limit.LimitName.TheVariants as limit
use Rattle.wy_text.specs.LimitName.{limit_number}
use Rattle.wy_text.specs.TokenLists.{is_counted, braces_after, marks_after, most_marks, IndentsWithin, MarksWithin, EndsOnce}
use Rattle.wy_layout.specs.Words.{Within, fits, passes}
use Rattle.wy_layout.specs.declared.count.Count.{Count}
use Rattle.wy_layout.specs.declared.refusal.Fault.TheVariants as fault

-- the most bytes of a file, and the most tokens
abbrev pub most_file_bytes : ℕ
most_file_bytes = limit_number limit.FileBytes

abbrev pub most_tokens : ℕ
most_tokens = limit_number limit.Tokens

-- what a parser may rely on
pub record IsWhole (ts : List Token) : Type 0 where
  pub ends : EndsOnce ts
  pub few : length ts ≤ most_tokens
  pub indents : IndentsWithin 0 ts
  pub marks : MarksWithin 0 0 ts

-- ---- what a further word of a line passes

-- a line's words, behind so many tokens
abbrev pub counted_from : ℕ → Count
counted_from tokens = record { tokens = tokens; marks = 0; open_braces = 0 }

-- with a further token
abbrev pub counted : Count → TokenKind → Count
counted c k = record { tokens = suc c.tokens; marks = marks_after c.marks c.open_braces k; open_braces = braces_after c.open_braces k }

-- the first limit that a further token passes
abbrev pub passed : Count → TokenKind → Within
passed c k =
    cond (nat_le most_tokens c.tokens) (passes fault.Tokens)
    (cond (is_counted c.open_braces k && nat_le most_marks c.marks) (passes fault.Marks) fits)
