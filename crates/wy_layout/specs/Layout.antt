-- Layout: the tokens of a file's lines, and what can be wrong in them.
use Rattle.std.specs.Prelude.{◌≡◌, ℕ, ◌+◌, ◌-◌, ◌<◌, ◌≤◌, nat_lt, Bool, true, false, cond, List, [], ◌∷◌, ◌++◌, length, replicate, take, ◌⊎◌}
use Rattle.std.specs.Str.Lossy.{utf8_valid_len}
use Rattle.wy_text.specs.declared.fault.Place.{Place}
use Rattle.wy_text.specs.declared.token.Token.{Token}
use Rattle.wy_text.specs.declared.token.TokenKind.{TokenKind}
use Rattle.wy_text.specs.declared.token.TokenKind.TheVariants as kind
use Rattle.wy_text.specs.declared.limit.LimitName.{LimitName}
use Rattle.wy_text.specs.declared.limit.LimitName.TheVariants as limit
use Rattle.wy_layout.specs.Words.{Word, kind_of, Within, fits, passes}
use Rattle.wy_layout.specs.Faults.{IsWordFault, IsWithin}
use Rattle.wy_text.specs.TokenLists.{most_indents}
use Rattle.wy_layout.specs.Counts.{counted, counted_from, passed, most_tokens, most_file_bytes}
use Rattle.wy_layout.specs.declared.count.Count.{Count}
use Rattle.wy_layout.specs.Widths.{Step, deeper, back, wrong, step_of, opens}
use Rattle.wy_layout.specs.Lines.{Line, spot, lines, first_row, place_at, width, after_spaces, after_blanks, is_done, has_tab}
use Rattle.wy_layout.specs.declared.refusal.Fault.{Fault}
use Rattle.wy_layout.specs.declared.refusal.Fault.TheVariants as fault
use Rattle.wy_layout.specs.declared.refusal.LexRefusal.{LexRefusal}
use Rattle.wy_layout.specs.declared.refusal.LexRefusal.TheVariants as refusal
use Rattle.wy_layout.specs.declared.row.Row.{Row}

-- ---- tokens

-- a token of a line, by its offsets
abbrev pub token : Row → TokenKind → ℕ → ℕ → Token
token row k start end = record { kind = k; place = spot row start; start = start; end = end }

-- a token of the layout has no bytes
abbrev pub mark : Row → TokenKind → ℕ → Token
mark row k at = token row k at at

-- the tokens that stand before a line, and how many they are
abbrev pub marks : Row → Step → ℕ → List Token
marks row deeper at = mark row kind.In at ∷ []
marks row (back n) at = replicate n (mark row kind.Out at)
marks row (wrong n) at = replicate n (mark row kind.Out at)

-- how many tokens stand before a line
abbrev pub mark_count : Step → ℕ
mark_count deeper = 1
mark_count (back n) = n
mark_count (wrong n) = n

-- where the text that is left of a text begins
abbrev pub off : ℕ → List ℕ → List ℕ → ℕ
off at u v = at + (length u - length v)

-- where a line's first word begins, and where its end does
abbrev pub begin : Line → ℕ
begin l = off l.row.start l.content (after_spaces l.content)

-- where a line's end begins
abbrev pub finish : Line → ℕ
finish l = l.row.start + length l.content

-- ---- the words of a line

-- a word within its own limits and those that are counted
pub record IsNext (c : Count) (word : Word) (u r : List ℕ) : Type 0 where
  pub within : IsWithin word u r
  pub fitting : passed c (kind_of word) ≡ fits

-- the words of the text u, which begins at an offset, are these tokens
abbrev pub Words : Row → Count → ℕ → List ℕ → List Token → Type 0
Words row c at u [] = is_done (after_blanks u) ≡ true
Words row c at u (t ∷ ts) =
    (is_done (after_blanks u) ≡ false) ×
    (word : Word) × (r : List ℕ) × IsNext c word (after_blanks u) r ×
    (t ≡ token row (kind_of word) (off at u (after_blanks u)) (off at u r)) ×
    Words row (counted c (kind_of word)) (off at u r) r ts

-- the word passes a limit that is counted
pub record PassesCount (c : Count) (f : Fault) (u r : List ℕ) : Type 0 where
  pub place : r ≡ u
  pub word : Word
  pub behind : List ℕ
  pub within : IsWithin word u behind
  pub passing : passed c (kind_of word) ≡ passes f

-- a word is wrong, or passes a limit that is counted
abbrev pub IsWrong : Count → Fault → List ℕ → List ℕ → Type 0
IsWrong c f u r = IsWordFault f u r ⊎ PassesCount c f u r

-- behind these words something is wrong
abbrev pub WrongIn : List Word → Count → ℕ → List ℕ → Fault → ℕ → Type 0
WrongIn [] c at u f o = (is_done (after_blanks u) ≡ false) × (r : List ℕ) × IsWrong c f (after_blanks u) r × (o ≡ off at u r)
WrongIn (word ∷ words) c at u f o =
    (is_done (after_blanks u) ≡ false) × (r : List ℕ) × IsNext c word (after_blanks u) r × WrongIn words (counted c (kind_of word)) (off at u r) r f o

-- ---- a line: behind n tokens, ws being the widths of the lines before that aren't blank

-- what stands before the line
abbrev pub step : List ℕ → Line → Step
step ws l = step_of (width l.content) (opens ws)

-- the count before a line's words
abbrev pub count_in : ℕ → List ℕ → Line → Count
count_in n ws l = counted_from (n + mark_count (step ws l))

-- the first of what is wrong with the tokens before a line: one is past the limit on tokens; an In is past
-- the limit on indents; the width isn't open
abbrev pub wrong_step : Step → ℕ → Within
wrong_step deeper indents = cond (nat_lt most_indents indents) (passes fault.Indents) fits
wrong_step (back m) indents = fits
wrong_step (wrong m) indents = passes fault.BadDedent

-- what is wrong with the tokens before a line, the limit on tokens first
abbrev pub opening : Step → ℕ → ℕ → Within
opening s n indents = cond (nat_lt most_tokens (n + mark_count s)) (passes fault.Tokens) (wrong_step s indents)

-- the tokens of a line that isn't blank
pub record HasTokens (n : ℕ) (ws : List ℕ) (l : Line) (ts : List Token) : Type 0 where
  pub opens_well : opening (step ws l) n (length (opens ws)) ≡ fits
  pub words : List Token
  pub are_words : Words l.row (count_in n ws l) (begin l) (after_spaces l.content) words
  pub room : n + mark_count (step ws l) + length words < most_tokens
  pub parts : ts ≡ marks l.row (step ws l) (begin l) ++ (words ++ mark l.row kind.Nl (finish l) ∷ [])

-- the tokens of a line that isn't blank, or none
abbrev pub HasTokensOr : Bool → ℕ → List ℕ → Line → List Token → Type 0
HasTokensOr true n ws l ts = ts ≡ []
HasTokensOr false n ws l ts = HasTokens n ws l ts

-- the line's tokens; a blank line has none
abbrev pub LineTokens : ℕ → List ℕ → Line → List Token → Type 0
LineTokens n ws l ts = (has_tab (after_spaces l.content) ≡ false) × HasTokensOr (is_done (after_spaces l.content)) n ws l ts

-- a line that isn't blank
pub record IsFull (l : Line) : Type 0 where
  pub no_tab : has_tab (after_spaces l.content) ≡ false
  pub full : is_done (after_spaces l.content) ≡ false

-- a tab among the leading spaces
pub record IsTab (l : Line) (f : Fault) (o : ℕ) : Type 0 where
  pub tab : has_tab (after_spaces l.content) ≡ true
  pub kind : f ≡ fault.TabIndent
  pub place : o ≡ begin l

-- something is wrong with the tokens before the line
pub record IsOpening (n : ℕ) (ws : List ℕ) (l : Line) (f : Fault) (o : ℕ) : Type 0 where
  pub line : IsFull l
  pub kind : opening (step ws l) n (length (opens ws)) ≡ passes f
  pub place : o ≡ begin l

-- a word is wrong
pub record IsInWords (n : ℕ) (ws : List ℕ) (l : Line) (f : Fault) (o : ℕ) : Type 0 where
  pub line : IsFull l
  pub words : List Word
  pub wrong : WrongIn words (count_in n ws l) (begin l) (after_spaces l.content) f o

-- the token of the line's end is past the limit on tokens
pub record IsAtEnd (n : ℕ) (ws : List ℕ) (l : Line) (f : Fault) (o : ℕ) : Type 0 where
  pub line : IsFull l
  pub words : List Token
  pub are_words : Words l.row (count_in n ws l) (begin l) (after_spaces l.content) words
  pub no_room : most_tokens ≤ n + mark_count (step ws l) + length words
  pub kind : f ≡ fault.Tokens
  pub place : o ≡ finish l

-- what is wrong in a line
abbrev pub LineFault : ℕ → List ℕ → Line → Fault → ℕ → Type 0
LineFault n ws l f o = IsTab l f o ⊎ (IsOpening n ws l f o ⊎ (IsInWords n ws l f o ⊎ IsAtEnd n ws l f o))

-- ---- the lines of a file

-- the widths of the lines that aren't blank
abbrev pub widths : List ℕ → Line → List ℕ
widths ws l = cond (is_done (after_spaces l.content)) ws (width l.content ∷ ws)

-- at the end of the file an Out for each open width but the first, then End; the end is in the last row, at the offset e
abbrev pub closing : Row → ℕ → List ℕ → List Token
closing row e st = marks row (back (length st - 1)) e ++ mark row kind.End e ∷ []

-- the tokens of the lines, one line behind the other
abbrev pub Lays : Row → ℕ → ℕ → List ℕ → List Line → List Token → Type 0
Lays row e n ws [] ts = (n + length (opens ws) ≤ most_tokens) × (ts ≡ closing row e (opens ws))
Lays row e n ws (l ∷ ls) ts =
    (us : List Token) × (more : List Token) × LineTokens n ws l us × (ts ≡ us ++ more) × Lays l.row e (n + length us) (widths ws l) ls more

-- what is wrong in a line, or at the end of the file, behind lines that have tokens
abbrev pub FileFault : ℕ → ℕ → List ℕ → List Line → Fault → ℕ → Type 0
FileFault e n ws [] f o = (most_tokens < n + length (opens ws)) × (f ≡ fault.Tokens) × (o ≡ e)
FileFault e n ws (l ∷ ls) f o =
    LineFault n ws l f o ⊎ ((us : List Token) × LineTokens n ws l us × FileFault e (n + length us) (widths ws l) ls f o)

-- ---- a file

-- the order at one place: the limits, in the order of their table, then the other faults in that of theirs
abbrev pub rank : Fault → ℕ
rank fault.NameBytes = 0
rank fault.Tokens = 1
rank fault.Indents = 2
rank fault.Marks = 3
rank fault.NotUtf8 = 4
rank fault.TabIndent = 5
rank fault.BadDedent = 6
rank fault.BadCharacter = 7
rank fault.OpenText = 8
rank fault.BadEscape = 9
rank fault.NumberTooLarge = 10

-- the one comes before the other: it stands before it, or at one place and first in the order
abbrev pub Before : ℕ → Fault → ℕ → Fault → Type 0
Before o f o' f' = (o < o') ⊎ ((o ≡ o') × (rank f ≤ rank f'))

-- what is judged: all up to the first byte that begins no character, and that byte, which begins no word
abbrev pub judged_text : List ℕ → List ℕ
judged_text bs = take (utf8_valid_len bs + 1) bs

-- what is wrong in a text
abbrev pub TextFault : ℕ → List ℕ → Fault → ℕ → Type 0
TextFault file text f o = FileFault (length text) 0 [] (lines (first_row file) text) f o

-- the first byte that begins no character, or what is wrong before it or at its place
abbrev pub FaultAt : ℕ → List ℕ → Fault → ℕ → Type 0
FaultAt file bs f o =
    ((f ≡ fault.NotUtf8) × (o ≡ utf8_valid_len bs) × (utf8_valid_len bs < length bs)) ⊎
    ((utf8_valid_len bs < length bs → o ≤ utf8_valid_len bs) × TextFault file (judged_text bs) f o)

-- the fault that comes first in the file
pub record IsLeast (file : ℕ) (bs : List ℕ) (f : Fault) (o : ℕ) : Type 0 where
  pub stands : FaultAt file bs f o
  pub least : (f' : Fault) (o' : ℕ) → FaultAt file bs f' o' → Before o f o' f'

-- the file of this number and these bytes has these tokens
pub record Lexes (file : ℕ) (bs : List ℕ) (ts : List Token) : Type 0 where
  pub short : length bs ≤ most_file_bytes
  pub is_text : length bs ≤ utf8_valid_len bs
  pub laid : Lays (first_row file) (length bs) 0 [] (lines (first_row file) bs) ts

-- the fault comes first in the file, at the place
pub record IsFirst (file : ℕ) (bs : List ℕ) (f : Fault) (place : Place) : Type 0 where
  pub short : length bs ≤ most_file_bytes
  pub offset : ℕ
  pub least : IsLeast file bs f offset
  pub is_place : place ≡ place_at file bs offset

-- the limit is passed: the one on the file's bytes before all else, another where it comes first
abbrev pub IsLimit : ℕ → List ℕ → LimitName → Type 0
IsLimit file bs limit.FileBytes = most_file_bytes < length bs
IsLimit file bs limit.NameBytes = (place : Place) × IsFirst file bs fault.NameBytes place
IsLimit file bs limit.Tokens = (place : Place) × IsFirst file bs fault.Tokens place
IsLimit file bs limit.Indents = (place : Place) × IsFirst file bs fault.Indents place
IsLimit file bs limit.Marks = (place : Place) × IsFirst file bs fault.Marks place
IsLimit file bs other = ⊥

-- what is refused, and where; want of memory says nothing of the file
abbrev pub IsRefused : ℕ → List ℕ → LexRefusal → Type 0
IsRefused file bs (refusal.NotUtf8 place) = IsFirst file bs fault.NotUtf8 place
IsRefused file bs (refusal.TabIndent place) = IsFirst file bs fault.TabIndent place
IsRefused file bs (refusal.BadDedent place) = IsFirst file bs fault.BadDedent place
IsRefused file bs (refusal.BadCharacter place) = IsFirst file bs fault.BadCharacter place
IsRefused file bs (refusal.OpenText place) = IsFirst file bs fault.OpenText place
IsRefused file bs (refusal.BadEscape place) = IsFirst file bs fault.BadEscape place
IsRefused file bs (refusal.NumberTooLarge place) = IsFirst file bs fault.NumberTooLarge place
IsRefused file bs (refusal.Limit name) = IsLimit file bs name
IsRefused file bs refusal.Memory = Unit {0}
