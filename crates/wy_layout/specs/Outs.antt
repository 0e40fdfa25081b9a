-- What the code gives for a line and a file.
use Rattle.std.specs.Prelude.{◌≡◌, ℕ, cond, List, ◌++◌, length, Result, Ok, Err, Vec}
use Rattle.wy_text.specs.declared.token.Token.{Token}
use Rattle.wy_layout.specs.Widths.{Step, deeper, back, wrong}
use Rattle.wy_layout.specs.Lines.{Line}
use Rattle.wy_layout.specs.Lexed.{LineOut, laid, broken, Lexed, tokens, refused, join, end_of, before_utf8}
use Rattle.wy_layout.specs.declared.line.Halt.{Halt}
use Rattle.wy_layout.specs.declared.line.Halt.TheVariants as halt
use Rattle.wy_layout.specs.declared.refusal.Fault.{Fault}
use Rattle.wy_layout.specs.declared.refusal.Fault.TheVariants as fault
use Rattle.wy_layout.specs.declared.refusal.LexRefusal.{LexRefusal}
use Rattle.wy_layout.specs.declared.refusal.LexRefusal.TheVariants as refusal
use Rattle.wy_text.specs.declared.fault.Place.{Place}
use Rattle.wy_text.specs.declared.limit.LimitName.TheVariants as limit
use Rattle.wy_layout.specs.declared.row.Row.{Row}
use Rattle.wy_layout.specs.declared.widths.Before.{Before}
use Rattle.wy_layout.specs.declared.widths.Before.TheVariants as before

-- what the code says of the tokens before a line
abbrev pub step_is : Before → Step
step_is before.In = deeper
step_is (before.Out n) = back n
step_is (before.Wrong n) = wrong n

-- a line by its row and its text
abbrev pub line_of : Row → List ℕ → Line
line_of row z = record { row = row; content = z }

-- the line is laid behind the tokens before
abbrev pub Added : List Token → List Token → LineOut → Type 0
Added old new (laid us s) = new ≡ old ++ us
Added old new (broken f o) = ⊥

-- the code's answer for a line's tokens is the plain program's
abbrev pub GivesAdded : {A : Type 0} → Result A Halt → List Token → List Token → LineOut → Type 0
GivesAdded (Ok x) old new out = Added old new out
GivesAdded (Err (halt.At f o)) old new out = out ≡ broken f o
GivesAdded (Err halt.Memory) old new out = Unit {0}

-- the line is laid, and the stack is the one behind it
abbrev pub Laid : List Token → List Token → List ℕ → LineOut → Type 0
Laid old new st (laid us s) = (new ≡ old ++ us) × (st ≡ s)
Laid old new st (broken f o) = ⊥

-- the code's answer for a line is the plain program's
abbrev pub GivesOut : {A : Type 0} → Result A Halt → List Token → List Token → List ℕ → LineOut → Type 0
GivesOut (Ok x) old new st out = Laid old new st out
GivesOut (Err (halt.At f o)) old new st out = out ≡ broken f o
GivesOut (Err halt.Memory) old new st out = Unit {0}

-- the code's stop is the plain program's
abbrev pub Halts : Halt → LineOut → Type 0
Halts (halt.At f o) out = out ≡ broken f o
Halts halt.Memory out = Unit {0}

-- all lines are laid, and the last one is the row
abbrev pub GivesLines : Result Row Halt → List Token → List Token → List ℕ → ℕ → Lexed → Type 0
GivesLines (Ok row) old new st e x = join old x ≡ join new (end_of row e (length new) st)
GivesLines (Err (halt.At f o)) old new st e x = x ≡ refused f o
GivesLines (Err halt.Memory) old new st e x = Unit {0}

-- the code's answer for the end of a file is the plain program's
abbrev pub GivesEnd : {A : Type 0} → Result A Halt → List Token → List Token → Lexed → Type 0
GivesEnd (Ok y) old new x = join old x ≡ tokens new
GivesEnd (Err (halt.At f o)) old new x = x ≡ refused f o
GivesEnd (Err halt.Memory) old new x = Unit {0}

-- the code's answer for a file is the plain program's
abbrev pub GivesText : {A : Type 0} → Result (Vec Token A) Halt → Lexed → Type 0
GivesText (Ok v) x = x ≡ tokens v.items
GivesText (Err (halt.At f o)) x = x ≡ refused f o
GivesText (Err halt.Memory) x = Unit {0}

-- what comes before the first byte that begins no character, or that byte
abbrev pub earlier : Halt → ℕ → Halt
earlier (halt.At f o) v = cond (before_utf8 f o v) (halt.At f o) (halt.At fault.NotUtf8 v)
earlier halt.Memory v = halt.Memory

-- the refusal of a fault at a place
abbrev pub refusal_of : Fault → Place → LexRefusal
refusal_of fault.NameBytes place = refusal.Limit limit.NameBytes
refusal_of fault.Tokens place = refusal.Limit limit.Tokens
refusal_of fault.Indents place = refusal.Limit limit.Indents
refusal_of fault.Marks place = refusal.Limit limit.Marks
refusal_of fault.NotUtf8 place = refusal.NotUtf8 place
refusal_of fault.TabIndent place = refusal.TabIndent place
refusal_of fault.BadDedent place = refusal.BadDedent place
refusal_of fault.BadCharacter place = refusal.BadCharacter place
refusal_of fault.OpenText place = refusal.OpenText place
refusal_of fault.BadEscape place = refusal.BadEscape place
refusal_of fault.NumberTooLarge place = refusal.NumberTooLarge place
