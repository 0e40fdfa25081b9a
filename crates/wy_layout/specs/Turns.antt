-- The words of a line, token by token, as the code gives them.
use Rattle.std.specs.Prelude.{◌≡◌, ℕ, ◌+◌, ◌-◌, ◌<◌, ◌≤◌, List, [], ◌++◌, length, Option, Some, None, Result, Ok, Err}
use Rattle.std.specs.Borrow.{Bor}
use Rattle.wy_text.specs.declared.token.Token.{Token}
use Rattle.wy_layout.specs.Counts.{counted, most_tokens}
use Rattle.wy_layout.specs.Lexed.{Found, good, bad_at, onto, words_of}
use Rattle.wy_layout.specs.declared.count.Count.{Count}
use Rattle.wy_layout.specs.declared.line.Halt.{Halt}
use Rattle.wy_layout.specs.declared.line.Halt.TheVariants as halt
use Rattle.wy_layout.specs.declared.row.Row.{Row}
use Rattle.wy_layout.specs.declared.words.Stop.{Stop}
use Rattle.wy_layout.specs.declared.words.Stop.TheVariants.{At, Memory}

-- the text begins with the token, and r is left behind it
pub record IsTurn (row : Row) (c : Count) (at : ℕ) (u : List ℕ) (t : Token) (r : List ℕ) : Type 0 where
  pub reads : words_of row c at u ≡ onto t (words_of row (counted c t.kind) t.end r)
  pub shorter : length r < length u
  pub place : t.end + length r ≡ at + length u
  pub room : c.tokens < most_tokens

-- the code's answer for the next token is the plain program's
abbrev pub GivesTurn : Result (Option (Token × Bor (List ℕ))) Halt → Row → Count → ℕ → List ℕ → Type 0
GivesTurn (Ok None) row c at u = words_of row c at u ≡ good []
GivesTurn (Ok (Some p)) row c at u = IsTurn row c at u p.0 p.1.now
GivesTurn (Err (halt.At f o)) row c at u = words_of row c at u ≡ bad_at f o
GivesTurn (Err halt.Memory) row c at u = Unit {0}

-- with tokens before
abbrev pub prepend : List Token → Found → Found
prepend ts (good us) = good (ts ++ us)
prepend ts (bad_at f o) = bad_at f o

-- the code's answer for a line's words is the plain program's
abbrev pub GivesLine : {A : Type 0} → Result A Halt → List Token → List Token → Found → Type 0
GivesLine (Ok x) before after found = prepend before found ≡ good after
GivesLine (Err (halt.At f o)) before after found = found ≡ bad_at f o
GivesLine (Err halt.Memory) before after found = Unit {0}

-- the code stops within the text
abbrev pub StopsWithin : Stop → List ℕ → Type 0
StopsWithin (At f r) u = length r.now ≤ length u
StopsWithin Memory u = Unit {0}

-- where the code stops, by its offset
abbrev pub halt_of : Stop → ℕ → List ℕ → Halt
halt_of (At f r) at u = halt.At f (at + (length u - length r.now))
halt_of Memory at u = halt.Memory
