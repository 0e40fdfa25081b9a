-- What the code gives, beside the plain programs.
use Rattle.std.specs.Prelude.{◌≡◌, ◌≤◌, ℕ, List, ◌++◌, Option, Some, None, Result, Ok, Err, Vec}
use Rattle.std.specs.Borrow.{Bor}
use Rattle.wy_text.specs.declared.token.TokenKind.{TokenKind}
use Rattle.wy_layout.specs.Words.{kind_of, Within, fits, passes}
use Rattle.wy_layout.specs.Read.{Scan, closed, stuck, Read, yes, bad}
use Rattle.wy_layout.specs.Faults.{Sane}
use Rattle.wy_layout.specs.declared.count.Count.{Count}
use Rattle.wy_layout.specs.declared.escape.Move.{Move}
use Rattle.wy_layout.specs.declared.escape.Move.TheVariants as move
use Rattle.wy_layout.specs.declared.refusal.Fault.{Fault}
use Rattle.wy_layout.specs.declared.words.Stop.{Stop}
use Rattle.wy_layout.specs.declared.words.Stop.TheVariants.{At, Memory}

-- a byte leads to a state whose digit is one
abbrev pub LeadsOn : Move → Type 0
LeadsOn (move.Go s) = Sane s
LeadsOn (move.Put v) = Unit {0}
LeadsOn move.Close = Unit {0}
LeadsOn (move.Stop f) = Unit {0}

-- what a limit's test says
abbrev pub within_of : Option Fault → Within
within_of None = fits
within_of (Some f) = passes f

-- each mark and each open brace is a token
pub record IsCalm (c : Count) : Type 0 where
  pub marks : c.marks ≤ c.tokens
  pub open_braces : c.open_braces ≤ c.tokens

-- the code's answer for the inside of a text is the plain program's
abbrev pub GivesScan : {A : Type 0} → Result (Vec ℕ A × Bor (List ℕ)) Stop → Scan → Type 0
GivesScan (Ok p) x = x ≡ closed p.0.items p.1.now
GivesScan (Err (At f r)) x = x ≡ stuck f r.now
GivesScan (Err Memory) x = Unit {0}

-- what was put before
abbrev pub put_all : List ℕ → Scan → Scan
put_all vs (closed ws r) = closed (vs ++ ws) r
put_all vs (stuck f r) = stuck f r

-- a word with the kind of its token
pub data Kinded : Type 0 where
  given : TokenKind → List ℕ → Kinded
  denied : Fault → List ℕ → Kinded

-- the word's kind in its place
abbrev pub as_kind : Read → Kinded
as_kind (yes word r) = given (kind_of word) r
as_kind (bad f r) = denied f r

-- the code's answer for a word is the plain program's
abbrev pub GivesWord : Result (TokenKind × Bor (List ℕ)) Stop → Read → Type 0
GivesWord (Ok p) x = as_kind x ≡ given p.0 p.1.now
GivesWord (Err (At f r)) x = x ≡ bad f r.now
GivesWord (Err Memory) x = Unit {0}
