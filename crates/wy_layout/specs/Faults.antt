-- What can be wrong with a word, and at which of its characters.
use Rattle.std.specs.Prelude.{◌≡◌, ℕ, ◌==◌, true, false, List, [], ◌∷◌, ◌++◌, ◌≢◌, ◌⊎◌}
use Rattle.std.specs.Char.{is_ascii_hexdigit}
use Rattle.wy_layout.specs.Texts.{Piece, Good, spell, is_control, is_short}
use Rattle.wy_layout.specs.Words.{Word, IsWord, IsLongest, over, passes, fits}
use Rattle.wy_layout.specs.declared.refusal.Fault.{Fault}
use Rattle.wy_layout.specs.declared.refusal.Fault.TheVariants as fault
use Rattle.wy_layout.specs.declared.escape.State.{State}
use Rattle.wy_layout.specs.declared.escape.State.TheVariants as state

-- the part of an escape that is read
abbrev pub part : State → List ℕ
part state.Plain = []
part state.Slash = 92 ∷ []
part state.Hex = 92 ∷ 120 ∷ []
part (state.Digit h) = 92 ∷ 120 ∷ h ∷ []

-- its digit is one
abbrev pub Sane : State → Type 0
Sane state.Plain = Unit {0}
Sane state.Slash = Unit {0}
Sane state.Hex = Unit {0}
Sane (state.Digit h) = is_ascii_hexdigit h ≡ true

-- no escape goes on with the character
abbrev pub Misses : State → ℕ → Type 0
Misses state.Plain c = ⊥
Misses state.Slash c = (is_short c ≡ false) × ((c == 120) ≡ false)
Misses state.Hex c = is_ascii_hexdigit c ≡ false
Misses (state.Digit h) c = is_ascii_hexdigit c ≡ false

-- a control character; or another one that the escape cannot go on with
abbrev pub StopsAt : Fault → State → ℕ → Type 0
StopsAt f s c = ((f ≡ fault.BadCharacter) × (is_control c ≡ true)) ⊎ ((f ≡ fault.BadEscape) × (is_control c ≡ false) × Misses s c)

-- the line ends; or it stops at a character
abbrev pub Fails : Fault → State → List ℕ → Type 0
Fails f s [] = f ≡ fault.OpenText
Fails f s (c ∷ cs) = StopsAt f s c

-- cs is what stands behind a quote, and r what is left of it from the wrong place on
pub record IsTextFault (f : Fault) (cs r : List ℕ) : Type 0 where
  pub pieces : List Piece
  pub are_good : Good pieces
  pub escape : State
  pub sane : Sane escape
  pub parts : cs ≡ spell pieces ++ (part escape ++ r)
  pub fails : Fails f escape r

-- it begins with no quote
abbrev pub Quoteless : List ℕ → Type 0
Quoteless [] = Unit {0}
Quoteless (c ∷ cs) = c ≢ 34

-- In each, u begins no blank and no comment, and r is what is left of it from the wrong place on.

-- its character begins no word
pub record BeginsNone (f : Fault) (u r : List ℕ) : Type 0 where
  pub kind : f ≡ fault.BadCharacter
  pub place : r ≡ u
  pub no_text : Quoteless u
  pub none : (word : Word) (w rest : List ℕ) → u ≡ w ++ rest → IsWord word w → ⊥

-- it begins a text in which a character is wrong
abbrev pub WrongText : Fault → List ℕ → List ℕ → Type 0
WrongText f [] r = ⊥
WrongText f (c ∷ cs) r = (c ≡ 34) × IsTextFault f cs r

-- its longest word passes a limit
pub record PassesLimit (f : Fault) (u r : List ℕ) : Type 0 where
  pub place : r ≡ u
  pub word : Word
  pub written : List ℕ
  pub rest : List ℕ
  pub parts : u ≡ written ++ rest
  pub longest : IsLongest word written rest
  pub passed : over word ≡ passes f

-- a word is wrong
abbrev pub IsWordFault : Fault → List ℕ → List ℕ → Type 0
IsWordFault f u r = BeginsNone f u r ⊎ (WrongText f u r ⊎ PassesLimit f u r)

-- u begins with the word, which is within its limits, and r stands behind it
pub record IsWithin (word : Word) (u r : List ℕ) : Type 0 where
  pub written : List ℕ
  pub parts : u ≡ written ++ r
  pub longest : IsLongest word written r
  pub limits : over word ≡ fits
