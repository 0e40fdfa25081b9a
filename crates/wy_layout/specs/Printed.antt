-- Words that are printed, and what may stand behind them.
use Rattle.std.specs.Prelude.{◌≡◌, ◌<◌, ◌==◌, ℕ, true, false, ◌||◌, List, [], ◌∷◌, ◌++◌}
use Rattle.std.specs.List.{AllByRecursion}
use Rattle.wy_text.specs.declared.token.TokenKind.{TokenKind}
use Rattle.wy_text.specs.Quoted.{quoted_form}
use Rattle.wy_text.specs.Spelling.{spelling_of}
use Rattle.wy_layout.specs.Texts.{IsText}
use Rattle.wy_layout.specs.Words.{Word, name, number, text, fixed, IsWord, over, fits, among, reserved, symbols, kind_of}
use Rattle.wy_layout.specs.Faults.{IsWithin}
use Rattle.wy_layout.specs.Read.{name_len, digits_len}

-- nothing stands there that may be the second character of a symbol: =, +, & or |
abbrev pub Ends : List ℕ → Type 0
Ends [] = Unit {0}
Ends (c ∷ cs) = ((c == 61) || ((c == 43) || ((c == 38) || (c == 124)))) ≡ false

-- what stands there goes on with no word of the kind: behind a name or a reserved word no character of a name,
-- behind a number no digit, behind a symbol no second character of one, behind a text anything
abbrev pub Apart : Word → List ℕ → Type 0
Apart (name v) r = name_len 0 r ≡ 0
Apart (number n) r = digits_len r ≡ 0
Apart (text v) r = Unit {0}
Apart (fixed v) r = (among v reserved ≡ true → name_len 0 r ≡ 0) × (among v symbols ≡ true → Ends r)

-- a printed word is read as itself, whatever stands further behind it
abbrev pub PrintedWords : Type 0
PrintedWords = (word : Word) (w r : List ℕ) → IsWord word w → over word ≡ fits → Apart word r → IsWithin word (w ++ r) r

-- the quoted form of bytes is a text that stands for them
abbrev pub QuotedTexts : Type 0
QuotedTexts = (v : List ℕ) → AllByRecursion (λ b. b < 256) v → IsText v (quoted_form v)

-- a reserved word or a symbol is of the kind that is spelled so
abbrev pub SpelledKinds : Type 0
SpelledKinds = (k : TokenKind) → (spelling_of k ≡ [] → ⊥) → kind_of (fixed (spelling_of k)) ≡ k
