-- The spans of tokens.
use Rattle.std.specs.Prelude.{ℕ, ◌≤◌, List, [], ◌∷◌, length}
use Rattle.wy_text.specs.declared.token.Token.{Token}
use Rattle.wy_layout.specs.Layout.{Lexes}

-- from an offset on up to another, the spans stand in order
abbrev pub SpansFrom : ℕ → ℕ → List Token → Type 0
SpansFrom at e [] = at ≤ e
SpansFrom at e (t ∷ ts) = (at ≤ t.start) × (t.start ≤ t.end) × SpansFrom t.end e ts

-- the spans of a file's tokens stand in order, within its bytes
abbrev pub SpansInOrder : Type 0
SpansInOrder = (file : ℕ) (bs : List ℕ) (ts : List Token) → Lexes file bs ts → SpansFrom 0 (length bs) ts
