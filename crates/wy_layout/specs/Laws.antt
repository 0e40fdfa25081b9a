-- Laws of the definition.
use Rattle.std.specs.Prelude.{◌≡◌, ◌↔◌, ◌<◌, ◌≤◌, nat_lt, ℕ, List, [], ◌∷◌, length, ◌⊎◌}
use Rattle.std.specs.List.{AllByRecursion, filter}
use Rattle.wy_text.specs.declared.token.Token.{Token}
use Rattle.wy_layout.specs.Counts.{most_file_bytes}
use Rattle.wy_layout.specs.Widths.{IsOpen, Stands, step_of, above, opens}
use Rattle.wy_layout.specs.Lines.{place_at}
use Rattle.wy_layout.specs.Layout.{Lexes, FaultAt, IsLeast}
use Rattle.wy_layout.specs.declared.refusal.Fault.{Fault}

-- a file has at most one list of tokens
abbrev pub OneList : Type 0
OneList = (file : ℕ) (bs : List ℕ) (ts us : List Token) → Lexes file bs ts → Lexes file bs us → ts ≡ us

-- in a file with tokens nothing is wrong
abbrev pub NothingWrong : Type 0
NothingWrong = (file : ℕ) (bs : List ℕ) (ts : List Token) → Lexes file bs ts → (f : Fault) (o : ℕ) → FaultAt file bs f o → ⊥

-- a file within the limit on bytes has tokens, or something wrong in it comes first
abbrev pub Decided : Type 0
Decided = (file : ℕ) (bs : List ℕ) → length bs ≤ most_file_bytes → ((ts : List Token) × Lexes file bs ts) ⊎ ((f : Fault) × (o : ℕ) × IsLeast file bs f o)

-- one thing comes first
abbrev pub OneFault : Type 0
OneFault = (file : ℕ) (bs : List ℕ) (f g : Fault) (o p : ℕ) → IsLeast file bs f o → IsLeast file bs g p → (f ≡ g) × (o ≡ p)

-- each token has the place of its offset in the file
abbrev pub PlacesOfOffsets : Type 0
PlacesOfOffsets = (file : ℕ) (bs : List ℕ) (ts : List Token) → Lexes file bs ts → AllByRecursion (λ t. t.place ≡ place_at file bs t.start) ts

-- so it names the file
abbrev pub TokensNameTheirFile : Type 0
TokensNameTheirFile = (file : ℕ) (bs : List ℕ) (ts : List Token) → Lexes file bs ts → AllByRecursion (λ (t : Token). t.place.file ≡ file) ts

-- one of the widths
abbrev pub Has : ℕ → List ℕ → Type 0
Has v [] = ⊥
Has v (w ∷ st) = (v ≡ w) ⊎ Has v st

-- the open widths are those that the lines before say
abbrev pub OpenByLines : Type 0
OpenByLines = (v : ℕ) (ws : List ℕ) → Has v (opens ws) ↔ IsOpen v ws

-- and so is what stands before a line
abbrev pub StepByLines : Type 0
StepByLines = (w : ℕ) (ws : List ℕ) → Stands (step_of w (opens ws)) w ws

-- each of the widths is greater than those behind it
abbrev pub Descend : List ℕ → Type 0
Descend [] = Unit {0}
Descend (w ∷ st) = ((v : ℕ) → Has v st → v < w) × Descend st

-- the open widths descend, so none of them is there twice
abbrev pub OpenDescend : Type 0
OpenDescend = (ws : List ℕ) → Descend (opens ws)

-- so the Outs that are counted before a line are one for each open width that is greater than its own
abbrev pub OneOutForEach : Type 0
OneOutForEach = (w : ℕ) (ws : List ℕ) → above w (opens ws) ≡ length (filter (λ v. nat_lt w v) (opens ws))
