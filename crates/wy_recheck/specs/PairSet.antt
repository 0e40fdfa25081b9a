-- Pairs by their keys.
use Rattle.std.specs.Prelude.{◌↔◌, ℕ, List, Bool as Truth, IsTrue}
use Rattle.wy_text.specs.Members.{In}
use Rattle.wy_types.specs.Keys.{pair_key}
use Rattle.wy_proving.specs.Certified.{Pair}

-- the keys are those of the pairs
abbrev pub StandsFor : List (List ℕ) → List Pair → Type 0
StandsFor keys pairs = (q : Pair) → In (pair_key q.0 q.1) keys ↔ In {X = Pair} q pairs

-- an answer says whether something holds of the pairs, whatever list of them the keys are of
abbrev pub Tells : List (List ℕ) → (List Pair → Type 0) → Truth → Type 0
Tells keys P b = (pairs : List Pair) → StandsFor keys pairs → IsTrue b ↔ P pairs
