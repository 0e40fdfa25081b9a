-- Lists of the numbers of pairs that one question met, and what additions do to them.
use Rattle.std.specs.Prelude.{◌≡◌, ℕ, List, [], ◌∷◌, ◌++◌, ◌⊎◌, Option, Some, None, map}
use Rattle.wy_text.specs.Members.{In}
use Rattle.wy_subtype.specs.declared.verdict.Cause.{Cause}
use Rattle.wy_subtype.specs.declared.node.Outcome.{Outcome}
use Rattle.wy_subtype.specs.declared.node.Outcome.TheVariants.{Fails, Asks, Holds}
use Rattle.wy_subtype.specs.declared.entry.Entry.{Entry}

abbrev pub entry_node : Entry → ℕ
entry_node e = e.node

abbrev pub entry_of : ℕ → ℕ → Entry
entry_of node parent = record { «node» = node; parent = parent }

-- the list is of the pair alone
pub record IsAlone (node : ℕ) (es : List Entry) : Type 0 where
  pub entry : Entry
  pub alone : es ≡ entry ∷ []
  pub node_is : entry.node ≡ node

-- the number is there, or comes last
abbrev pub IsAdded : List Entry → ℕ → ℕ → List Entry → Type 0
IsAdded old node parent new =
    (In node (map entry_node old) × (new ≡ old)) ⊎ ((In node (map entry_node old) → ⊥) × (new ≡ old ++ entry_of node parent ∷ []))

-- one number after another
abbrev pub AreAdded : List Entry → List ℕ → ℕ → List Entry → Type 0
AreAdded old [] parent new = new ≡ old
AreAdded old (n ∷ ns) parent new = (mid : List Entry) × IsAdded old n parent mid × AreAdded mid ns parent new

-- from what is known of the pair at a place: the cause by which it fails; or nothing where it holds; or the list has what it asks for
abbrev pub GoesOn : Outcome → ℕ → List Entry → List Entry → Option Cause → Type 0
GoesOn o at old new (Some cause) = (o ≡ Fails cause) × (new ≡ old)
GoesOn o at old new None = ((o ≡ Holds) × (new ≡ old)) ⊎ ((numbers : List ℕ) × (o ≡ Asks numbers) × AreAdded old numbers at new)
