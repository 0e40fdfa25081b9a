-- Printed trees: the text that prints a file's tree has the same tree.
use Rattle.std.specs.Prelude.{◌≡◌, ◌≤◌, ℕ, List, length, ◌⊎◌}
use Rattle.wy_text.specs.declared.token.Token.{Token}
use Rattle.wy_text.specs.declared.limit.LimitName.{LimitName}
use Rattle.wy_layout.specs.Counts.{most_file_bytes}
use Rattle.wy_layout.specs.Layout.{Lexes, IsLimit}
use Rattle.wy_syntax.specs.Trees.{ItemTree}
use Rattle.wy_syntax.specs.Canonical.{canonical_form}
use Rattle.wy_canonical.specs.Unplaced.{unplaced}
use Rattle.wy_canonical.specs.HasTree.{HasTree}

-- the file of this number and these bytes passes no limit of layout
pub record IsWithinLimits (file : ℕ) (bs : List ℕ) : Type 0 where
  pub short : length bs ≤ most_file_bytes
  pub none : (limit : LimitName) → IsLimit file bs limit → ⊥

-- the tokens of the bytes spell the same tree, but for places
pub record HasTreeAgain (file : ℕ) (bs : List ℕ) (items : List ItemTree) : Type 0 where
  pub tree : List ItemTree
  pub has_tree : HasTree file bs tree
  pub same : unplaced tree ≡ unplaced items

-- the canonical form of a file's tree has the same tree, or a limit comes first in it
abbrev pub PrintedOrLimited : Type 0
PrintedOrLimited = (file file' : ℕ) (bs : List ℕ) (items : List ItemTree) → HasTree file bs items →
    HasTreeAgain file' (canonical_form items) items ⊎ ((limit : LimitName) × IsLimit file' (canonical_form items) limit)

-- so where it passes none, it has the same tree
abbrev pub PrintedTrees : Type 0
PrintedTrees = (file file' : ℕ) (bs : List ℕ) (items : List ItemTree) → HasTree file bs items → IsWithinLimits file' (canonical_form items) → HasTreeAgain file' (canonical_form items) items

-- the canonical form reads no place: trees that are the same but for places have one canonical form
abbrev pub PrintedAgain : Type 0
PrintedAgain = (a b : List ItemTree) → unplaced a ≡ unplaced b → canonical_form a ≡ canonical_form b

-- a text that has tokens passes no limit
abbrev pub TokensWithinLimits : Type 0
TokensWithinLimits = (file : ℕ) (bs : List ℕ) (tokens : List Token) → Lexes file bs tokens → IsWithinLimits file bs
