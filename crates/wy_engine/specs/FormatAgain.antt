-- Formatting what was formatted.
use Rattle.std.specs.Prelude.{◌≡◌, ℕ, List}
use Rattle.wy_canonical.specs.Printed.{IsWithinLimits}
use Rattle.wy_canonical.specs.HasTree.{HasTree}
use Rattle.wy_syntax.specs.Canonical.{canonical_form}
use Rattle.wy_syntax.specs.Trees.{ItemTree}

-- the file of this number and these bytes has one tree, and the bytes are its canonical form
pub record PrintsAsItself (file : ℕ) (bytes : List ℕ) : Type 0 where
  pub tree : List ItemTree
  pub has_tree : HasTree file bytes tree
  pub only : (other : List ItemTree) → HasTree file bytes other → other ≡ tree
  pub printed : canonical_form tree ≡ bytes

-- the canonical form of a file's tree prints as itself, unless it passes a limit of layout
abbrev pub FormatAgain : Type 0
FormatAgain = (file file' : ℕ) (bytes : List ℕ) (tree : List ItemTree) → HasTree file bytes tree → IsWithinLimits file' (canonical_form tree) → PrintsAsItself file' (canonical_form tree)
