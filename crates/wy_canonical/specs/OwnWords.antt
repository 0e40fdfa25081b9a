-- The items of files are items of words.
use Rattle.std.specs.Prelude.{ℕ, List}
use Rattle.wy_syntax.specs.OwnWords.{HaveWords}
use Rattle.wy_syntax.specs.Trees.{ItemTree}
use Rattle.wy_canonical.specs.HasTree.{HasTree}

-- the items of a file have words
abbrev pub TreesHaveWords : Type 0
TreesHaveWords = (file : ℕ) (bs : List ℕ) (items : List ItemTree) → HasTree file bs items → HaveWords items
