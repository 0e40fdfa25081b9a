-- What it says that there is no tree, and where.
use Rattle.std.specs.Prelude.{◌≡◌, List, ◌∷◌, ◌++◌}
use Rattle.wy_syntax.specs.Tokens.{Tok}
use Rattle.wy_syntax.specs.Trees.{ItemTree}
use Rattle.wy_syntax.specs.Grammar.{Spells}

-- x is the first token such that no list that spells a tree begins with the tokens up to it and with it
pub record IsFirstBad (ts : List Tok) (x : Tok) : Type 0 where
  pub before : List Tok
  pub after : List Tok
  pub parts : ts ≡ before ++ x ∷ after
  -- some list that spells a tree begins with the tokens before it
  pub more : List Tok
  pub tree : List ItemTree
  pub spelled : Spells (before ++ more) tree
  -- none begins with those and it
  pub none : (tree : List ItemTree) (more : List Tok) → Spells (before ++ x ∷ more) tree → ⊥
