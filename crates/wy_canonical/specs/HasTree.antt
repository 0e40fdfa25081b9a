-- The tree that bytes spell.
use Rattle.std.specs.Prelude.{ℕ, List}
use Rattle.wy_text.specs.declared.token.Token.{Token}
use Rattle.wy_layout.specs.Layout.{Lexes}
use Rattle.wy_syntax.specs.Tokens.{toks}
use Rattle.wy_syntax.specs.Trees.{ItemTree}
use Rattle.wy_syntax.specs.Grammar.{Spells}

-- the tokens of the bytes spell the tree
pub record HasTree (file : ℕ) (bs : List ℕ) (items : List ItemTree) : Type 0 where
  pub tokens : List Token
  pub lexed : Lexes file bs tokens
  pub spelled : Spells (toks tokens) items
