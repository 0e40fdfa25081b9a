-- Laws of the grammar: a list of tokens spells one tree, or one token of it is the first that is bad.
use Rattle.std.specs.Prelude.{◌≡◌, Bool, List, ◌⊎◌}
use Rattle.wy_text.specs.declared.fault.Place.{Place}
use Rattle.wy_text.specs.declared.token.Token.{Token}
use Rattle.wy_text.specs.TokenLists.{EndsOnce}
use Rattle.wy_syntax.specs.Tokens.{Tok, toks}
use Rattle.wy_syntax.specs.Trees.{ItemTree}
use Rattle.wy_syntax.specs.Grammar.{Spells}
use Rattle.wy_syntax.specs.Marks.{ItemsPass, TokensPass}
use Rattle.wy_parser.specs.Refusals.{IsFirstBad}

-- no list of tokens spells two trees
abbrev pub OneTree : Type 0
OneTree = (ts : List Tok) (tree other : List ItemTree) → Spells ts tree → Spells ts other → tree ≡ other

-- tokens of which the last one and no other is End spell a tree, or one of them is the first that is bad
abbrev pub TreeOrFirstBadToken : Type 0
TreeOrFirstBadToken = (ts : List Token) → EndsOnce ts → ((tree : List ItemTree) × Spells (toks ts) tree) ⊎ ((bad : Tok) × IsFirstBad (toks ts) bad)

-- where a token is the first that is bad, the tokens spell no tree
abbrev pub NoTreeWithBadToken : Type 0
NoTreeWithBadToken = (ts : List Tok) (bad : Tok) (tree : List ItemTree) → IsFirstBad ts bad → Spells ts tree → ⊥

-- and no other token is the first that is bad
abbrev pub OneFirstBadToken : Type 0
OneFirstBadToken = (ts : List Tok) (bad other : Tok) → IsFirstBad ts bad → IsFirstBad ts other → bad ≡ other

-- the marks of trees are places of their tokens: a test that each of these passes is passed by each mark of the trees
abbrev pub MarksOfTokens : Type 0
MarksOfTokens = (ts : List Tok) (tree : List ItemTree) → Spells ts tree → (test : Place → Bool) → TokensPass test ts → ItemsPass test tree
