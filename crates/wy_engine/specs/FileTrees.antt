-- Which trees files have, and why a file has none.
use Rattle.std.specs.Prelude.{ℕ, suc, List, [], ◌∷◌, ◌⊎◌, ⊤}
use Rattle.wy_text.specs.declared.fault.Place.{Place}
use Rattle.wy_text.specs.declared.token.Token.{Token}
use Rattle.wy_text.specs.declared.token.TokenKind.{TokenKind}
use Rattle.wy_layout.specs.Layout.{IsFirst, IsLimit, Lexes}
use Rattle.wy_layout.specs.declared.refusal.Fault.TheVariants as fault
use Rattle.wy_syntax.specs.Tokens.{toks}
use Rattle.wy_syntax.specs.Trees.{ItemTree}
use Rattle.wy_canonical.specs.HasTree.{HasTree}
use Rattle.wy_parser.specs.Refusals.{IsFirstBad}
use Rattle.wy_engine.specs.declared.status.Status.{Status}
use Rattle.wy_engine.specs.declared.status.Status.TheVariants as status
use Rattle.wy_engine.specs.declared.status.SyntaxKind.{SyntaxKind}
use Rattle.wy_engine.specs.declared.status.SyntaxKind.TheVariants as syntax

-- the file has tokens, of which the first that fits no tree stands at the place
pub record IsUnexpected (file : ℕ) (bytes : List ℕ) (place : Place) : Type 0 where
  pub tokens : List Token
  pub lexed : Lexes file bytes tokens
  pub kind : TokenKind
  pub first : IsFirstBad (toks tokens) (record { kind = kind; place = place })

-- what is wrong with the file, and where
abbrev pub IsSyntaxFault : ℕ → List ℕ → SyntaxKind → Place → Type 0
IsSyntaxFault file bytes syntax.NotUtf8 place = IsFirst file bytes fault.NotUtf8 place
IsSyntaxFault file bytes syntax.TabIndent place = IsFirst file bytes fault.TabIndent place
IsSyntaxFault file bytes syntax.BadDedent place = IsFirst file bytes fault.BadDedent place
IsSyntaxFault file bytes syntax.BadCharacter place = IsFirst file bytes fault.BadCharacter place
IsSyntaxFault file bytes syntax.OpenText place = IsFirst file bytes fault.OpenText place
IsSyntaxFault file bytes syntax.BadEscape place = IsFirst file bytes fault.BadEscape place
IsSyntaxFault file bytes syntax.NumberTooLarge place = IsFirst file bytes fault.NumberTooLarge place
IsSyntaxFault file bytes syntax.Unexpected place = IsUnexpected file bytes place

-- the status of a call that stops at the file, since it has no tree
abbrev pub HasNoTree : ℕ → List ℕ → Status → Type 0
HasNoTree file bytes (status.Syntax place kind) = IsSyntaxFault file bytes kind place
HasNoTree file bytes (status.Limit name) = IsLimit file bytes name
HasNoTree file bytes status.Ended = ⊥
HasNoTree file bytes status.Usage = ⊥
HasNoTree file bytes (status.Unread number) = ⊥
HasNoTree file bytes (status.Refused why) = ⊥
HasNoTree file bytes (status.Trap kind mark) = ⊥
HasNoTree file bytes status.TooDeep = ⊥
HasNoTree file bytes status.Spent = ⊥
HasNoTree file bytes (status.DeviceFailed grant op) = ⊥
HasNoTree file bytes status.Unwritten = ⊥
HasNoTree file bytes status.Memory = ⊥
HasNoTree file bytes (status.BadCert at) = ⊥
HasNoTree file bytes (status.Unproved scope test index) = ⊥
HasNoTree file bytes (status.Denied row instance atom) = ⊥
HasNoTree file bytes (status.BadPolicy row) = ⊥

-- the files, the first of which has this number, have these trees
abbrev pub HaveTrees : ℕ → List (List ℕ) → List (List ItemTree) → Type 0
HaveTrees file [] [] = ⊤
HaveTrees file (bytes ∷ texts) (tree ∷ trees) = HasTree file bytes tree × HaveTrees (suc file) texts trees
HaveTrees file [] (tree ∷ trees) = ⊥
HaveTrees file (bytes ∷ texts) [] = ⊥

-- these are the trees of files
pub record AreOfFiles (trees : List (List ItemTree)) : Type 0 where
  pub texts : List (List ℕ)
  pub have : HaveTrees 1 texts trees

-- the first of the files that has no tree is why a call ends with this status
abbrev pub FirstNoTree : ℕ → List (List ℕ) → Status → Type 0
FirstNoTree file [] end = ⊥
FirstNoTree file (bytes ∷ texts) end = HasNoTree file bytes end ⊎ ((tree : List ItemTree) × HasTree file bytes tree × FirstNoTree (suc file) texts end)
