-- What the code of this crate says of parsing files.
use Rattle.std.specs.Prelude.{◌≡◌, ◌≢◌, ◌++◌, ℕ, List}
use Rattle.wy_syntax.specs.Trees.{ItemTree}
use Rattle.wy_layout.specs.declared.refusal.LexRefusal.{LexRefusal}
use Rattle.wy_layout.specs.declared.refusal.LexRefusal.TheVariants as refusal
use Rattle.wy_engine.specs.FileTrees.{HaveTrees}
use Rattle.wy_engine.specs.declared.status.Status.{Status}
use Rattle.wy_engine.specs.declared.status.Status.TheVariants as status
use Rattle.wy_engine.specs.declared.status.SyntaxKind.TheVariants as syntax

-- the fact holds unless memory was wanting
abbrev pub IfNotMemory : Status → Type 0 → Type 0
IfNotMemory end Fact = end ≢ status.Memory → Fact

-- the status of a call that stops at a file without tokens
abbrev pub lexical_status : LexRefusal → Status
lexical_status (refusal.NotUtf8 place) = status.Syntax place syntax.NotUtf8
lexical_status (refusal.TabIndent place) = status.Syntax place syntax.TabIndent
lexical_status (refusal.BadDedent place) = status.Syntax place syntax.BadDedent
lexical_status (refusal.BadCharacter place) = status.Syntax place syntax.BadCharacter
lexical_status (refusal.OpenText place) = status.Syntax place syntax.OpenText
lexical_status (refusal.BadEscape place) = status.Syntax place syntax.BadEscape
lexical_status (refusal.NumberTooLarge place) = status.Syntax place syntax.NumberTooLarge
lexical_status (refusal.Limit name) = status.Limit name
lexical_status refusal.Memory = status.Memory

-- the trees of the texts came behind those that were there
pub record AddsTrees (file : ℕ) (texts : List (List ℕ)) (before after : List (List ItemTree)) : Type 0 where
  pub more : List (List ItemTree)
  pub parts : after ≡ before ++ more
  pub have : HaveTrees file texts more
