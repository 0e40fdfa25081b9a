-- Which tokens spell right sides, statements, parts and bodies.
use Rattle.std.specs.Prelude.{◌≡◌, ℕ, Bool, true, false, [], None, Some}
use Rattle.wy_text.specs.declared.token.TokenKind.{TokenKind}
use Rattle.wy_text.specs.declared.token.TokenKind.TheVariants as kind
use Rattle.wy_syntax.specs.declared.statements.FieldKind.{FieldKind}
use Rattle.wy_syntax.specs.declared.statements.FieldKind.TheVariants as fields
use Rattle.wy_syntax.specs.Trees.{RhsTree, literal, branch, value, StmtTree, StmtTrees, val, assign, run, no_stmts, more_stmts, PartTree, PartTrees, field, method, no_parts, more_parts, TailTree, short, long}
use Rattle.wy_syntax.specs.Languages.{Lang, Sign, Mark, Word, ◌⨟◌, Only, Indented, Lines}
use Rattle.wy_syntax.specs.TypeGrammar.{SpellsType, SpellsSignature}
use Rattle.wy_syntax.specs.ExprGrammar.{SpellsExpr}

abbrev pub field_word : FieldKind → TokenKind
field_word fields.Val = kind.KwVal
field_word fields.Var = kind.KwVar

abbrev pub is_val : StmtTree → Bool
is_val (val n t r) = true
is_val (assign n r) = false
is_val (run r) = false

abbrev mutual
  -- Rhs, where k is 0; where k is 1 no type is known, and no `if` stands there
  pub SpellsRhs : Bool → ℕ → RhsTree → Lang
  SpellsRhs plain k (literal p ps) u = (Mark kind.KwNew p ⨟ Sign kind.Nl ⨟ Indented (ps ≡ no_parts) (SpellsParts plain ps)) u
  SpellsRhs plain k (branch p c a b) u = Only (k ≡ 0)
      (Mark kind.KwIf p ⨟ SpellsExpr plain 1 c ⨟ Sign kind.Nl ⨟ Lines (SpellsBlock plain a)
      ⨟ Sign kind.KwElse ⨟ Sign kind.Nl ⨟ Lines (SpellsBlock plain b)) u
  SpellsRhs plain k (value e) u = (SpellsExpr plain k e ⨟ Sign kind.Nl) u

  -- Stmt
  pub SpellsStmt : Bool → StmtTree → Lang
  SpellsStmt plain (val n None r) u = (Sign kind.KwVal ⨟ Word n ⨟ Sign kind.SymEqual ⨟ SpellsRhs plain 1 r) u
  SpellsStmt plain (val n (Some t) r) u = (Sign kind.KwVal ⨟ Word n ⨟ Sign kind.SymColon ⨟ SpellsType plain t ⨟ Sign kind.SymEqual ⨟ SpellsRhs plain 0 r) u
  SpellsStmt plain (assign n r) u = (Word n ⨟ Sign kind.SymEqual ⨟ SpellsRhs plain 0 r) u
  SpellsStmt plain (run r) u = SpellsRhs plain 0 r u

  -- Block: statements, the last of which is no `val`
  pub SpellsBlock : Bool → StmtTrees → Lang
  SpellsBlock plain no_stmts u = ⊥
  SpellsBlock plain (more_stmts s no_stmts) u = Only (is_val s ≡ false) (SpellsStmt plain s) u
  SpellsBlock plain (more_stmts s (more_stmts t ss)) u = (SpellsStmt plain s ⨟ SpellsBlock plain (more_stmts t ss)) u

  -- Part
  pub SpellsPart : Bool → PartTree → Lang
  SpellsPart plain (field k n t r) u = (Sign (field_word k) ⨟ Word n ⨟ Sign kind.SymColon ⨟ SpellsType plain t ⨟ Sign kind.SymEqual ⨟ SpellsRhs plain 0 r) u
  SpellsPart plain (method s b) u = (SpellsSignature plain s ⨟ SpellsTail plain b) u

  pub SpellsParts : Bool → PartTrees → Lang
  SpellsParts plain no_parts u = u ≡ []
  SpellsParts plain (more_parts p ps) u = (SpellsPart plain p ⨟ SpellsParts plain ps) u

  -- Tail
  pub SpellsTail : Bool → TailTree → Lang
  SpellsTail plain (short r) u = (Sign kind.SymEqual ⨟ SpellsRhs plain 0 r) u
  SpellsTail plain (long ss) u = (Sign kind.Nl ⨟ Lines (SpellsBlock plain ss)) u
