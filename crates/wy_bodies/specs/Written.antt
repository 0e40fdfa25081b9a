-- The names that bodies write, in their order.
use Rattle.std.specs.Prelude.{ℕ, suc, zero, List, [], ◌∷◌, ◌++◌, map, not, Option, Some, None, ◌&&◌, if◌then◌else◌}
use Rattle.wy_syntax.specs.Trees as t
use Rattle.wy_types.specs.declared.code.Variable.{Variable}
use Rattle.wy_symbols.specs.Declarations.{has_name}
use Rattle.wy_bodies.specs.InSight.{Known}

abbrev mutual
  pub expr_names : t.ExprTree → List (List ℕ)
  expr_names (t.number v p) = []
  expr_names (t.text s p) = []
  expr_names (t.yes p) = []
  expr_names (t.no p) = []
  expr_names (t.this p) = []
  expr_names (t.name n) = n.text ∷ []
  expr_names (t.unit p) = []
  expr_names (t.negate e p) = expr_names e
  expr_names (t.invert e p) = expr_names e
  expr_names (t.binary o a b p) = expr_names a ++ expr_names b
  expr_names (t.call e n es) = expr_names e ++ exprs_names es
  expr_names (t.size e p) = expr_names e
  expr_names (t.part e a b p) = expr_names e ++ (expr_names a ++ expr_names b)
  expr_names (t.byte_at e i p) = expr_names e ++ expr_names i
  expr_names (t.byte e p) = expr_names e
  expr_names (t.show e p) = expr_names e
  expr_names (t.ascribe e u p) = expr_names e
  expr_names (t.choice c a b p) = expr_names c ++ (expr_names a ++ expr_names b)

  pub exprs_names : t.ExprTrees → List (List ℕ)
  exprs_names t.none = []
  exprs_names (t.more e es) = expr_names e ++ exprs_names es

abbrev mutual
  pub rhs_names : t.RhsTree → List (List ℕ)
  rhs_names (t.literal p ps) = parts_names ps
  rhs_names (t.branch p c a b) = expr_names c ++ (stmts_names a ++ stmts_names b)
  rhs_names (t.value e) = expr_names e

  pub stmt_names : t.StmtTree → List (List ℕ)
  stmt_names (t.val n u r) = rhs_names r
  stmt_names (t.assign n r) = n.text ∷ rhs_names r
  stmt_names (t.run r) = rhs_names r

  pub stmts_names : t.StmtTrees → List (List ℕ)
  stmts_names t.no_stmts = []
  stmts_names (t.more_stmts s ss) = stmt_names s ++ stmts_names ss

  pub part_names : t.PartTree → List (List ℕ)
  part_names (t.field k n u r) = rhs_names r
  part_names (t.method g b) = tail_names b

  pub parts_names : t.PartTrees → List (List ℕ)
  parts_names t.no_parts = []
  parts_names (t.more_parts p ps) = part_names p ++ parts_names ps

  pub tail_names : t.TailTree → List (List ℕ)
  tail_names (t.short r) = rhs_names r
  tail_names (t.long ss) = stmts_names ss

-- the methods alone
abbrev pub methods_names : t.PartTrees → List (List ℕ)
methods_names t.no_parts = []
methods_names (t.more_parts (t.field k n u r) ps) = methods_names ps
methods_names (t.more_parts (t.method g b) ps) = tail_names b ++ methods_names ps

-- the variable of a number, where no later one has its name and some of these names is its own
abbrev pub mark : List Known → List (List ℕ) → ℕ → Option Variable
mark [] names k = None
mark (e ∷ es) names zero = if not (has_name e.name (map (λ (k : Known). k.name) es)) && has_name e.name names then Some e.variable else None
mark (e ∷ es) names (suc k) = mark es names k
