-- Scopes of values: what is in sight in a body, and in which order it is looked for.
use Rattle.std.specs.Prelude.{ℕ, ◌+◌, Bool, true, false, not, List, [], ◌∷◌, ◌++◌, map, Option, Some, None, ◌||◌, ◌&&◌, if◌then◌else◌}
use Rattle.wy_syntax.specs.declared.types.Param.{Param}
use Rattle.wy_syntax.specs.Trees as t
use Rattle.wy_types.specs.declared.code.Variable.{Variable}
use Rattle.wy_types.specs.declared.code.Variable.TheVariants.{Parameter, Local}
use Rattle.wy_types.specs.declared.code.Binding.{Binding}
use Rattle.wy_types.specs.declared.code.Binding.TheVariants as to
use Rattle.wy_bodies.specs.declared.sight.Entry.{Entry}
use Rattle.wy_symbols.specs.Declarations.{same_name, has_name, first_from}

-- what is in sight, the latest last, and whether there is a current object
pub record Sight : Type 0 where
  pub entries : List Entry
  pub in_method : Bool

abbrev pub entry : List ℕ → Binding → Entry
entry name bound = record { name = name; bound = bound }

-- the last entry of a name hides the earlier ones
abbrev pub nearest : Option Binding → Entry → List ℕ → Option Binding
nearest (Some b) e x = Some b
nearest None e x = if same_name e.name x then Some e.bound else None

abbrev pub seen : List Entry → List ℕ → Option Binding
seen [] x = None
seen (e ∷ es) x = nearest (seen es x) e x

abbrev pub own_binding : Option ℕ → Option Binding
own_binding None = None
own_binding (Some k) = Some (to.Own k)

-- what is in sight comes before the scope's own names
abbrev pub or_own : Option Binding → List (List ℕ) → List ℕ → Option Binding
or_own (Some b) own x = Some b
or_own None own x = own_binding (first_from 0 own x)

-- what a name stands for
abbrev pub binding_of : List (List ℕ) → Sight → List ℕ → Option Binding
binding_of own s x = or_own (seen s.entries x) own x

------------------------------------------------------------
-- Going into parts

-- a `val` is in sight after its statement
abbrev pub with_val : Sight → List ℕ → ℕ → Sight
with_val s name n = record { entries = s.entries ++ entry name (to.Variable (Local n)) ∷ []; in_method = s.in_method }

abbrev pub params_from : ℕ → ℕ → List Param → List Entry
params_from body k [] = []
params_from body k (p ∷ ps) = entry p.name.text (to.Variable (Parameter body k)) ∷ params_from body (k + 1) ps

-- in the method that is the scope's body of a number its parameters hide the fields
abbrev pub with_params : Sight → ℕ → List Param → Sight
with_params s body ps = record { entries = s.entries ++ params_from body 0 ps; in_method = true }

abbrev pub is_variable : Binding → Bool
is_variable (to.Variable v) = true
is_variable (to.Field i) = false
is_variable (to.Own k) = false

-- variables of the bodies round a literal; the fields of the object there are passed over
abbrev pub variables : List Entry → List Entry
variables [] = []
variables (e ∷ es) = if is_variable e.bound then e ∷ variables es else variables es

abbrev pub fields_from : ℕ → t.PartTrees → List Entry
fields_from k t.no_parts = []
fields_from k (t.more_parts (t.field kind x u r) ps) = entry x.text (to.Field k) ∷ fields_from (k + 1) ps
fields_from k (t.more_parts (t.method g b) ps) = fields_from k ps

-- what the methods of a literal see: the variables round its `new`, and before them its fields
abbrev pub inside : Sight → t.PartTrees → Sight
inside s parts = record { entries = variables s.entries ++ fields_from 0 parts; in_method = true }

-- at a module's or the program's start nothing is in sight but its own names
abbrev pub outermost : Sight
outermost = record { entries = []; in_method = false }

------------------------------------------------------------
-- Captures: the names that methods write

abbrev mutual
  pub expr_writes : List ℕ → t.ExprTree → Bool
  expr_writes x (t.number v p) = false
  expr_writes x (t.text s p) = false
  expr_writes x (t.yes p) = false
  expr_writes x (t.no p) = false
  expr_writes x (t.this p) = false
  expr_writes x (t.name n) = same_name n.text x
  expr_writes x (t.unit p) = false
  expr_writes x (t.negate e p) = expr_writes x e
  expr_writes x (t.invert e p) = expr_writes x e
  expr_writes x (t.binary o a b p) = expr_writes x a || expr_writes x b
  expr_writes x (t.call e n es) = expr_writes x e || exprs_write x es
  expr_writes x (t.size e p) = expr_writes x e
  expr_writes x (t.part e a b p) = expr_writes x e || (expr_writes x a || expr_writes x b)
  expr_writes x (t.byte_at e i p) = expr_writes x e || expr_writes x i
  expr_writes x (t.byte e p) = expr_writes x e
  expr_writes x (t.show e p) = expr_writes x e
  expr_writes x (t.ascribe e u p) = expr_writes x e
  expr_writes x (t.choice c a b p) = expr_writes x c || (expr_writes x a || expr_writes x b)

  pub exprs_write : List ℕ → t.ExprTrees → Bool
  exprs_write x t.none = false
  exprs_write x (t.more e es) = expr_writes x e || exprs_write x es

abbrev mutual
  pub rhs_writes : List ℕ → t.RhsTree → Bool
  rhs_writes x (t.literal p ps) = parts_write x ps
  rhs_writes x (t.branch p c a b) = expr_writes x c || (stmts_write x a || stmts_write x b)
  rhs_writes x (t.value e) = expr_writes x e

  pub stmt_writes : List ℕ → t.StmtTree → Bool
  stmt_writes x (t.val n u r) = rhs_writes x r
  stmt_writes x (t.assign n r) = same_name n.text x || rhs_writes x r
  stmt_writes x (t.run r) = rhs_writes x r

  pub stmts_write : List ℕ → t.StmtTrees → Bool
  stmts_write x t.no_stmts = false
  stmts_write x (t.more_stmts s ss) = stmt_writes x s || stmts_write x ss

  -- initialisers and methods
  pub part_writes : List ℕ → t.PartTree → Bool
  part_writes x (t.field k n u r) = rhs_writes x r
  part_writes x (t.method g b) = tail_writes x b

  pub parts_write : List ℕ → t.PartTrees → Bool
  parts_write x t.no_parts = false
  parts_write x (t.more_parts p ps) = part_writes x p || parts_write x ps

  pub tail_writes : List ℕ → t.TailTree → Bool
  tail_writes x (t.short r) = rhs_writes x r
  tail_writes x (t.long ss) = stmts_write x ss

-- the methods alone
abbrev pub methods_write : List ℕ → t.PartTrees → Bool
methods_write x t.no_parts = false
methods_write x (t.more_parts (t.field k n u r) ps) = methods_write x ps
methods_write x (t.more_parts (t.method g b) ps) = tail_writes x b || methods_write x ps

abbrev pub entry_names : List Entry → List (List ℕ)
entry_names es = map (λ (e : Entry). e.name) es

abbrev pub variable_of : Binding → List Variable
variable_of (to.Variable v) = v ∷ []
variable_of (to.Field i) = []
variable_of (to.Own k) = []

-- of variables those that no later one hides and that some method writes, in the order in which they came into sight
abbrev pub written_of : List Entry → t.PartTrees → List Variable
written_of [] parts = []
written_of (e ∷ es) parts =
    (if not (has_name e.name (entry_names es)) && methods_write e.name parts then variable_of e.bound else []) ++ written_of es parts

abbrev pub captures : Sight → t.PartTrees → List Variable
captures s parts = written_of (variables s.entries) parts
