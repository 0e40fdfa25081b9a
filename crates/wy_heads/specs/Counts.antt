-- The counts of this stage, and the limit that is passed.
use Rattle.std.specs.Prelude.{ℕ, ◌+◌, Bool, false, List, [], ◌∷◌, ◌++◌, map, length, Option, Some, None, ◌||◌, nat_lt, slice_index_or, if◌then◌else◌}
use Rattle.wy_text.specs.declared.limit.LimitName.{LimitName}
use Rattle.wy_text.specs.declared.limit.LimitName.TheVariants as limit
use Rattle.wy_text.specs.LimitName.{limit_number}
use Rattle.wy_syntax.specs.declared.items.Member.{Member}
use Rattle.wy_syntax.specs.declared.items.Member.TheVariants.{Abstract, Bounded, Defined, Method}
use Rattle.wy_syntax.specs.declared.items.TypeDecl.{TypeDecl}
use Rattle.wy_syntax.specs.Trees as t
use Rattle.wy_types.specs.declared.resolved.TypeDecl as core
use Rattle.wy_types.specs.Primitive.{primitive_types}
use Rattle.wy_types.specs.Types.{is_plain}
use Rattle.wy_symbols.specs.declared.scoping.Opening.{Opening}
use Rattle.wy_symbols.specs.declared.scoping.Opening.TheVariants.{Members, Nothing, Missing}
use Rattle.wy_symbols.specs.declared.scoping.Owner.{Owner}
use Rattle.wy_symbols.specs.Declarations.{ModuleTree, ProgramTree, Declared, declared}
use Rattle.wy_symbols.specs.Atoms.{names_over, params_owners, grant_owner, use_owner, line_owner}

------------------------------------------------------------
-- The parts of object literals

abbrev mutual
  -- the parts of each literal, in their order
  pub rhs_literals : t.RhsTree → List t.PartTrees
  rhs_literals (t.literal p ps) = ps ∷ parts_literals ps
  rhs_literals (t.branch p c a b) = stmts_literals a ++ stmts_literals b
  rhs_literals (t.value e) = []

  pub stmt_literals : t.StmtTree → List t.PartTrees
  stmt_literals (t.val x u r) = rhs_literals r
  stmt_literals (t.assign x r) = rhs_literals r
  stmt_literals (t.run r) = rhs_literals r

  pub stmts_literals : t.StmtTrees → List t.PartTrees
  stmts_literals t.no_stmts = []
  stmts_literals (t.more_stmts s ss) = stmt_literals s ++ stmts_literals ss

  pub part_literals : t.PartTree → List t.PartTrees
  part_literals (t.field k x u r) = rhs_literals r
  part_literals (t.method g b) = tail_literals b

  pub parts_literals : t.PartTrees → List t.PartTrees
  parts_literals t.no_parts = []
  parts_literals (t.more_parts p ps) = part_literals p ++ parts_literals ps

  pub tail_literals : t.TailTree → List t.PartTrees
  tail_literals (t.short r) = rhs_literals r
  tail_literals (t.long ss) = stmts_literals ss

-- the parts of the modules, of their literals and of those of program blocks
abbrev pub module_parts : List ModuleTree → List t.PartTrees
module_parts [] = []
module_parts (m ∷ ms) = (m.parts ∷ parts_literals m.parts) ++ module_parts ms

abbrev pub program_parts : List ProgramTree → List t.PartTrees
program_parts [] = []
program_parts (g ∷ gs) = tail_literals g.body ++ program_parts gs

abbrev pub all_parts : Declared → List t.PartTrees
all_parts d = module_parts d.modules ++ program_parts d.programs

abbrev pub field_count : t.PartTrees → ℕ
field_count t.no_parts = 0
field_count (t.more_parts (t.field k x u r) ps) = field_count ps + 1
field_count (t.more_parts (t.method g b) ps) = field_count ps

abbrev pub method_count : t.PartTrees → ℕ
method_count t.no_parts = 0
method_count (t.more_parts (t.field k x u r) ps) = method_count ps
method_count (t.more_parts (t.method g b) ps) = method_count ps + 1

-- the numbers of parameters of methods
abbrev pub part_params : t.PartTrees → List ℕ
part_params t.no_parts = []
part_params (t.more_parts (t.field k x u r) ps) = part_params ps
part_params (t.more_parts (t.method g b) ps) = length g.params ∷ part_params ps

abbrev pub parts_params : List t.PartTrees → List ℕ
parts_params [] = []
parts_params (p ∷ ps) = part_params p ++ parts_params ps

------------------------------------------------------------
-- Members of types

abbrev pub signature_count : List Member → ℕ
signature_count [] = 0
signature_count (Abstract n ∷ ms) = signature_count ms
signature_count (Bounded n set ∷ ms) = signature_count ms
signature_count (Defined n set ∷ ms) = signature_count ms
signature_count (Method g ∷ ms) = signature_count ms + 1

abbrev pub abstract_count : List Member → ℕ
abstract_count [] = 0
abstract_count (Abstract n ∷ ms) = abstract_count ms + 1
abstract_count (Bounded n set ∷ ms) = abstract_count ms + 1
abstract_count (Defined n set ∷ ms) = abstract_count ms
abstract_count (Method g ∷ ms) = abstract_count ms

abbrev pub member_params : List Member → List ℕ
member_params [] = []
member_params (Abstract n ∷ ms) = member_params ms
member_params (Bounded n set ∷ ms) = member_params ms
member_params (Defined n set ∷ ms) = member_params ms
member_params (Method g ∷ ms) = length g.params ∷ member_params ms

abbrev pub types_params : List TypeDecl → List ℕ
types_params [] = []
types_params (d ∷ ds) = member_params d.members ++ types_params ds

------------------------------------------------------------
-- Atoms

-- the abstract members of each type, in the order of the types' numbers: those of a table of primitive types, and of the declared ones
abbrev pub table_counts : List core.TypeDecl → List ℕ
table_counts table = map (λ (d : core.TypeDecl). length d.members) table

abbrev pub abstract_counts : List TypeDecl → List ℕ
abstract_counts types = map (λ (d : TypeDecl). abstract_count d.members) types

abbrev pub type_counts_over : List core.TypeDecl → List TypeDecl → List ℕ
type_counts_over table types = table_counts table ++ abstract_counts types

-- over today's table
abbrev pub type_counts : List TypeDecl → List ℕ
type_counts types = type_counts_over primitive_types types

-- the atoms that an owner opens: an abstract member counts as often as it is written, an owner that opens nothing not at all
abbrev pub opening_count : List ℕ → Opening → ℕ
opening_count counts (Members d) = slice_index_or counts d 0
opening_count counts Nothing = 0
opening_count counts Missing = 0

abbrev pub owners_count : List ℕ → List Owner → ℕ
owners_count counts [] = 0
owners_count counts (o ∷ os) = opening_count counts o.opening + owners_count counts os

module _ (names : List (List ℕ)) (modules : List ModuleTree) where
  abbrev pub module_count : List ℕ → ModuleTree → ℕ
  module_count counts m =
      owners_count counts ((params_owners names (is_plain m.kind) m.params ++ map (use_owner names modules) m.uses) ++ map (line_owner names modules) m.lines)

  abbrev pub program_count : List ℕ → ProgramTree → ℕ
  program_count counts g =
      owners_count counts ((map (grant_owner names) g.grants ++ map (use_owner names modules) g.uses) ++ map (line_owner names modules) g.lines)

------------------------------------------------------------
-- What each limit counts, over a table of primitive types

abbrev pub counts_over : List core.TypeDecl → LimitName → Declared → List ℕ
counts_over table limit.Types d = length d.types ∷ []
counts_over table limit.Modules d = length d.modules ∷ []
counts_over table limit.Grants d = map (λ (g : ProgramTree). length g.grants) d.programs
counts_over table limit.Methods d = map (λ (c : TypeDecl). signature_count c.members) d.types ++ map method_count (all_parts d)
counts_over table limit.Fields d = map field_count (all_parts d)
counts_over table limit.Parameters d =
    types_params d.types ++ (map (λ (m : ModuleTree). length m.params) d.modules ++ parts_params (all_parts d))
counts_over table limit.Atoms d =
    abstract_counts d.types ++
    (map (module_count (names_over table d.types) d.modules (type_counts_over table d.types)) d.modules ++
    map (program_count (names_over table d.types) d.modules (type_counts_over table d.types)) d.programs)
counts_over table other d = []

abbrev pub some_above : ℕ → List ℕ → Bool
some_above most [] = false
some_above most (n ∷ ns) = nat_lt most n || some_above most ns

-- some count of the limit passes its number
abbrev pub passes_over : List core.TypeDecl → LimitName → Declared → Bool
passes_over table l d = some_above (limit_number l) (counts_over table l d)

-- the limits of this stage, in the order in which they are tried
abbrev pub early_limits : List LimitName
early_limits = limit.Types ∷ limit.Modules ∷ limit.Grants ∷ limit.Methods ∷ limit.Fields ∷ limit.Parameters ∷ []

abbrev pub limits : List LimitName
limits = early_limits ++ limit.Atoms ∷ []

abbrev pub first_passed_over : List core.TypeDecl → List LimitName → Declared → Option LimitName
first_passed_over table [] d = None
first_passed_over table (l ∷ ls) d = if passes_over table l d then Some l else first_passed_over table ls d

abbrev pub limit_over : List core.TypeDecl → List t.ItemTree → Option LimitName
limit_over table items = first_passed_over table limits (declared items)

------------------------------------------------------------
-- Over today's table

abbrev pub counts_of : LimitName → Declared → List ℕ
counts_of l d = counts_over primitive_types l d

abbrev pub passes : LimitName → Declared → Bool
passes l d = passes_over primitive_types l d

abbrev pub first_passed : List LimitName → Declared → Option LimitName
first_passed ls d = first_passed_over primitive_types ls d

abbrev pub limit_of : List t.ItemTree → Option LimitName
limit_of items = limit_over primitive_types items
