-- Short forms of trees, for the worked examples.
use Rattle.std.specs.Prelude.{ℕ, List, [], Some, None}
use Rattle.wy_text.specs.declared.fault.Place.{Place}
use Rattle.wy_syntax.specs.declared.types.Name.{Name}
use Rattle.wy_syntax.specs.declared.types.AtomUse.{AtomUse}
use Rattle.wy_syntax.specs.declared.types.MemberSet.{MemberSet}
use Rattle.wy_syntax.specs.declared.types.TypeUse.{TypeUse}
use Rattle.wy_syntax.specs.declared.types.Param.{Param}
use Rattle.wy_syntax.specs.declared.types.Signature.{Signature}
use Rattle.wy_syntax.specs.declared.items.Member.{Member}
use Rattle.wy_syntax.specs.declared.items.Line.{Line}
use Rattle.wy_syntax.specs.declared.items.Define.{Define}
use Rattle.wy_syntax.specs.declared.items.Grant.{Grant}
use Rattle.wy_syntax.specs.Trees as t

abbrev pub at : ℕ → ℕ → Place
at line column = record { file = 1; line = line; column = column }

abbrev pub word : List ℕ → ℕ → ℕ → Name
word text line column = record { text = text; place = at line column }

abbrev pub member_atom : Name → AtomUse
member_atom m = record { owner = None; member = m }

abbrev pub owner_atom : Name → Name → AtomUse
owner_atom o m = record { owner = Some o; member = m }

abbrev pub member_set : Name → List AtomUse → MemberSet
member_set n set = record { name = n; effect = set }

abbrev pub param : Name → TypeUse → Param
param n u = record { name = n; type_use = u }

-- a signature whose `def` stands two columns in
abbrev pub def : ℕ → Name → List Param → List AtomUse → TypeUse → Signature
def line n ps set result = record { place = at line 3; name = n; params = ps; effect = Some set; result = result }

abbrev pub define : Name → List AtomUse → Define
define n set = record { name = n; effect = set }

abbrev pub grant : Name → Name → Grant
grant n k = record { name = n; kind = k }

abbrev pub type_decl : ℕ → Name → List Member → t.ItemTree
type_decl line n ms = t.type_item (record { place = at line 1; name = n; members = ms })

-- a resource module with parts alone, and one with lines and definitions
abbrev pub resource : ℕ → Name → List Param → Name → t.PartTrees → t.ItemTree
resource line n ps sealed parts =
    t.resource_item (at line 1) n ps sealed (record { uses = []; lines = []; defines = []; init = None; parts = parts })

abbrev pub resource_of : ℕ → Name → List Param → Name → List Name → List Line → List Define → t.PartTrees → t.ItemTree
resource_of line n ps sealed uses lines defines parts =
    t.resource_item (at line 1) n ps sealed (record { uses = uses; lines = lines; defines = defines; init = None; parts = parts })

-- a program whose `run` stands on a line
abbrev pub program : ℕ → ℕ → List Grant → List Line → List AtomUse → t.StmtTrees → t.ItemTree
program line run grants lines set body = t.program_item (at line 1) grants [] lines (at run 3) set (t.long body)

-- one statement, and `()`
abbrev pub only : t.RhsTree → t.StmtTrees
only r = t.more_stmts (t.run r) t.no_stmts

abbrev pub nothing_at : ℕ → ℕ → t.StmtTrees
nothing_at line column = only (t.value (t.unit (at line column)))

abbrev pub named : Name → t.RhsTree
named n = t.value (t.name n)
