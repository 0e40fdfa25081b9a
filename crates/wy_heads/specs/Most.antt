-- The greatest counts of methods, fields and parameters, as a walk over trees finds them.
use Rattle.std.specs.Prelude.{ℕ, List, [], ◌∷◌, length, map, max, nat_lt, Option, Some, None, if◌then◌else◌}
use Rattle.wy_syntax.specs.declared.items.Member.{Member}
use Rattle.wy_syntax.specs.declared.items.TypeDecl.{TypeDecl}
use Rattle.wy_syntax.specs.Trees as t
use Rattle.wy_text.specs.declared.limit.LimitName.{LimitName}
use Rattle.wy_text.specs.LimitName.{limit_number}
use Rattle.wy_symbols.specs.Declarations.{ModuleTree, ProgramTree, Declared}
use Rattle.wy_heads.specs.declared.counts.Most.{Most}
use Rattle.wy_heads.specs.Counts.{method_count, field_count, part_params, signature_count, member_params}

-- the greatest of a number and others
abbrev pub greatest : ℕ → List ℕ → ℕ
greatest most [] = most
greatest most (n ∷ ns) = greatest (max most n) ns

-- with the counts of one list of fields and methods
abbrev pub with_parts : Most → t.PartTrees → Most
with_parts most ps = record {
  methods = max most.methods (method_count ps);
  fields = max most.fields (field_count ps);
  parameters = greatest most.parameters (part_params ps);
}

-- with the counts of a type's members
abbrev pub with_members : Most → List Member → Most
with_members most ms = record {
  methods = max most.methods (signature_count ms);
  fields = most.fields;
  parameters = greatest most.parameters (member_params ms);
}

abbrev mutual
  -- with the counts of the literals in a part
  pub rhs_most : Most → t.RhsTree → Most
  rhs_most most (t.literal p ps) = parts_most (with_parts most ps) ps
  rhs_most most (t.branch p c a b) = stmts_most (stmts_most most a) b
  rhs_most most (t.value e) = most

  pub stmt_most : Most → t.StmtTree → Most
  stmt_most most (t.val x u r) = rhs_most most r
  stmt_most most (t.assign x r) = rhs_most most r
  stmt_most most (t.run r) = rhs_most most r

  pub stmts_most : Most → t.StmtTrees → Most
  stmts_most most t.no_stmts = most
  stmts_most most (t.more_stmts s ss) = stmts_most (stmt_most most s) ss

  pub part_most : Most → t.PartTree → Most
  part_most most (t.field k x u r) = rhs_most most r
  part_most most (t.method g b) = tail_most most b

  pub parts_most : Most → t.PartTrees → Most
  parts_most most t.no_parts = most
  parts_most most (t.more_parts p ps) = parts_most (part_most most p) ps

  pub tail_most : Most → t.TailTree → Most
  tail_most most (t.short r) = rhs_most most r
  tail_most most (t.long ss) = stmts_most most ss

-- with the counts of every one of some lists of fields and methods
abbrev pub all_most : Most → List t.PartTrees → Most
all_most most [] = most
all_most most (ps ∷ pss) = all_most (with_parts most ps) pss

------------------------------------------------------------
-- Over all declarations

abbrev pub types_most : Most → List TypeDecl → Most
types_most most [] = most
types_most most (d ∷ ds) = types_most (with_members most d.members) ds

abbrev pub module_params : List ModuleTree → List ℕ
module_params ms = map (λ (m : ModuleTree). length m.params) ms

abbrev pub modules_most : Most → List ModuleTree → Most
modules_most most [] = most
modules_most most (m ∷ ms) = modules_most (parts_most (with_parts most m.parts) m.parts) ms

abbrev pub programs_most : Most → List ProgramTree → Most
programs_most most [] = most
programs_most most (g ∷ gs) = programs_most (tail_most most g.body) gs

abbrev pub with_parameters : Most → ℕ → Most
with_parameters most n = record { methods = most.methods; fields = most.fields; parameters = n }

abbrev pub no_counts : Most
no_counts = record { methods = 0; fields = 0; parameters = 0 }

-- types, then the parameters of modules, then what stands in modules and in program blocks
abbrev pub declared_most : Declared → Most
declared_most d =
    let types = types_most no_counts d.types in
    programs_most (modules_most (with_parameters types (greatest types.parameters (module_params d.modules))) d.modules) d.programs

abbrev pub grant_counts : List ProgramTree → List ℕ
grant_counts gs = map (λ (g : ProgramTree). length g.grants) gs

-- the first of some limits whose number a count passes
abbrev pub first_over : List (LimitName × ℕ) → Option LimitName
first_over [] = None
first_over (c ∷ cs) = if nat_lt (limit_number c.0) c.1 then Some c.0 else first_over cs
