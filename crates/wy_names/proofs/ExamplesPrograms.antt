-- A small program with every kind of name, resolved by hand and by the definitions:
--
--    1  type Log
--    2    effect Put
--    3    effect Any = {Put}
--    4    def put(t: String): {Any} Unit
--    5  resource module log(disk: Folder): Log
--    6    effect Put = {disk.Append}
--    7    val n: String = "x"
--    8    def put(t: String): {Put} Unit = disk.append(n, t)
--    9  program
--   10    grant disk: Folder
--   11    instance lg = log(disk)
--   12    import pl = plug(lg) at {lg.Put}
--   13    run: {lg.Any, disk.Read}
--   14      lg.put("a")
--   15  plain module plug(l: Log): Log
--   16    def put(t: String): Unit = l.put(t)
use Rattle.std.proofs.Common.{◌≡◌, ℕ, List, [], ◌∷◌, refl, true, false, Some, None}
use Rattle.std.specs.Prelude.{codes, ◌++◌, replicate}
use Rattle.wy_syntax.specs.declared.types.TypeUse.TheVariants as use_of
use Rattle.wy_syntax.specs.declared.items.Member.TheVariants as member
use Rattle.wy_syntax.specs.declared.items.Line.TheVariants as line
use Rattle.wy_syntax.specs.declared.statements.FieldKind.TheVariants.{Val}
use Rattle.wy_syntax.specs.Trees as t
use Rattle.wy_text.specs.declared.fault.AtomName.{AtomName}
use Rattle.wy_types.specs.declared.types.TypeRef.{TypeRef}
use Rattle.wy_types.specs.declared.types.TypeRef.TheVariants as ref
use Rattle.wy_types.specs.declared.types.Method.{Method}
use Rattle.wy_types.specs.declared.code.Variable.TheVariants.{Parameter}
use Rattle.wy_types.specs.declared.code.Binding.TheVariants as to
use Rattle.wy_types.specs.declared.resolved.TypeDecl.{TypeDecl}
use Rattle.wy_types.specs.declared.resolved.Origin.TheVariants as origin
use Rattle.wy_types.specs.declared.resolved.ScopeKind.TheVariants as kind
use Rattle.wy_types.specs.Primitive.{primitive_types}
use Rattle.wy_types.specs.Code as code
use Rattle.wy_types.specs.Program.{Scope, Init, Run}
use Rattle.wy_symbols.specs.Declarations.{ProgramTree, programs_of}
use Rattle.wy_symbols.specs.Atoms.{atom_of}
use Rattle.wy_heads.specs.Counts.{limit_of}
use Rattle.wy_names.specs.Scopes.{resolved, refusals_of}
use Rattle.wy_symbols.proofs.Sources.{at, word, member_atom, owner_atom, param, def, define, grant, type_decl, resource_of, only}

put_call : t.RhsTree
put_call = t.value (t.call (t.name (word (codes "disk") 8 36)) (word (codes "append") 8 41) (t.more (t.name (word (codes "n") 8 48)) (t.more (t.name (word (codes "t") 8 51)) t.none)))

run_call : t.RhsTree
run_call = t.value (t.call (t.name (word (codes "lg") 14 5)) (word (codes "put") 14 8) (t.more (t.text (codes "a") (at 14 12)) t.none))

main : ProgramTree
main = record {
  place = at 9 1;
  grants = grant (word (codes "disk") 10 9) (word (codes "Folder") 10 15) ∷ [];
  uses = [];
  lines =
      line.Instance (word (codes "lg") 11 12) (word (codes "log") 11 17) (word (codes "disk") 11 21 ∷ [])
      ∷ line.Import (word (codes "pl") 12 10) (word (codes "plug") 12 15) (word (codes "lg") 12 20 ∷ []) (owner_atom (word (codes "lg") 12 28) (word (codes "Put") 12 31) ∷ [])
      ∷ [];
  run = at 13 3;
  effect = owner_atom (word (codes "lg") 13 9) (word (codes "Any") 13 12) ∷ owner_atom (word (codes "disk") 13 17) (word (codes "Read") 13 22) ∷ [];
  body = t.long (only run_call);
}

items : List t.ItemTree
items =
    type_decl 1 (word (codes "Log") 1 6) (
    member.Abstract (word (codes "Put") 2 10)
    ∷ member.Defined (word (codes "Any") 3 10) (member_atom (word (codes "Put") 3 17) ∷ [])
    ∷ member.Method (def 4 (word (codes "put") 4 7) (param (word (codes "t") 4 11) (use_of.Text (at 4 14)) ∷ []) (member_atom (word (codes "Any") 4 24) ∷ []) (use_of.Unit (at 4 29)))
    ∷ [])
    ∷ resource_of 5 (word (codes "log") 5 17) (param (word (codes "disk") 5 21) (use_of.Bare (word (codes "Folder") 5 27)) ∷ []) (word (codes "Log") 5 36) [] []
    (define (word (codes "Put") 6 10) (owner_atom (word (codes "disk") 6 17) (word (codes "Append") 6 22) ∷ []) ∷ [])
    (t.more_parts (t.field Val (word (codes "n") 7 7) (use_of.Text (at 7 10)) (t.value (t.text (codes "x") (at 7 19))))
    (t.more_parts (t.method (def 8 (word (codes "put") 8 7) (param (word (codes "t") 8 11) (use_of.Text (at 8 14)) ∷ []) (member_atom (word (codes "Put") 8 24) ∷ []) (use_of.Unit (at 8 29))) (t.short put_call))
    t.no_parts))
    ∷ t.program_item main.place main.grants main.uses main.lines main.run main.effect main.body
    ∷ t.plain_item (at 15 1) (word (codes "plug") 15 14) (param (word (codes "l") 15 19) (use_of.Bare (word (codes "Log") 15 22)) ∷ []) (word (codes "Log") 15 28)
    (t.more_parts (t.method (record { place = at 16 3; name = word (codes "put") 16 7; params = param (word (codes "t") 16 11) (use_of.Text (at 16 14)) ∷ []; effect = None; result = use_of.Unit (at 16 23) })
    (t.short (t.value (t.call (t.name (word (codes "l") 16 30)) (word (codes "put") 16 32) (t.more (t.name (word (codes "t") 16 36)) t.none)))))
    t.no_parts)
    ∷ []

-- the atoms of a folder, in order
folder_atoms : List AtomName
folder_atoms = atom_of (codes "disk") (codes "Read") ∷ atom_of (codes "disk") (codes "Write") ∷ atom_of (codes "disk") (codes "Append") ∷ atom_of (codes "disk") (codes "List") ∷ []

folder : TypeRef
folder = ref.Named 1 ((0 ∷ []) ∷ (1 ∷ []) ∷ (2 ∷ []) ∷ (3 ∷ []) ∷ [])

-- a method of one text
put : List ℕ → Method
put effect = record { name = codes "put"; params = ref.Text ∷ []; effect = effect; result = ref.Unit }

-- the atoms of `Log` are numbered from 0; `Any` stands for `Put`, in the signature too
log_type : TypeDecl
log_type = record {
  name = codes "Log";
  members = codes "Put" ∷ [];
  bounds = None ∷ [];
  defined = record { name = codes "Any"; effects = 0 ∷ [] } ∷ [];
  methods = put (0 ∷ []) ∷ [];
}

-- `disk` is the module's own name 0, `n` the field 0, `t` the parameter 0 of the body 0
log_module : Scope
log_module = record {
  kind = kind.Resource;
  name = codes "log";
  place = at 5 17;
  atoms = folder_atoms;
  bounds = replicate 4 None;
  names = record { name = codes "disk"; place = at 5 21; typ = folder; origin = origin.Parameter true } ∷ [];
  ascribed = Some 5;
  definitions = (2 ∷ []) ∷ [];
  literals = record { captures = []; fields = record { name = codes "n"; place = at 7 7; mutable = false; typ = ref.Text } ∷ [] } ∷ [];
  start_place = at 5 1;
  start_effect = [];
  start = Init (code.more (code.Plain (code.Quoted (at 7 19) (codes "x"))) code.none);
  bodies = record {
    owner = 0;
    place = at 8 3;
    signature = put (2 ∷ []);
    block = code.Last (code.Plain (code.Call (at 8 41) (code.Name (at 8 36) (to.Own 0)) (codes "append")
        (code.more (code.Plain (code.Name (at 8 48) (to.Field 0))) (code.more (code.Plain (code.Name (at 8 51) (to.Variable (Parameter 0 0)))) code.none))));
  } ∷ [];
}

-- in a plain module types are bare, and nothing has an effect
plug_module : Scope
plug_module = record {
  kind = kind.Plain;
  name = codes "plug";
  place = at 15 14;
  atoms = [];
  bounds = [];
  names = record { name = codes "l"; place = at 15 19; typ = ref.Named 5 []; origin = origin.Parameter false } ∷ [];
  ascribed = Some 5;
  definitions = [];
  literals = record { captures = []; fields = [] } ∷ [];
  start_place = at 15 1;
  start_effect = [];
  start = Init code.none;
  bodies = record {
    owner = 0;
    place = at 16 3;
    signature = put [];
    block = code.Last (code.Plain (code.Call (at 16 32) (code.Name (at 16 30) (to.Own 0)) (codes "put") (code.more (code.Plain (code.Name (at 16 36) (to.Variable (Parameter 0 0)))) code.none)));
  } ∷ [];
}

-- `lg.Put` is the atom 4, after those of the grant; `lg.Any` stands for it; the import opens none
program_scope : Scope
program_scope = record {
  kind = kind.Program;
  name = codes "main";
  place = at 9 1;
  atoms = folder_atoms ++ atom_of (codes "lg") (codes "Put") ∷ [];
  bounds = replicate 5 None;
  names =
      record { name = codes "disk"; place = at 10 9; typ = folder; origin = origin.Grant }
      ∷ record { name = codes "lg"; place = at 11 12; typ = ref.Named 5 ((4 ∷ []) ∷ []); origin = origin.Instance 0 (0 ∷ []) }
      ∷ record { name = codes "pl"; place = at 12 10; typ = ref.At 5 (4 ∷ []); origin = origin.Import 1 (1 ∷ []) (4 ∷ []) }
      ∷ [];
  ascribed = None;
  definitions = [];
  literals = record { captures = []; fields = [] } ∷ [];
  start_place = at 13 3;
  start_effect = 0 ∷ 4 ∷ [];
  start = Run (code.Last (code.Plain (code.Call (at 14 8) (code.Name (at 14 5) (to.Own 1)) (codes "put") (code.more (code.Plain (code.Quoted (at 14 12) (codes "a"))) code.none))));
  bodies = [];
}

one_program : programs_of items ≡ main ∷ []
unfolding items main
one_program = refl

resolves : resolved items main ≡ record { declarations = primitive_types ++ log_type ∷ []; scopes = log_module ∷ plug_module ∷ program_scope ∷ [] }
unfolding items main put_call run_call folder_atoms folder put log_type log_module plug_module program_scope
resolves = refl

no_refusals : refusals_of items ≡ []
unfolding items main put_call run_call
no_refusals = refl

within_limits : limit_of items ≡ None
unfolding items main put_call run_call
within_limits = refl
