-- A module and a program with what a certificate says of them: calls, whose effects are to be within the declared ones. The module is in
-- the first file, the program in the second:
--
-- 1  type Logger
-- 2    effect Log
-- 3    def log(t: String): {Log} Unit
-- 4  resource module logger(disk: Folder): Logger
-- 5    effect Log = {disk.Append}
-- 6    def log(t: String): {Log} Unit = disk.append("log", t)
--
-- 1  program
-- 2    grant disk: Folder
-- 3    instance lg = logger(disk)
-- 4    run: {lg.Log}
-- 5      lg.log("a")
use Rattle.std.proofs.Common.{◌≡◌, ℕ, List, [], ◌∷◌, ◌++◌, map, refl, Some, None, true}
use Rattle.std.specs.Prelude.{codes, replicate}
use Rattle.wy_text.specs.declared.fault.Place.{Place}
use Rattle.wy_text.specs.declared.fault.AtomName.{AtomName}
use Rattle.wy_effects.specs.AtomTable.{atom_name}
use Rattle.wy_effects.specs.Bounds.{Bounds}
use Rattle.wy_types.specs.declared.types.TypeRef.{TypeRef}
use Rattle.wy_types.specs.declared.types.TypeRef.TheVariants as to
use Rattle.wy_types.specs.declared.types.Method.{Method}
use Rattle.wy_types.specs.declared.code.Variable.TheVariants.{Parameter as Param}
use Rattle.wy_types.specs.declared.code.Binding.TheVariants as name
use Rattle.wy_types.specs.declared.resolved.TypeDecl.{TypeDecl}
use Rattle.wy_types.specs.declared.resolved.Origin.TheVariants.{Parameter, Grant, Instance}
use Rattle.wy_types.specs.declared.resolved.ScopeKind.TheVariants as kind
use Rattle.wy_types.specs.Code as code
use Rattle.wy_types.specs.Program.{Program, Scope, Init, Run}
use Rattle.wy_cert.specs.declared.certificate.Rule.{Rule}
use Rattle.wy_cert.specs.declared.certificate.Rule.TheVariants as by
use Rattle.wy_cert.specs.declared.certificate.CertType.TheVariants.{Text, Unit as Nothing, Named, Own}
use Rattle.wy_cert.specs.declared.certificate.CertNode.{CertNode}
use Rattle.wy_cert.specs.declared.certificate.CertScope.{CertScope}
use Rattle.wy_proving.specs.Reading.{bodies_stand, bodies_fail}
use Rattle.wy_proving.specs.Proving.{scope_rules, ascription, instance_of, nodes_read}
use Rattle.wy_proving.proofs.ExamplesForms.{at, object, program, node, pair}

abbrev log_method : List ℕ → Method
log_method effect = record { name = codes "log"; params = to.Text ∷ []; effect = effect; result = to.Unit }

abbrev logger_type : TypeDecl
logger_type = record { name = codes "Logger"; members = codes "Log" ∷ []; bounds = None ∷ []; defined = []; methods = log_method (0 ∷ []) ∷ [] }

-- a folder whose atoms are 0 to 3
abbrev folder : TypeRef
folder = to.Named 1 ((0 ∷ []) ∷ (1 ∷ []) ∷ (2 ∷ []) ∷ (3 ∷ []) ∷ [])

abbrev disk_atoms : List AtomName
disk_atoms = map (atom_name (codes "disk")) (codes "Read" ∷ codes "Write" ∷ codes "Append" ∷ codes "List" ∷ [])

abbrev append_call : code.Expr
append_call =
    code.Call (at 6 41) (code.Name (at 6 36) (name.Own 0)) (codes "append")
    (code.more (code.Plain (code.Quoted (at 6 48) (codes "log"))) (code.more (code.Plain (code.Name (at 6 55) (name.Variable (Param 0 0)))) code.none))

abbrev logger : Scope
logger = record {
  kind = kind.Resource;
  name = codes "logger";
  place = at 4 17;
  atoms = disk_atoms;
  bounds = replicate 4 None;
  names = record { name = codes "disk"; place = at 4 24; typ = folder; origin = Parameter true } ∷ [];
  ascribed = Some 5;
  definitions = (2 ∷ []) ∷ [];
  literals = object ∷ [];
  start_place = at 4 1;
  start_effect = [];
  start = Init code.none;
  bodies = record { owner = 0; place = at 6 3; signature = log_method (2 ∷ []); block = code.Last (code.Plain append_call) } ∷ [];
}

abbrev second : ℕ → ℕ → Place
second line column = record { file = 1; line = line; column = column }

-- the program, with the bounds of its atoms and the effect that `run` declares
abbrev main_with : Bounds → List ℕ → Scope
main_with bounds effect = record {
  kind = kind.Program;
  name = codes "main";
  place = second 1 1;
  atoms = disk_atoms ++ atom_name (codes "lg") (codes "Log") ∷ [];
  bounds = bounds;
  names =
      record { name = codes "disk"; place = second 2 9; typ = folder; origin = Grant } ∷
      record { name = codes "lg"; place = second 3 12; typ = to.Named 5 ((4 ∷ []) ∷ []); origin = Instance 0 (0 ∷ []) } ∷ [];
  ascribed = None;
  definitions = [];
  literals = object ∷ [];
  start_place = second 4 3;
  start_effect = effect;
  start = Run (code.Last (code.Plain (code.Call (second 5 8) (code.Name (second 5 5) (name.Own 1)) (codes "log") (code.more (code.Plain (code.Quoted (second 5 12) (codes "a"))) code.none))));
  bodies = [];
}

abbrev logger_program : Bounds → List ℕ → Program
logger_program bounds effect = program (logger_type ∷ []) (logger ∷ main_with bounds effect ∷ [])

abbrev no_bounds : Bounds
no_bounds = replicate 5 None

-- a node of the second file
abbrev node_there : Rule → ℕ → ℕ → ℕ → ℕ → List ℕ → CertNode
node_there rule line column parts typ effect = record { rule = rule; file = 1; line = line; column = column; parts = parts; typ = typ; effect = effect }

abbrev logger_part : CertScope
logger_part = record {
  types = Named 1 ((0 ∷ []) ∷ (1 ∷ []) ∷ (2 ∷ []) ∷ (3 ∷ []) ∷ []) ∷ Text ∷ Nothing ∷ Own 0 ∷ Named 5 ((2 ∷ []) ∷ []) ∷ [];
  pairs = pair 3 4 ∷ pair 1 1 ∷ pair 2 2 ∷ [];
  plain = [];
  locals = [];
  nodes =
      node by.Body 4 1 0 0 ∷ node by.Var 6 36 0 0 ∷ node by.Lit 6 48 0 1 ∷ node by.Var 6 55 0 1 ∷ record (node by.Call 6 41 3 2) { effect = 2 ∷ [] } ∷ node by.Body 6 3 1 0 ∷ [];
}

abbrev main_part : CertScope
main_part = record {
  types = Named 5 ((4 ∷ []) ∷ []) ∷ Text ∷ Nothing ∷ [];
  pairs = [];
  plain = [];
  locals = [];
  nodes = node_there by.Var 5 5 0 0 [] ∷ node_there by.Lit 5 12 0 1 [] ∷ node_there by.Call 5 8 2 2 (4 ∷ []) ∷ node_there by.Body 4 3 1 0 [] ∷ [];
}

-- the nodes of both are read to the end
logger_read : nodes_read (logger_program no_bounds (4 ∷ [])) 0 logger logger_part ≡ bodies_stand 6 []
logger_read = refl

main_read : nodes_read (logger_program no_bounds (4 ∷ [])) 1 (main_with no_bounds (4 ∷ [])) main_part ≡ bodies_stand 4 []
main_read = refl

-- where `run` declares no effect T-Body fails
effect_wanting : nodes_read (logger_program no_bounds []) 1 (main_with no_bounds []) main_part ≡ bodies_fail 3
effect_wanting = refl

-- .. and where it declares `disk.Append`, unless that bounds `lg.Log`
other_effect : nodes_read (logger_program no_bounds (2 ∷ [])) 1 (main_with no_bounds (2 ∷ [])) main_part ≡ bodies_fail 3
other_effect = refl

abbrev log_bounded : Bounds
log_bounded = replicate 4 None ++ Some (2 ∷ []) ∷ []

bounded_effect : nodes_read (logger_program log_bounded (2 ∷ [])) 1 (main_with log_bounded (2 ∷ [])) main_part ≡ bodies_stand 4 []
bounded_effect = refl

-- the rules of the module and of the program, by which a failure is numbered
logger_rules : scope_rules logger ≡ ascription 5 ∷ []
logger_rules = refl

main_rules : scope_rules (main_with no_bounds (4 ∷ [])) ≡ instance_of 0 (0 ∷ []) ∷ []
main_rules = refl
