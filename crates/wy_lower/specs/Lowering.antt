-- The code of a program with its instances in start order. (docs/LANGUAGE.md, "Code of programs")
use Rattle.std.specs.Prelude.{codes, ℕ, ◌+◌, Bool, true, false, List, [], ◌∷◌, ◌++◌, length, map, Option, Some, None, nat_eq, slice_get, if◌then◌else◌}
use Rattle.wy_types.specs.declared.code.Variable.{Variable}
use Rattle.wy_types.specs.declared.linked.Actual.{Actual}
use Rattle.wy_types.specs.declared.linked.Actual.TheVariants as actual
use Rattle.wy_types.specs.declared.resolved.Literal.{Literal}
use Rattle.wy_types.specs.declared.resolved.Origin.{Origin}
use Rattle.wy_types.specs.declared.resolved.Origin.TheVariants as origin
use Rattle.wy_types.specs.declared.resolved.OwnName.{OwnName}
use Rattle.wy_types.specs.declared.resolved.ScopeKind.{ScopeKind}
use Rattle.wy_types.specs.declared.resolved.ScopeKind.TheVariants as kind
use Rattle.wy_types.specs.Vals.{literal_captures, block_vals, start_vals}
use Rattle.wy_types.specs.Program.{Program, Scope, Body, Start, Init, Run}
use Rattle.wy_code.specs.declared.code.Argument.{Argument}
use Rattle.wy_code.specs.declared.code.Argument.TheVariants as argument
use Rattle.wy_code.specs.declared.code.Body as b
use Rattle.wy_code.specs.declared.code.Code.{Code}
use Rattle.wy_code.specs.declared.code.Grant as g
use Rattle.wy_code.specs.declared.code.Instance as x
use Rattle.wy_code.specs.declared.code.Literal as l
use Rattle.wy_code.specs.declared.code.Method as m
use Rattle.wy_code.specs.declared.code.Scope as s
use Rattle.wy_code.specs.declared.code.Source.{Source}
use Rattle.wy_device.specs.Editions.{current}
use Rattle.wy_device.specs.declared.primitive.Primitive.{Primitive}
use Rattle.wy_code.specs.declared.instruction.Placed.{Placed}
use Rattle.wy_code.specs.declared.instruction.Instruction.TheVariants.{Return, Finish}
use Rattle.wy_meaning.specs.Starts.{Started, Starts, primitive_of_type, scope_names, last_scope}
use Rattle.wy_meaning.specs.Eval.{body_text}
use Rattle.wy_lower.specs.Parts.{block_parts, scopes_parts, texts_in, calls_in, make_literal, each_once, number_in}
use Rattle.wy_lower.specs.Inside.{Inside, capture_sources}
use Rattle.wy_lower.specs.Listing.{one, block_listing, fields_listing}
use Rattle.wy_lower.specs.Operands.{block_operands, start_operands}

------------------------------------------------------------
-- The tables of texts and of method names

abbrev pub text_table : Program → List (List ℕ)
text_table p = each_once (texts_in (scopes_parts p.scopes))

-- the names of the methods of the module (0) or of a literal
abbrev pub owned_names : ℕ → List Body → List (List ℕ)
owned_names l [] = []
owned_names l (b ∷ bs) = if nat_eq b.owner l then b.signature.name ∷ owned_names l bs else owned_names l bs

-- those of the module and of all literals of a scope, from number k on
abbrev pub kinds_names : ℕ → List Literal → List Body → List (List ℕ)
kinds_names k [] bs = []
kinds_names k (x ∷ xs) bs = owned_names k bs ++ kinds_names (k + 1) xs bs

abbrev pub entry_names : List Scope → List (List ℕ)
entry_names [] = []
entry_names (s ∷ ss) = kinds_names 0 s.literals s.bodies ++ entry_names ss

-- the names that calls have, and then those of the methods of modules and literals
abbrev pub method_table : Program → List (List ℕ)
method_table p = each_once (calls_in (scopes_parts p.scopes) ++ entry_names p.scopes)

------------------------------------------------------------
-- Bodies

abbrev pub is_program : ScopeKind → Bool
is_program kind.Program = true
is_program kind.Pure = false
is_program kind.Resource = false
is_program kind.Plain = false

-- inside the `init` or `run` of a scope, and inside its method of a number
abbrev pub inside_start : Program → Starts → Scope → Inside
inside_start p starts s = record {
  program = is_program s.kind;
  actuals = starts.main.actuals;
  owns = length s.names;
  number = None;
  parameters = 0;
  vals = start_vals s.start;
  captures = [];
  texts = text_table p;
  methods = method_table p;
}

abbrev pub inside_body : Program → Starts → Scope → ℕ → Body → Inside
inside_body p starts s k b = record {
  program = is_program s.kind;
  actuals = starts.main.actuals;
  owns = length s.names;
  number = Some k;
  parameters = length b.signature.params;
  vals = block_vals b.block;
  captures = literal_captures (slice_get s.literals b.owner);
  texts = text_table p;
  methods = method_table p;
}

-- a body's slots: the current object, the parameters, the `val`s and the operands
abbrev pub body_with : List ℕ → Inside → ℕ → List Placed → b.Body
body_with name i operands instructions = record {
  name = name;
  parameters = i.parameters;
  vals = length i.vals;
  slots = 1 + i.parameters + length i.vals + operands;
  instructions = instructions;
}

abbrev pub start_name : Start → List ℕ
start_name (Init values) = codes "init"
start_name (Run block) = codes "run"

abbrev pub start_listing : Inside → Start → List Placed
start_listing i (Init values) = fields_listing i 0 0 values
start_listing i (Run block) = block_listing i 0 block

abbrev pub start_code : Program → Starts → Scope → b.Body
start_code p starts s =
    let i : Inside = inside_start p starts s in
    body_with (start_name s.start) i (start_operands s.start) (start_listing i s.start ++ one s.start_place Finish)

abbrev pub body_code : Program → Starts → Scope → ℕ → Body → b.Body
body_code p starts s k b =
    let i : Inside = inside_body p starts s k b in
    body_with (body_text b.owner b.signature.name) i (block_operands b.block) (block_listing i 0 b.block ++ one b.place Return)

abbrev pub bodies_code : Program → Starts → Scope → ℕ → List Body → List b.Body
bodies_code p starts s k [] = []
bodies_code p starts s k (x ∷ xs) = body_code p starts s k x ∷ bodies_code p starts s (k + 1) xs

-- the bodies of all scopes: of each its `init` or `run`, and then its methods
abbrev pub scopes_bodies : Program → Starts → List Scope → List b.Body
scopes_bodies p starts [] = []
scopes_bodies p starts (s ∷ ss) = start_code p starts s ∷ (bodies_code p starts s 0 s.bodies ++ scopes_bodies p starts ss)

------------------------------------------------------------
-- Scopes

-- the methods of the module (0) or of a literal, from the body of number k on
abbrev pub methods_code : Program → ℕ → ℕ → List Body → List m.Method
methods_code p l k [] = []
methods_code p l k (x ∷ xs) =
    if nat_eq x.owner l then record { method = number_in (method_table p) x.signature.name; body = k } ∷ methods_code p l (k + 1) xs
    else methods_code p l (k + 1) xs

-- the body, from number k on, in which literal l is made
abbrev pub inside_maker : Program → Starts → Scope → ℕ → ℕ → List Body → Inside
inside_maker p starts s l k [] = inside_start p starts s
inside_maker p starts s l k (x ∷ xs) =
    if make_literal l (block_parts x.block) then inside_body p starts s k x else inside_maker p starts s l (k + 1) xs

-- where `new` finds what a literal captures. The module's own object, literal 0, is handed its values
abbrev pub captures_code : Program → Starts → Scope → ℕ → List Variable → List Source
captures_code p starts s ℕ.zero xs = []
captures_code p starts s (ℕ.suc l) xs = capture_sources (inside_maker p starts s (ℕ.suc l) 0 s.bodies) xs

abbrev pub literals_code : Program → Starts → Scope → ℕ → ℕ → List Literal → List l.Literal
literals_code p starts s first k [] = []
literals_code p starts s first k (x ∷ xs) =
    record {
      captures = captures_code p starts s k x.captures;
      fields = length x.fields;
      methods = methods_code p k (first + 1) s.bodies;
    } ∷ literals_code p starts s first (k + 1) xs

-- how many arguments the instances of a scope are handed: one for each own name of a module, and none for the program
abbrev pub scope_arguments : Scope → ℕ
scope_arguments s = if is_program s.kind then 0 else length s.names

-- the scopes, the first of which has this number as that of its first body
abbrev pub scopes_code : Program → Starts → ℕ → List Scope → List s.Scope
scopes_code p starts first [] = []
scopes_code p starts first (s ∷ ss) =
    record { arguments = scope_arguments s; start = first; literals = literals_code p starts s first 0 s.literals } ∷
    scopes_code p starts (first + 1 + length s.bodies) ss

------------------------------------------------------------
-- Grants, instances, the whole

abbrev pub grant_of_type : List ℕ → Option Primitive → List g.Grant
grant_of_type name None = []
grant_of_type name (Some t) = record { name = name; primitive = t } ∷ []

abbrev pub grant_code : Origin → OwnName → List g.Grant
grant_code origin.Grant n = grant_of_type n.name (primitive_of_type current n.typ)
grant_code (origin.Parameter bare) n = []
grant_code (origin.Use m) n = []
grant_code (origin.Instance m arguments) n = []
grant_code (origin.Import m arguments bound) n = []

-- the grants among the program's own names, of which they are the first
abbrev pub grants_code : List OwnName → List g.Grant
grants_code [] = []
grants_code (n ∷ ns) = grant_code n.origin n ++ grants_code ns

abbrev pub argument_of : Actual → Argument
argument_of (actual.Grant g) = argument.Grant g
argument_of (actual.Instance x) = argument.Instance x

abbrev pub instance_code : Started → x.Instance
instance_code i = record { name = i.name; scope = i.scope; arguments = map argument_of i.actuals }

-- the code that a program is lowered to
unfoldable pub lowered : Program → Starts → Code
lowered p starts = record {
  grants = grants_code (scope_names (slice_get p.scopes (last_scope p.scopes)));
  methods = method_table p;
  texts = text_table p;
  bodies = scopes_bodies p starts p.scopes;
  scopes = scopes_code p starts 0 p.scopes;
  instances = map instance_code starts.instances;
  main = instance_code (record (starts.main) { actuals = [] });
}
