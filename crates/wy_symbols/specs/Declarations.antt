-- The declarations of a program's files, in their order, and which of them a name stands for.
use Rattle.std.specs.Prelude.{ℕ, ◌+◌, Bool, false, List, [], ◌∷◌, ◌++◌, map, Option, Some, None, ◌==◌, ◌||◌, if◌then◌else◌}
use Rattle.std.specs.Cmp.Lexicographic.{pointwise}
use Rattle.wy_text.specs.declared.fault.Place.{Place}
use Rattle.wy_syntax.specs.declared.types.Name.{Name}
use Rattle.wy_syntax.specs.declared.types.AtomUse.{AtomUse}
use Rattle.wy_syntax.specs.declared.types.Param.{Param}
use Rattle.wy_syntax.specs.declared.items.Line.{Line}
use Rattle.wy_syntax.specs.declared.items.Define.{Define}
use Rattle.wy_syntax.specs.declared.items.Init.{Init}
use Rattle.wy_syntax.specs.declared.items.Grant.{Grant}
use Rattle.wy_syntax.specs.declared.items.TypeDecl.{TypeDecl}
use Rattle.wy_syntax.specs.Trees.{ItemTree, type_item, pure_item, resource_item, plain_item, program_item, PartTrees, TailTree}
use Rattle.wy_types.specs.declared.resolved.ScopeKind.{ScopeKind}
use Rattle.wy_types.specs.declared.resolved.ScopeKind.TheVariants.{Pure, Resource, Plain}
use Rattle.wy_symbols.specs.declared.refusal.Cause.TheVariants.{Twice}
use Rattle.wy_symbols.specs.declared.refusal.Refusal.{Refusal}
use Rattle.wy_symbols.specs.Least.{refusal_at}

-- a module of any kind; a pure module has no parameters, and a plain one has neither uses nor lines nor definitions
pub record ModuleTree : Type 0 where
  pub kind : ScopeKind
  pub place : Place
  pub name : Name
  pub params : List Param
  pub sealed : Name
  pub uses : List Name
  pub lines : List Line
  pub defines : List Define
  pub init : Option Init
  pub parts : PartTrees

pub record ProgramTree : Type 0 where
  pub place : Place
  pub grants : List Grant
  pub uses : List Name
  pub lines : List Line
  pub run : Place
  pub effect : List AtomUse
  pub body : TailTree

abbrev pub item_types : ItemTree → List TypeDecl
item_types (type_item d) = d ∷ []
item_types (pure_item place name sealed inside) = []
item_types (resource_item place name params sealed inside) = []
item_types (plain_item place name params sealed parts) = []
item_types (program_item place grants uses lines run effect body) = []

abbrev pub item_modules : ItemTree → List ModuleTree
item_modules (type_item d) = []
item_modules (pure_item place name sealed inside) = record {
  kind = Pure;
  place = place;
  name = name;
  params = [];
  sealed = sealed;
  uses = inside.uses;
  lines = inside.lines;
  defines = inside.defines;
  init = inside.init;
  parts = inside.parts;
} ∷ []
item_modules (resource_item place name params sealed inside) = record {
  kind = Resource;
  place = place;
  name = name;
  params = params;
  sealed = sealed;
  uses = inside.uses;
  lines = inside.lines;
  defines = inside.defines;
  init = inside.init;
  parts = inside.parts;
} ∷ []
item_modules (plain_item place name params sealed parts) = record {
  kind = Plain;
  place = place;
  name = name;
  params = params;
  sealed = sealed;
  uses = [];
  lines = [];
  defines = [];
  init = None;
  parts = parts;
} ∷ []
item_modules (program_item place grants uses lines run effect body) = []

abbrev pub item_programs : ItemTree → List ProgramTree
item_programs (type_item d) = []
item_programs (pure_item place name sealed inside) = []
item_programs (resource_item place name params sealed inside) = []
item_programs (plain_item place name params sealed parts) = []
item_programs (program_item place grants uses lines run effect body) =
    record { place = place; grants = grants; uses = uses; lines = lines; run = run; effect = effect; body = body } ∷ []

-- what items give, in their order
abbrev pub gathered : {X : Type 0} → (ItemTree → List X) → List ItemTree → List X
gathered f [] = []
gathered f (i ∷ is) = f i ++ gathered f is

-- the items of all files, in the order of the files
abbrev pub all_items : List (List ItemTree) → List ItemTree
all_items [] = []
all_items (f ∷ fs) = f ++ all_items fs

abbrev pub types_of : List ItemTree → List TypeDecl
types_of items = gathered item_types items

abbrev pub modules_of : List ItemTree → List ModuleTree
modules_of items = gathered item_modules items

abbrev pub programs_of : List ItemTree → List ProgramTree
programs_of items = gathered item_programs items

-- the declarations of a program, each kind by itself
pub record Declared : Type 0 where
  pub types : List TypeDecl
  pub modules : List ModuleTree
  pub programs : List ProgramTree

abbrev pub declared : List ItemTree → Declared
declared items = record { types = types_of items; modules = modules_of items; programs = programs_of items }

------------------------------------------------------------
-- Names in lists

-- names are compared byte by byte
abbrev pub same_name : List ℕ → List ℕ → Bool
same_name = pointwise ◌==◌

abbrev pub has_name : List ℕ → List (List ℕ) → Bool
has_name x [] = false
has_name x (n ∷ ns) = same_name n x || has_name x ns

-- the number of the first of a name, counted from `k`
abbrev pub first_from : ℕ → List (List ℕ) → List ℕ → Option ℕ
first_from k [] x = None
first_from k (n ∷ ns) x = if same_name n x then Some k else first_from (k + 1) ns x

abbrev pub texts : List Name → List (List ℕ)
texts ns = map (λ (n : Name). n.text) ns

-- Twice at each name that repeats one of those before it
abbrev pub repeated : List (List ℕ) → List Name → List Refusal
repeated before [] = []
repeated before (n ∷ ns) = (if has_name n.text before then refusal_at n.place Twice ∷ [] else []) ++ repeated (before ++ n.text ∷ []) ns

abbrev pub module_names : List ModuleTree → List Name
module_names ms = map (λ (m : ModuleTree). m.name) ms

abbrev pub type_names : List TypeDecl → List Name
type_names ds = map (λ (d : TypeDecl). d.name) ds

-- the module of a name: the first that has it
abbrev pub module_number : List ModuleTree → List ℕ → Option ℕ
module_number ms x = first_from 0 (texts (module_names ms)) x
