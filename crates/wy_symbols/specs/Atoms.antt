-- Scopes of atoms: what opens atoms, their numbers, and what a written set stands for.
use Rattle.std.specs.Prelude.{ℕ, ◌+◌, Bool, true, false, List, [], ◌∷◌, ◌++◌, map, Option, Some, None, ◌&&◌, slice_get, nat_lt, if◌then◌else◌}
use Rattle.std.specs.Option.{option_map}
use Rattle.wy_text.specs.declared.fault.AtomName.{AtomName}
use Rattle.wy_syntax.specs.declared.types.Name.{Name}
use Rattle.wy_syntax.specs.declared.types.AtomUse.{AtomUse}
use Rattle.wy_syntax.specs.declared.types.TypeUse.{TypeUse}
use Rattle.wy_syntax.specs.declared.types.TypeUse.TheVariants as use_of
use Rattle.wy_syntax.specs.declared.types.Param.{Param}
use Rattle.wy_syntax.specs.declared.items.Member.{Member}
use Rattle.wy_syntax.specs.declared.items.Member.TheVariants.{Abstract, Bounded, Defined, Method}
use Rattle.wy_syntax.specs.declared.items.Line.{Line}
use Rattle.wy_syntax.specs.declared.items.Line.TheVariants.{Instance, Import}
use Rattle.wy_syntax.specs.declared.items.Grant.{Grant}
use Rattle.wy_syntax.specs.declared.items.TypeDecl.{TypeDecl}
use Rattle.wy_effects.specs.EffSet.{union, replace}
use Rattle.wy_effects.specs.Bounds.{Bounds}
use Rattle.wy_types.specs.declared.resolved.TypeDecl as core
use Rattle.wy_types.specs.Primitive.{primitive_types, first_declared}
use Rattle.wy_symbols.specs.declared.refusal.Cause.TheVariants.{Unknown, MemberUnknown}
use Rattle.wy_symbols.specs.declared.refusal.Refusal.{Refusal}
use Rattle.wy_symbols.specs.declared.scoping.Meaning.{Meaning}
use Rattle.wy_symbols.specs.declared.scoping.Head.{Head}
use Rattle.wy_symbols.specs.declared.scoping.Opening.{Opening}
use Rattle.wy_symbols.specs.declared.scoping.Opening.TheVariants.{Members, Nothing, Missing}
use Rattle.wy_symbols.specs.declared.scoping.Owner.{Owner}
use Rattle.wy_symbols.specs.Least.{refusal_at}
use Rattle.wy_symbols.specs.Meanings.{meaning_of, abstract_names, abstract_bounds}
use Rattle.wy_symbols.specs.Declarations.{ModuleTree, same_name, first_from, module_number, type_names, texts}

-- a scope of atoms: the types of the program, the scope's atoms, its owners, and what its names of one word stand for
pub record AtomScope : Type 0 where
  pub heads : List Head
  pub atoms : List AtomName
  pub owners : List Owner
  pub meanings : List Meaning

abbrev pub atom_scope : List Head → List AtomName → List Owner → List Meaning → AtomScope
atom_scope heads atoms owners meanings = record { heads = heads; atoms = atoms; owners = owners; meanings = meanings }

abbrev pub unknown : Name → List Refusal
unknown n = refusal_at n.place Unknown ∷ []

------------------------------------------------------------
-- Types and their members

abbrev pub head_names : List Head → List (List ℕ)
head_names hs = map (λ (h : Head). h.name) hs

-- the number of the type of a name, among the names of all types
abbrev pub type_number : List (List ℕ) → List ℕ → Option ℕ
type_number names x = first_from 0 names x

abbrev pub members_at : Option Head → List Meaning
members_at None = []
members_at (Some h) = h.members

-- the members of the type of a number
abbrev pub members_of : List Head → ℕ → List Meaning
members_of heads d = members_at (slice_get heads d)

------------------------------------------------------------
-- Owners and atoms

abbrev pub owner_names : List Owner → List (List ℕ)
owner_names os = map (λ (o : Owner). o.name) os

abbrev pub owner_of : List Owner → List ℕ → Option Owner
owner_of [] x = None
owner_of (o ∷ os) x = if same_name o.name x then Some o else owner_of os x

abbrev pub opened : Option ℕ → Opening
opened None = Missing
opened (Some d) = Members d

-- a bare parameter opens its type's members, another one nothing
abbrev pub param_opening : List (List ℕ) → TypeUse → Opening
param_opening names (use_of.Int p) = Nothing
param_opening names (use_of.Bool p) = Nothing
param_opening names (use_of.Text p) = Nothing
param_opening names (use_of.Unit p) = Nothing
param_opening names (use_of.Bare n) = opened (type_number names n.text)
param_opening names (use_of.With n sets) = Nothing
param_opening names (use_of.At n set) = Nothing

abbrev pub param_owner : List (List ℕ) → Param → Owner
param_owner names p = record { name = p.name.text; opening = param_opening names p.type_use }

-- a plain module's parameters open nothing
abbrev pub closed_owner : Param → Owner
closed_owner p = record { name = p.name.text; opening = Nothing }

-- the parameters of a plain module, or of another
abbrev pub params_owners : List (List ℕ) → Bool → List Param → List Owner
params_owners names true ps = map closed_owner ps
params_owners names false ps = map (param_owner names) ps

-- a primitive type's members
abbrev pub primitive_opening : Option ℕ → Opening
primitive_opening None = Missing
primitive_opening (Some d) = if nat_lt d first_declared then Members d else Missing

abbrev pub grant_owner : List (List ℕ) → Grant → Owner
grant_owner names g = record { name = g.name.text; opening = primitive_opening (type_number names g.kind.text) }

-- the name of the type that the module of a number is sealed at
abbrev pub sealed_opening : List (List ℕ) → Option ModuleTree → Opening
sealed_opening names None = Missing
sealed_opening names (Some m) = opened (type_number names m.sealed.text)

abbrev pub module_at : List ModuleTree → Option ℕ → Option ModuleTree
module_at modules None = None
module_at modules (Some k) = slice_get modules k

-- a used module, and the module of an instance line, opens the members of the type that it is sealed at
abbrev pub module_opening : List (List ℕ) → List ModuleTree → List ℕ → Opening
module_opening names modules x = sealed_opening names (module_at modules (module_number modules x))

abbrev pub use_owner : List (List ℕ) → List ModuleTree → Name → Owner
use_owner names modules n = record { name = n.text; opening = module_opening names modules n.text }

-- an import opens nothing
abbrev pub line_owner : List (List ℕ) → List ModuleTree → Line → Owner
line_owner names modules (Instance x m arguments) = record { name = x.text; opening = module_opening names modules m.text }
line_owner names modules (Import x m arguments bound) = record { name = x.text; opening = Nothing }

abbrev pub same_atom : AtomName → AtomName → Bool
same_atom a b = same_name a.owner b.owner && same_name a.member b.member

abbrev pub atom_of : List ℕ → List ℕ → AtomName
atom_of owner member = record { owner = owner; member = member }

-- the number of an atom among others; their number where it is none of them
abbrev pub atom_number : List AtomName → AtomName → ℕ
atom_number [] a = 0
atom_number (b ∷ bs) a = if same_atom b a then 0 else atom_number bs a + 1

abbrev pub has_atom : List AtomName → AtomName → Bool
has_atom [] a = false
has_atom (b ∷ bs) a = if same_atom b a then true else has_atom bs a

-- atoms with one more; each stands there once
abbrev pub with_atom : List AtomName → AtomName → List AtomName
with_atom atoms a = if has_atom atoms a then atoms else atoms ++ a ∷ []

abbrev pub with_members : List AtomName → List ℕ → List (List ℕ) → List AtomName
with_members atoms owner [] = atoms
with_members atoms owner (m ∷ ms) = with_members (with_atom atoms (atom_of owner m)) owner ms

-- the names of the members that are opened
abbrev pub opened_names : List Head → Opening → List (List ℕ)
opened_names heads (Members d) = abstract_names (members_of heads d)
opened_names heads Nothing = []
opened_names heads Missing = []

-- the atoms of owners: by the owners' order, and then by the order of abstract members
abbrev pub with_owners : List Head → List AtomName → List Owner → List AtomName
with_owners heads atoms [] = atoms
with_owners heads atoms (o ∷ os) = with_owners heads (with_members atoms o.name (opened_names heads o.opening)) os

abbrev pub atoms_of : List Head → List Owner → List AtomName
atoms_of heads owners = with_owners heads [] owners

-- for each abstract member of an owner's type the set of its one atom
abbrev pub owner_sets : List AtomName → List ℕ → List (List ℕ) → List (List ℕ)
owner_sets atoms owner [] = []
owner_sets atoms owner (m ∷ ms) = (atom_number atoms (atom_of owner m) ∷ []) ∷ owner_sets atoms owner ms

-- the upper bounds of the members that are opened
abbrev pub opened_bounds : List Head → Opening → Bounds
opened_bounds heads (Members d) = abstract_bounds (members_of heads d)
opened_bounds heads Nothing = []
opened_bounds heads Missing = []

-- bounds with these sets put in for the members that they name
abbrev pub bounds_at : List (List ℕ) → Bounds → Bounds
bounds_at sets bounds = map (option_map (replace sets)) bounds

-- the upper bounds of the atoms of owners, in the same order
abbrev pub bounds_of_owners : List Head → List AtomName → List Owner → Bounds
bounds_of_owners heads atoms [] = []
bounds_of_owners heads atoms (o ∷ os) =
    bounds_at (owner_sets atoms o.name (opened_names heads o.opening)) (opened_bounds heads o.opening) ++ bounds_of_owners heads atoms os

------------------------------------------------------------
-- Written sets

-- a member of an owner's type stands for its set, with the owner's atoms put in
abbrev pub member_set : List AtomName → List ℕ → List Meaning → Option Meaning → List ℕ
member_set atoms owner members None = []
member_set atoms owner members (Some m) = replace (owner_sets atoms owner (abstract_names members)) m.atoms

abbrev pub opening_set : AtomScope → List ℕ → List ℕ → Opening → List ℕ
opening_set s owner x (Members d) = member_set s.atoms owner (members_of s.heads d) (meaning_of (members_of s.heads d) x)
opening_set s owner x Nothing = []
opening_set s owner x Missing = []

abbrev pub owner_set : AtomScope → List ℕ → List ℕ → Option Owner → List ℕ
owner_set s owner x None = []
owner_set s owner x (Some o) = opening_set s owner x o.opening

abbrev pub meaning_set : Option Meaning → List ℕ
meaning_set None = []
meaning_set (Some m) = m.atoms

abbrev pub atom_set : AtomScope → Option Name → List ℕ → List ℕ
atom_set s None x = meaning_set (meaning_of s.meanings x)
atom_set s (Some o) x = owner_set s o.text x (owner_of s.owners o.text)

-- the atoms that a written set stands for
abbrev pub set_of : AtomScope → List AtomUse → List ℕ
set_of s [] = []
set_of s (a ∷ more) = union (atom_set s a.owner a.member.text) (set_of s more)

abbrev pub unless_member : Name → Option Meaning → List Refusal
unless_member n (Some m) = []
unless_member n None = refusal_at n.place MemberUnknown ∷ []

abbrev pub opening_refusals : AtomScope → Name → Name → Opening → List Refusal
opening_refusals s o n (Members d) = unless_member n (meaning_of (members_of s.heads d) n.text)
opening_refusals s o n Nothing = unknown o
opening_refusals s o n Missing = []

abbrev pub owner_refusals : AtomScope → Name → Name → Option Owner → List Refusal
owner_refusals s o n None = unknown o
owner_refusals s o n (Some w) = opening_refusals s o n w.opening

abbrev pub unless_meant : Name → Option Meaning → List Refusal
unless_meant n (Some m) = []
unless_meant n None = unknown n

abbrev pub atom_refusals : AtomScope → Option Name → Name → List Refusal
atom_refusals s None n = unless_meant n (meaning_of s.meanings n.text)
atom_refusals s (Some o) n = owner_refusals s o n (owner_of s.owners o.text)

-- Unknown at an owner or a name of one word that is none of the scope's, MemberUnknown at a member that the owner's type lacks
abbrev pub set_refusals : AtomScope → List AtomUse → List Refusal
set_refusals s [] = []
set_refusals s (a ∷ more) = atom_refusals s a.owner a.member ++ set_refusals s more

------------------------------------------------------------
-- The types of a program, with their members

-- inside a type declaration a set sees members alone
abbrev pub member_scope : List Meaning → AtomScope
member_scope members = record { heads = []; atoms = []; owners = []; meanings = members }

abbrev pub abstract_member : List ℕ → ℕ → Meaning
abstract_member name k = record { name = name; is_abstract = true; atoms = k ∷ []; bound = None }

abbrev pub bounded_member : List ℕ → ℕ → List ℕ → Meaning
bounded_member name k set = record { name = name; is_abstract = true; atoms = k ∷ []; bound = Some set }

abbrev pub defined_member : List ℕ → List ℕ → Meaning
defined_member name atoms = record { name = name; is_abstract = false; atoms = atoms; bound = None }

-- members in their order, `k` abstract ones before; the set of a defined one and an upper bound see those before it
abbrev pub members_after : List Meaning → ℕ → List Member → List Meaning
members_after before k [] = before
members_after before k (Abstract n ∷ ms) = members_after (before ++ abstract_member n.text k ∷ []) (k + 1) ms
members_after before k (Bounded n set ∷ ms) = members_after (before ++ bounded_member n.text k (set_of (member_scope before) set) ∷ []) (k + 1) ms
members_after before k (Defined n set ∷ ms) = members_after (before ++ defined_member n.text (set_of (member_scope before) set) ∷ []) k ms
members_after before k (Method s ∷ ms) = members_after before k ms

abbrev pub head : TypeDecl → Head
head d = record { name = d.name.text; members = members_after [] 0 d.members }

abbrev pub abstract_members : ℕ → List (List ℕ) → List Meaning
abstract_members k [] = []
abstract_members k (n ∷ ns) = abstract_member n k ∷ abstract_members (k + 1) ns

abbrev pub primitive_head : core.TypeDecl → Head
primitive_head d = record { name = d.name; members = abstract_members 0 d.members }

-- the names of all types: those of a table of primitive ones, and then the declared ones in file order
abbrev pub table_names : List core.TypeDecl → List (List ℕ)
table_names table = map (λ (d : core.TypeDecl). d.name) table

abbrev pub names_over : List core.TypeDecl → List TypeDecl → List (List ℕ)
names_over table types = table_names table ++ texts (type_names types)

-- the types with their members, in the same order
abbrev pub heads_over : List core.TypeDecl → List TypeDecl → List Head
heads_over table types = map primitive_head table ++ map head types

-- over today's table
abbrev pub primitive_names : List (List ℕ)
primitive_names = table_names primitive_types

abbrev pub all_names : List TypeDecl → List (List ℕ)
all_names types = names_over primitive_types types

abbrev pub heads_of : List TypeDecl → List Head
heads_of types = heads_over primitive_types types
