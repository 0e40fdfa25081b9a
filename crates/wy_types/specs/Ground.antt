-- The instances in start order, and for each atom of an instance its ground set: the grant atoms that it stands for.
-- A visit of a line visits the lines of its module first; what the line hands on is settled before (docs/LANGUAGE.md, "Start order and ground sets").
use Rattle.std.specs.Prelude.{codes, ℕ, zero, suc, ◌+◌, ◌-◌, List, [], ◌∷◌, ◌++◌, Option, Some, None, Bool as Truth, true, false, if◌then◌else◌, map, length, slice_get, slice_index_or, bytes_eq}
use Rattle.wy_effects.specs.EffSet.{replace}
use Rattle.wy_types.specs.declared.types.TypeRef.{TypeRef}
use Rattle.wy_types.specs.declared.types.TypeRef.TheVariants.{Int, Bool, Text, Unit as Nothing, Named, At, Own}
use Rattle.wy_types.specs.declared.resolved.TypeDecl.{TypeDecl}
use Rattle.wy_types.specs.declared.resolved.DefinedMember.{DefinedMember}
use Rattle.wy_types.specs.declared.resolved.Origin.{Origin}
use Rattle.wy_types.specs.declared.resolved.Origin.TheVariants.{Parameter, Grant, Use, Instance, Import}
use Rattle.wy_types.specs.declared.resolved.OwnName.{OwnName}
use Rattle.wy_types.specs.declared.linked.Actual.{Actual}
use Rattle.wy_types.specs.declared.linked.Actual.TheVariants as actual
use Rattle.wy_types.specs.declared.linked.Instance.{Instance as Started}
use Rattle.wy_types.specs.Program.{Program, Scope}

------------------------------------------------------------
-- Members of types

-- the first of two, or else the second
abbrev pub set_or : Option (List ℕ) → Option (List ℕ) → Option (List ℕ)
set_or (Some s) other = Some s
set_or None other = other

abbrev pub set_or_empty : Option (List ℕ) → List ℕ
set_or_empty (Some s) = s
set_or_empty None = []

-- the set of the abstract member of a name
abbrev pub abstract_set : List ℕ → List (List ℕ) → List (List ℕ) → Option (List ℕ)
abstract_set name (m ∷ ms) (s ∷ sets) = if bytes_eq m name then Some s else abstract_set name ms sets
abstract_set name ms sets = None

-- the set of the defined member of a name, with the sets put in for the abstract ones
abbrev pub defined_set : List ℕ → List DefinedMember → List (List ℕ) → Option (List ℕ)
defined_set name [] sets = None
defined_set name (m ∷ ms) sets = if bytes_eq m.name name then Some (replace sets m.effects) else defined_set name ms sets

abbrev pub declared_set : List ℕ → Option TypeDecl → List (List ℕ) → Option (List ℕ)
declared_set name None sets = None
declared_set name (Some d) sets = set_or (abstract_set name d.members sets) (defined_set name d.defined sets)

abbrev pub abstract_names : Option TypeDecl → List (List ℕ)
abstract_names None = []
abstract_names (Some d) = d.members

-- the set that a type gives to the member of a name; a type at a bound has every member, and each is the bound
abbrev pub member_set : Program → TypeRef → List ℕ → Option (List ℕ)
member_set p Int name = None
member_set p Bool name = None
member_set p Text name = None
member_set p Nothing name = None
member_set p (Named d sets) name = declared_set name (slice_get p.declarations d) sets
member_set p (At d bound) name = Some bound
member_set p (Own l) name = None

-- the abstract members that a declared type has
abbrev pub members_of : Program → TypeRef → List (List ℕ)
members_of p Int = []
members_of p Bool = []
members_of p Text = []
members_of p Nothing = []
members_of p (Named d sets) = abstract_names (slice_get p.declarations d)
members_of p (At d bound) = abstract_names (slice_get p.declarations d)
members_of p (Own l) = []

abbrev pub type_of : Option OwnName → TypeRef
type_of None = Nothing
type_of (Some n) = n.typ

abbrev pub names_of : Option Scope → List OwnName
names_of None = []
names_of (Some s) = s.names

abbrev pub definitions_of : Option Scope → List (List ℕ)
definitions_of None = []
definitions_of (Some s) = s.definitions

abbrev pub is_use : Origin → Truth
is_use (Parameter bare) = false
is_use Grant = false
is_use (Use m) = true
is_use (Instance m arguments) = false
is_use (Import m arguments bound) = false

abbrev pub uses_among : List OwnName → List OwnName
uses_among [] = []
uses_among (n ∷ ns) = if is_use n.origin then n ∷ uses_among ns else uses_among ns

------------------------------------------------------------
-- Visits

-- what visits have come to: the instances so far, and of the scope that is visited what its own names stand for and the ground sets of its atoms, so far
pub record Visited : Type 0 where
  pub started : List Started
  pub actuals : List Actual
  pub sets : List (List ℕ)

-- a visit of some of a scope's own names, of which all are given first; instances of its lines are named with the prefix
abbrev pub Visit : Type 0
Visit = List OwnName → List ℕ → List OwnName → Visited → Visited

-- one more own name: what it stands for, and the ground sets of the atoms that it opens
abbrev pub settled : Visited → List Started → Actual → List (List ℕ) → Visited
settled v started a sets = record { started = started; actuals = v.actuals ++ a ∷ []; sets = v.sets ++ sets }

-- the number of the instance of a name
abbrev pub number_from : ℕ → List ℕ → List Started → Option ℕ
number_from k name [] = None
number_from k name (i ∷ is) = if bytes_eq i.name name then Some k else number_from (k + 1) name is

abbrev pub ground_sets : Option Started → List (List ℕ)
ground_sets None = []
ground_sets (Some i) = i.ground

-- sets of one atom each, from a number on
abbrev pub single_sets : ℕ → List (List ℕ) → List (List ℕ)
single_sets k [] = []
single_sets k (m ∷ ms) = (k ∷ []) ∷ single_sets (k + 1) ms

abbrev pub instance_of : (name : List ℕ) (scope : ℕ) (arguments : List Actual) (bound : Option (List ℕ)) (ground : List (List ℕ)) → Started
instance_of name scope arguments bound ground = record { name = name; scope = scope; arguments = arguments; bound = bound; ground = ground }

module _ (p : Program) where
  -- a bare parameter's atoms stand for the members of the argument's type: their sets in the scope where the line stands, whose own names are given
  abbrev pub argument_sets : List OwnName → Origin → OwnName → ℕ → List (List ℕ)
  argument_sets outer (Parameter true) n a = map (λ member. set_or_empty (member_set p (type_of (slice_get outer a)) member)) (members_of p n.typ)
  argument_sets outer origin n a = []

  -- the same for all parameters, which stand first among a module's own names
  abbrev pub arguments_sets : List OwnName → List OwnName → List ℕ → List (List ℕ)
  arguments_sets outer (n ∷ ns) (a ∷ arguments) = argument_sets outer n.origin n a ++ arguments_sets outer ns arguments
  arguments_sets outer ns arguments = []

  -- a module whose parameters are handed a line's arguments
  abbrev pub handed : List OwnName → Visited → ℕ → List ℕ → Visited
  handed outer v m arguments = record {
    started = v.started;
    actuals = map (λ a. slice_index_or v.actuals a (actual.Grant 0)) arguments;
    sets = map (replace v.sets) (arguments_sets outer (names_of (slice_get p.scopes m)) arguments);
  }

  -- what a module defines for the members of its type, with ground sets put in for its atoms
  abbrev pub defined_sets : ℕ → List (List ℕ) → List (List ℕ)
  defined_sets m sets = map (replace sets) (definitions_of (slice_get p.scopes m))

  -- the instance of a module is added behind those that it needs
  abbrev pub added : Visited → List ℕ → ℕ → Option (List ℕ) → List Started
  added inner name m bound = inner.started ++ instance_of name m inner.actuals bound inner.sets ∷ []

  -- a line's instance: an import has the ground of its bound and opens no atoms
  abbrev pub lined : Visited → Visited → List ℕ → ℕ → Visited
  lined v inner name m = settled v (added inner name m None) (actual.Instance (length inner.started)) (defined_sets m inner.sets)

  abbrev pub imported : Visited → Visited → List ℕ → ℕ → List ℕ → Visited
  imported v inner name m bound = settled v (added inner name m (Some (replace v.sets bound))) (actual.Instance (length inner.started)) []

  -- a pure module has one instance, which its first use adds
  abbrev pub used : Visit → Visited → List ℕ → ℕ → Option ℕ → Visited
  used inside v name m (Some i) = settled v v.started (actual.Instance i) (defined_sets m (ground_sets (slice_get v.started i)))
  used inside v name m None =
      let names = names_of (slice_get p.scopes m) in
      let inner = inside names [] (uses_among names) (record { started = v.started; actuals = []; sets = [] }) in
      lined v inner name m

  abbrev pub visit_name : Visit → List OwnName → List ℕ → OwnName → Origin → Visited → Visited
  visit_name inside outer prefix n (Parameter bare) v = v
  visit_name inside outer prefix n Grant v = settled v v.started (actual.Grant (length v.actuals)) (single_sets (length v.sets) (members_of p n.typ))
  visit_name inside outer prefix n (Use m) v = used inside v (codes "pure " ++ n.name) m (number_from 0 (codes "pure " ++ n.name) v.started)
  visit_name inside outer prefix n (Instance m arguments) v =
      let names = names_of (slice_get p.scopes m) in
      lined v (inside names (prefix ++ (n.name ++ codes ".")) names (handed outer v m arguments)) (prefix ++ n.name) m
  visit_name inside outer prefix n (Import m arguments bound) v =
      let names = names_of (slice_get p.scopes m) in
      imported v (inside names (prefix ++ (n.name ++ codes ".")) names (handed outer v m arguments)) (prefix ++ n.name) m bound

  abbrev pub visit_names : Visit → List OwnName → List ℕ → List OwnName → Visited → Visited
  visit_names inside outer prefix [] v = v
  visit_names inside outer prefix (n ∷ ns) v = visit_names inside outer prefix ns (visit_name inside outer prefix n n.origin v)

  -- visits that go through at most so many scopes, one in the other; no more than there are lead on, since no line leads back
  abbrev pub visit : ℕ → Visit
  visit zero outer prefix names v = v
  visit (suc k) outer prefix names v = visit_names (visit k) outer prefix names v

  -- the program is the last scope
  abbrev pub program_number : ℕ
  program_number = length p.scopes - 1

  abbrev pub program_visited : Visited
  program_visited =
      let names = names_of (slice_get p.scopes program_number) in
      visit (length p.scopes) names [] names (record { started = []; actuals = []; sets = [] })

  -- the start list: the instances in start order, each with its ground sets
  abbrev pub start_list : List Started
  start_list = program_visited.started

  -- the ground sets of the program's own atoms
  abbrev pub program_sets : List (List ℕ)
  program_sets = program_visited.sets

-- the ground of a set of a scope's atoms, by the ground sets that its instance (or the program) has for them
abbrev pub ground_of : List (List ℕ) → List ℕ → List ℕ
ground_of sets set = replace sets set
