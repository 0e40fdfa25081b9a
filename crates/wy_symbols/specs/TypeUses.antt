-- What written types stand for: types by their numbers, with a set for each abstract member; and type
-- declarations.
use Rattle.std.specs.Prelude.{ℕ, ◌+◌, Bool, true, false, List, [], ◌∷◌, ◌++◌, map, Option, Some, None, ◌&&◌, if◌then◌else◌}
use Rattle.wy_syntax.specs.declared.types.Name.{Name}
use Rattle.wy_syntax.specs.declared.types.AtomUse.{AtomUse}
use Rattle.wy_syntax.specs.declared.types.MemberSet.{MemberSet}
use Rattle.wy_syntax.specs.declared.types.TypeUse.{TypeUse}
use Rattle.wy_syntax.specs.declared.types.TypeUse.TheVariants as use_of
use Rattle.wy_syntax.specs.declared.types.Param.{Param}
use Rattle.wy_syntax.specs.declared.types.Signature.{Signature}
use Rattle.wy_syntax.specs.declared.items.Member.{Member}
use Rattle.wy_syntax.specs.declared.items.Member.TheVariants.{Abstract, Bounded, Defined, Method}
use Rattle.wy_syntax.specs.declared.items.TypeDecl.{TypeDecl}
use Rattle.wy_types.specs.declared.types.TypeRef.{TypeRef}
use Rattle.wy_types.specs.declared.types.TypeRef.TheVariants as ref
use Rattle.wy_types.specs.declared.types.Method as core
use Rattle.wy_types.specs.declared.resolved.TypeDecl as resolved
use Rattle.wy_types.specs.declared.resolved.DefinedMember.{DefinedMember}
use Rattle.wy_types.specs.Primitive.{primitive_types}
use Rattle.wy_symbols.specs.declared.refusal.Cause.TheVariants.{MemberUndefined, MemberUnknown}
use Rattle.wy_symbols.specs.declared.refusal.Refusal.{Refusal}
use Rattle.wy_symbols.specs.declared.scoping.Meaning.{Meaning}
use Rattle.wy_symbols.specs.declared.scoping.Head.{Head}
use Rattle.wy_symbols.specs.Least.{refusal_at}
use Rattle.wy_symbols.specs.Declarations.{has_name, same_name, repeated}
use Rattle.wy_symbols.specs.Meanings.{meaning_of, abstract_names, abstract_bounds}
use Rattle.wy_symbols.specs.Atoms.{AtomScope, unknown, head_names, type_number, members_of, set_of, set_refusals, members_after, member_scope}

------------------------------------------------------------
-- Types

-- the set that is written for a member, in the first place where it is
abbrev pub written_set : AtomScope → List MemberSet → List ℕ → List ℕ
written_set s [] x = []
written_set s (m ∷ ms) x = if same_name m.name.text x then set_of s m.effect else written_set s ms x

-- a set for each abstract member
abbrev pub written_sets : AtomScope → List MemberSet → List (List ℕ) → List (List ℕ)
written_sets s sets members = map (written_set s sets) members

-- in a plain module a declared type is bare
abbrev pub named_type : AtomScope → Bool → List MemberSet → Option ℕ → TypeRef
named_type s plain sets None = ref.Unit
named_type s true sets (Some d) = ref.Named d []
named_type s false sets (Some d) = ref.Named d (written_sets s sets (abstract_names (members_of s.heads d)))

abbrev pub bound_type : AtomScope → Bool → List AtomUse → Option ℕ → TypeRef
bound_type s plain set None = ref.Unit
bound_type s true set (Some d) = ref.Named d []
bound_type s false set (Some d) = ref.At d (set_of s set)

-- what a written type stands for, in a plain module or another
abbrev pub type_ref : AtomScope → Bool → TypeUse → TypeRef
type_ref s plain (use_of.Int p) = ref.Int
type_ref s plain (use_of.Bool p) = ref.Bool
type_ref s plain (use_of.Text p) = ref.Text
type_ref s plain (use_of.Unit p) = ref.Unit
type_ref s plain (use_of.Bare n) = named_type s plain [] (type_number (head_names s.heads) n.text)
type_ref s plain (use_of.With n sets) = named_type s plain sets (type_number (head_names s.heads) n.text)
type_ref s plain (use_of.At n set) = bound_type s plain set (type_number (head_names s.heads) n.text)

------------------------------------------------------------
-- Their refusals

abbrev pub set_names : List MemberSet → List Name
set_names sets = map (λ (m : MemberSet). m.name) sets

abbrev pub texts_of : List MemberSet → List (List ℕ)
texts_of sets = map (λ (m : MemberSet). m.name.text) sets

abbrev pub all_among : List (List ℕ) → List (List ℕ) → Bool
all_among [] names = true
all_among (m ∷ ms) names = has_name m names && all_among ms names

-- MemberUndefined at a type's name where an abstract member has no set, unless it may be bare
abbrev pub lacking : Name → List Meaning → List (List ℕ) → List Refusal
lacking n members written = if all_among (abstract_names members) written then [] else refusal_at n.place MemberUndefined ∷ []

abbrev pub unless_abstract : Name → Option Meaning → List Refusal
unless_abstract n None = refusal_at n.place MemberUnknown ∷ []
unless_abstract n (Some m) = if m.is_abstract then [] else refusal_at n.place MemberUnknown ∷ []

-- MemberUnknown at each name that is no abstract member
abbrev pub not_abstract : List Meaning → List Name → List Refusal
not_abstract members [] = []
not_abstract members (n ∷ ns) = unless_abstract n (meaning_of members n.text) ++ not_abstract members ns

abbrev pub sets_refusals : AtomScope → List MemberSet → List Refusal
sets_refusals s [] = []
sets_refusals s (m ∷ ms) = set_refusals s m.effect ++ sets_refusals s ms

abbrev pub type_name_refusals : Name → Option ℕ → List Refusal
type_name_refusals n None = unknown n
type_name_refusals n (Some d) = []

abbrev pub bare_refusals : AtomScope → Bool → Name → Option ℕ → List Refusal
bare_refusals s bare n None = unknown n
bare_refusals s true n (Some d) = []
bare_refusals s false n (Some d) = lacking n (members_of s.heads d) []

abbrev pub with_refusals : AtomScope → Name → List MemberSet → Option ℕ → List Refusal
with_refusals s n sets None = unknown n
with_refusals s n sets (Some d) = lacking n (members_of s.heads d) (texts_of sets) ++ not_abstract (members_of s.heads d) (set_names sets)

-- of a type in an annotated scope, where `bare` says that a type may stand without sets for its members
abbrev pub type_refusals : AtomScope → Bool → TypeUse → List Refusal
type_refusals s bare (use_of.Int p) = []
type_refusals s bare (use_of.Bool p) = []
type_refusals s bare (use_of.Text p) = []
type_refusals s bare (use_of.Unit p) = []
type_refusals s bare (use_of.Bare n) = bare_refusals s bare n (type_number (head_names s.heads) n.text)
type_refusals s bare (use_of.With n sets) =
    with_refusals s n sets (type_number (head_names s.heads) n.text) ++ (repeated [] (set_names sets) ++ sets_refusals s sets)
type_refusals s bare (use_of.At n set) = type_name_refusals n (type_number (head_names s.heads) n.text) ++ set_refusals s set

-- in a plain module only the type's name counts
abbrev pub plain_refusals : AtomScope → TypeUse → List Refusal
plain_refusals s (use_of.Int p) = []
plain_refusals s (use_of.Bool p) = []
plain_refusals s (use_of.Text p) = []
plain_refusals s (use_of.Unit p) = []
plain_refusals s (use_of.Bare n) = type_name_refusals n (type_number (head_names s.heads) n.text)
plain_refusals s (use_of.With n sets) = type_name_refusals n (type_number (head_names s.heads) n.text)
plain_refusals s (use_of.At n set) = type_name_refusals n (type_number (head_names s.heads) n.text)

-- of a type in a body or a signature
abbrev pub use_refusals : AtomScope → Bool → TypeUse → List Refusal
use_refusals s true t = plain_refusals s t
use_refusals s false t = type_refusals s false t

------------------------------------------------------------
-- Signatures

abbrev pub param_names : List Param → List Name
param_names ps = map (λ (p : Param). p.name) ps

abbrev pub param_types : AtomScope → Bool → List Param → List TypeRef
param_types s plain ps = map (λ (p : Param). type_ref s plain p.type_use) ps

-- in a plain module no method has an effect; elsewhere one that is not written is empty
abbrev pub effect_of : AtomScope → Bool → Option (List AtomUse) → List ℕ
effect_of s plain None = []
effect_of s true (Some set) = []
effect_of s false (Some set) = set_of s set

abbrev pub effect_refusals : AtomScope → Bool → Option (List AtomUse) → List Refusal
effect_refusals s plain None = []
effect_refusals s true (Some set) = []
effect_refusals s false (Some set) = set_refusals s set

abbrev pub method_of : AtomScope → Bool → Signature → core.Method
method_of s plain g = record {
  name = g.name.text;
  params = param_types s plain g.params;
  effect = effect_of s plain g.effect;
  result = type_ref s plain g.result;
}

abbrev pub params_refusals : AtomScope → Bool → List Param → List Refusal
params_refusals s plain [] = []
params_refusals s plain (p ∷ ps) = use_refusals s plain p.type_use ++ params_refusals s plain ps

abbrev pub signature_refusals : AtomScope → Bool → Signature → List Refusal
signature_refusals s plain g =
    repeated [] (param_names g.params) ++
    (params_refusals s plain g.params ++ (effect_refusals s plain g.effect ++ use_refusals s plain g.result))

------------------------------------------------------------
-- Type declarations

-- what a declaration's signatures see: all of its members, and the types of the program
abbrev pub declaration_scope : List Head → List Meaning → AtomScope
declaration_scope heads members = record { heads = heads; atoms = []; owners = []; meanings = members }

abbrev pub defined_members : List Meaning → List DefinedMember
defined_members [] = []
defined_members (m ∷ ms) = if m.is_abstract then defined_members ms else record { name = m.name; effects = m.atoms } ∷ defined_members ms

abbrev pub declared_methods : AtomScope → List Member → List core.Method
declared_methods s [] = []
declared_methods s (Abstract n ∷ ms) = declared_methods s ms
declared_methods s (Bounded n set ∷ ms) = declared_methods s ms
declared_methods s (Defined n set ∷ ms) = declared_methods s ms
declared_methods s (Method g ∷ ms) = method_of s false g ∷ declared_methods s ms

abbrev pub declaration : List Head → TypeDecl → resolved.TypeDecl
declaration heads d =
    let members = members_after [] 0 d.members in
    record {
      name = d.name.text;
      members = abstract_names members;
      bounds = abstract_bounds members;
      defined = defined_members members;
      methods = declared_methods (declaration_scope heads members) d.members;
    }

-- a table of primitive types, and then the declared ones in file order
abbrev pub declarations_over : List resolved.TypeDecl → List Head → List TypeDecl → List resolved.TypeDecl
declarations_over table heads types = table ++ map (declaration heads) types

-- over today's table
abbrev pub declarations_of : List Head → List TypeDecl → List resolved.TypeDecl
declarations_of heads types = declarations_over primitive_types heads types

-- the names of the effect members, and those of the methods
abbrev pub member_names : List Member → List Name
member_names [] = []
member_names (Abstract n ∷ ms) = n ∷ member_names ms
member_names (Bounded n set ∷ ms) = n ∷ member_names ms
member_names (Defined n set ∷ ms) = n ∷ member_names ms
member_names (Method g ∷ ms) = member_names ms

abbrev pub method_names : List Member → List Name
method_names [] = []
method_names (Abstract n ∷ ms) = method_names ms
method_names (Bounded n set ∷ ms) = method_names ms
method_names (Defined n set ∷ ms) = method_names ms
method_names (Method g ∷ ms) = g.name ∷ method_names ms

-- the set of a defined member and an upper bound see the members before them, a signature sees them all
abbrev pub members_refusals : AtomScope → List Meaning → ℕ → List Member → List Refusal
members_refusals s before k [] = []
members_refusals s before k (Abstract n ∷ ms) = members_refusals s (members_after before k (Abstract n ∷ [])) (k + 1) ms
members_refusals s before k (Bounded n set ∷ ms) =
    set_refusals (member_scope before) set ++ members_refusals s (members_after before k (Bounded n set ∷ [])) (k + 1) ms
members_refusals s before k (Defined n set ∷ ms) =
    set_refusals (member_scope before) set ++ members_refusals s (members_after before k (Defined n set ∷ [])) k ms
members_refusals s before k (Method g ∷ ms) = signature_refusals s false g ++ members_refusals s before k ms

abbrev pub declaration_refusals : List Head → TypeDecl → List Refusal
declaration_refusals heads d =
    repeated [] (member_names d.members) ++
    (repeated [] (method_names d.members) ++
    members_refusals (declaration_scope heads (members_after [] 0 d.members)) [] 0 d.members)

abbrev pub declarations_refusals : List Head → List TypeDecl → List Refusal
declarations_refusals heads [] = []
declarations_refusals heads (d ∷ ds) = declaration_refusals heads d ++ declarations_refusals heads ds
