-- Operations on grants: a method of a grant's own type is an operation of it, which takes texts, gives what it answers, and has the
-- atom of the grant with the operation's member as its effect.
use Rattle.std.proofs.Common.{◌≡◌, codes, ℕ, zero, suc, ◌<◌, Bool, true, false, List, [], ◌∷◌, length, map, replicate, inl, inr, refl, sym, ap, ◌∙◌, subst, Option, Some, arith}
use Rattle.std.specs.Prelude.{slice_get, slice_index_or, bytes_eq, if◌then◌else◌}
use Rattle.wy_text.specs.Members.{In}
use Rattle.wy_effects.specs.EffSet.{replace}
use Rattle.wy_effects.proofs.SetLaws.{In-union-left}
use Rattle.wy_effects.specs.AtomTable.{atom_name}
use Rattle.wy_types.specs.declared.resolved.TypeDecl.{TypeDecl}
use Rattle.wy_types.specs.Program.{Program}
use Rattle.wy_types.specs.Primitive.{primitive_types, full_folder, first_declared}
use Rattle.wy_types.specs.Signature.{Signature, mapped_signature, find_method}
use Rattle.wy_types.specs.Core.{IsCore}
use Rattle.wy_types.specs.Ground.{abstract_names, members_of}
use Rattle.wy_types.specs.Types.{declared_methods, named_methods}
use Rattle.wy_rules.specs.GroundTypes.{GroundType, Int as Ints, Bool as Truths, Text as Texts, Nothing as Nothings, Named, type_at, ground_methods}
use Rattle.wy_authority.specs.Authority.{authority_of}
use Rattle.wy_authority.specs.Report.{named_atoms}
use Rattle.wy_device.specs.declared.operation.Op.{Op}
use Rattle.wy_device.specs.declared.operation.Op.TheVariants.{ConsoleRead, ConsoleWrite, FolderRead, FolderHas, FolderWrite, FolderAppend, FolderNames, ClockNow, RandomWord, FolderRemove}
use Rattle.wy_device.specs.declared.operation.OpName.{OpName}
use Rattle.wy_device.specs.declared.operation.OpName.TheVariants as name
use Rattle.wy_device.specs.declared.primitive.Primitive.{Primitive}
use Rattle.wy_device.specs.declared.primitive.Primitive.TheVariants.{Console, Folder, Clock, Random, FullFolder}
use Rattle.wy_device.specs.Operation.{name_of, method_text, member_named}
use Rattle.wy_device.specs.Primitives.{operations_of}
use Rattle.wy_device.specs.Requests.{operation_called, operation_on}
use Rattle.wy_sound.proofs.Linked.{GrantsFit, sets_of}
use Rattle.wy_sound.proofs.Lists.{some_same, taken_get}
use Rattle.wy_sound.proofs.BaseTypes.{IsGrant, sets_put, grant_kind}
use Rattle.wy_sound.proofs.Effects.{atom_named}

------------------------------------------------------------
-- The table of operations

abbrev pub arity_of : OpName → ℕ
arity_of name.ConsoleRead = 0
arity_of name.ConsoleWrite = 1
arity_of name.FolderRead = 1
arity_of name.FolderHas = 1
arity_of name.FolderWrite = 2
arity_of name.FolderAppend = 2
arity_of name.FolderNames = 0
arity_of name.ClockNow = 0
arity_of name.RandomWord = 0
arity_of name.FolderRemove = 1

abbrev pub answer_kind : OpName → GroundType
answer_kind name.ConsoleRead = Texts
answer_kind name.ConsoleWrite = Nothings
answer_kind name.FolderRead = Texts
answer_kind name.FolderHas = Truths
answer_kind name.FolderWrite = Nothings
answer_kind name.FolderAppend = Nothings
answer_kind name.FolderNames = Texts
answer_kind name.ClockNow = Ints
answer_kind name.RandomWord = Ints
answer_kind name.FolderRemove = Nothings

-- the number of its member in its type
abbrev pub member_number : OpName → ℕ
member_number name.ConsoleRead = 0
member_number name.ConsoleWrite = 1
member_number name.FolderRead = 0
member_number name.FolderHas = 0
member_number name.FolderWrite = 1
member_number name.FolderAppend = 2
member_number name.FolderNames = 3
member_number name.ClockNow = 0
member_number name.RandomWord = 0
member_number name.FolderRemove = 4

-- the method of an operation, with sets put in for its type's members
abbrev pub operation_method : List (List ℕ) → OpName → Signature GroundType
operation_method sets o = record {
  name = method_text o;
  params = replicate (arity_of o) Texts;
  effect = replace sets (member_number o ∷ []);
  result =
      answer_kind o;
}

-- the primitive types by their numbers
abbrev pub primitive_of_number : ℕ → Primitive
primitive_of_number zero = Console
primitive_of_number (suc zero) = Folder
primitive_of_number (suc (suc zero)) = Clock
primitive_of_number (suc (suc (suc zero))) = Random
primitive_of_number (suc (suc (suc (suc d)))) = FullFolder

-- the methods of a primitive type are its operations
pub primitive_methods : (p : Program) → IsCore p → (d : ℕ) (sets : List (List ℕ)) → d < first_declared →
    ground_methods p (Named d sets) ≡ map (operation_method sets) (operations_of (primitive_of_number d))
primitive_methods p core d sets lt = ap (methods_from sets) (taken_get d first_declared p.declarations primitive_types lt core.primitives) ∙ of_number d lt
  where
    methods_from : List (List ℕ) → Option TypeDecl → List (Signature GroundType)
    methods_from sets o = map (mapped_signature (type_at 0) (λ e. e)) (named_methods false sets (declared_methods o))

    of_number : (d : ℕ) → d < first_declared → methods_from sets (slice_get primitive_types d) ≡ map (operation_method sets) (operations_of (primitive_of_number d))
    of_number zero lt = refl
    of_number (suc zero) lt = refl
    of_number (suc (suc zero)) lt = refl
    of_number (suc (suc (suc zero))) lt = refl
    of_number (suc (suc (suc (suc zero)))) lt = refl
    of_number (suc (suc (suc (suc (suc d))))) lt = absurd (omega arith)

-- the operation of a method's name is the method that is found
pub operation_found : (sets : List (List ℕ)) (os : List OpName) (method : List ℕ) (g : Signature GroundType) →
    find_method method (map (operation_method sets) os) ≡ Some g →
    (o : OpName) × (operation_called method os ≡ Some o) × (operation_method sets o ≡ g) × In o os
operation_found sets [] method g e = absurd cc
operation_found sets (o ∷ os) method g e = of_test (bytes_eq (method_text o) method) e (operation_found sets os method g)
  where
    Found : List OpName → Option OpName → Type 0
    Found os u = (o : OpName) × (u ≡ Some o) × (operation_method sets o ≡ g) × In o os

    of_test : (b : Bool) → (if b then Some (operation_method sets o) else find_method method (map (operation_method sets) os)) ≡ Some g →
        (find_method method (map (operation_method sets) os) ≡ Some g → Found os (operation_called method os)) →
        Found (o ∷ os) (if b then Some o else operation_called method os)
    of_test true e f = (o, refl, some_same e, inl refl)
    of_test false e f = let r = f e in (r.0, r.1, r.2, inr r.3)

-- with as many texts as it takes it is there
pub operation_there : (o : OpName) (texts : List (List ℕ)) → length texts ≡ arity_of o →
    (op : Op) × (operation_on o texts ≡ Some op) × (name_of op ≡ o)
operation_there name.ConsoleRead [] e = (ConsoleRead, refl, refl)
operation_there name.ConsoleWrite (s ∷ []) e = (ConsoleWrite s, refl, refl)
operation_there name.FolderRead (s ∷ []) e = (FolderRead s, refl, refl)
operation_there name.FolderHas (s ∷ []) e = (FolderHas s, refl, refl)
operation_there name.FolderWrite (s ∷ t ∷ []) e = (FolderWrite s t, refl, refl)
operation_there name.FolderAppend (s ∷ t ∷ []) e = (FolderAppend s t, refl, refl)
operation_there name.FolderNames [] e = (FolderNames, refl, refl)
operation_there name.ClockNow [] e = (ClockNow, refl, refl)
operation_there name.RandomWord [] e = (RandomWord, refl, refl)
operation_there name.FolderRemove (s ∷ []) e = (FolderRemove s, refl, refl)
operation_there o texts e = absurd (omega (arith, e))

------------------------------------------------------------
-- Atoms of operations

-- the members of a folder, among more
of_folder : (members : List (List ℕ)) → slice_get members 0 ≡ Some (codes "Read") → slice_get members 1 ≡ Some (codes "Write") →
    slice_get members 2 ≡ Some (codes "Append") → slice_get members 3 ≡ Some (codes "List") →
    (o : OpName) → In o (operations_of Folder) → slice_get members (member_number o) ≡ Some (member_named o)
of_folder members r w a l o (inl e) = subst (λ (o : OpName). slice_get members (member_number o) ≡ Some (member_named o)) e r
of_folder members r w a l o (inr (inl e)) = subst (λ (o : OpName). slice_get members (member_number o) ≡ Some (member_named o)) e r
of_folder members r w a l o (inr (inr (inl e))) = subst (λ (o : OpName). slice_get members (member_number o) ≡ Some (member_named o)) e w
of_folder members r w a l o (inr (inr (inr (inl e)))) = subst (λ (o : OpName). slice_get members (member_number o) ≡ Some (member_named o)) e a
of_folder members r w a l o (inr (inr (inr (inr (inl e))))) = subst (λ (o : OpName). slice_get members (member_number o) ≡ Some (member_named o)) e l
of_folder members r w a l o (inr (inr (inr (inr (inr i))))) = absurd i

-- .. and of a full one
of_full_folder : (o : OpName) → In o (operations_of FullFolder) → slice_get full_folder.members (member_number o) ≡ Some (member_named o)
of_full_folder o (inl e) = of_folder full_folder.members refl refl refl refl o (inl e)
of_full_folder o (inr (inl e)) = of_folder full_folder.members refl refl refl refl o (inr (inl e))
of_full_folder o (inr (inr (inl e))) = of_folder full_folder.members refl refl refl refl o (inr (inr (inl e)))
of_full_folder o (inr (inr (inr (inl e)))) = of_folder full_folder.members refl refl refl refl o (inr (inr (inr (inl e))))
of_full_folder o (inr (inr (inr (inr (inl e))))) = of_folder full_folder.members refl refl refl refl o (inr (inr (inr (inr (inl e)))))
of_full_folder o (inr (inr (inr (inr (inr (inl e)))))) =
    subst (λ (o : OpName). slice_get full_folder.members (member_number o) ≡ Some (member_named o)) e refl
of_full_folder o (inr (inr (inr (inr (inr (inr i)))))) = absurd i

-- the members of the primitive types
pub member_there : (d : ℕ) (o : OpName) → d < first_declared → In o (operations_of (primitive_of_number d)) →
    (t : TypeDecl) × (slice_get primitive_types d ≡ Some t) × (slice_get t.members (member_number o) ≡ Some (member_named o))
member_there zero o lt (inl e) =
    (_, refl, subst (λ (o : OpName). slice_get (codes "In" ∷ codes "Out" ∷ []) (member_number o) ≡ Some (member_named o)) e refl)
member_there zero o lt (inr (inl e)) =
    (_, refl, subst (λ (o : OpName). slice_get (codes "In" ∷ codes "Out" ∷ []) (member_number o) ≡ Some (member_named o)) e refl)
member_there zero o lt (inr (inr i)) = absurd i
member_there (suc zero) o lt i = (_, refl, of_folder (codes "Read" ∷ codes "Write" ∷ codes "Append" ∷ codes "List" ∷ []) refl refl refl refl o i)
member_there (suc (suc zero)) o lt (inl e) =
    (_, refl, subst (λ (o : OpName). slice_get (codes "Tick" ∷ []) (member_number o) ≡ Some (member_named o)) e refl)
member_there (suc (suc zero)) o lt (inr i) = absurd i
member_there (suc (suc (suc zero))) o lt (inl e) =
    (_, refl, subst (λ (o : OpName). slice_get (codes "Draw" ∷ []) (member_number o) ≡ Some (member_named o)) e refl)
member_there (suc (suc (suc zero))) o lt (inr i) = absurd i
member_there (suc (suc (suc (suc zero)))) o lt i = (_, refl, of_full_folder o i)
member_there (suc (suc (suc (suc (suc d))))) o lt i = absurd (omega arith)

-- a set at a place that names one atom has it
atom_at : (p : Program) (sets : List (List ℕ)) (k : ℕ) (grant : List ℕ) (members : List (List ℕ)) (m : List ℕ) →
    map (named_atoms (authority_of p).atoms) sets ≡ map (λ member. atom_name grant member ∷ []) members → slice_get members k ≡ Some m →
    (a : ℕ) × In a (slice_index_or sets k []) × (atom_named p a ≡ atom_name grant m)
atom_at p [] k grant [] m e f = absurd cc
atom_at p [] k grant (n ∷ members) m e f = absurd cc
atom_at p (s ∷ sets) k grant [] m e f = absurd cc
atom_at p (s ∷ sets) zero grant (n ∷ members) m e f = one s (cc)
  where
    one : (s : List ℕ) → named_atoms (authority_of p).atoms s ≡ atom_name grant m ∷ [] → (a : ℕ) × In a s × (atom_named p a ≡ atom_name grant m)
    one [] e = absurd cc
    one (a ∷ s) e = (a, inl refl, cc)
atom_at p (s ∷ sets) (suc k) grant (n ∷ members) m e f = atom_at p sets k grant members m (cc) f

declared_members : (p : Program) (core : IsCore p) (d : ℕ) (t : TypeDecl) → d < first_declared → slice_get primitive_types d ≡ Some t →
    slice_get p.declarations d ≡ Some t
declared_members p core d t lt e = taken_get d first_declared p.declarations primitive_types lt core.primitives ∙ e

-- the effect of an operation's method at a grant's sets has the grant's atom of its member
pub operation_atom : (p : Program) (core : IsCore p) (g : ℕ) (h : IsGrant p g) (o : OpName) → In o (operations_of (primitive_of_number h.number)) →
    GrantsFit p →
    (a : ℕ) × In a (replace (sets_put p h.members) (member_number o ∷ [])) × (atom_named p a ≡ atom_name h.name.name (member_named o))
operation_atom p core g h o i fit =
    let t = member_there h.number o h.primitive i in
    let d : slice_get p.declarations h.number ≡ Some t.0 = declared_members p core h.number t.0 h.primitive t.1 in
    let ms : members_of p h.name.typ ≡ t.0.members = ap (members_of p) h.typ ∙ ap abstract_names d in
    let e : map (named_atoms (authority_of p).atoms) (sets_put p h.members) ≡ map (λ member. atom_name h.name.name member ∷ []) t.0.members =
    ap (λ k. map (named_atoms (authority_of p).atoms) (sets_of k)) (sym (grant_kind p g h)) ∙ fit g h.name h.there h.origin ∙
    ap (map (λ member. atom_name h.name.name member ∷ [])) ms in
    let r = atom_at p (sets_put p h.members) (member_number o) h.name.name t.0.members (member_named o) e t.2 in
    (r.0, In-union-left r.0 (slice_index_or (sets_put p h.members) (member_number o) []) [] r.1, r.2)
