-- The types of a scope's own names.
use Rattle.std.proofs.Common.{◌≡◌, ℕ, ◌<◌, List, [], length, Bool, true, false, Option, Some, None, inl, refl, ◌∙◌, arith}
use Rattle.std.specs.Prelude.{nat_lt, if◌then◌else◌}
use Rattle.std.proofs.lemmas.Bool.Decides.{nat_tests}
use Rattle.wy_text.specs.declared.fault.AtomName.{AtomName}
use Rattle.wy_syntax.specs.declared.types.Name.{Name}
use Rattle.wy_syntax.specs.declared.types.TypeUse.{TypeUse}
use Rattle.wy_syntax.specs.declared.types.TypeUse.TheVariants as use_of
use Rattle.wy_text.specs.Members.{In}
use Rattle.wy_effects.specs.EffSet.{IsSet}
use Rattle.wy_types.specs.declared.types.TypeRef.{TypeRef}
use Rattle.wy_types.specs.Program.{Program}
use Rattle.wy_types.specs.Primitive.{first_declared}
use Rattle.wy_types.specs.Core.{IsPrimitive}
use Rattle.wy_symbols.specs.declared.scoping.Head.{Head}
use Rattle.wy_symbols.specs.declared.scoping.Opening.{Opening}
use Rattle.wy_symbols.specs.declared.scoping.Opening.TheVariants.{Members, Nothing, Missing}
use Rattle.wy_symbols.specs.Declarations.{ModuleTree, module_number}
use Rattle.wy_symbols.specs.Meanings.{abstract_names}
use Rattle.wy_symbols.specs.Atoms.{AtomScope, head_names, type_number, members_of, atom_of, atom_number, opened_names, opened, param_opening, primitive_opening, sealed_opening, module_at, module_opening}
use Rattle.wy_heads.specs.Lines.{opened_type, at_bound, param_type, unless_opened}
use Rattle.wy_well_formed.proofs.Sets.{OpensBelow, Holds, owner_sets_below}
use Rattle.wy_well_formed.proofs.WrittenTypes.{Stands, Knows, IsType, number_known, use_stands, owner_sets_count}

-- the type of an opening is declared
abbrev pub OpensType : Program → Opening → Type 0
OpensType p (Members d) = d < length p.declarations
OpensType p Nothing = Unit {0}
OpensType p Missing = Unit {0}

pub opened_stands : (p : Program) (n : ℕ) (heads : List Head) (atoms : List AtomName) (owner : List ℕ) (o : Opening) → Knows p heads → OpensType p o →
    ((m : List ℕ) → In m (opened_names heads o) → atom_number atoms (atom_of owner m) < n) → Stands p n false (opened_type heads atoms owner o)
opened_stands p n heads atoms owner Nothing knows h below = (tt, tt)
opened_stands p n heads atoms owner Missing knows h below = (tt, tt)
opened_stands p n heads atoms owner (Members d) knows h below =
    let members = abstract_names (members_of heads d) in
    let count = owner_sets_count atoms owner members ∙ knows.members d in
    ((h, inl count, owner_sets_below n atoms owner members below), count)

module _ (p : Program) (heads : List Head) (knows : Knows p heads) where
  opened_known : (o : Option ℕ) → IsType p o → OpensType p (opened o)
  opened_known None h = tt
  opened_known (Some d) h = h

  sealed_known : (m : Option ModuleTree) → OpensType p (sealed_opening (head_names heads) m)
  sealed_known None = tt
  sealed_known (Some m) = opened_known (type_number (head_names heads) m.sealed.text) (number_known p heads m.sealed.text knows)

  module_known : (modules : List ModuleTree) (x : List ℕ) → OpensType p (module_opening (head_names heads) modules x)
  module_known modules x = sealed_known (module_at modules (module_number modules x))

  module _ (n : ℕ) (modules : List ModuleTree) (atoms : List AtomName) where
    -- a name that opens the members of the type that a module is sealed at
    pub instance_stands : (x m : List ℕ) → OpensBelow n heads atoms (record { name = x; opening = module_opening (head_names heads) modules m }) →
        Stands p n false (opened_type heads atoms x (module_opening (head_names heads) modules m))
    instance_stands x m opens = opened_stands p n heads atoms x (module_opening (head_names heads) modules m) knows (module_known modules m) opens.below

    at_bound_stands : (o : Opening) (bound : List ℕ) → OpensType p o → IsSet n bound → Stands p n false (at_bound heads modules atoms o bound)
    at_bound_stands Nothing bound h b = (tt, tt)
    at_bound_stands Missing bound h b = (tt, tt)
    at_bound_stands (Members d) bound h b = ((h, b), tt)

    -- an import's
    pub import_stands : (m bound : List ℕ) → IsSet n bound → Stands p n false (at_bound heads modules atoms (module_opening (head_names heads) modules m) bound)
    import_stands m bound b = at_bound_stands (module_opening (head_names heads) modules m) bound (module_known modules m) b

-- a parameter's
pub param_stands : (p : Program) (n : ℕ) (s : AtomScope) (name : List ℕ) (t : TypeUse) → Holds n s → Knows p s.heads →
    OpensBelow n s.heads s.atoms (record { name = name; opening = param_opening (head_names s.heads) t }) → Stands p n false (param_type s name t)
param_stands p n s name (use_of.Int q) holds knows opens = (tt, tt)
param_stands p n s name (use_of.Bool q) holds knows opens = (tt, tt)
param_stands p n s name (use_of.Text q) holds knows opens = (tt, tt)
param_stands p n s name (use_of.Unit q) holds knows opens = (tt, tt)
param_stands p n s name (use_of.Bare x) holds knows opens =
    opened_stands p n s.heads s.atoms name (opened (type_number (head_names s.heads) x.text)) knows
    (opened_known p s.heads knows (type_number (head_names s.heads) x.text) (number_known p s.heads x.text knows)) opens.below
param_stands p n s name (use_of.With x sets) holds knows opens = use_stands p n s holds knows false (use_of.With x sets)
param_stands p n s name (use_of.At x set) holds knows opens = use_stands p n s holds knows false (use_of.At x set)

------------------------------------------------------------
-- Grants

-- a grant's kind that is not refused is a primitive type
record IsGranted (p : Program) (heads : List Head) (atoms : List AtomName) (x : List ℕ) (o : Opening) : Type 0 where
  known : OpensType p o
  primitive : IsPrimitive (opened_type heads atoms x o)

granted : (p : Program) (heads : List Head) (atoms : List AtomName) (x : List ℕ) (kind : Name) (o : Option ℕ) → IsType p o → unless_opened kind (primitive_opening o) ≡ [] → IsGranted p heads atoms x (primitive_opening o)
granted p heads atoms x kind None h e = cc
granted p heads atoms x kind (Some d) h e =
    let P : Bool → Type 0 = λ b. nat_lt d first_declared ≡ b → unless_opened kind (if b then Members d else Missing) ≡ [] → IsGranted p heads atoms x (if b then Members d else Missing) in
    (elim (nat_lt d first_declared) as P [
      | true ↦ λ t f. record { known = h; primitive = grind (arith, nat_tests, t) }
      | false ↦ λ t f. cc
    ]) refl e

-- a grant's type
pub record GrantStands (p : Program) (n : ℕ) (t : TypeRef) : Type 0 where
  pub stands : Stands p n false t
  pub primitive : IsPrimitive t

pub grant_stands : (p : Program) (n : ℕ) (heads : List Head) (atoms : List AtomName) (x : List ℕ) (kind : Name) → Knows p heads →
    OpensBelow n heads atoms (record { name = x; opening = primitive_opening (type_number (head_names heads) kind.text) }) →
    unless_opened kind (primitive_opening (type_number (head_names heads) kind.text)) ≡ [] →
    GrantStands p n (opened_type heads atoms x (primitive_opening (type_number (head_names heads) kind.text)))
grant_stands p n heads atoms x kind knows opens e =
    let o = type_number (head_names heads) kind.text in
    let g = granted p heads atoms x kind o (number_known p heads kind.text knows) e in
    record { stands = opened_stands p n heads atoms x (primitive_opening o) knows g.known opens.below; primitive = g.primitive }
