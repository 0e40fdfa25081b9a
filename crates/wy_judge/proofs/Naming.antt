-- Names that can be judged: what each stands for has a type that is known and in range, and the same type over all types of `val`s
-- that go on from those that are known.
use Rattle.std.proofs.Common.{◌≡◌, ℕ, zero, suc, ◌<◌, List, [], ◌∷◌, refl, ap, ◌∙◌, arith, length, Option, Some, None}
use Rattle.std.specs.Prelude.{slice_get}
use Rattle.std.specs.Option.{option_map}
use Rattle.wy_text.specs.declared.fault.Place.{Place}
use Rattle.wy_text.proofs.Lists.{In-slice_get}
use Rattle.wy_types.specs.declared.types.TypeRef.{TypeRef}
use Rattle.wy_types.specs.declared.code.Variable.TheVariants.{Parameter, Local}
use Rattle.wy_types.specs.declared.code.Binding.{Binding}
use Rattle.wy_types.specs.declared.code.Binding.TheVariants as to
use Rattle.wy_types.specs.declared.resolved.Field.{Field}
use Rattle.wy_types.specs.declared.resolved.OwnName.{OwnName}
use Rattle.wy_types.specs.Code.{Name}
use Rattle.wy_types.specs.Program.{Program, Scope}
use Rattle.wy_types.specs.Fitting.{IsTypeOf}
use Rattle.wy_types.specs.Core.{HasField, HasParameter}
use Rattle.wy_rules.specs.Typing.{fields_of, field_at, parameter_type, binding_type}
use Rattle.wy_rules.specs.Acceptance.{scope_reading}
use Rattle.wy_judge.specs.Tables.{Table, Agrees, IsScopeOf, ExprReady}
use Rattle.wy_judge.specs.Targets.{known, type_of_binding}
use Rattle.wy_judge.proofs.Contexts.{name_in_range, field_in_range, parameters_in_range}

-- what is at a number below the length
at_number : {X : Type 0} (xs : List X) (i : ℕ) → i < length xs → (x : X) × (slice_get xs i ≡ Some x)
at_number [] i below = absurd (omega arith)
at_number (x ∷ xs) zero below = (x, refl)
at_number (x ∷ xs) (suc i) below = at_number xs i (omega arith)

-- a type that is known is in the table
in_table : (o : Option (Option TypeRef)) (t : TypeRef) → known o ≡ Some t → o ≡ Some (Some t)
in_table None t e = absurd (cc)
in_table (Some o) t e = ap Some e

module _ (p : Program) (k : ℕ) (s : Scope) (owner : Option ℕ) where
  ------------------------------------------------------------
  -- Types of names over all types of `val`s

  module _ (table : Table) (locals : List (scope_reading p k s).Kind) (agrees : Agrees (scope_reading p k s) locals table) where
    field_reads : (o : Option Field) (t : TypeRef) → option_map (λ (f : Field). f.typ) o ≡ Some t → option_map (λ (f : Field). (scope_reading p k s).read f.typ) o ≡ Some ((scope_reading p k s).read t)
    field_reads None t e = absurd (cc)
    field_reads (Some f) t e = let same : f.typ ≡ t = cc in ap (λ v. Some ((scope_reading p k s).read v)) same

    own_reads : (o : Option OwnName) (t : TypeRef) → option_map (λ (n : OwnName). n.typ) o ≡ Some t → option_map (λ (n : OwnName). (scope_reading p k s).read n.typ) o ≡ Some ((scope_reading p k s).read t)
    own_reads None t e = absurd (cc)
    own_reads (Some n) t e = let same : n.typ ≡ t = cc in ap (λ v. Some ((scope_reading p k s).read v)) same

    pub name_reads : (name : Binding) (t : TypeRef) → type_of_binding s table owner name ≡ Some t → binding_type (scope_reading p k s) s locals owner name ≡ Some ((scope_reading p k s).read t)
    name_reads (to.Variable (Parameter j i)) t e = ap (option_map (scope_reading p k s).read) e
    name_reads (to.Variable (Local n)) t e = agrees n t (in_table (slice_get table n) t e)
    name_reads (to.Field i) t e = field_reads (field_at s owner i) t e
    name_reads (to.Own j) t e = own_reads (slice_get s.names j) t e

module _ (p : Program) (k : ℕ) (s : Scope) (c : IsScopeOf p k s) where
  ------------------------------------------------------------
  -- Names whose types are known

  -- the name has a type in range
  abbrev HasType : Table → Option ℕ → Binding → Type 0
  HasType table owner name = (t : TypeRef) × (type_of_binding s table owner name ≡ Some t) × IsTypeOf p k t

  parameter_known : (table : Table) (owner : Option ℕ) (j i : ℕ) → HasParameter s j i → HasType table owner (to.Variable (Parameter j i))
  parameter_known table owner j i h =
      let x = at_number h.0.signature.params i h.2 in
      (x.0, ap (λ o. parameter_type o i) h.1 ∙ x.1, parameters_in_range p k s c h.0 (In-slice_get s.bodies j h.0 h.1) x.0 (In-slice_get h.0.signature.params i x.0 x.1))

  local_known : (table : Table) (owner : Option ℕ) (n : ℕ) (t : TypeRef) → slice_get table n ≡ Some (Some t) → IsTypeOf p k t → HasType table owner (to.Variable (Local n))
  local_known table owner n t e f = (t, ap known e, f)

  field_known : (table : Table) (owner : Option ℕ) (i : ℕ) → HasField s owner i → HasType table owner (to.Field i)
  field_known table None i h = absurd h
  field_known table (Some l) i h =
      let x = at_number (fields_of s l) i h in
      (x.0.typ, ap (option_map (λ (f : Field). f.typ)) x.1, field_in_range p k s c l i x.0 x.1)

  own_known : (table : Table) (owner : Option ℕ) (j : ℕ) → j < length s.names → HasType table owner (to.Own j)
  own_known table owner j h =
      let x = at_number s.names j h in
      (x.0.typ, ap (option_map (λ (n : OwnName). n.typ)) x.1, name_in_range p k s c j x.0 x.1)

  pub name_known : (table : Table) (owner : Option ℕ) (q : Place) (name : Binding) → ExprReady p k s owner table (Name q name) → (t : TypeRef) × (type_of_binding s table owner name ≡ Some t) × IsTypeOf p k t
  name_known table owner q (to.Variable (Parameter j i)) h = parameter_known table owner j i (h.2.parameters j i h.1)
  name_known table owner q (to.Variable (Local n)) h = (let t = h.2.locals n h.1 in local_known table owner n t.0 t.1 (h.2.range n t.0 t.1))
  name_known table owner q (to.Field i) h = field_known table owner i h.1
  name_known table owner q (to.Own j) h = own_known table owner j h.1
