-- The authority of each body of each instance: its declared effect at the instance's ground sets. For an instance of a plain
-- module it is the ground of the import's bound, for every body (docs/LANGUAGE.md, "Authority and report").
use Rattle.std.specs.Prelude.{codes, ℕ, ◌<◌, List, [], ◌∷◌, ◌++◌, Option, Some, None, if◌then◌else◌, length, map, nat_eq, slice_get}
use Rattle.std.specs.Fmt.{decimal}
use Rattle.wy_text.specs.declared.fault.AtomName.{AtomName}
use Rattle.wy_effects.specs.AtomTable.{atom_name}
use Rattle.wy_effects.specs.EffSet.{union}
use Rattle.wy_types.specs.declared.resolved.Origin.{Origin}
use Rattle.wy_types.specs.declared.resolved.Origin.TheVariants.{Parameter, Grant, Use, Instance, Import}
use Rattle.wy_types.specs.declared.resolved.OwnName.{OwnName}
use Rattle.wy_types.specs.declared.linked.Instance.{Instance as Started}
use Rattle.wy_types.specs.Program.{Program, Scope, Body}
use Rattle.wy_types.specs.Ground.{names_of, members_of, program_number, program_sets, start_list, ground_of}
use Rattle.wy_authority.specs.declared.rows.BodyRow.{BodyRow}
use Rattle.wy_authority.specs.declared.rows.InstanceRow.{InstanceRow}
use Rattle.wy_authority.specs.declared.rows.Authority.{Authority}

-- a method of the module has its own name, one of a literal the literal's number before it
abbrev pub body_name : Body → List ℕ
body_name b = if nat_eq b.owner 0 then b.signature.name else codes "new" ++ (decimal b.owner ++ (codes "." ++ b.signature.name))

-- what a body may do: the ground bound where there is one, else its declared effect at the ground sets
abbrev pub body_set : Option (List ℕ) → List (List ℕ) → List ℕ → List ℕ
body_set (Some bound) sets effect = bound
body_set None sets effect = ground_of sets effect

abbrev pub body_row : List ℕ → List ℕ → BodyRow
body_row name set = record { name = name; set = set }

-- the bodies of a scope: the one that it starts with, the methods of the module, those of its literals
abbrev pub body_rows : Option (List ℕ) → List (List ℕ) → List ℕ → Option Scope → List BodyRow
body_rows bound sets first None = []
body_rows bound sets first (Some s) =
    body_row first (body_set bound sets s.start_effect) ∷ map (λ b. body_row (body_name b) (body_set bound sets b.signature.effect)) s.bodies

abbrev pub instance_row : Program → Started → InstanceRow
instance_row p i = record { name = i.name; bodies = body_rows i.bound i.ground (codes "init") (slice_get p.scopes i.scope) }

abbrev pub main_row : Program → InstanceRow
main_row p = record { name = codes "main"; bodies = body_rows None (program_sets p) (codes "run") (slice_get p.scopes (program_number p)) }

-- the atoms of a grant
abbrev pub granted : Program → Origin → OwnName → List AtomName
granted p (Parameter bare) n = []
granted p Grant n = map (atom_name n.name) (members_of p n.typ)
granted p (Use m) n = []
granted p (Instance m arguments) n = []
granted p (Import m arguments bound) n = []

abbrev pub grant_atoms : Program → List OwnName → List AtomName
grant_atoms p [] = []
grant_atoms p (n ∷ ns) = granted p n.origin n ++ grant_atoms p ns

-- the authority of a program: the instances in start order, and main
abbrev pub authority_of : Program → Authority
authority_of p = record {
  atoms = grant_atoms p (names_of (slice_get p.scopes (program_number p)));
  rows = map (instance_row p) (start_list p) ++ main_row p ∷ [];
}

-- the authority of an instance: that of all its bodies
abbrev pub whole_set : List BodyRow → List ℕ
whole_set [] = []
whole_set (b ∷ bs) = union b.set (whole_set bs)

abbrev pub set_of_body : Option BodyRow → List ℕ
set_of_body None = []
set_of_body (Some b) = b.set

abbrev pub set_in_row : Option InstanceRow → ℕ → List ℕ
set_in_row None body = []
set_in_row (Some r) body = set_of_body (slice_get r.bodies body)

-- the authority of one body, by the numbers of its instance and of itself
abbrev pub bound_of : Authority → ℕ → ℕ → List ℕ
bound_of a instance body = set_in_row (slice_get a.rows instance) body

-- there is a body of these numbers
abbrev pub RowHas : Option InstanceRow → ℕ → Type 0
RowHas None body = ⊥
RowHas (Some r) body = body < length r.bodies

abbrev pub HasBody : Authority → ℕ → ℕ → Type 0
HasBody a instance body = RowHas (slice_get a.rows instance) body
