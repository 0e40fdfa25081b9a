-- The report of a program tells its instances apart by their names, and the bodies of each: what a call may do is what one line of the report says.
-- (docs/LANGUAGE.md, "Authority and report")
use Rattle.std.specs.Prelude.{◌≡◌, ℕ, ◌≤◌, List, [], map}
use Rattle.wy_text.specs.Members.{In, Apart}
use Rattle.wy_types.specs.declared.resolved.Origin.{Origin}
use Rattle.wy_types.specs.declared.resolved.Origin.TheVariants.{Parameter, Grant, Use, Instance, Import}
use Rattle.wy_types.specs.declared.resolved.OwnName.{OwnName}
use Rattle.wy_types.specs.Program.{Program, Scope, Body}
use Rattle.wy_authority.specs.declared.rows.BodyRow.{BodyRow}
use Rattle.wy_authority.specs.declared.rows.InstanceRow.{InstanceRow}
use Rattle.wy_authority.specs.Authority.{authority_of}
use Rattle.wy_authority.specs.Report.{named_atoms}
use Rattle.wy_meaning.specs.Bounds.{Call}
use Rattle.wy_sound.specs.Programs.{IsResolved, allowed}

-- no two instances have one name
abbrev pub InstancesAreTold : Type 0
InstancesAreTold = (p : Program) → IsResolved p → Apart (map (λ (r : InstanceRow). r.name) (authority_of p).rows)

-- no two bodies of an instance have one name
abbrev pub BodiesAreTold : Type 0
BodiesAreTold =
    (p : Program) → IsResolved p →
    (r : InstanceRow) → In r (authority_of p).rows → Apart (map (λ (b : BodyRow). b.name) r.bodies)

abbrev pub call_of : InstanceRow → BodyRow → Call
call_of r b = record { instance = r.name; body = b.name }

-- so a call may do what the report says of its body in its instance, and no more
abbrev pub AllowedIsReported : Type 0
AllowedIsReported =
    (p : Program) → IsResolved p →
    (r : InstanceRow) → In r (authority_of p).rows → (b : BodyRow) → In b r.bodies → allowed p (call_of r b) ≡ named_atoms (authority_of p).atoms b.set

------------------------------------------------------------
-- The bytes of names

-- a name that a line of the report can hold: it is not empty, and has no control character and no colon
abbrev pub IsLineByte : ℕ → Type 0
IsLineByte b = (32 ≤ b) × (b ≡ 127 → ⊥) × (b ≡ 58 → ⊥)

pub record IsLineName (name : List ℕ) : Type 0 where
  pub some : name ≡ [] → ⊥
  pub bytes : (b : ℕ) → In b name → IsLineByte b

-- the own names of which instances have their names: those of uses and lines
abbrev pub NamesInstance : Origin → Type 0
NamesInstance (Parameter bare) = ⊥
NamesInstance Grant = ⊥
NamesInstance (Use m) = Unit {0}
NamesInstance (Instance m arguments) = Unit {0}
NamesInstance (Import m arguments bound) = Unit {0}

abbrev pub HaveLineNames : Program → Type 0
HaveLineNames p = (s : Scope) → In s p.scopes → (n : OwnName) → In n s.names → NamesInstance n.origin → IsLineName n.name

-- where these are such names, those of all instances are, and so is `main`
abbrev pub InstancesHaveLineNames : Type 0
InstancesHaveLineNames = (p : Program) → HaveLineNames p → (r : InstanceRow) → In r (authority_of p).rows → IsLineName r.name

-- so are those of bodies, where the names of methods are
abbrev pub HaveLineMethods : Program → Type 0
HaveLineMethods p = (s : Scope) → In s p.scopes → (b : Body) → In b s.bodies → IsLineName b.signature.name

abbrev pub BodiesHaveLineNames : Type 0
BodiesHaveLineNames =
    (p : Program) → IsResolved p → HaveLineMethods p →
    (r : InstanceRow) → In r (authority_of p).rows → (b : BodyRow) → In b r.bodies → IsLineName b.name
