-- What the proofs of soundness ask of a program: its instances are handed what fits, by the visits and by name, and its grants have their own
-- atoms.
use Rattle.std.specs.Prelude.{◌≡◌, ℕ, List, [], ◌∷◌, Some, map, slice_get}
use Rattle.wy_effects.specs.AtomTable.{atom_name}
use Rattle.wy_types.specs.declared.linked.Actual.TheVariants.{Grant}
use Rattle.wy_types.specs.declared.resolved.Origin.TheVariants as origin
use Rattle.wy_types.specs.declared.resolved.OwnName.{OwnName}
use Rattle.wy_types.specs.Program.{Program}
use Rattle.wy_types.specs.Core.{IsCore}
use Rattle.wy_types.specs.Ground.{members_of, program_visited}
use Rattle.wy_rules.specs.Acceptance.{Accepted}
use Rattle.wy_rules.specs.GroundTypes.{GroundType, Int, Bool, Text, Nothing, Named, At, Own}
use Rattle.wy_rules.specs.OwnNames.{ModulesCaptureNothing}
use Rattle.wy_authority.specs.Authority.{authority_of}
use Rattle.wy_authority.specs.Report.{named_atoms}
use Rattle.wy_sound.specs.Arguments.{ArgumentsFit, InstancesFit, program_names, actual_type}
use Rattle.wy_sound.specs.Programs.{program_starts}

-- `main` is handed by name what the visits of its lines settle
abbrev pub MainFits : Program → Type 0
MainFits p = (program_starts p).main.actuals ≡ (program_visited p).actuals

abbrev pub sets_of : GroundType → List (List ℕ)
sets_of Int = []
sets_of Bool = []
sets_of Text = []
sets_of Nothing = []
sets_of (Named d sets) = sets
sets_of (At d bound) = []
sets_of (Own x l) = []

-- a grant's own type has for each member the atom of the grant and the member
abbrev pub GrantsFit : Program → Type 0
GrantsFit p =
    (g : ℕ) (n : OwnName) → slice_get (program_names p) g ≡ Some n → n.origin ≡ origin.Grant →
    map (named_atoms (authority_of p).atoms) (sets_of (actual_type p (Grant g))) ≡ map (λ member. atom_name n.name member ∷ []) (members_of p n.typ)

-- an accepted program, whose instances are handed what fits
pub record IsLinked (p : Program) : Type 0 where
  pub core : IsCore p
  pub accepted : Accepted p
  pub instances : InstancesFit p
  pub arguments : ArgumentsFit p
  pub main : MainFits p
  pub captures : ModulesCaptureNothing p
