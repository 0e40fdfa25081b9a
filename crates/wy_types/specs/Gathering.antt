-- A list of object types without repeats, to which types are added.
use Rattle.std.specs.Prelude.{◌≡◌, ◌<◌, ◌≤◌, List, [], ◌++◌, ◌⊎◌, Result, Ok, Err, length}
use Rattle.wy_text.specs.declared.limit.LimitName.TheVariants.{ReachedTypes}
use Rattle.wy_text.specs.Members.{In, Apart}
use Rattle.wy_types.specs.declared.types.TypeRef.{TypeRef}
use Rattle.wy_types.specs.declared.reach.ReachRefusal.{ReachRefusal}
use Rattle.wy_types.specs.declared.reach.ReachRefusal.TheVariants.{Limit, Memory}
use Rattle.wy_types.specs.Types.{IsObject}

-- the object types among `ts` that were not there stand behind the old ones
pub record IsGathered (old ts new : List TypeRef) : Type 0 where
  pub more : List TypeRef
  pub grows : new ≡ old ++ more
  pub from : (u : TypeRef) → In u more → In u ts × IsObject u
  pub all : (u : TypeRef) → In u ts → IsObject u → In u new
  pub apart : Apart new
  pub small : length new ≤ 1024

-- too many types, each an old one or an object type among `ts`
pub record IsCrowd (old ts us : List TypeRef) : Type 0 where
  pub apart : Apart us
  pub many : 1024 < length us
  pub from : (u : TypeRef) → In u us → In u old ⊎ (In u ts × IsObject u)

abbrev pub Gathers : List TypeRef → List TypeRef → List TypeRef → Result (Unit {0}) ReachRefusal → Type 0
Gathers old ts new (Ok done) = IsGathered old ts new
Gathers old ts new (Err (Limit limit)) = (limit ≡ ReachedTypes) × ((us : List TypeRef) × IsCrowd old ts us)
Gathers old ts new (Err Memory) = Unit {0}

-- a new list of the object types among `ts`
abbrev pub Begins : List TypeRef → Result (List TypeRef) ReachRefusal → Type 0
Begins ts (Ok new) = IsGathered [] ts new
Begins ts (Err (Limit limit)) = (limit ≡ ReachedTypes) × ((us : List TypeRef) × IsCrowd [] ts us)
Begins ts (Err Memory) = Unit {0}
