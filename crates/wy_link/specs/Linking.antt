-- The start list of a program.
use Rattle.std.specs.Prelude.{◌≡◌, ℕ, ◌+◌, ◌<◌, ◌≤◌, List, [], ◌∷◌, ◌++◌, length, codes, slice_get, Result, Ok, Err}
use Rattle.wy_text.specs.declared.limit.LimitName.TheVariants.{Instances}
use Rattle.wy_types.specs.Program.{Program}
use Rattle.wy_types.specs.declared.linked.Instance.{Instance}
use Rattle.wy_types.specs.declared.linked.Actual.TheVariants as actual
use Rattle.wy_types.specs.declared.resolved.Origin.{Origin}
use Rattle.wy_types.specs.declared.resolved.Origin.TheVariants.{Parameter, Grant, Use, Instance as InstanceLine, Import}
use Rattle.wy_types.specs.declared.resolved.OwnName.{OwnName}
use Rattle.wy_types.specs.Ground.{Visited, members_of, names_of, visit, start_list, program_sets}
use Rattle.wy_rules.specs.Ends.{StartsTooMany}
use Rattle.wy_link.specs.declared.linking.Links.{Links}
use Rattle.wy_link.specs.declared.linking.Settled.{Settled}
use Rattle.wy_link.specs.declared.linking.LinkRefusal.{LinkRefusal}
use Rattle.wy_link.specs.declared.linking.LinkRefusal.TheVariants.{Limit, Memory}

-- the instances in start order, within the limit, and the ground sets of the program's own atoms
pub record IsLinked (p : Program) (l : Links) : Type 0 where
  pub instances : l.instances ≡ start_list p
  pub sets : l.sets ≡ program_sets p
  pub few : length (start_list p) ≤ 1024

abbrev pub IsLinkRefusal : Program → LinkRefusal → Type 0
IsLinkRefusal p (Limit name) = (name ≡ Instances) × StartsTooMany p
IsLinkRefusal p Memory = Unit {0}

------------------------------------------------------------
-- Room for grants

module _ (p : Program) where
  -- the own name can be settled where so many own names and sets are settled before it: a grant has a number and its atoms have, and a line is of a module
  abbrev pub CanSettle : OwnName → Origin → ℕ → ℕ → Type 0
  CanSettle n (Parameter bare) names sets = Unit {0}
  CanSettle n Grant names sets = (names < 65536) × (sets + length (members_of p n.typ) ≤ 512)
  CanSettle n (Use m) names sets = Unit {0}
  CanSettle n (InstanceLine m arguments) names sets = m + 1 < length p.scopes
  CanSettle n (Import m arguments bound) names sets = m + 1 < length p.scopes

  -- .. and then the rest: behind a grant by the numbers that it leaves, and behind another name whatever numbers are settled by then
  abbrev pub CanSettleRest : OwnName → Origin → (ℕ → ℕ → Type 0) → ℕ → ℕ → Type 0
  CanSettleRest n (Parameter bare) rest names sets = (a s : ℕ) → rest a s
  CanSettleRest n Grant rest names sets = rest (names + 1) (sets + length (members_of p n.typ))
  CanSettleRest n (Use m) rest names sets = (a s : ℕ) → rest a s
  CanSettleRest n (InstanceLine m arguments) rest names sets = (a s : ℕ) → rest a s
  CanSettleRest n (Import m arguments bound) rest names sets = (a s : ℕ) → rest a s

  -- so it is for own names one after the other
  abbrev pub CanSettleAll : List OwnName → ℕ → ℕ → Type 0
  CanSettleAll [] names sets = Unit {0}
  CanSettleAll (n ∷ ns) names sets = CanSettle n n.origin names sets × CanSettleRest n n.origin (CanSettleAll ns) names sets

------------------------------------------------------------
-- Visits

-- what visits have come to: the instances so far, and what is settled of the scope that is visited
abbrev pub visited : List Instance → Settled → Visited
visited started own = record { started = started; actuals = own.actuals; sets = own.sets }

-- visits come to this, within the limit, or they are refused because of it
abbrev pub ComesTo : Visited → List Instance → Settled → Result (Unit {0}) LinkRefusal → Type 0
ComesTo v started own (Ok u) = (visited started own ≡ v) × (length started ≤ 1024)
ComesTo v started own (Err (Limit name)) = (name ≡ Instances) × (1024 < length v.started)
ComesTo v started own (Err Memory) = Unit {0}

-- the visit of the module of a line of this name, whose own instances are named with the line's name
abbrev pub module_visit : Program → ℕ → List ℕ → List ℕ → ℕ → Visited → Visited
module_visit p k prefix name m v = (let names = names_of (slice_get p.scopes m) in visit p k names (prefix ++ (name ++ codes ".")) names v)

-- an instance that is added last, and the own name that stands for it
abbrev pub with_instance : Visited → Instance → Visited
with_instance v i = record { started = v.started ++ i ∷ []; actuals = v.actuals ++ actual.Instance (length v.started) ∷ []; sets = v.sets }
