-- What was used of each instance in some events: the atoms of the deeds that came while a call of it was open.
-- (docs/LANGUAGE.md, "Observation")
use Rattle.std.specs.Prelude.{◌≡◌, ◌↔◌, ℕ, ◌+◌, Bool, true, false, List, [], ◌∷◌, ◌++◌, Option, Some, None, bytes_eq, ◌&&◌, if◌then◌else◌, map}
use Rattle.wy_text.specs.declared.fault.AtomName.{AtomName}
use Rattle.wy_device.specs.declared.deed.Deed.{Deed as DeedRecord}
use Rattle.wy_device.specs.declared.deed.Event.{Event}
use Rattle.wy_device.specs.declared.deed.Event.TheVariants.{Enter, Deed, Leave}
use Rattle.wy_effects.specs.EffSet.{insert_atom}
use Rattle.wy_text.specs.Members.{In}
use Rattle.wy_meaning.specs.Bounds.{Call, atom_of}
use Rattle.wy_meaning.specs.OpenCalls.{open_after}
use Rattle.wy_meaning.specs.declared.used.Account.{Account}

-- how many of these calls are calls of the instance
abbrev pub calls_of : List ℕ → List Call → ℕ
calls_of instance [] = 0
calls_of instance (call ∷ calls) = if bytes_eq call.instance instance then calls_of instance calls + 1 else calls_of instance calls

-- whether there is one
abbrev pub is_open : List ℕ → List Call → Bool
is_open instance [] = false
is_open instance (call ∷ calls) = if bytes_eq call.instance instance then true else is_open instance calls

-- the atoms of the deeds that come while a call of the instance is open, in their order; with these calls open before
abbrev pub used_from : List ℕ → List Call → List Event → List AtomName
used_from instance calls [] = []
used_from instance calls (Enter i b ∷ events) = used_from instance (record { instance = i; body = b } ∷ calls) events
used_from instance calls (Deed deed ∷ events) = if is_open instance calls then atom_of deed ∷ used_from instance calls events else used_from instance calls events
used_from instance [] (Leave ∷ events) = used_from instance [] events
used_from instance (call ∷ calls) (Leave ∷ events) = used_from instance calls events

abbrev pub used_of : List ℕ → List Event → List AtomName
used_of instance events = used_from instance [] events

-- an atom was used of an instance: it is a deed's, and a call of the instance was open at it
pub record IsUsed (instance : List ℕ) (events : List Event) (atom : AtomName) : Type 0 where
  pub before : List Event
  pub deed : DeedRecord
  pub after : List Event
  pub split : events ≡ before ++ Deed deed ∷ after
  pub open_then : is_open instance (open_after [] before) ≡ true
  pub is : atom ≡ atom_of deed

-- the recursion over events says this
abbrev pub IsSaidOfEachUse : List ℕ → List Event → AtomName → Type 0
IsSaidOfEachUse instance events atom = In atom (used_of instance events) ↔ IsUsed instance events atom

------------------------------------------------------------
-- As sets of numbers

abbrev pub same_atom : AtomName → AtomName → Bool
same_atom a b = bytes_eq a.owner b.owner && bytes_eq a.member b.member

-- the first place of an atom among names, counted from this number; None where it is not among them
abbrev pub place_from : ℕ → List AtomName → AtomName → Option ℕ
place_from k [] atom = None
place_from k (name ∷ names) atom = if same_atom name atom then Some k else place_from (k + 1) names atom

-- the set with one more number, where there is one
abbrev pub with_place : Option ℕ → List ℕ → List ℕ
with_place None set = set
with_place (Some place) set = insert_atom place set

-- the set with the places of these atoms
abbrev pub with_places : List AtomName → List AtomName → List ℕ → List ℕ
with_places names [] set = set
with_places names (atom ∷ atoms) set = with_places names atoms (with_place (place_from 0 names atom) set)

-- the places, among these names, of the atoms that were used of an instance
abbrev pub used_set : List AtomName → List Event → List ℕ → List ℕ
used_set names events instance = with_places names (used_of instance events) []

------------------------------------------------------------
-- Beside a run

-- the names of atoms, and of each instance how many calls of it are open and what was used of it
pub record UsedState : Type 0 where
  pub atoms : List AtomName
  pub accounts : List Account

-- what there is to say of an instance after some events
abbrev pub account_of : List AtomName → List Event → List ℕ → Account
account_of atoms events instance = record { calls = calls_of instance (open_after [] events); set = used_set atoms events instance }

-- what is kept of these instances, in their order, is what there is to say after these events
pub record Follows (instances : List (List ℕ)) (events : List Event) (used : UsedState) : Type 0 where
  pub accounts : used.accounts ≡ map (account_of used.atoms events) instances
