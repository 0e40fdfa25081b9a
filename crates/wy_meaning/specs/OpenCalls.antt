-- The calls that are open after some events, and what `Bounded` says of each deed by itself.
-- (docs/LANGUAGE.md, "Events")
use Rattle.std.specs.Prelude.{◌≡◌, List, [], ◌∷◌, ◌++◌, Contains, All, ◌↔◌}
use Rattle.wy_text.specs.declared.fault.AtomName.{AtomName}
use Rattle.wy_device.specs.declared.deed.Deed.{Deed as DeedRecord}
use Rattle.wy_device.specs.declared.deed.Event.{Event}
use Rattle.wy_device.specs.declared.deed.Event.TheVariants.{Enter, Deed, Leave}
use Rattle.wy_meaning.specs.Bounds.{Call, atom_of, Bounded}

-- with these calls open before, the latest first: an Enter opens a call, and a Leave closes the latest
abbrev pub open_after : List Call → List Event → List Call
open_after calls [] = calls
open_after calls (Enter i b ∷ events) = open_after (record { instance = i; body = b } ∷ calls) events
open_after calls (Deed deed ∷ events) = open_after calls events
open_after [] (Leave ∷ events) = open_after [] events
open_after (call ∷ calls) (Leave ∷ events) = open_after calls events

-- each deed is in the authority of every call that is open at it
abbrev pub IsBoundedAtEachDeed : (Call → List AtomName) → List Event → Type 0
IsBoundedAtEachDeed authority events =
    (before after : List Event) (deed : DeedRecord) → events ≡ before ++ Deed deed ∷ after →
    All (λ call. Contains (authority call) (atom_of deed)) (open_after [] before)

-- the recursion that says what is bounded says this
abbrev pub IsSaidOfEachDeed : (Call → List AtomName) → List Event → Type 0
IsSaidOfEachDeed authority events = Bounded authority events ↔ IsBoundedAtEachDeed authority events

-- what was bounded up to some events stays so without those after them
abbrev pub BoundsBeginnings : (Call → List AtomName) → Type 0
BoundsBeginnings authority = (before after : List Event) → Bounded authority (before ++ after) → Bounded authority before
