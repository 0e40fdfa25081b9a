-- Which effects the operations of a run have, and that every call that is open at one allows its effect.
use Rattle.std.specs.Prelude.{ℕ, List, [], ◌∷◌, Contains, All, ⊤}
use Rattle.wy_text.specs.declared.fault.AtomName.{AtomName}
use Rattle.wy_device.specs.Operation.{member_of}
use Rattle.wy_device.specs.declared.deed.Deed.{Deed as DeedRecord}
use Rattle.wy_device.specs.declared.deed.Event.{Event}
use Rattle.wy_device.specs.declared.deed.Event.TheVariants.{Enter, Deed, Leave}

-- the effect of a deed: its grant with the member of the method that was called
abbrev pub atom_of : DeedRecord → AtomName
atom_of deed = record { owner = deed.grant; member = member_of deed.op }

-- a body of an instance
pub record Call : Type 0 where
  pub instance : List ℕ
  pub body : List ℕ

-- with these calls open, each deed among the events is in the authority of every call that is open at it
abbrev pub BoundedFrom : (Call → List AtomName) → List Call → List Event → Type 0
BoundedFrom authority calls [] = ⊤
BoundedFrom authority calls (Enter i b ∷ events) = BoundedFrom authority (record { instance = i; body = b } ∷ calls) events
BoundedFrom authority calls (Deed deed ∷ events) = All (λ call. Contains (authority call) (atom_of deed)) calls × BoundedFrom authority calls events
BoundedFrom authority [] (Leave ∷ events) = BoundedFrom authority [] events
BoundedFrom authority (call ∷ calls) (Leave ∷ events) = BoundedFrom authority calls events

abbrev pub Bounded : (Call → List AtomName) → List Event → Type 0
Bounded authority events = BoundedFrom authority [] events
