-- The events of a run, and the deeds among them.
use Rattle.std.specs.Prelude.{◌≡◌, List, [], ◌∷◌, Bool, true, false, if◌then◌else◌, IsSome}
use Rattle.wy_text.specs.Outside.{gained}
use Rattle.wy_device.specs.Devices.{DevicesState}
use Rattle.wy_device.specs.Operation.{kind_of}
use Rattle.wy_device.specs.declared.operation.Kind.{Kind}
use Rattle.wy_device.specs.declared.operation.Kind.TheVariants.{Console, Folder, Clock, Random}
use Rattle.wy_device.specs.declared.deed.Deed.{Deed as DeedRecord}
use Rattle.wy_device.specs.declared.deed.Event.{Event}
use Rattle.wy_device.specs.declared.deed.Event.TheVariants.{Enter, Deed, Leave}

abbrev pub same_kind : Kind → Kind → Bool
same_kind Console Console = true
same_kind Folder Folder = true
same_kind Clock Clock = true
same_kind Random Random = true
same_kind _ _ = false

-- the deeds of a kind among events, in order
abbrev pub deeds_of : Kind → List Event → List DeedRecord
deeds_of kind [] = []
deeds_of kind (Enter instance body ∷ events) = deeds_of kind events
deeds_of kind (Deed deed ∷ events) = if same_kind kind (kind_of deed.op) then deed ∷ deeds_of kind events else deeds_of kind events
deeds_of kind (Leave ∷ events) = deeds_of kind events

-- each device's deeds grew by exactly those of its kind among these events
pub record DidExactly (old new : DevicesState) (events : List Event) : Type 0 where
  pub console : new.console.deeds ≡ gained old.console.deeds (deeds_of Console events)
  pub folder : new.folder.deeds ≡ gained old.folder.deeds (deeds_of Folder events)
  pub clock : new.clock.deeds ≡ gained old.clock.deeds (deeds_of Clock events)
  pub random : new.random.deeds ≡ gained old.random.deeds (deeds_of Random events)

-- every device tells its deeds
pub record TellsDeeds (d : DevicesState) : Type 0 where
  pub console : IsSome d.console.deeds
  pub folder : IsSome d.folder.deeds
  pub clock : IsSome d.clock.deeds
  pub random : IsSome d.random.deeds
