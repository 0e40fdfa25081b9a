-- The four devices of a run.
use Rattle.std.specs.Prelude.{◌≡◌}
use Rattle.wy_device.specs.DeviceState.{DeviceState}
use Rattle.wy_device.specs.declared.operation.Kind.{Kind}
use Rattle.wy_device.specs.declared.operation.Kind.TheVariants.{Console, Folder, Clock, Random}

-- what the device of each kind means
pub record DevicesState : Type 0 where
  pub console : DeviceState
  pub folder : DeviceState
  pub clock : DeviceState
  pub random : DeviceState

abbrev pub device_of : DevicesState → Kind → DeviceState
device_of d Console = d.console
device_of d Folder = d.folder
device_of d Clock = d.clock
device_of d Random = d.random

-- each device is of the kind of its place
pub record IsInOrder (d : DevicesState) : Type 0 where
  pub console : d.console.kind ≡ Console
  pub folder : d.folder.kind ≡ Folder
  pub clock : d.clock.kind ≡ Clock
  pub random : d.random.kind ≡ Random
