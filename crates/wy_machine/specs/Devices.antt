-- The four devices that are handed in.
use Rattle.wy_device.specs.DeviceState.{DeviceState}
use Rattle.wy_device.specs.Devices.{DevicesState}
use Rattle.wy_machine.specs.declared.devices.Devices.{Devices}

-- what four devices mean, where each means what the function says
abbrev pub states : {D : Type 0} → (D → DeviceState) → Devices D → DevicesState
states state d = record { console = state d.console; folder = state d.folder; clock = state d.clock; random = state d.random }
