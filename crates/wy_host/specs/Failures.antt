-- Failures of the machine's devices, and the count of them.
use Rattle.std.specs.Prelude.{◌≡◌, ◌≤◌, ℕ, Option, Some}
use Rattle.wy_device.specs.declared.device.DeviceError.{DeviceError}
use Rattle.wy_device.specs.declared.device.DeviceError.TheVariants.{Failed}
use Rattle.wy_text.specs.Outside.{Rose}

-- a device's count of faults never falls, and rises where it gives a failure
pub record CountsFailure (old new : ℕ) (error : Option DeviceError) : Type 0 where
  pub counted : old ≤ new
  pub failed : error ≡ Some Failed → Rose old new
