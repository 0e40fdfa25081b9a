-- What a device means at a moment.
use Rattle.std.specs.Prelude.{ℕ, List, Option}
use Rattle.wy_device.specs.declared.operation.Kind.{Kind}
use Rattle.wy_device.specs.declared.deed.Deed.{Deed}

-- a device's kind, its deeds, where it tells them, and its count of faults
pub record DeviceState : Type 0 where
  pub kind : Kind
  pub deeds : Option (List Deed)
  pub faults : ℕ
