-- The answers of the devices in a run.
use Rattle.std.specs.Prelude.{List, [], ◌++◌, Option, Some, None, length, drop, map}
use Rattle.wy_device.specs.Devices.{DevicesState, device_of}
use Rattle.wy_device.specs.declared.operation.Kind.{Kind}
use Rattle.wy_device.specs.declared.operation.Kind.TheVariants.{Console, Folder, Clock, Random}
use Rattle.wy_device.specs.declared.operation.Answer.{Answer}
use Rattle.wy_device.specs.declared.deed.Deed.{Deed}

-- for each kind of device the answers that are still to come; None is a failure
pub record Tapes : Type 0 where
  pub console : List (Option Answer)
  pub folder : List (Option Answer)
  pub clock : List (Option Answer)
  pub random : List (Option Answer)

-- tapes that begin with these and go on
abbrev pub spliced : Tapes → Tapes → Tapes
spliced first more = record {
  console = first.console ++ more.console;
  folder = first.folder ++ more.folder;
  clock = first.clock ++ more.clock;
  random = first.random ++ more.random;
}

-- the deeds that a device did between two of its states, where it tells them
abbrev pub new_deeds : Option (List Deed) → Option (List Deed) → List Deed
new_deeds None after = []
new_deeds (Some before) None = []
new_deeds (Some before) (Some after) = drop (length before) after

abbrev pub new_deeds_of : Kind → DevicesState → DevicesState → List Deed
new_deeds_of kind old new = new_deeds (device_of old kind).deeds (device_of new kind).deeds

abbrev pub answers : List Deed → List (Option Answer)
answers deeds = map (λ deed. deed.answer) deeds

-- the answers that the devices gave between two states
abbrev pub tapes_between : DevicesState → DevicesState → Tapes
tapes_between old new = record {
  console = answers (new_deeds_of Console old new);
  folder = answers (new_deeds_of Folder old new);
  clock = answers (new_deeds_of Clock old new);
  random = answers (new_deeds_of Random old new);
}
