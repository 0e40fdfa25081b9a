-- What a run says that keeps up what is used of each instance. (docs/LANGUAGE.md, "Observation")
use Rattle.std.specs.Prelude.{◌≡◌, ◌<◌, ◌^◌, ◌-◌, ℕ, Some, Result, Ok, slice_get}
use Rattle.wy_device.specs.Devices.{DevicesState}
use Rattle.wy_meaning.specs.Bounds.{atom_of}
use Rattle.wy_text.specs.Members.{Apart}
use Rattle.wy_meaning.specs.Used.{UsedState, Follows}
use Rattle.wy_meaning.specs.Accounts.{entered, left, performed}
use Rattle.wy_meaning.specs.declared.used.Account.{Account}
use Rattle.wy_code.specs.declared.code.Code.{Code}
use Rattle.wy_machine.specs.declared.run_end.RunEnd.{RunEnd}
use Rattle.wy_machine.specs.Observing.{Told, Entered, Left, Did, instance_names}
use Rattle.wy_machine.specs.Runs.{Runs}

-- what is kept of an instance can count one more call of it
abbrev pub CanCount : UsedState → ℕ → Type 0
CanCount used instance = (account : Account) → slice_get used.accounts instance ≡ Some account → account.calls < 2 ^ 64 - 1

-- what was told is kept
abbrev pub IsUsed : Told → UsedState → UsedState → Type 0
IsUsed (Entered instance name body) used used' = (used'.atoms ≡ used.atoms) × (CanCount used instance → used' ≡ entered instance used)
IsUsed (Left instance) used used' = used' ≡ left instance used
IsUsed (Did deed) used used' = used' ≡ performed (atom_of deed) used

abbrev pub HearsUse : Told → UsedState → UsedState → Result (Unit {0}) RunEnd → Type 0
HearsUse told used used' r = (r ≡ Ok tt) × IsUsed told used used'

-- a run, and what it used of each instance, where their names are apart: what is kept follows the events of this run
pub record RunsObserved (code : Code) (depth k : ℕ) (old new : DevicesState) (used used' : UsedState) (end : RunEnd) : Type 0 where
  pub runs : Runs code depth k old new end
  pub atoms : used'.atoms ≡ used.atoms
  pub follows : Apart (instance_names code) → Follows (instance_names code) runs.events used'
