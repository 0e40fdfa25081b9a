-- What is kept of each instance beside a run, and how an event changes it.
use Rattle.std.specs.Prelude.{ℕ, ◌+◌, List, [], Option, Some, None, ◌-◌, if◌then◌else◌, map, nat_eq, replicate, slice_get, slice_set}
use Rattle.wy_text.specs.declared.fault.AtomName.{AtomName}
use Rattle.wy_meaning.specs.declared.used.Account.{Account}
use Rattle.wy_meaning.specs.Used.{UsedState, place_from, with_place}

abbrev pub no_account : Account
no_account = record { calls = 0; set = [] }

-- nothing was used of this many instances
abbrev pub unused : List AtomName → ℕ → UsedState
unused atoms count = record { atoms = atoms; accounts = replicate count no_account }

-- with this kept of an instance
abbrev pub with_account : ℕ → Account → UsedState → UsedState
with_account instance account used = record used { accounts = slice_set used.accounts instance account }

-- one more call of an instance is open
abbrev pub with_call : Option Account → ℕ → UsedState → UsedState
with_call None instance used = used
with_call (Some account) instance used = with_account instance (record account { calls = account.calls + 1 }) used

abbrev pub entered : ℕ → UsedState → UsedState
entered instance used = with_call (slice_get used.accounts instance) instance used

-- one fewer is
abbrev pub without_call : Option Account → ℕ → UsedState → UsedState
without_call None instance used = used
without_call (Some account) instance used = with_account instance (record account { calls = account.calls - 1 }) used

abbrev pub left : ℕ → UsedState → UsedState
left instance used = without_call (slice_get used.accounts instance) instance used

-- the atom of a place was used of an instance, if a call of it is open
abbrev pub noted : Option ℕ → Account → Account
noted place account = record account { set = if nat_eq account.calls 0 then account.set else with_place place account.set }

abbrev pub performed : AtomName → UsedState → UsedState
performed atom used = record used { accounts = map (noted (place_from 0 used.atoms atom)) used.accounts }
