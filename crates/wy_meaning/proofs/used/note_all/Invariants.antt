use Rattle.std.proofs.Common.{◌≡◌, map, take, drop}
use Rattle.wy_meaning.specs.Accounts.{noted}
use Rattle.wy_meaning.proofs.used.note_all.Given as goal

-- the accounts before the place are noted, and those from there on are as they were
abbrev pub invariant-loop-account : goal.invariant-loop-account
invariant-loop-account l = (take l.account-index l.accounts ≡ map (noted l.place) (take l.account-index l.initial.accounts)) × (drop l.account-index l.accounts ≡ drop l.account-index l.initial.accounts)
