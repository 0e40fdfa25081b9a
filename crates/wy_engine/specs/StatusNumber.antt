-- The number of each status, and the status of words that give no settings.
use Rattle.std.specs.Prelude.{ℕ}
use Rattle.wy_settings.specs.declared.command_line.SettingsRefusal.{SettingsRefusal}
use Rattle.wy_settings.specs.declared.command_line.SettingsRefusal.TheVariants as words
use Rattle.wy_engine.specs.declared.status.Status.{Status}
use Rattle.wy_engine.specs.declared.status.Status.TheVariants as status

-- the number that the program ends with
abbrev pub number_of : Status → ℕ
number_of status.Ended = 0
number_of status.Usage = 1
number_of (status.Unread file) = 2
number_of (status.Syntax place kind) = 3
number_of (status.Refused fault) = 4
number_of (status.Limit name) = 5
number_of (status.Trap kind place) = 6
number_of status.TooDeep = 7
number_of status.Spent = 8
number_of (status.DeviceFailed grant op) = 9
number_of status.Unwritten = 10
number_of status.Memory = 11
number_of (status.BadCert at) = 14
number_of (status.Unproved scope test index) = 15
number_of (status.Denied line instance atom) = 16
number_of (status.BadPolicy line) = 17

-- the status of words that give no settings
abbrev pub refusal_status : SettingsRefusal → Status
refusal_status words.Usage = status.Usage
refusal_status words.Memory = status.Memory
