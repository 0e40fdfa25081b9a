-- A call of the top function: what it was given, what it left, and what it read.
use Rattle.std.specs.Prelude.{◌≡◌, ◌≢◌, ◌<◌, ◌≤◌, ◌+◌, ℕ, List, [], ◌++◌, Some, None, Bool, true, false, length, take, drop, map}
use Rattle.wy_text.specs.LimitName.{limit_number}
use Rattle.wy_text.specs.Outside.{gained, Rose, SinkState}
use Rattle.wy_text.specs.Shelf.{ShelfState}
use Rattle.wy_text.specs.declared.limit.LimitName.TheVariants as limit
use Rattle.wy_text.specs.declared.shelf.ReadDone.{ReadDone}
use Rattle.wy_device.specs.Devices.{DevicesState}
use Rattle.wy_settings.specs.Settings.{Settings, settings_of}
use Rattle.wy_settings.specs.declared.command_line.Command.{Command}
use Rattle.wy_settings.specs.declared.command_line.Command.TheVariants as command
use Rattle.wy_engine.specs.declared.status.Status.{Status}
use Rattle.wy_engine.specs.declared.status.Status.TheVariants as status

abbrev pub most_files : ℕ
most_files = limit_number limit.Files

-- the words, what each part of the outside meant before and after the call, and the status
pub record TopCall : Type 0 where
  pub words : List (List ℕ)
  pub shelf : ShelfState
  pub shelf_after : ShelfState
  pub out : SinkState
  pub out_after : SinkState
  pub report : SinkState
  pub report_after : SinkState
  pub devices : DevicesState
  pub devices_after : DevicesState
  pub status : Status

-- the settings of a call are these
abbrev pub IsSet : TopCall → Settings → Type 0
IsSet call settings = settings_of call.words ≡ Some settings

-- whether the words of a command name files
abbrev pub takes_files : Command → Bool
takes_files command.Check = true
takes_files command.Authority = true
takes_files command.Run = true
takes_files command.Trace = true
takes_files command.Sample = false
takes_files command.Format = true
takes_files command.Policy = true
takes_files command.Observe = true
takes_files command.Certify = true
takes_files command.Recheck = true

-- reads of these names, all with this outcome
abbrev pub reads_of : Bool → List (List ℕ) → List ReadDone
reads_of failed names = map (λ name. record { name = name; failed = failed }) names

-- The files were read in the order of their words, each once: so many well, and then at most one badly.
-- The number of an unread file counts from 1.
pub record ReadsInOrder (call : TopCall) (names : List (List ℕ)) : Type 0 where
  pub well : ℕ
  pub badly : List ReadDone
  pub reads : call.shelf_after.reads ≡ gained call.shelf.reads (reads_of false (take well names) ++ badly)
  pub unread : (file : ℕ) → call.status ≡ status.Unread file → (well < length names) × (file ≡ well + 1) × (badly ≡ reads_of true (take 1 (drop well names)))
  pub others : ((file : ℕ) → call.status ≢ status.Unread file) → badly ≡ []
  pub all : call.status ≢ status.Memory → ((file : ℕ) → call.status ≢ status.Unread file) → well ≡ length names

-- nothing was read
pub record ReadsNothing (call : TopCall) : Type 0 where
  pub shelf : call.shelf_after ≡ call.shelf
  pub unread : (file : ℕ) → call.status ≢ status.Unread file

-- what a command reads: the files of its words, and for `sample` nothing
abbrev pub ReadsFor : Command → TopCall → List (List ℕ) → Type 0
ReadsFor command.Sample call names = ReadsNothing call
ReadsFor asked call names = ReadsInOrder call names

-- Which calls end by their words, and which reads were made. The shelf is asked for nothing where the words give no
-- settings, or more files than the limit. Only want of memory may come in the place of what ends such a call.
pub record ReadsFiles (call : TopCall) : Type 0 where
  pub faulty : settings_of call.words ≡ None → (call.status ≢ status.Memory → call.status ≡ status.Usage) × (call.shelf_after ≡ call.shelf)
  pub crowd : call.status ≡ status.Limit limit.Files → (settings : Settings) → IsSet call settings → most_files < length settings.files
  pub crowded : (settings : Settings) → IsSet call settings → most_files < length settings.files → (call.status ≢ status.Memory → call.status ≡ status.Limit limit.Files) × (call.shelf_after ≡ call.shelf)
  pub reads : (settings : Settings) → IsSet call settings → length settings.files ≤ most_files → ReadsFor settings.command call settings.files
  pub counted : (file : ℕ) → call.status ≡ status.Unread file → Rose call.shelf.faults call.shelf_after.faults

-- neither sink was written to, and no device was touched
pub record IsQuiet (call : TopCall) : Type 0 where
  pub out : call.out_after ≡ call.out
  pub report : call.report_after ≡ call.report
  pub devices : call.devices_after ≡ call.devices
