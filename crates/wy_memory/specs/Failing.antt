-- What a device in memory does at the calls that it was told to fail.
use Rattle.std.specs.Prelude.{◌≡◌, ℕ, List, Result, Ok, Err, OnOk, Contains}
use Rattle.wy_device.specs.declared.device.DeviceError.{DeviceError}
use Rattle.wy_device.specs.declared.device.DeviceError.TheVariants.{Failed, Memory}
use Rattle.wy_device.specs.declared.operation.Answer.{Answer}
use Rattle.wy_text.specs.Outside.{next_count}

-- the count of faults after an answer of a device in memory: one more exactly where it failed
abbrev pub faults_after : Result Answer DeviceError → ℕ → ℕ
faults_after (Ok answer) faults = faults
faults_after (Err Failed) faults = next_count faults
faults_after (Err Memory) faults = faults

-- a device in memory was asked: it answers no call that it was told to fail, counts the call, keeps the list of those that are
-- to fail, and counts a fault exactly where it failed
pub record FailsAsTold (old_fails : List ℕ) (old_calls old_faults : ℕ) (new_fails : List ℕ) (new_calls new_faults : ℕ) (result : Result Answer DeviceError) : Type 0 where
  pub call : new_calls ≡ next_count old_calls
  pub served : OnOk result (¬ Contains old_fails (next_count old_calls))
  pub same_list : new_fails ≡ old_fails
  pub faults : new_faults ≡ faults_after result old_faults
