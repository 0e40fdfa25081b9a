-- What a device means.
use Rattle.std.specs.Prelude.{◌≡◌, ℕ, ◌≤◌, List, [], ◌∷◌, Option, Some, None, Result, Err, IfOk, length, ⊤}
use Rattle.wy_device.specs.declared.operation.Op.{Op}
use Rattle.wy_device.specs.declared.operation.OpName.{OpName}
use Rattle.wy_device.specs.declared.operation.OpName.TheVariants.{ConsoleRead, ConsoleWrite, FolderRead, FolderHas, FolderWrite, FolderAppend, FolderNames, ClockNow, RandomWord, FolderRemove}
use Rattle.wy_device.specs.declared.operation.Answer.{Answer}
use Rattle.wy_device.specs.declared.operation.Answer.TheVariants.{Bytes, Truth, Number, Unit as Done}
use Rattle.wy_device.specs.declared.deed.Deed.{Deed}
use Rattle.wy_device.specs.declared.device.DeviceError.{DeviceError}
use Rattle.wy_device.specs.declared.device.DeviceError.TheVariants.{Failed, Memory}
use Rattle.wy_device.specs.Operation.{name_of}
use Rattle.wy_device.specs.Traps.{text_limit}
use Rattle.wy_text.specs.Outside.{gained, Rose}
use Rattle.wy_device.specs.DeviceState.{DeviceState}

-- the deeds of a device that keeps them to itself
abbrev pub untold : Option (List Deed)
untold = None

-- bytes of at most this length
abbrev pub IsBytesUpTo : ℕ → Answer → Type 0
IsBytesUpTo most (Bytes text) = length text ≤ most
IsBytesUpTo most (Truth truth) = ⊥
IsBytesUpTo most (Number number) = ⊥
IsBytesUpTo most Done = ⊥

abbrev pub IsTruth : Answer → Type 0
IsTruth (Bytes text) = ⊥
IsTruth (Truth truth) = ⊤
IsTruth (Number number) = ⊥
IsTruth Done = ⊥

abbrev pub IsNumber : Answer → Type 0
IsNumber (Bytes text) = ⊥
IsNumber (Truth truth) = ⊥
IsNumber (Number number) = ⊤
IsNumber Done = ⊥

-- an answer that the operation of a name may have
abbrev pub IsAnswerNamed : OpName → Answer → Type 0
IsAnswerNamed ConsoleRead answer = IsBytesUpTo 65536 answer
IsAnswerNamed ConsoleWrite answer = answer ≡ Done
IsAnswerNamed FolderRead answer = IsBytesUpTo text_limit answer
IsAnswerNamed FolderHas answer = IsTruth answer
IsAnswerNamed FolderWrite answer = answer ≡ Done
IsAnswerNamed FolderAppend answer = answer ≡ Done
IsAnswerNamed FolderNames answer = IsBytesUpTo text_limit answer
IsAnswerNamed ClockNow answer = IsNumber answer
IsAnswerNamed RandomWord answer = IsNumber answer
IsAnswerNamed FolderRemove answer = answer ≡ Done

-- an answer of the operation's kind, within its length
abbrev pub IsAnswerOf : Op → Answer → Type 0
IsAnswerOf op answer = IsAnswerNamed (name_of op) answer

-- the deed of an operation that was answered, and of one that failed
abbrev pub deed_done : List ℕ → Op → Answer → List Deed
deed_done grant op answer = record { grant = grant; op = op; answer = Some answer } ∷ []

abbrev pub deed_failed : List ℕ → Op → List Deed
deed_failed grant op = record { grant = grant; op = op; answer = None } ∷ []

-- a device did an operation for a grant: an answer is of the operation's kind, it and a failure each add their deed, want of
-- memory adds none, and the count of faults never falls, and rises at a failure
pub record Performs (old new : DeviceState) (grant : List ℕ) (op : Op) (result : Result Answer DeviceError) : Type 0 where
  pub same_kind : new.kind ≡ old.kind
  pub answer : IfOk result (IsAnswerOf op)
  pub done : IfOk result (λ answer. new.deeds ≡ gained old.deeds (deed_done grant op answer))
  pub bad : result ≡ Err Failed → new.deeds ≡ gained old.deeds (deed_failed grant op)
  pub none : result ≡ Err Memory → new.deeds ≡ old.deeds
  pub counted : old.faults ≤ new.faults
  pub failed : result ≡ Err Failed → Rose old.faults new.faults
