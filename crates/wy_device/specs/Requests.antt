-- Operations on grants: which one a method asks for, what traps before a device is asked, and what a tape
-- answers. (docs/LANGUAGE.md, "Operations on grants")
use Rattle.std.specs.Prelude.{ℕ, ◌==◌, nat_le, Bool, true, false, not, ◌&&◌, ◌||◌, List, [], ◌∷◌, ◌++◌, length, Option, Some, None, bytes_eq, if◌then◌else◌}
use Rattle.std.specs.List.{flat_map}
use Rattle.wy_device.specs.Operation.{name_of, kind_of, method_text}
use Rattle.wy_device.specs.Primitives.{operations_of}
use Rattle.wy_device.specs.Tapes.{Tapes}
use Rattle.wy_device.specs.Traps.{text_limit}
use Rattle.wy_device.specs.declared.operation.Kind.{Kind}
use Rattle.wy_device.specs.declared.operation.Kind.TheVariants.{Console, Folder, Clock, Random}
use Rattle.wy_device.specs.declared.operation.Op.{Op}
use Rattle.wy_device.specs.declared.operation.Op.TheVariants.{ConsoleRead, ConsoleWrite, FolderRead, FolderHas, FolderWrite, FolderAppend, FolderNames, ClockNow, RandomWord, FolderRemove}
use Rattle.wy_device.specs.declared.operation.OpName.{OpName}
use Rattle.wy_device.specs.declared.operation.OpName.TheVariants as name
use Rattle.wy_device.specs.declared.operation.Answer.{Answer}
use Rattle.wy_device.specs.declared.operation.Answer.TheVariants.{Bytes, Truth, Number, Unit as Done}
use Rattle.wy_device.specs.declared.primitive.Primitive.{Primitive}

abbrev pub operation_called : List ℕ → List OpName → Option OpName
operation_called method [] = None
operation_called method (o ∷ os) = if bytes_eq (method_text o) method then Some o else operation_called method os

-- the operation with these texts as its arguments, where it takes as many
abbrev pub operation_on : OpName → List (List ℕ) → Option Op
operation_on name.ConsoleRead [] = Some ConsoleRead
operation_on name.ConsoleWrite (text ∷ []) = Some (ConsoleWrite text)
operation_on name.FolderRead (file ∷ []) = Some (FolderRead file)
operation_on name.FolderHas (file ∷ []) = Some (FolderHas file)
operation_on name.FolderWrite (file ∷ text ∷ []) = Some (FolderWrite file text)
operation_on name.FolderAppend (file ∷ text ∷ []) = Some (FolderAppend file text)
operation_on name.FolderNames [] = Some FolderNames
operation_on name.ClockNow [] = Some ClockNow
operation_on name.RandomWord [] = Some RandomWord
operation_on name.FolderRemove (file ∷ []) = Some (FolderRemove file)
operation_on _ _ = None

abbrev pub operation_given : Option OpName → List (List ℕ) → Option Op
operation_given None texts = None
operation_given (Some o) texts = operation_on o texts

-- what a method of a primitive type asks for
abbrev pub operation_of : Primitive → List ℕ → List (List ℕ) → Option Op
operation_of primitive method texts = operation_given (operation_called method (operations_of primitive)) texts

-- `a` to `z`, `0` to `9`, `.`, `_` and `-`
abbrev pub is_name_byte : ℕ → Bool
is_name_byte b = (nat_le 97 b && nat_le b 122) || (nat_le 48 b && nat_le b 57) || (b == 46) || (b == 95) || (b == 45)

abbrev pub are_name_bytes : List ℕ → Bool
are_name_bytes [] = true
are_name_bytes (b ∷ bs) = is_name_byte b && are_name_bytes bs

-- 1 to 64 such bytes, the first of which is no full stop
abbrev pub is_file_name : List ℕ → Bool
is_file_name [] = false
is_file_name (b ∷ bs) = not (b == 46) && are_name_bytes (b ∷ bs) && nat_le (length (b ∷ bs)) 64

-- names, each followed by a newline, as a folder lists its files
abbrev pub in_lines : List (List ℕ) → List ℕ
in_lines names = flat_map (λ name. name ++ 10 ∷ []) names

-- each name that the operation has is a file's
abbrev pub has_good_name : Op → Bool
has_good_name (FolderRead file) = is_file_name file
has_good_name (FolderHas file) = is_file_name file
has_good_name (FolderWrite file text) = is_file_name file
has_good_name (FolderAppend file text) = is_file_name file
has_good_name ConsoleRead = true
has_good_name (ConsoleWrite text) = true
has_good_name FolderNames = true
has_good_name ClockNow = true
has_good_name RandomWord = true
has_good_name (FolderRemove file) = is_file_name file

-- the operation is answered by a text
abbrev pub answers_text : Op → Bool
answers_text ConsoleRead = true
answers_text (FolderRead file) = true
answers_text FolderNames = true
answers_text (ConsoleWrite text) = false
answers_text (FolderHas file) = false
answers_text (FolderWrite file text) = false
answers_text (FolderAppend file text) = false
answers_text ClockNow = false
answers_text RandomWord = false
answers_text (FolderRemove file) = false

abbrev pub is_text_up_to : ℕ → Answer → Bool
is_text_up_to most (Bytes text) = nat_le (length text) most
is_text_up_to most (Truth truth) = false
is_text_up_to most (Number number) = false
is_text_up_to most Done = false

abbrev pub is_truth : Answer → Bool
is_truth (Truth truth) = true
is_truth (Bytes text) = false
is_truth (Number number) = false
is_truth Done = false

abbrev pub is_number : Answer → Bool
is_number (Number number) = true
is_number (Bytes text) = false
is_number (Truth truth) = false
is_number Done = false

abbrev pub is_done : Answer → Bool
is_done Done = true
is_done (Bytes text) = false
is_done (Truth truth) = false
is_done (Number number) = false

-- the answer is of the operation's kind, and within its length, where a text has so many bytes at most
abbrev pub fits_within : ℕ → OpName → Answer → Bool
fits_within most name.ConsoleRead answer = is_text_up_to 65536 answer
fits_within most name.ConsoleWrite answer = is_done answer
fits_within most name.FolderRead answer = is_text_up_to most answer
fits_within most name.FolderHas answer = is_truth answer
fits_within most name.FolderWrite answer = is_done answer
fits_within most name.FolderAppend answer = is_done answer
fits_within most name.FolderNames answer = is_text_up_to most answer
fits_within most name.ClockNow answer = is_number answer
fits_within most name.RandomWord answer = is_number answer
fits_within most name.FolderRemove answer = is_done answer

-- an answer, or a failure, and the tapes after it; or there is none that the operation can take
pub data Told : Type 0 where
  Answers : Answer → Tapes → Told
  Fails : Tapes → Told
  Waits : Told

abbrev pub tape_of : Kind → Tapes → List (Option Answer)
tape_of Console tapes = tapes.console
tape_of Folder tapes = tapes.folder
tape_of Clock tapes = tapes.clock
tape_of Random tapes = tapes.random

abbrev pub with_tape : Kind → List (Option Answer) → Tapes → Tapes
with_tape Console tape tapes = record tapes { console = tape }
with_tape Folder tape tapes = record tapes { folder = tape }
with_tape Clock tape tapes = record tapes { clock = tape }
with_tape Random tape tapes = record tapes { random = tape }

abbrev pub told_by : ℕ → OpName → Kind → List (Option Answer) → Tapes → Told
told_by most o kind [] tapes = Waits
told_by most o kind (None ∷ tape) tapes = Fails (with_tape kind tape tapes)
told_by most o kind (Some answer ∷ tape) tapes = if fits_within most o answer then Answers answer (with_tape kind tape tapes) else Waits

-- what the tape of the operation's kind tells, where a text has so many bytes at most
abbrev pub asked_within : ℕ → Op → Tapes → Told
asked_within most op tapes = told_by most (name_of op) (kind_of op) (tape_of (kind_of op) tapes) tapes

-- and what it tells a machine
abbrev pub asked : Op → Tapes → Told
asked op tapes = asked_within text_limit op tapes
