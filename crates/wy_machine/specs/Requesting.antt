-- The texts that a request is made with.
use Rattle.std.specs.Prelude.{◌≡◌, ◌+◌, ◌-◌, ℕ, drop, length, Bool, true, false, not, ◌&&◌, nat_lt, List, [], ◌∷◌, ◌++◌, reverse, take, Option, Some, None, slice_get, if◌then◌else◌}
use Rattle.wy_device.specs.Tapes.{Tapes}
use Rattle.wy_code.specs.declared.code.Code.{Code}
use Rattle.wy_code.specs.declared.code.Grant.{Grant as CodeGrant}
use Rattle.wy_code.specs.Operations.{operand_text, texts_named}
use Rattle.wy_device.specs.Traps.{most_texts}
use Rattle.wy_machine.specs.declared.run_end.TrapKind.{TrapKind}
use Rattle.wy_machine.specs.declared.run_end.TrapKind.TheVariants.{BadName, Crowded}
use Rattle.wy_machine.specs.Stacks.{pushed, with_operands}
use Rattle.wy_machine.specs.OpenBodies.{StackState}
use Rattle.wy_machine.specs.States.{store_of}
use Rattle.wy_machine.specs.StoreState.{StoreState}
use Rattle.wy_device.specs.declared.operation.Answer.{Answer}
use Rattle.wy_device.specs.declared.operation.Answer.TheVariants as answer
use Rattle.wy_device.specs.Primitives.{operations_of}
use Rattle.wy_device.specs.declared.primitive.Primitive.{Primitive}
use Rattle.wy_device.specs.declared.operation.Op.{Op}
use Rattle.wy_device.specs.declared.operation.OpName.{OpName}
use Rattle.wy_device.specs.declared.operation.OpName.TheVariants as name
use Rattle.wy_device.specs.Requests.{operation_called, operation_of, operation_on, is_file_name}
use Rattle.wy_code.specs.Stores.{Word, Int, Truth, Nothing, Text, Grant, Store, operand}

-- texts after these, where they are there
abbrev pub after_texts : List (List ℕ) → Option (List (List ℕ)) → Option (List (List ℕ))
after_texts first None = None
after_texts first (Some more) = Some (first ++ more)

-- what a method of a primitive type asks for with these texts, where they are there
abbrev pub asked_for : Primitive → List ℕ → Option (List (List ℕ)) → Option Op
asked_for primitive method None = None
asked_for primitive method (Some texts) = operation_of primitive method texts

-- an operation with these texts, where they are there
abbrev pub operation_with : OpName → Option (List (List ℕ)) → Option Op
operation_with o None = None
operation_with o (Some texts) = operation_on o texts

-- the text that the first of these words names
abbrev pub first_text : Store → List Word → Option (List ℕ)
first_text w [] = None
first_text w (v ∷ vs) = operand_text (operand w v)

abbrev pub names_file : Option (List ℕ) → Bool
names_file None = false
names_file (Some text) = is_file_name text

-- the first text that an operation is given is a file's name, where it takes one
abbrev pub is_well_named : OpName → Option (List ℕ) → Bool
is_well_named name.FolderRead first = names_file first
is_well_named name.FolderHas first = names_file first
is_well_named name.FolderWrite first = names_file first
is_well_named name.FolderAppend first = names_file first
is_well_named name.ConsoleRead first = true
is_well_named name.ConsoleWrite first = true
is_well_named name.FolderNames first = true
is_well_named name.ClockNow first = true
is_well_named name.RandomWord first = true
is_well_named name.FolderRemove first = names_file first

-- an operation of this name is answered by a text
abbrev pub is_answered_by_text : OpName → Bool
is_answered_by_text name.ConsoleRead = true
is_answered_by_text name.FolderRead = true
is_answered_by_text name.FolderNames = true
is_answered_by_text name.ConsoleWrite = false
is_answered_by_text name.FolderHas = false
is_answered_by_text name.FolderWrite = false
is_answered_by_text name.FolderAppend = false
is_answered_by_text name.ClockNow = false
is_answered_by_text name.RandomWord = false
is_answered_by_text name.FolderRemove = false

-- why an operation with this first text is refused before memory is taken for it, where so many texts are built: the
-- text is no file's name, or one text too many would be built
abbrev pub refused : OpName → Option (List ℕ) → ℕ → Option TrapKind
refused o first built =
    if not (is_well_named o first) then Some BadName
    else if is_answered_by_text o && not (nat_lt built most_texts) then Some Crowded
    else None

-- the text that is an answer, and the word of any other
abbrev pub text_answer : Answer → Option (List ℕ)
text_answer (answer.Bytes text) = Some text
text_answer (answer.Truth b) = None
text_answer (answer.Number n) = None
text_answer answer.Unit = None

abbrev pub word_answer : Answer → Option Word
word_answer (answer.Bytes text) = None
word_answer (answer.Truth b) = Some (Truth b)
word_answer (answer.Number n) = Some (Int n)
word_answer answer.Unit = Some Nothing

-- the place of a text that is to come was made, where one is, and this is its number
abbrev pub HasPlace : Code → StoreState → StoreState → Bool → Option ℕ → Type 0
HasPlace code w w' true None = ⊥
HasPlace code w w' true (Some n) = (n ≡ length (code.texts ++ w.texts)) × (w' ≡ record w { texts = w.texts ++ [] ∷ [] })
HasPlace code w w' false None = w' ≡ w
HasPlace code w w' false (Some n) = ⊥

-- the word of an answer, where it fits: the number of the place that was made for a text, or the word of any other
abbrev pub word_received : Option ℕ → Answer → Option Word
word_received None a = word_answer a
word_received (Some n) (answer.Bytes text) = Some (Text n)
word_received (Some n) (answer.Truth b) = None
word_received (Some n) (answer.Number m) = None
word_received (Some n) answer.Unit = None

-- the store with a text that was answered in its place
abbrev pub store_received : Option ℕ → Answer → StoreState → StoreState
store_received (Some n) (answer.Bytes text) w = record w { texts = take (length w.texts - 1) w.texts ++ text ∷ [] }
store_received _ a w = w

-- an answer was received where a call with so many arguments asked for it: its word takes the place of them and of the
-- word below them
pub record IsReceived (place : Option ℕ) (answer : Answer) (count : ℕ) (s s' : StackState) (w w' : StoreState) : Type 0 where
  pub word : Word
  pub given : Some word ≡ word_received place answer
  pub stack : s' ≡ pushed word (with_operands (drop (count + 1) s.running.operands) s)
  pub store : w' ≡ store_received place answer w

-- a call of an operation's method through a grant, which is the word below the arguments
pub record IsAsking (code : Code) (s : StackState) (m k : ℕ) (grant : CodeGrant) (o : OpName) : Type 0 where
  pub number : ℕ
  pub receiver : slice_get s.running.operands k ≡ Some (Grant number)
  pub granted : slice_get code.grants number ≡ Some grant
  pub method : List ℕ
  pub named : slice_get code.methods m ≡ Some method
  pub called : operation_called method (operations_of grant.primitive) ≡ Some o

-- .. with the texts that make an operation of it
pub record IsRequest (code : Code) (s : StackState) (w : StoreState) (m k : ℕ) (grant : CodeGrant) (op : Op) : Type 0 where
  pub number : ℕ
  pub receiver : slice_get s.running.operands k ≡ Some (Grant number)
  pub granted : slice_get code.grants number ≡ Some grant
  pub method : List ℕ
  pub named : slice_get code.methods m ≡ Some method
  pub asked : (tapes : Tapes) → Some op ≡ asked_for grant.primitive method (texts_named (store_of code w tapes) (reverse (take k s.running.operands)))
