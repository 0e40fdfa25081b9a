-- What `Op` does with words, and a call on a grant. (docs/LANGUAGE.md, "Operations")
use Rattle.std.specs.Prelude.{ℕ, not, ◌&&◌, List, [], ◌∷◌, length, nat_lt, Option, Some, None, map, if◌then◌else◌}
use Rattle.wy_text.specs.declared.fault.Place.{Place}
use Rattle.wy_device.specs.declared.operation.Op.{Op}
use Rattle.wy_device.specs.declared.operation.Answer.{Answer}
use Rattle.wy_device.specs.declared.operation.Answer.TheVariants as answer
use Rattle.wy_device.specs.declared.deed.Event.{Event}
use Rattle.wy_device.specs.declared.deed.Event.TheVariants.{Deed}
use Rattle.wy_device.specs.Operation.{name_of}
use Rattle.wy_device.specs.Operators as meant
use Rattle.wy_device.specs.Operators.{Operand, Bytes, Computed, GivesNumber, GivesTruth, Builds, Traps, Misfits, operate}
use Rattle.wy_device.specs.Requests.{operation_of, has_good_name, answers_text, Told, Answers, Fails, Waits, asked}
use Rattle.wy_device.specs.RunEnds.{Trap, DeviceFailed, Waiting, Wrong}
use Rattle.wy_device.specs.Traps.{most_texts, BadName, Crowded}
use Rattle.wy_code.specs.declared.instruction.Operator.{Operator}
use Rattle.wy_code.specs.declared.instruction.Operator.TheVariants.{Negate, Not, Add, Subtract, Multiply, Divide, Remainder, Join, Less, LessOrEqual, Greater, GreaterOrEqual, Equal, NotEqual, Size, Part, Code, Byte, Show}
use Rattle.wy_code.specs.declared.code.Grant.{Grant as CodeGrant}
use Rattle.wy_code.specs.Stores.{Word, Int, Truth, Nothing, Text, Store, Reply, Replies, Ends, replied, ended, operand, with_text, text_built}

-- an operator of the code among the operators of the language
abbrev pub operator_meant : Operator → meant.Operator
operator_meant Negate = meant.Negate
operator_meant Not = meant.Not
operator_meant Add = meant.Add
operator_meant Subtract = meant.Subtract
operator_meant Multiply = meant.Multiply
operator_meant Divide = meant.Divide
operator_meant Remainder = meant.Remainder
operator_meant Join = meant.Join
operator_meant Less = meant.Less
operator_meant LessOrEqual = meant.LessOrEqual
operator_meant Greater = meant.Greater
operator_meant GreaterOrEqual = meant.GreaterOrEqual
operator_meant Equal = meant.Equal
operator_meant NotEqual = meant.NotEqual
operator_meant Size = meant.Size
operator_meant Part = meant.Part
operator_meant Code = meant.Code
operator_meant Byte = meant.Byte
operator_meant Show = meant.Show

-- how many operands an operator takes
abbrev pub operand_count : Operator → ℕ
operand_count Negate = 1
operand_count Not = 1
operand_count Size = 1
operand_count Byte = 1
operand_count Show = 1
operand_count Part = 3
operand_count _ = 2

abbrev pub computed : Place → Store → Computed → Reply
computed place w (GivesNumber n) = replied (Int n) w
computed place w (GivesTruth b) = replied (Truth b) w
computed place w (Builds bytes) = text_built place bytes w
computed place w (Traps kind) = ended (Trap kind place)
computed place w Misfits = ended Wrong

abbrev pub operated : Place → Operator → List Word → Store → Reply
operated place o vs w = computed place w (operate (operator_meant o) (map (operand w) vs))

------------------------------------------------------------
-- Calls on grants

abbrev pub operand_text : Operand → Option (List ℕ)
operand_text (Bytes bytes) = Some bytes
operand_text (meant.Number n) = None
operand_text (meant.Truth b) = None
operand_text meant.Other = None

abbrev pub with_first : Option (List ℕ) → Option (List (List ℕ)) → Option (List (List ℕ))
with_first None rest = None
with_first (Some bytes) None = None
with_first (Some bytes) (Some texts) = Some (bytes ∷ texts)

-- the texts that words name, where all are texts
abbrev pub texts_named : Store → List Word → Option (List (List ℕ))
texts_named w [] = Some []
texts_named w (v ∷ vs) = with_first (operand_text (operand w v)) (texts_named w vs)

abbrev pub deed_event : List ℕ → Op → Option Answer → List Event
deed_event grant op answer = Deed (record { grant = grant; op = op; answer = answer }) ∷ []

-- an answer as a word; a text that is answered counts as built
abbrev pub word_answered : Answer → Store → List Event → Reply
word_answered (answer.Bytes bytes) w es = Replies (Text (length w.texts)) (with_text bytes w) es
word_answered (answer.Truth b) w es = Replies (Truth b) w es
word_answered (answer.Number n) w es = Replies (Int n) w es
word_answered answer.Unit w es = Replies Nothing w es

abbrev pub answered : List ℕ → Op → Store → Told → Reply
answered grant op w (Answers a tapes) = word_answered a (record w { tapes = tapes }) (deed_event grant op (Some a))
answered grant op w (Fails tapes) = Ends (DeviceFailed grant (name_of op)) (deed_event grant op None)
answered grant op w Waits = ended Waiting

-- a name that is no file's traps first, then one text too many; then the device is asked
abbrev pub requested : Place → List ℕ → Store → Option Op → Reply
requested place grant w None = ended Wrong
requested place grant w (Some op) =
    if not (has_good_name op) then ended (Trap BadName place)
    else if answers_text op && not (nat_lt w.built most_texts) then ended (Trap Crowded place)
    else answered grant op w (asked op w.tapes)

abbrev pub requested_of : Place → CodeGrant → Store → Option (List ℕ) → Option (List (List ℕ)) → Reply
requested_of place g w None texts = ended Wrong
requested_of place g w (Some method) None = ended Wrong
requested_of place g w (Some method) (Some texts) = requested place g.name w (operation_of g.primitive method texts)

-- the method of a grant with these words as arguments
abbrev pub performed : Place → Option CodeGrant → Option (List ℕ) → List Word → Store → Reply
performed place None method vs w = ended Wrong
performed place (Some g) method vs w = requested_of place g w method (texts_named w vs)
