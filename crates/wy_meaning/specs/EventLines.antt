-- The lines that a traced run writes, one for each event. (docs/LANGUAGE.md, "Events")
use Rattle.std.specs.Prelude.{codes, ℕ, Bool, true, false, List, [], ◌∷◌, ◌++◌, Option, Some, None}
use Rattle.std.specs.Fmt.{signed_decimal}
use Rattle.wy_text.specs.Quoted.{quoted_form}
use Rattle.wy_device.specs.Operation.{name_of, method_text}
use Rattle.wy_device.specs.declared.operation.Op.{Op}
use Rattle.wy_device.specs.declared.operation.Op.TheVariants.{ConsoleRead, ConsoleWrite, FolderRead, FolderHas, FolderWrite, FolderAppend, FolderNames, ClockNow, RandomWord, FolderRemove}
use Rattle.wy_device.specs.declared.operation.Answer.{Answer}
use Rattle.wy_device.specs.declared.operation.Answer.TheVariants as answer
use Rattle.wy_device.specs.declared.deed.Deed.{Deed as DeedRecord}
use Rattle.wy_device.specs.declared.deed.Event.{Event}
use Rattle.wy_device.specs.declared.deed.Event.TheVariants.{Enter, Deed, Leave}

-- the texts that an operation is asked with
abbrev pub arguments : Op → List (List ℕ)
arguments ConsoleRead = []
arguments (ConsoleWrite text) = text ∷ []
arguments (FolderRead file) = file ∷ []
arguments (FolderHas file) = file ∷ []
arguments (FolderWrite file text) = file ∷ text ∷ []
arguments (FolderAppend file text) = file ∷ text ∷ []
arguments FolderNames = []
arguments ClockNow = []
arguments RandomWord = []
arguments (FolderRemove file) = file ∷ []

-- texts between quotes, with commas between them
abbrev pub arguments_text : List (List ℕ) → List ℕ
arguments_text [] = []
arguments_text (x ∷ []) = quoted_form x
arguments_text (x ∷ y ∷ rest) = quoted_form x ++ (codes ", " ++ arguments_text (y ∷ rest))

abbrev pub truth_text : Bool → List ℕ
truth_text true = codes "true"
truth_text false = codes "false"

abbrev pub answer_text : Option Answer → List ℕ
answer_text None = codes "failed"
answer_text (Some (answer.Bytes text)) = quoted_form text
answer_text (Some (answer.Truth truth)) = truth_text truth
answer_text (Some (answer.Number number)) = signed_decimal number
answer_text (Some answer.Unit) = codes "()"

abbrev pub deed_text : DeedRecord → List ℕ
deed_text d = d.grant ++ (codes "." ++ (method_text (name_of d.op) ++ (codes "(" ++ (arguments_text (arguments d.op) ++ (codes ") = " ++ answer_text d.answer)))))

abbrev pub event_text : Event → List ℕ
event_text (Enter instance body) = codes "enter " ++ (instance ++ (codes " " ++ body))
event_text (Deed deed) = codes "deed " ++ deed_text deed
event_text Leave = codes "leave"

abbrev pub event_line : Event → List ℕ
event_line event = event_text event ++ codes "\n"

-- the lines of all events, in order
abbrev pub event_lines : List Event → List ℕ
event_lines [] = []
event_lines (event ∷ events) = event_line event ++ event_lines events
