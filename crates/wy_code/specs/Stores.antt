-- What the machine works on: words, objects, the texts that words name, and the answers to come.
-- (docs/LANGUAGE.md, "Code")
use Rattle.std.specs.Prelude.{ℕ, ◌+◌, ℤ, Bool, List, [], ◌∷◌, ◌++◌, length, nat_lt, Option, Some, None, slice_get, slice_set, if◌then◌else◌}
use Rattle.wy_text.specs.declared.fault.Place.{Place}
use Rattle.wy_device.specs.declared.deed.Event.{Event}
use Rattle.wy_device.specs.Operators.{Operand, Number, Truth as TruthOperand, Bytes, Other}
use Rattle.wy_device.specs.RunEnds.{RunEnd, Trap, Wrong}
use Rattle.wy_device.specs.Tapes.{Tapes}
use Rattle.wy_device.specs.Traps.{most_objects, most_texts, Crowded}

-- a value as the machine has it: texts, objects and grants go by their numbers
pub data Word : Type 0 where
  Int : ℤ → Word
  Truth : Bool → Word
  Nothing : Word
  Text : ℕ → Word
  Object : ℕ → Word
  Grant : ℕ → Word

-- an object of an instance's module (literal 0) or of one of its literals, with its values
pub record Thing : Type 0 where
  pub instance : ℕ
  pub literal : ℕ
  pub values : List Word

-- the objects, how many of them `New` made, the texts, how many of them were built, the answers to come, and the
-- number of the instance that starts next
pub record Store : Type 0 where
  pub objects : List Thing
  pub made : ℕ
  pub texts : List (List ℕ)
  pub built : ℕ
  pub tapes : Tapes
  pub next : ℕ

-- what an operation comes to: a word, the store after it and its events, or the end of the run
pub data Reply : Type 0 where
  Replies : Word → Store → List Event → Reply
  Ends : RunEnd → List Event → Reply

abbrev pub replied : Word → Store → Reply
replied v w = Replies v w []

abbrev pub ended : RunEnd → Reply
ended e = Ends e []

-- the word, where there is one
abbrev pub found : Option Word → Store → Reply
found None w = ended Wrong
found (Some v) w = replied v w

abbrev pub bytes_found : Option (List ℕ) → Operand
bytes_found None = Other
bytes_found (Some bytes) = Bytes bytes

-- what operators see of a word
abbrev pub operand : Store → Word → Operand
operand w (Int n) = Number n
operand w (Truth b) = TruthOperand b
operand w (Text t) = bytes_found (slice_get w.texts t)
operand w Nothing = Other
operand w (Object a) = Other
operand w (Grant g) = Other

-- the store with one more text, which is a built one
abbrev pub with_text : List ℕ → Store → Store
with_text bytes w = record w { texts = w.texts ++ bytes ∷ []; built = w.built + 1 }

abbrev pub text_built : Place → List ℕ → Store → Reply
text_built place bytes w =
    if nat_lt w.built most_texts then replied (Text (length w.texts)) (with_text bytes w) else ended (Trap Crowded place)

abbrev pub object_made : Place → Thing → Store → Reply
object_made place thing w =
    if nat_lt w.made most_objects
    then replied (Object (length w.objects)) (record w { objects = w.objects ++ thing ∷ []; made = w.made + 1 })
    else ended (Trap Crowded place)

abbrev pub object_at : Store → Word → Option Thing
object_at w (Object a) = slice_get w.objects a
object_at w (Int n) = None
object_at w (Truth b) = None
object_at w Nothing = None
object_at w (Text t) = None
object_at w (Grant g) = None

abbrev pub value_in : Option Thing → ℕ → Option Word
value_in None i = None
value_in (Some t) i = slice_get t.values i

-- value i of the object that a word names
abbrev pub value_at : Store → Word → ℕ → Option Word
value_at w this i = value_in (object_at w this) i

abbrev pub with_value : ℕ → ℕ → Word → Store → Option Thing → Option Store
with_value a i v w None = None
with_value a i v w (Some t) =
    if nat_lt i (length t.values) then Some (record w { objects = slice_set w.objects a (record t { values = slice_set t.values i v }) }) else None

-- the store with another word as value i of the object that a word names, where it has such a value
abbrev pub value_set : Word → ℕ → Word → Store → Option Store
value_set (Object a) i v w = with_value a i v w (slice_get w.objects a)
value_set (Int n) i v w = None
value_set (Truth b) i v w = None
value_set Nothing i v w = None
value_set (Text t) i v w = None
value_set (Grant g) i v w = None
