-- What a run works on: values, objects, and the world that they and the tapes make up.
-- (docs/LANGUAGE.md, "Values and objects")
use Rattle.std.specs.Prelude.{ℕ, ◌+◌, ℤ, Bool, ◌&&◌, ◌==◌, false, List, [], ◌∷◌, ◌++◌, length, nat_lt, Option, Some, None, slice_get, slice_set, if◌then◌else◌}
use Rattle.wy_types.specs.declared.code.Variable.{Variable}
use Rattle.wy_types.specs.declared.code.Variable.TheVariants.{Parameter, Local}
use Rattle.wy_text.specs.declared.fault.Place.{Place}
use Rattle.wy_device.specs.Tapes.{Tapes}
use Rattle.wy_device.specs.Traps.{most_objects, most_texts, Crowded}
use Rattle.wy_device.specs.RunEnds.{RunEnd, Trap, Wrong}

-- an Int, a Bool, Unit, a text's bytes, an object by its number, or a grant by its number
pub data Value : Type 0 where
  Int : ℤ → Value
  Truth : Bool → Value
  Nothing : Value
  Text : List ℕ → Value
  Object : ℕ → Value
  Grant : ℕ → Value

-- variables with their values, the newest first
abbrev pub Named : Type 0
Named = List (Variable × Value)

abbrev pub same_variable : Variable → Variable → Bool
same_variable (Parameter body i) (Parameter other j) = (body == other) && (i == j)
same_variable (Local m) (Local n) = m == n
same_variable _ _ = false

abbrev pub value_named : Named → Variable → Option Value
value_named [] v = None
value_named (p ∷ ps) v = if same_variable p.0 v then Some p.1 else value_named ps v

-- an object of an instance: of its module (literal 0) or of an object literal of it, with the variables that the
-- literal captured, and the values of its fields. While an instance starts, only its first fields are there
pub record Thing : Type 0 where
  pub instance : ℕ
  pub literal : ℕ
  pub captured : Named
  pub fields : List Value

-- the objects, how many of them `new` made, how many texts were built, and the answers to come
pub record World : Type 0 where
  pub objects : List Thing
  pub made : ℕ
  pub built : ℕ
  pub tapes : Tapes

-- what evaluation comes to: something, or the end of the run
pub data Outcome (A : Type 0) : Type 0 where
  Gives : A → Outcome A
  Stops : RunEnd → Outcome A

-- an outcome and the world after it
pub record Reply : Type 0 where
  pub out : Outcome Value
  pub world : World

abbrev pub replied : Value → World → Reply
replied v w = record { out = Gives v; world = w }

abbrev pub stopped : RunEnd → World → Reply
stopped e w = record { out = Stops e; world = w }

-- the value, where there is one
abbrev pub found : Option Value → World → Reply
found None w = stopped Wrong w
found (Some v) w = replied v w

abbrev pub object_of : World → Option ℕ → Option Thing
object_of w None = None
object_of w (Some a) = slice_get w.objects a

abbrev pub field_in : Option Thing → ℕ → Option Value
field_in None i = None
field_in (Some t) i = slice_get t.fields i

-- a text that is built, where there are not too many
abbrev pub text_built : Place → List ℕ → World → Reply
text_built place bytes w =
    if nat_lt w.built most_texts then replied (Text bytes) (record w { built = w.built + 1 }) else stopped (Trap Crowded place) w

-- an object that `new` makes, where there are not too many
abbrev pub object_made : Place → Thing → World → Reply
object_made place thing w =
    if nat_lt w.made most_objects
    then replied (Object (length w.objects)) (record w { objects = w.objects ++ thing ∷ []; made = w.made + 1 })
    else stopped (Trap Crowded place) w

abbrev pub with_fields : World → ℕ → Thing → List Value → World
with_fields w a t fields = record w { objects = slice_set w.objects a (record t { fields = fields }) }

-- a field of an object that has it
abbrev pub field_set : ℕ → ℕ → Value → World → Option Thing → Reply
field_set a i v w None = stopped Wrong w
field_set a i v w (Some t) =
    if nat_lt i (length t.fields) then replied Nothing (with_fields w a t (slice_set t.fields i v)) else stopped Wrong w

abbrev pub write_field : Option ℕ → ℕ → Value → World → Reply
write_field None i v w = stopped Wrong w
write_field (Some a) i v w = field_set a i v w (slice_get w.objects a)

-- the next field of an object that does not have all of them yet
abbrev pub field_added : ℕ → Value → World → Option Thing → Reply
field_added a v w None = stopped Wrong w
field_added a v w (Some t) = replied Nothing (with_fields w a t (t.fields ++ v ∷ []))

abbrev pub fill_field : ℕ → Value → World → Reply
fill_field a v w = field_added a v w (slice_get w.objects a)
