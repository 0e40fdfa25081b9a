-- A run of code: steps up to a bound. (docs/LANGUAGE.md, "Code")
use Rattle.std.specs.Prelude.{ℕ, zero, suc, List, [], ◌∷◌, ◌++◌, replicate, map, Option, Some, None, ◌≢◌}
use Rattle.wy_device.specs.declared.deed.Event.{Event}
use Rattle.wy_device.specs.RunEnds.{RunEnd, Spent, Wrong}
use Rattle.wy_device.specs.Tapes.{Tapes}
use Rattle.wy_code.specs.declared.code.Code.{Code}
use Rattle.wy_code.specs.declared.code.Argument.{Argument}
use Rattle.wy_code.specs.declared.code.Argument.TheVariants as argument
use Rattle.wy_code.specs.declared.code.Instance.{Instance}
use Rattle.wy_code.specs.declared.code.Literal.{Literal}
use Rattle.wy_code.specs.Stores.{Word, Nothing, Object, Grant, Thing, Store}
use Rattle.wy_code.specs.Machine.{State, Next, Go, Halt, step, literal_of_scope, scope_in, begin_next}

-- how a run ends, its events, and how many steps it took
pub record Ran : Type 0 where
  pub end : RunEnd
  pub events : List Event
  pub taken : ℕ

-- events before those of a run
abbrev pub after_events : List Event → Ran → Ran
after_events es r = record r { events = es ++ r.events }

-- a step and then the rest
abbrev pub and_then : Next → (State → Ran) → Ran
and_then (Go es s) rest = record { end = (rest s).end; events = es ++ (rest s).events; taken = suc (rest s).taken }
and_then (Halt e es) rest = record { end = e; events = es; taken = 1 }

-- at most k steps
unfoldable pub steps : Code → ℕ → ℕ → State → Ran
steps code n zero s = record { end = Spent; events = []; taken = 0 }
steps code n (suc k) s = and_then (step code n s) (steps code n k)

------------------------------------------------------------
-- The first state

abbrev pub word_handed : Argument → Word
word_handed (argument.Grant g) = Grant g
word_handed (argument.Instance x) = Object x

abbrev pub field_count : Option Literal → ℕ
field_count None = 0
field_count (Some l) = l.fields

-- an instance's object: what it is handed, and its fields, which are not set yet
abbrev pub object_at_first : Code → ℕ → Instance → Thing
object_at_first code x i = record {
  instance = x;
  literal = 0;
  values = map word_handed i.arguments ++ replicate (field_count (literal_of_scope (scope_in code (Some i)) 0)) Nothing;
}

abbrev pub objects_at_first : Code → ℕ → List Instance → List Thing
objects_at_first code x [] = []
objects_at_first code x (i ∷ is) = object_at_first code x i ∷ objects_at_first code (suc x) is

abbrev pub store_at_first : Code → Tapes → Store
store_at_first code tapes = record { objects = objects_at_first code 0 code.instances; made = 0; texts = code.texts; built = 0; tapes = tapes; next = 0 }

-- the first body is entered before the first step is taken
abbrev pub enter_first : Next → (State → Ran) → Ran
enter_first (Go es s) rest = after_events es (rest s)
enter_first (Halt e es) rest = record { end = e; events = es; taken = 0 }

-- at most k steps, with at most n calls on objects open at once
unfoldable pub machine : Code → ℕ → ℕ → Tapes → Ran
machine code n k tapes = enter_first (begin_next code [] (store_at_first code tapes)) (steps code n k)

-- no run of the code meets a missing operand, a value of a wrong kind, or a number that names nothing
abbrev pub NeverStuck : Code → Type 0
NeverStuck code = (n k : ℕ) (tapes : Tapes) → (machine code n k tapes).end ≢ Wrong
