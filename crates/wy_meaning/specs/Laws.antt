-- Laws of the meaning. (docs/LANGUAGE.md, "Counting")
use Rattle.std.specs.Prelude.{◌≡◌, ◌≢◌, ◌≤◌, ◌*◌, ℕ, ⊤, List, [], ◌∷◌, ◌++◌, Option, None}
use Rattle.wy_types.specs.Program.{Program}
use Rattle.wy_device.specs.declared.deed.Event.{Event}
use Rattle.wy_device.specs.declared.deed.Event.TheVariants.{Enter, Deed, Leave}
use Rattle.wy_device.specs.declared.operation.Answer.{Answer}
use Rattle.wy_device.specs.declared.operation.Kind.{Kind}
use Rattle.wy_device.specs.declared.operation.Op.{Op}
use Rattle.wy_device.specs.Events.{deeds_of}
use Rattle.wy_device.specs.Requests.{tape_of}
use Rattle.wy_device.specs.Operation.{name_of}
use Rattle.wy_device.specs.RunEnds.{RunEnd, DeviceFailed, Waiting, Spent}
use Rattle.wy_device.specs.Tapes.{Tapes, answers, spliced}
use Rattle.wy_meaning.specs.Performing.{deed}
use Rattle.wy_meaning.specs.Start.{Course, meaning}
use Rattle.wy_meaning.specs.Starts.{Starts}

-- a node costs at most four instructions
abbrev pub IsCheap : Course → Type 0
IsCheap c = c.steps ≤ 4 * c.nodes

-- the events of the second course begin with those of the first
abbrev pub IsContinued : Course → Course → Type 0
IsContinued c d = (later : List Event) × (d.events ≡ c.events ++ later)

-- tapes with more answers behind those that they have: a course that waits goes on, and any other one stays as it is
pub record IsExtended (c d : Course) : Type 0 where
  pub waits : c.end ≡ Waiting → IsContinued c d
  pub ends : c.end ≢ Waiting → d ≡ c

abbrev pub ExtendsOnly : ℕ → Program → Starts → Type 0
ExtendsOnly n p s = (tapes more : Tapes) → IsExtended (meaning n p s tapes) (meaning n p s (spliced tapes more))

-- the answers to the deeds of a kind are the first ones of its tape, in their order
abbrev pub TakesInOrder : ℕ → Program → Starts → Type 0
TakesInOrder n p s = (tapes : Tapes) (kind : Kind) → (rest : List (Option Answer)) × (tape_of kind tapes ≡ answers (deeds_of kind (meaning n p s tapes).events) ++ rest)

-- each operation among the events was answered
abbrev pub AreAnswered : List Event → Type 0
AreAnswered [] = ⊤
AreAnswered (Enter i b ∷ events) = AreAnswered events
AreAnswered (Leave ∷ events) = AreAnswered events
AreAnswered (Deed d ∷ events) = (d.answer ≢ None) × AreAnswered events

-- where an operation failed it is the last event, and it alone failed; anywhere else none did. No run ends Spent
abbrev pub EndsAs : RunEnd → List Event → Type 0
EndsAs (DeviceFailed grant o) events =
    (before : List Event) × (op : Op) × (name_of op ≡ o) × AreAnswered before × (events ≡ before ++ Deed (deed grant op None) ∷ [])
EndsAs Spent events = ⊥
EndsAs _ events = AreAnswered events

abbrev pub FailsLast : ℕ → Program → Starts → Type 0
FailsLast n p s = (tapes : Tapes) → EndsAs (meaning n p s tapes).end (meaning n p s tapes).events
