-- The bodies that are open, each with its slots and operands.
use Rattle.std.specs.Prelude.{ℕ, ◌+◌, ◌-◌, ◌*◌, ◌++◌, length, replicate, Option, Some, None, Bool, true, false, slice_set, ◌<◌, ◌≤◌, List, [], ◌∷◌, take, drop, reverse}
use Rattle.wy_code.specs.Stores.{Word, Nothing}
use Rattle.wy_code.specs.Machine.{first_of}
use Rattle.wy_machine.specs.declared.stack.Frame.{Frame}
use Rattle.wy_machine.specs.declared.stack.Limits.{Limits}
use Rattle.wy_machine.specs.OpenBodies.{OpenBody, StackState}

-- a body among the words of all that are open
abbrev pub open_body : Frame → List Word → OpenBody
open_body f words = record {
  instance = f.instance;
  body = f.body;
  at = f.at;
  slots = take (f.top - f.base) (drop f.base words);
  operands = reverse (drop f.top words);
}

-- bodies, the latest first, among their words
abbrev pub open_bodies : List Frame → List Word → List OpenBody
open_bodies [] words = []
open_bodies (f ∷ fs) words = open_body f words ∷ open_bodies fs (take f.base words)

-- bodies that wait for others: each has a slot, stands above those that wait for it, and has fewer words than a body
-- may have
abbrev pub AreWaiting : ℕ → List Frame → ℕ → Type 0
AreWaiting words [] size = size ≤ 0
AreWaiting words (f ∷ fs) size = (f.base < f.top) × (f.top ≤ size) × AreWaiting words fs f.base × (size < f.base + words)

-- the body that runs has a slot, stands above those that wait for it, and has no more words than a body may have; and
-- what is reserved is enough for as many bodies as may be open
abbrev pub IsStacked : Limits → Frame → List Frame → ℕ → ℕ → ℕ → Type 0
IsStacked limits f fs size words frames =
    (f.base < f.top) × (f.top ≤ size) × AreWaiting limits.words fs f.base × (size ≤ f.base + limits.words)
    × (length fs ≤ limits.depth) × (limits.words * (limits.depth + 1) ≤ words) × (limits.depth ≤ frames)

-- how many words the body that runs has
abbrev pub words_in : StackState → ℕ
words_in s = length s.running.slots + length s.running.operands

-- with one more operand
abbrev pub pushed : Word → StackState → StackState
pushed v s = record s { running = record (s.running) { operands = v ∷ s.running.operands } }

-- with other operands
abbrev pub with_operands : List Word → StackState → StackState
with_operands vs s = record s { running = record (s.running) { operands = vs } }

-- a body at its first instruction, with these slots, and the others for its `val` statements
abbrev pub body_at_first : ℕ → ℕ → List Word → ℕ → OpenBody
body_at_first instance body first vals = record { instance = instance; body = body; at = 0; slots = first ++ replicate vals Nothing; operands = [] }

-- one body is open
abbrev pub begun : Limits → ℕ → ℕ → Word → ℕ → StackState
begun limits instance body this vals = record { running = body_at_first instance body (this ∷ []) vals; callers = []; limits = limits }

-- a body is entered, and its first slots are the topmost operands of the one that called it
abbrev pub entered : ℕ → ℕ → ℕ → ℕ → StackState → StackState
entered instance body arguments vals s = record s {
  running = body_at_first instance body (reverse (take (arguments + 1) s.running.operands)) vals;
  callers = record (s.running) { operands = drop (arguments + 1) s.running.operands } ∷ s.callers;
}

-- the body that runs is left, and the one that called it gets a word
abbrev pub left_to : Word → Limits → List OpenBody → Option StackState
left_to v limits [] = None
left_to v limits (f ∷ fs) = Some (record { running = record f { operands = v ∷ f.operands }; callers = fs; limits = limits })

abbrev pub left : Word → StackState → Option StackState
left v s = left_to v s.limits s.callers

-- at another address
abbrev pub at_address : ℕ → StackState → StackState
at_address to s = record s { running = record (s.running) { at = to } }

-- the topmost operand is written into a slot
abbrev pub stored_in : ℕ → StackState → StackState
stored_in slot s = record s {
  running = record (s.running) { slots = slice_set s.running.slots slot (first_of s.running.operands); operands = drop 1 s.running.operands };
}

-- at another address where the truth value is false
abbrev pub jumped_unless : Option Bool → ℕ → StackState → StackState
jumped_unless None to s = s
jumped_unless (Some true) to s = s
jumped_unless (Some false) to s = at_address to s
