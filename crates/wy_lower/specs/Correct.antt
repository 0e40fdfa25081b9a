-- What correct lowering is: the code does what the program means.
use Rattle.std.specs.Prelude.{◌≡◌, ◌≢◌, ◌≤◌, ◌<◌, ℕ, List, ◌++◌}
use Rattle.wy_types.specs.Program.{Program}
use Rattle.wy_device.specs.declared.deed.Event.{Event}
use Rattle.wy_device.specs.RunEnds.{Spent, Wrong}
use Rattle.wy_device.specs.Tapes.{Tapes}
use Rattle.wy_code.specs.declared.code.Code.{Code}
use Rattle.wy_code.specs.Running.{Ran, machine}
use Rattle.wy_meaning.specs.Start.{Course, meaning}
use Rattle.wy_meaning.specs.Starts.{Starts}

abbrev pub IsPrefix : List Event → List Event → Type 0
IsPrefix first all = (rest : List Event) × (all ≡ first ++ rest)

-- a run of at most k steps ends as the program means, with its events, after exactly its steps; or, where there are
-- more of them, it is spent after k steps, with the first of its events
pub record Follows (c : Course) (k : ℕ) (r : Ran) : Type 0 where
  pub whole : c.steps ≤ k → r ≡ record { end = c.end; events = c.events; taken = c.steps }
  pub cut : k < c.steps → (r.end ≡ Spent) × (r.taken ≡ k) × IsPrefix r.events c.events

-- the code does what the program means, at every depth, bound and answers, unless the program means something wrong
abbrev pub Compiles : Program → Starts → Code → Type 0
Compiles p starts code =
    (n k : ℕ) (tapes : Tapes) → (meaning n p starts tapes).end ≢ Wrong → Follows (meaning n p starts tapes) k (machine code n k tapes)

-- no run of the program means something wrong
abbrev pub NeverWrong : Program → Starts → Type 0
NeverWrong p starts = (n : ℕ) (tapes : Tapes) → (meaning n p starts tapes).end ≢ Wrong
