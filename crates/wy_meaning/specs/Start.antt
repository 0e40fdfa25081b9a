-- The meaning of a program: its instances start one after the other, and then its own block runs.
-- (docs/LANGUAGE.md, "Starting a program")
use Rattle.std.specs.Prelude.{codes, ℕ, suc, List, [], ◌∷◌, Option, Some, None}
use Rattle.wy_types.specs.Code.{Values, none, more}
use Rattle.wy_types.specs.Program.{Program, Scope, Start, Init, Run}
use Rattle.wy_device.specs.declared.deed.Event.{Event}
use Rattle.wy_device.specs.declared.deed.Event.TheVariants.{Enter}
use Rattle.wy_device.specs.RunEnds.{RunEnd, Ended, Wrong}
use Rattle.wy_device.specs.Tapes.{Tapes}
use Rattle.wy_meaning.specs.Values.{Value, Nothing, Thing, World, Outcome, Gives, Stops, fill_field}
use Rattle.wy_meaning.specs.Starts.{Started, Starts, scope_of_instance}
use Rattle.wy_meaning.specs.Results.{Result, give, stop, tick, settle, bind, whole}
use Rattle.wy_meaning.specs.Eval.{Sight, Calls, eval_value, eval_block, open_calls}

-- an instance's initialisers in order, each field set as soon as its value is there
unfoldable pub fill_all : Program → Starts → Calls → Sight → ℕ → Values → World → Result Value
fill_all p s calls sight x none w = give Nothing w
fill_all p s calls sight x (more e es) w =
    bind (eval_value p s calls sight e w) (λ v w. bind (tick (settle (fill_field x v w))) (λ u w. fill_all p s calls sight x es w))

abbrev pub start_of_scope : Option Scope → Option Start
start_of_scope None = None
start_of_scope (Some s) = Some s.start

-- no object and no variable is in sight
abbrev pub outside : ℕ → Sight
outside x = record { instance = x; this = None; variables = [] }

abbrev pub run_start : Program → Starts → Calls → ℕ → World → Option Start → Result Value
run_start p s calls x w None = stop Wrong w
run_start p s calls x w (Some (Init values)) = fill_all p s calls (outside x) x values w
run_start p s calls x w (Some (Run block)) = eval_block p s calls (outside x) block w

-- the instances from number x on, and then `main`
unfoldable pub begin : Program → Starts → Calls → ℕ → List Started → World → Result Value
begin p s calls x [] w =
    whole (Enter s.main.name (codes "run")) (run_start p s calls x w (start_of_scope (scope_of_instance p s x)))
begin p s calls x (i ∷ is) w =
    bind (whole (Enter i.name (codes "init")) (run_start p s calls x w (start_of_scope (scope_of_instance p s x))))
    (λ v w. begin p s calls (suc x) is w)

-- before anything runs each instance has its object, with no field yet
abbrev pub objects_at_first : ℕ → List Started → List Thing
objects_at_first x [] = []
objects_at_first x (i ∷ is) = record { instance = x; literal = 0; captured = []; fields = [] } ∷ objects_at_first (suc x) is

-- how a program ends, its events, and how many nodes and instructions it took
pub record Course : Type 0 where
  pub end : RunEnd
  pub events : List Event
  pub nodes : ℕ
  pub steps : ℕ

abbrev pub end_of : Outcome Value → RunEnd
end_of (Stops e) = e
end_of (Gives v) = Ended

abbrev pub course_of : Result Value → Course
course_of r = record { end = end_of r.out; events = r.events; nodes = r.nodes; steps = r.steps }

abbrev pub world_at_first : Starts → Tapes → World
world_at_first s tapes = record { objects = objects_at_first 0 s.instances; made = 0; built = 0; tapes = tapes }

-- what a program does over these tapes, where at most n calls on objects are open at once
unfoldable pub meaning : ℕ → Program → Starts → Tapes → Course
meaning n p s tapes = course_of (begin p s (open_calls p s n) 0 s.instances (world_at_first s tapes))
