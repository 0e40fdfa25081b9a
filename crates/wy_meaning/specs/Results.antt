-- What evaluation gives, and how results are put together: one after the other, with the nodes and instructions
-- that they count. (docs/LANGUAGE.md, "Counting")
use Rattle.std.specs.Prelude.{ℕ, suc, ◌+◌, List, [], ◌∷◌, ◌++◌}
use Rattle.wy_device.specs.declared.deed.Event.{Event}
use Rattle.wy_device.specs.declared.deed.Event.TheVariants.{Leave}
use Rattle.wy_device.specs.RunEnds.{RunEnd}
use Rattle.wy_meaning.specs.Values.{World, Value, Outcome, Gives, Stops, Reply}

-- an outcome, the world after it, the new events, and how many nodes and instructions it took
pub record Result (A : Type 0) : Type 0 where
  pub out : Outcome A
  pub world : World
  pub events : List Event
  pub nodes : ℕ
  pub steps : ℕ

unfoldable pub give : {A : Type 0} → A → World → Result A
give a w = record { out = Gives a; world = w; events = []; nodes = 0; steps = 0 }

unfoldable pub stop : {A : Type 0} → RunEnd → World → Result A
stop e w = record { out = Stops e; world = w; events = []; nodes = 0; steps = 0 }

-- one more node
unfoldable pub node : {A : Type 0} → Result A → Result A
node r = record r { nodes = suc r.nodes }

-- one more instruction
unfoldable pub tick : {A : Type 0} → Result A → Result A
tick r = record r { steps = suc r.steps }

-- an event before the others
unfoldable pub told : {A : Type 0} → Event → Result A → Result A
told e r = record r { events = e ∷ r.events }

unfoldable pub settle : Reply → Result Value
settle r = record { out = r.out; world = r.world; events = []; nodes = 0; steps = 0 }

unfoldable pub added : {A : Type 0} → List Event → ℕ → ℕ → Result A → Result A
added es c q r = record r { events = es ++ r.events; nodes = c + r.nodes; steps = q + r.steps }

abbrev pub carried : {A B : Type 0} → Outcome A → World → List Event → ℕ → ℕ → (A → World → Result B) → Result B
carried (Stops e) w es c q f = record { out = Stops e; world = w; events = es; nodes = c; steps = q }
carried (Gives a) w es c q f = added es c q (f a w)

-- goes on with what was given
unfoldable pub bind : {A B : Type 0} → Result A → (A → World → Result B) → Result B
bind r f = carried r.out r.world r.events r.nodes r.steps f

-- a body from its Enter to its Leave: one node, and the instruction that leaves it
unfoldable pub whole : Event → Result Value → Result Value
whole enter r = told enter (node (bind r (λ v w. tick (told Leave (give v w)))))
