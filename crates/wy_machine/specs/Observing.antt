-- What an observer of a run is told, and how steps and runs come out before one. (docs/LANGUAGE.md, "Events")
use Rattle.std.specs.Prelude.{◌≡◌, ◌≤◌, ℕ, Bool, List, [], ◌∷◌, ◌++◌, length, map, ◌⊎◌, Some, Result, Ok, Err, ⊤, slice_get}
use Rattle.wy_meaning.specs.Bounds.{Call}
use Rattle.wy_code.specs.declared.code.Instance.{Instance}
use Rattle.wy_device.specs.declared.deed.Deed.{Deed as DeedRecord}
use Rattle.wy_device.specs.declared.deed.Event.{Event}
use Rattle.wy_device.specs.declared.deed.Event.TheVariants.{Enter, Leave, Deed}
use Rattle.wy_device.specs.Devices.{DevicesState}
use Rattle.wy_device.specs.Events.{DidExactly}
use Rattle.wy_device.specs.Operation.{name_of}
use Rattle.wy_device.specs.Tapes.{Tapes}
use Rattle.wy_code.specs.declared.code.Code.{Code}
use Rattle.wy_code.specs.Machine.{Next, all_instances, name_in}
use Rattle.wy_machine.specs.declared.run_end.RunEnd.{RunEnd}
use Rattle.wy_machine.specs.declared.run_end.RunEnd.TheVariants.{DeviceFailed}
use Rattle.wy_machine.specs.Runs.{EndsIn, AreSameDevices, FailsByFault}
use Rattle.wy_machine.specs.OpenBodies.{StackState}
use Rattle.wy_machine.specs.States.{body_at}
use Rattle.wy_machine.specs.Steps.{AreQuiet, IsStep}
use Rattle.wy_machine.specs.StoreState.{StoreState}
use Rattle.wy_machine.specs.Traces.{HappenedIn}
use Rattle.wy_machine.specs.Wanting.{WantsOnly}

-- what is told of: a body of the instance of a number and a name is entered, one of the instance of a number is left, or
-- a deed
pub data Told : Type 0 where
  Entered : ℕ → List ℕ → List ℕ → Told
  Left : ℕ → Told
  Did : DeedRecord → Told

-- the events of it
abbrev pub event_told : Told → Event
event_told (Entered instance name body) = Enter name body
event_told (Left instance) = Leave
event_told (Did deed) = Deed deed

abbrev pub events_told : List Told → List Event
events_told [] = []
events_told (t ∷ ts) = event_told t ∷ events_told ts

-- the body of a number is entered, in the instance of a number
abbrev pub entering : Code → ℕ → ℕ → Told
entering code instance body = Entered instance (name_in (slice_get (all_instances code) instance)) (body_at code body).name

-- what a step tells that goes from a body of an instance to one of another, or ends the run: nothing, a deed, that a body
-- is left, that one is entered, or both
abbrev pub ArePlaced : ℕ → ℕ → Result (Unit {0}) RunEnd → List Told → Type 0
ArePlaced x y own [] = ⊤
ArePlaced x y own (Did deed ∷ []) = ⊤
ArePlaced x y own (Left instance ∷ []) = instance ≡ x
ArePlaced x y (Ok u) (Entered instance name body ∷ []) = instance ≡ y
ArePlaced x y (Ok u) (Left instance ∷ Entered next name body ∷ []) = (instance ≡ x) × (next ≡ y)
ArePlaced x y own ts = ⊥

-- the names of the instances in start order, and then of the program
abbrev pub instance_names : Code → List (List ℕ)
instance_names code = map (λ (i : Instance). i.name) (all_instances code)

-- with these calls open before, each instance that is entered or left has the name of its call, and at most n calls are
-- open where another one is entered
abbrev pub AreFollowed : Code → ℕ → List Call → List Told → Type 0
AreFollowed code n calls [] = ⊤
AreFollowed code n calls (Entered instance name body ∷ ts) =
    (slice_get (instance_names code) instance ≡ Some name) × (length calls ≤ n) × AreFollowed code n (record { instance = name; body = body } ∷ calls) ts
AreFollowed code n [] (Left instance ∷ ts) = ⊥
AreFollowed code n (call ∷ calls) (Left instance ∷ ts) = (slice_get (instance_names code) instance ≡ Some call.instance) × AreFollowed code n calls ts
AreFollowed code n calls (Did deed ∷ ts) = AreFollowed code n calls ts

-- an observer that hears so was told of these, one after the other, and lets the run go on
abbrev pub HeardAll : {X : Type 0} → (Told → X → X → Result (Unit {0}) RunEnd → Type 0) → List Told → X → X → Type 0
HeardAll {X} hears [] a b = b ≡ a
HeardAll {X} hears (t ∷ ts) a b = (m : X) × hears t a m (Ok tt) × HeardAll hears ts m b

-- it was told of the first of these events, and ended the run when it was told of the next; no event after that one is
-- a deed
pub record HeardSome {X : Type 0} (hears : Told → X → X → Result (Unit {0}) RunEnd → Type 0) (events : List Event) (a b : X) (end : RunEnd) : Type 0 where
  pub whole : List Told
  pub last : Told
  pub later : List Event
  pub split : events ≡ events_told whole ++ (event_told last ∷ later)
  pub quiet : AreQuiet later
  pub before : X
  pub heard : HeardAll hears whole a before
  pub cut : hears last before b (Err end)

-- how a run ends where an operation failed: so, unless the observer ended it when it was told
abbrev pub ended_by : RunEnd → Result (Unit {0}) RunEnd → Result (Unit {0}) RunEnd
ended_by failure (Ok u) = Err failure
ended_by failure (Err end) = Err end

-- an observer was told of an operation that failed, and the run ends by it
pub record EndsByFailure {X : Type 0} (hears : Told → X → X → Result (Unit {0}) RunEnd → Type 0) (deed : DeedRecord) (a b : X) (result : Result (Unit {0}) RunEnd) : Type 0 where
  pub own : Result (Unit {0}) RunEnd
  pub heard : hears (Did deed) a b own
  pub ends : result ≡ ended_by (DeviceFailed deed.grant (name_of deed.op)) own

------------------------------------------------------------
-- Steps

-- a step, of the body of an instance, all of whose events were told; it wants memory only where it takes some
pub record IsHeardStep {X : Type 0} (hears : Told → X → X → Result (Unit {0}) RunEnd → Type 0) (code : Code) (x : ℕ) (s : StackState) (w : StoreState) (next : Tapes → Next) (taken : Bool) (old new : DevicesState) (a b : X) (own : Result (Unit {0}) RunEnd) : Type 0 where
  pub step : IsStep code s w next old new own
  pub told : List Told
  pub are : events_told told ≡ step.events
  pub placed : ArePlaced x s.running.instance own told
  pub heard : HeardAll hears told a b
  pub wants : WantsOnly taken own

-- a step at one of whose events the observer ended the run
pub record IsCutStep {X : Type 0} (hears : Told → X → X → Result (Unit {0}) RunEnd → Type 0) (code : Code) (s : StackState) (w : StoreState) (next : Tapes → Next) (old new : DevicesState) (a b : X) (end : RunEnd) : Type 0 where
  pub own : Result (Unit {0}) RunEnd
  pub step : IsStep code s w next old new own
  pub heard : HeardSome hears step.events a b end

-- a step before an observer came out so; where the observer ended the run it came out some way itself
abbrev pub IsObserved : {X : Type 0} → (Told → X → X → Result (Unit {0}) RunEnd → Type 0) → Code → ℕ → StackState → StoreState → (Tapes → Next) → Bool → DevicesState → DevicesState → X → X → Result (Unit {0}) RunEnd → Type 0
IsObserved hears code x s w next taken old new a b (Ok u) = IsHeardStep hears code x s w next taken old new a b (Ok u)
IsObserved hears code x s w next taken old new a b (Err end) = IsHeardStep hears code x s w next taken old new a b (Err end) ⊎ IsCutStep hears code s w next old new a b end

------------------------------------------------------------
-- Runs

-- a run all of whose events were told
pub record IsHeardRun {X : Type 0} (hears : Told → X → X → Result (Unit {0}) RunEnd → Type 0) (code : Code) (depth k : ℕ) (events : List Event) (old new : DevicesState) (a b : X) (end : RunEnd) : Type 0 where
  pub ends : EndsIn code depth k events end
  pub failed : FailsByFault old new end
  pub told : List Told
  pub are : events_told told ≡ events
  pub followed : AreFollowed code depth [] told
  pub heard : HeardAll hears told a b

-- a run at one of whose events the observer ended it
pub record IsCutRun {X : Type 0} (hears : Told → X → X → Result (Unit {0}) RunEnd → Type 0) (code : Code) (depth k : ℕ) (events : List Event) (a b : X) (end : RunEnd) : Type 0 where
  pub happened : HappenedIn code depth k events
  pub heard : HeardSome hears events a b end

-- a run of the code before an observer, of at most k steps, took the devices from one state to another and ended so
pub record RunsTold {X : Type 0} (hears : Told → X → X → Result (Unit {0}) RunEnd → Type 0) (code : Code) (depth k : ℕ) (old new : DevicesState) (a b : X) (end : RunEnd) : Type 0 where
  pub events : List Event
  pub did : DidExactly old new events
  pub same : AreSameDevices old new
  pub comes : IsHeardRun hears code depth k events old new a b end ⊎ IsCutRun hears code depth k events a b end
