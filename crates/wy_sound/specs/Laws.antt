-- Soundness: no run of an accepted program meets a wrong value, and each operation in one is in the authority of every call that is open.
-- (docs/LANGUAGE.md, "Authority and report")
use Rattle.std.specs.Prelude.{◌≡◌, ◌≢◌, ℕ, suc, ◌<◌, ◌≤◌, List, [], ◌∷◌, ◌++◌, Option, Some, map, slice_get}
use Rattle.wy_text.specs.Members.{In}
use Rattle.wy_types.specs.declared.linked.Instance.{Instance}
use Rattle.wy_types.specs.declared.resolved.ScopeKind.TheVariants.{Pure}
use Rattle.wy_types.specs.Program.{Program}
use Rattle.wy_types.specs.declared.code.Variable.{Variable}
use Rattle.wy_types.specs.Code as code
use Rattle.wy_types.specs.Signature.{Signature, find_method}
use Rattle.wy_types.specs.Core.{ValueFits, BlockFits}
use Rattle.wy_types.specs.Ground.{start_list}
use Rattle.wy_rules.specs.Acceptance.{IsOfKind, Accepted}
use Rattle.wy_rules.specs.Derivations.{Derivation, BlockDerivation}
use Rattle.wy_rules.specs.Typing.{Derives, DerivesBlock}
use Rattle.wy_rules.specs.GroundTypes.{GroundType, Own, ground_methods, ground_reading}
use Rattle.wy_authority.specs.declared.rows.BodyRow.{BodyRow}
use Rattle.wy_authority.specs.Authority.{instance_row}
use Rattle.wy_device.specs.declared.deed.Deed.{Deed as DeedRecord}
use Rattle.wy_device.specs.declared.deed.Event.{Event}
use Rattle.wy_device.specs.declared.deed.Event.TheVariants.{Deed}
use Rattle.wy_device.specs.RunEnds.{Wrong}
use Rattle.wy_device.specs.Tapes.{Tapes}
use Rattle.wy_meaning.specs.Values.{Value, Thing, World, Outcome, Gives, Stops}
use Rattle.wy_meaning.specs.Results.{Result}
use Rattle.wy_meaning.specs.Starts.{started_of, scope_of_instance}
use Rattle.wy_meaning.specs.Eval.{Sight, eval_value, eval_block, open_calls}
use Rattle.wy_meaning.specs.Bounds.{Call, Bounded}
use Rattle.wy_meaning.specs.OpenCalls.{open_after}
use Rattle.wy_meaning.specs.Start.{objects_at_first, start_of_scope, run_start}
use Rattle.wy_sound.specs.TypedHeaps.{instance_count, Placed, fields_at, Ready, ValueHas, AllHave, WellHeap, SightHas, AreUnstarted, Filling, PartlyFilled}
use Rattle.wy_sound.specs.Programs.{IsResolved, program_starts, allowed}
use Rattle.wy_sound.specs.Courses.{course}

abbrev pub NeverWrong : Type 0
NeverWrong = (p : Program) → IsResolved p → Accepted p → (n : ℕ) (tapes : Tapes) → (course p n tapes).end ≢ Wrong

abbrev pub EventsAreBounded : Type 0
EventsAreBounded = (p : Program) → IsResolved p → Accepted p → (n : ℕ) (tapes : Tapes) → Bounded (allowed p) (course p n tapes).events

-- no body of an instance of a pure module may do anything
abbrev pub PureInstancesMayNothing : Type 0
PureInstancesMayNothing =
    (p : Program) → IsResolved p → Accepted p → (i : Instance) → In i (start_list p) → IsOfKind p Pure i.scope →
    (b : BodyRow) → In b (instance_row p i).bodies → b.set ≡ []

-- .. so no operation is done while a call of one is open
abbrev pub PureInstancesAreSilent : Type 0
PureInstancesAreSilent =
    (p : Program) → IsResolved p → Accepted p → (i : Instance) → In i (start_list p) → IsOfKind p Pure i.scope →
    (n : ℕ) (tapes : Tapes) (before after : List Event) (deed : DeedRecord) → (course p n tapes).events ≡ before ++ Deed deed ∷ after →
    (call : Call) → In call (open_after [] before) → call.instance ≡ i.name → ⊥

-- what is kept: the heap stays typed, and a value has its type; where evaluation ends, the end is no wrong one, and the heap is typed too
abbrev pub Keeps : Program → ℕ → GroundType → Outcome Value → World → Type 0
Keeps p now t (Gives v) w = WellHeap p now w.objects × ValueHas p now w.objects v t
Keeps p now t (Stops e) w = (e ≢ Wrong) × WellHeap p now w.objects

-- preservation, of a value that has a derivation over the types of the run, in a sight and a heap that have theirs
abbrev pub Preservation : Type 0
Preservation =
    (p : Program) → IsResolved p → Accepted p → (now : ℕ) → now ≤ instance_count p →
    (sight : Sight) (place : Placed p sight.instance) (owner : Option ℕ) (seen : List Variable) →
    (d : Derivation GroundType) (x : code.Value) (t : GroundType) (e : List ℕ) →
    Derives (ground_reading p sight.instance place.instance) place.scope place.holds.derivation.locals owner d x t e →
    ValueFits p place.scope owner seen x →
    (n : ℕ) (w : World) → SightHas p now w.objects sight place owner seen → WellHeap p now w.objects →
    let r : Result Value = eval_value p (program_starts p) (open_calls p (program_starts p) n) sight x w in
    Keeps p now t r.out r.world

-- .. of a block
abbrev pub BlockPreservation : Type 0
BlockPreservation =
    (p : Program) → IsResolved p → Accepted p → (now : ℕ) → now ≤ instance_count p →
    (sight : Sight) (place : Placed p sight.instance) (owner : Option ℕ) (seen : List Variable) →
    (d : BlockDerivation GroundType) (b : code.Block) (t : GroundType) (e : List ℕ) →
    DerivesBlock (ground_reading p sight.instance place.instance) place.scope place.holds.derivation.locals owner d b t e →
    BlockFits p place.scope owner seen b →
    (n : ℕ) (w : World) → SightHas p now w.objects sight place owner seen → WellHeap p now w.objects →
    let r : Result Value = eval_block p (program_starts p) (open_calls p (program_starts p) n) sight b w in
    Keeps p now t r.out r.world

-- .. of a call of a method of its own type on an object that is ready
abbrev pub CallPreservation : Type 0
CallPreservation =
    (p : Program) → IsResolved p → Accepted p → (now : ℕ) → now ≤ instance_count p →
    (a : ℕ) (thing : Thing) (name : List ℕ) (m : Signature GroundType) (values : List Value) (n : ℕ) (w : World) →
    slice_get w.objects a ≡ Some thing → Ready p now a → find_method name (ground_methods p (Own thing.instance thing.literal)) ≡ Some m →
    AllHave p now w.objects values m.params → WellHeap p now w.objects →
    let r : Result Value = open_calls p (program_starts p) n a name values w in
    Keeps p now m.result r.out r.world

-- what is kept by the start of the instance of a number: all fields of its object are set, and it is ready; where evaluation ends, some are
abbrev pub KeepsFilling : (p : Program) (x : ℕ) → Placed p x → Outcome Value → World → Type 0
KeepsFilling p x place (Gives v) w = Filling p x place (fields_at p x place 0) w.objects × WellHeap p (suc x) w.objects
KeepsFilling p x place (Stops e) w = (e ≢ Wrong) × PartlyFilled p x place w.objects

-- .. of what an instance starts with, where its object has no field yet
abbrev pub StartPreservation : Type 0
StartPreservation =
    (p : Program) → IsResolved p → Accepted p → (x : ℕ) → x < instance_count p → (place : Placed p x) (n : ℕ) (w : World) →
    Filling p x place [] w.objects →
    let r : Result Value = run_start p (program_starts p) (open_calls p (program_starts p) n) x w (start_of_scope (scope_of_instance p (program_starts p) x)) in
    KeepsFilling p x place r.out r.world

-- before the first instance starts the heap is typed
abbrev pub FirstHeapIsTyped : Type 0
FirstHeapIsTyped =
    (p : Program) → IsResolved p → Accepted p →
    WellHeap p 0 (objects_at_first 0 (map started_of (start_list p))) × AreUnstarted p 0 (objects_at_first 0 (map started_of (start_list p)))
