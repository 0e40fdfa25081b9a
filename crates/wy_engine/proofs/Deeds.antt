-- The deeds among events, and those that devices did.
use Rattle.std.proofs.Common.{◌≡◌, List, [], ◌∷◌, ◌++◌, Option, Some, None, Bool, true, false, if◌then◌else◌, refl, sym, ◌∙◌, ap, arith, length, ◌+◌, IsSome}
use Rattle.std.proofs.Math.Seq.{drop-append_seam}
use Rattle.std.proofs.lemmas.List.{append-nil, length-append, length-map, nil_from_length}
use Rattle.wy_text.proofs.Gains.{gained-nil}
use Rattle.wy_text.specs.Outside.{gained}
use Rattle.wy_device.specs.Devices.{DevicesState, device_of}
use Rattle.wy_device.specs.Events.{DidExactly, TellsDeeds, deeds_of, same_kind}
use Rattle.wy_device.specs.Operation.{kind_of}
use Rattle.wy_device.specs.Requests.{tape_of}
use Rattle.wy_device.specs.Tapes.{Tapes, answers, new_deeds, new_deeds_of, spliced, tapes_between}
use Rattle.wy_device.specs.declared.operation.Answer.{Answer}
use Rattle.wy_device.specs.declared.operation.Kind.{Kind}
use Rattle.wy_device.specs.declared.operation.Kind.TheVariants.{Console, Folder, Clock, Random}
use Rattle.wy_device.specs.declared.deed.Deed.{Deed as DeedRecord}
use Rattle.wy_device.specs.declared.deed.Event.{Event}
use Rattle.wy_device.specs.declared.deed.Event.TheVariants.{Enter, Deed, Leave}
use Rattle.wy_machine.specs.Runs.{tapes_of}

-- ---- deeds among events

-- a deed before a list in two parts, where it is one that counts
counted_first : (b : Bool) (deed : DeedRecord) (all front rest : List DeedRecord) → all ≡ front ++ rest → (if b then deed ∷ all else all) ≡ (if b then deed ∷ front else front) ++ rest
counted_first true deed all front rest is = ap (λ x. deed ∷ x) is
counted_first false deed all front rest is = is

pub deeds_of-append : (kind : Kind) (events more : List Event) → deeds_of kind (events ++ more) ≡ deeds_of kind events ++ deeds_of kind more
deeds_of-append kind [] more = refl
deeds_of-append kind (Enter i b ∷ es) more = deeds_of-append kind es more
deeds_of-append kind (Leave ∷ es) more = deeds_of-append kind es more
deeds_of-append kind (Deed d ∷ es) more = counted_first (same_kind kind (kind_of d.op)) d _ _ _ (deeds_of-append kind es more)

-- ---- deeds that devices did

-- the new deeds of a device that tells its deeds
new_of_gained : (before after : Option (List DeedRecord)) (deeds : List DeedRecord) → IsSome before → after ≡ gained before deeds → new_deeds before after ≡ deeds
new_of_gained None after deeds tells is = absurd (cc)
new_of_gained (Some b) after deeds tells is = rw is (drop-append_seam b deeds)

pub new_deeds_of_kind : (kind : Kind) (before after : DevicesState) (events : List Event) → IsSome (device_of before kind).deeds → DidExactly before after events → new_deeds_of kind before after ≡ deeds_of kind events
new_deeds_of_kind Console before after events tells did = new_of_gained before.console.deeds after.console.deeds _ tells did.console
new_deeds_of_kind Folder before after events tells did = new_of_gained before.folder.deeds after.folder.deeds _ tells did.folder
new_deeds_of_kind Clock before after events tells did = new_of_gained before.clock.deeds after.clock.deeds _ tells did.clock
new_deeds_of_kind Random before after events tells did = new_of_gained before.random.deeds after.random.deeds _ tells did.random

pub tells_each : (kind : Kind) (d : DevicesState) → TellsDeeds d → IsSome (device_of d kind).deeds
tells_each Console d tells = tells.console
tells_each Folder d tells = tells.folder
tells_each Clock d tells = tells.clock
tells_each Random d tells = tells.random

pub new_deeds_are : (kind : Kind) (before after : DevicesState) (events : List Event) → TellsDeeds before → DidExactly before after events → new_deeds_of kind before after ≡ deeds_of kind events
new_deeds_are kind before after events tells did = new_deeds_of_kind kind before after events (tells_each kind before tells) did

-- what devices answered between two states is what they answered in the events
pub tapes_between-of : (before after : DevicesState) (events : List Event) → TellsDeeds before → DidExactly before after events → tapes_between before after ≡ tapes_of events
tapes_between-of before after events tells did =
    let c = ap answers (new_deeds_are Console before after events tells did) in
    let f = ap answers (new_deeds_are Folder before after events tells did) in
    let k = ap answers (new_deeds_are Clock before after events tells did) in
    let r = ap answers (new_deeds_are Random before after events tells did) in
    cc

-- devices that did deeds did others that are the same
pub did_same : (before after : DevicesState) (events other : List Event) → ((kind : Kind) → deeds_of kind other ≡ deeds_of kind events) → DidExactly before after events → DidExactly before after other
did_same before after events other same did = record {
  console = did.console ∙ ap (λ x. gained before.console.deeds x) (sym (same Console));
  folder = did.folder ∙ ap (λ x. gained before.folder.deeds x) (sym (same Folder));
  clock = did.clock ∙ ap (λ x. gained before.clock.deeds x) (sym (same Clock));
  random = did.random ∙ ap (λ x. gained before.random.deeds x) (sym (same Random));
}

-- devices that did not change did none
pub did_none : (before after : DevicesState) → after ≡ before → DidExactly before after []
did_none before after same = rw same (record { console = sym (gained-nil before.console.deeds); folder = sym (gained-nil before.folder.deeds); clock = sym (gained-nil before.clock.deeds); random = sym (gained-nil before.random.deeds) })

-- ---- tapes

abbrev pub no_tapes : Tapes
no_tapes = record { console = []; folder = []; clock = []; random = [] }

pub spliced-none : (tapes : Tapes) → spliced tapes no_tapes ≡ tapes
spliced-none tapes = rw (append-nil tapes.console, append-nil tapes.folder, append-nil tapes.clock, append-nil tapes.random) refl

pub tape_of-tapes_of : (kind : Kind) (events : List Event) → tape_of kind (tapes_of events) ≡ answers (deeds_of kind events)
tape_of-tapes_of Console events = refl
tape_of-tapes_of Folder events = refl
tape_of-tapes_of Clock events = refl
tape_of-tapes_of Random events = refl

none_of_none : (deeds : List DeedRecord) → length deeds ≡ 0 → deeds ≡ []
none_of_none deeds none = nil_from_length deeds none

-- deeds whose answers were all given already are none
pub none_later : (first later : List DeedRecord) (rest : List (Option Answer)) → answers first ≡ answers (first ++ later) ++ rest → later ≡ []
none_later first later rest is =
    let sizes : length (answers first) ≡ length (answers (first ++ later) ++ rest) = ap (λ x. length x) is in
    let a : length (answers first) ≡ length first = length-map first (λ deed. deed.answer) in
    let b : length (answers (first ++ later) ++ rest) ≡ length (answers (first ++ later)) + length rest = length-append (answers (first ++ later)) rest in
    let c : length (answers (first ++ later)) ≡ length (first ++ later) = length-map (first ++ later) (λ deed. deed.answer) in
    let d : length (first ++ later) ≡ length first + length later = length-append first later in
    none_of_none later (omega arith)
