-- The bounds of events, tried on examples.
use Rattle.std.proofs.Common.{codes, ◌<◌, ℕ, List, [], ◌∷◌, Option, None, Contains, refl, arith}
use Rattle.std.proofs.lemmas.List.Elements.{All-cons, All-head, All-nil}
use Rattle.wy_text.specs.declared.fault.AtomName.{AtomName}
use Rattle.wy_device.specs.declared.operation.Answer.{Answer}
use Rattle.wy_device.specs.declared.operation.Op.TheVariants.{ConsoleWrite}
use Rattle.wy_device.specs.declared.deed.Event.{Event}
use Rattle.wy_device.specs.declared.deed.Event.TheVariants.{Enter, Deed, Leave}
use Rattle.wy_meaning.specs.Bounds.{Bounded, Call}

abbrev entered : Event
entered = Enter (codes "main") (codes "run")

abbrev wrote : List ℕ → Option Answer → Event
wrote text answered = Deed (record { grant = codes "console"; op = ConsoleWrite text; answer = answered })

-- an authority that allows writing in each body, and one that allows nothing
abbrev writer : Call → List AtomName
writer call = record { owner = codes "console"; member = codes "Out" } ∷ []

abbrev nobody : Call → List AtomName
nobody call = []

main_run : Call
main_run = record { instance = codes "main"; body = codes "run" }

kept : Bounded writer (entered ∷ wrote (codes "a") None ∷ [])
unfolding main_run
kept = (All-cons (λ call. Contains (writer call) (record { owner = codes "console"; member = codes "Out" })) main_run [] (0, omega arith, refl) (All-nil _), tt)

-- a failed write counts too
broken : ¬ Bounded nobody (entered ∷ wrote (codes "a") None ∷ [])
unfolding main_run
broken bounded = let among = All-head (λ call. Contains (nobody call) (record { owner = codes "console"; member = codes "Out" })) main_run [] bounded.0 in let few : among.0 < 0 = among.1 in omega arith

-- what is done after a body was left is not bounded by it
left : Bounded nobody (entered ∷ Leave ∷ wrote (codes "a") None ∷ [])
left = (All-nil _, tt)
