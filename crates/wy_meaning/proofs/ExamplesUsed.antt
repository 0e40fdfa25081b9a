-- What was used of each instance in the events of a small run: an instance that is called, one that is not, and main.
use Rattle.std.proofs.Common.{◌≡◌, ℕ, List, [], ◌∷◌, Some, None, refl}
use Rattle.std.specs.Prelude.{codes}
use Rattle.wy_text.specs.declared.fault.AtomName.{AtomName}
use Rattle.wy_device.specs.declared.deed.Deed.{Deed as DeedRecord}
use Rattle.wy_device.specs.declared.deed.Event.{Event}
use Rattle.wy_device.specs.declared.deed.Event.TheVariants.{Enter, Deed, Leave}
use Rattle.wy_device.specs.declared.operation.Answer.TheVariants as answer
use Rattle.wy_device.specs.declared.operation.Op.TheVariants as op
use Rattle.wy_effects.specs.AtomTable.{atom_name}
use Rattle.wy_meaning.specs.Used.{used_of, used_set}

abbrev logs : List ℕ
logs = codes "logs"

abbrev append : DeedRecord
append = record { grant = logs; op = op.FolderAppend (codes "log") (codes "a"); answer = Some answer.Unit }

abbrev write : DeedRecord
write = record { grant = codes "console"; op = op.ConsoleWrite (codes "b"); answer = None }

-- main calls lg, which appends; behind that call a write of main's own fails
abbrev events : List Event
events = Enter (codes "idle") (codes "init") ∷ Leave ∷ Enter (codes "main") (codes "run") ∷ Enter (codes "lg") (codes "log") ∷ Deed append ∷ Leave ∷ Deed write ∷ []

names : List AtomName
names = atom_name (codes "console") (codes "In") ∷ atom_name (codes "console") (codes "Out") ∷ atom_name logs (codes "Read") ∷ atom_name logs (codes "Append") ∷ []

main_used : used_of (codes "main") events ≡ atom_name logs (codes "Append") ∷ atom_name (codes "console") (codes "Out") ∷ []
main_used = refl

-- the call of lg was left before the write
lg_used : used_of (codes "lg") events ≡ atom_name logs (codes "Append") ∷ []
lg_used = refl

idle_used : used_of (codes "idle") events ≡ []
idle_used = refl

-- as sets of places they ascend
main_set : used_set names events (codes "main") ≡ 1 ∷ 3 ∷ []
unfolding names
main_set = refl

lg_set : used_set names events (codes "lg") ≡ 3 ∷ []
unfolding names
lg_set = refl
