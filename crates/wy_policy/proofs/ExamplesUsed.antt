-- What was used of each instance of a program of three files, worked out.
use Rattle.std.proofs.Common.{codes, ◌≡◌, ℕ, List, [], ◌∷◌, ◌++◌, refl, Some, None}
use Rattle.wy_text.specs.declared.fault.AtomName.{AtomName}
use Rattle.wy_device.specs.declared.deed.Event.{Event}
use Rattle.wy_device.specs.declared.deed.Event.TheVariants as event
use Rattle.wy_device.specs.declared.operation.Answer.{Answer}
use Rattle.wy_device.specs.declared.operation.Answer.TheVariants as answer
use Rattle.wy_device.specs.declared.operation.Op.{Op}
use Rattle.wy_device.specs.declared.operation.Op.TheVariants.{ConsoleWrite, FolderAppend, FolderRead}
use Rattle.wy_effects.specs.AtomTable.{atom_name}
use Rattle.wy_authority.specs.declared.rows.Authority.{Authority}
use Rattle.wy_authority.specs.declared.rows.InstanceRow.{InstanceRow}
use Rattle.wy_policy.specs.Used.{used_sets, used_text}

abbrev atoms : List AtomName
atoms =
    atom_name (codes "console") (codes "In") ∷ atom_name (codes "console") (codes "Out") ∷
    atom_name (codes "data") (codes "Read") ∷ atom_name (codes "data") (codes "Write") ∷ atom_name (codes "data") (codes "Append") ∷ atom_name (codes "data") (codes "List") ∷
    atom_name (codes "logs") (codes "Read") ∷ atom_name (codes "logs") (codes "Write") ∷ atom_name (codes "logs") (codes "Append") ∷ atom_name (codes "logs") (codes "List") ∷ []

abbrev row : List ℕ → InstanceRow
row name = record { name = name; bodies = [] }

abbrev reporter : Authority
reporter = record { atoms = atoms; rows = row (codes "pure clean") ∷ row (codes "lg") ∷ row (codes "rep") ∷ row (codes "main") ∷ [] }

abbrev entered : List ℕ → List ℕ → Event
entered instance body = event.Enter instance body

abbrev done : List ℕ → Op → Answer → Event
done grant op answer = event.Deed (record { grant = grant; op = op; answer = Some answer })

abbrev failed : List ℕ → Op → Event
failed grant op = event.Deed (record { grant = grant; op = op; answer = None })

-- up to the call that reports
abbrev started : List Event
started =
    entered (codes "pure clean") (codes "init") ∷ event.Leave ∷ entered (codes "lg") (codes "init") ∷ event.Leave ∷ entered (codes "rep") (codes "init") ∷ event.Leave ∷
    entered (codes "main") (codes "run") ∷ entered (codes "rep") (codes "each") ∷ []

-- the log of a line, behind which the call of the log is left
abbrev logged : List ℕ → List Event
logged line =
    entered (codes "lg") (codes "log") ∷ entered (codes "pure clean") (codes "safe") ∷ event.Leave ∷ done (codes "logs") (FolderAppend (codes "log") line) answer.Unit ∷ event.Leave ∷ []

abbrev whole : List Event
whole =
    ((started ++ done (codes "data") (FolderRead (codes "in")) (answer.Bytes (codes "x")) ∷ []) ++ logged (codes "x\n")) ++
    (entered (codes "main") (codes "new1.got") ∷ done (codes "console") (ConsoleWrite (codes "x")) answer.Unit ∷ event.Leave ∷ event.Leave ∷ logged (codes "done\n"))

whole_sets : used_sets reporter whole ≡ [] ∷ (8 ∷ []) ∷ (1 ∷ 2 ∷ 8 ∷ []) ∷ (1 ∷ 2 ∷ 8 ∷ []) ∷ []
whole_sets = refl

whole_text : used_text reporter (used_sets reporter whole)
    ≡ codes "used of pure clean: -\nused of lg: logs.Append\nused of rep: console.Out, data.Read, logs.Append\nused of main: console.Out, data.Read, logs.Append\n"
whole_text = refl

-- an operation that failed counts, and nothing comes behind it
failed_text : used_text reporter (used_sets reporter (started ++ failed (codes "data") (FolderRead (codes "in")) ∷ []))
    ≡ codes "used of pure clean: -\nused of lg: -\nused of rep: data.Read\nused of main: data.Read\n"
failed_text = refl

nothing_text : used_text reporter (used_sets reporter []) ≡ codes "used of pure clean: -\nused of lg: -\nused of rep: -\nused of main: -\n"
nothing_text = refl
