-- What resolving makes: a program whose names resolve has what every core keeps, its own names have their types and plain names, its grants
-- stand first, its modules capture nothing, each object literal is made at one place, and the program's own object has no fields
-- (docs/LANGUAGE.md, "Names", "Modules and lines").
use Rattle.std.specs.Prelude.{◌≢◌, ◌⊎◌, List, slice_get}
use Rattle.wy_syntax.specs.Trees.{ItemTree}
use Rattle.wy_types.specs.Program.{Program}
use Rattle.wy_types.specs.Core.{IsCore}
use Rattle.wy_types.specs.Ground.{names_of, program_number}
use Rattle.wy_rules.specs.OwnNames.{LinesAreTyped, HavePlainNames, HasOrdinaryNames, GrantsStandFirst, ModulesCaptureNothing}
use Rattle.wy_names.specs.declared.refusal.NameRefusal.{NameRefusal}
use Rattle.wy_names.specs.declared.refusal.NameRefusal.TheVariants.{Memory}
use Rattle.wy_names.specs.Names.{Resolves, Refused}
use Rattle.wy_rules.specs.Resolved.{MakesOnce, MainHasNoFields, CoreKeeps, IsResolved}
use Rattle.wy_syntax.specs.OwnWords.{HaveWords}

-- names that resolve make a core
abbrev pub ResolvedIsCore : Type 0
ResolvedIsCore = (items : List ItemTree) (p : Program) → Resolves items p → IsCore p

-- its own names have the types that they are declared with, of the atoms that they open
abbrev pub ResolvedNamesFit : Type 0
ResolvedNamesFit = (items : List ItemTree) (p : Program) → Resolves items p → LinesAreTyped p

-- they have no space and no full stop, where the items' words have none
abbrev pub ResolvedNamesAreWords : Type 0
ResolvedNamesAreWords = (items : List ItemTree) (p : Program) → Resolves items p → HaveWords items → HavePlainNames p

-- nor is one of them called as the program is, or a method as what a scope starts with, and literals have numbers that can be written out
abbrev pub ResolvedNamesAreOrdinary : Type 0
ResolvedNamesAreOrdinary = (items : List ItemTree) (p : Program) → Resolves items p → HaveWords items → HasOrdinaryNames p

-- of those of the program grants stand first
abbrev pub ResolvedGrantsStandFirst : Type 0
ResolvedGrantsStandFirst =
    (items : List ItemTree) (p : Program) → Resolves items p → GrantsStandFirst (names_of (slice_get p.scopes (program_number p)))

-- methods of modules see no variable but their parameters
abbrev pub ResolvedModulesCaptureNothing : Type 0
ResolvedModulesCaptureNothing = (items : List ItemTree) (p : Program) → Resolves items p → ModulesCaptureNothing p

-- no scope makes a literal at two places
abbrev pub ResolvedMakesOnce : Type 0
ResolvedMakesOnce = (items : List ItemTree) (p : Program) → Resolves items p → MakesOnce p

-- the object of the program block has no fields
abbrev pub ResolvedMainHasNoFields : Type 0
ResolvedMainHasNoFields = (items : List ItemTree) (p : Program) → Resolves items p → MainHasNoFields p

-- all of this: what every core keeps, and what one keeps whose items are of words
abbrev pub ResolvedIsKept : Type 0
ResolvedIsKept = (items : List ItemTree) (p : Program) → Resolves items p → CoreKeeps p

abbrev pub ResolvedKeepsAll : Type 0
ResolvedKeepsAll = (items : List ItemTree) (p : Program) → Resolves items p → HaveWords items → IsResolved p

-- the names are refused for a cause
abbrev pub RefusedFor : List ItemTree → Type 0
RefusedFor items = (why : NameRefusal) × (why ≢ Memory) × Refused items why

-- the names resolve, or are refused for a cause
abbrev pub IsDecided : List ItemTree → Type 0
IsDecided items = ((p : Program) × Resolves items p) ⊎ RefusedFor items

abbrev pub NamesAreDecided : Type 0
NamesAreDecided = (items : List ItemTree) → IsDecided items
