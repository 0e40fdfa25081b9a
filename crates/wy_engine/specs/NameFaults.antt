-- How a call ends whose names are refused: the rule that each refusal goes by, and its place (docs/LANGUAGE.md,
-- "Names").
use Rattle.std.specs.Prelude.{◌≡◌, ℕ, List, None}
use Rattle.wy_text.specs.declared.fault.Fault.{Fault}
use Rattle.wy_text.specs.declared.fault.Place.{Place}
use Rattle.wy_text.specs.declared.fault.RuleName.{RuleName}
use Rattle.wy_text.specs.declared.fault.RuleName.TheVariants as rule
use Rattle.wy_syntax.specs.Trees.{ItemTree}
use Rattle.wy_types.specs.Program as core
use Rattle.wy_symbols.specs.Declarations.{all_items}
use Rattle.wy_names.specs.Names.{Refused, Resolves}
use Rattle.wy_names.specs.declared.refusal.NameRefusal.{NameRefusal}
use Rattle.wy_names.specs.declared.refusal.NameRefusal.TheVariants as refusal
use Rattle.wy_engine.specs.FileTrees.{HaveTrees}
use Rattle.wy_engine.specs.declared.status.Status.{Status}
use Rattle.wy_engine.specs.declared.status.Status.TheVariants as status

-- where a program that has no program block is refused
abbrev pub first_place : Place
first_place = record { file = 1; line = 1; column = 1 }

-- a rule of names has one premise, and no effect is lacking
abbrev pub name_fault : RuleName → Place → Fault
name_fault named place = record { place = place; rule = named; premise = 1; atom = None }

-- the status that a refusal of names gives
abbrev pub names_status : NameRefusal → Status
names_status (refusal.Unknown place) = status.Refused (name_fault rule.NUnknown place)
names_status (refusal.Twice place) = status.Refused (name_fault rule.NTwice place)
names_status (refusal.Cycle place) = status.Refused (name_fault rule.NCycle place)
names_status refusal.NoProgram = status.Refused (name_fault rule.NNoProgram first_place)
names_status (refusal.TwoPrograms place) = status.Refused (name_fault rule.NTwoPrograms place)
names_status (refusal.MemberUndefined place) = status.Refused (name_fault rule.NMemberUndefined place)
names_status (refusal.MemberUnknown place) = status.Refused (name_fault rule.NMemberUnknown place)
names_status (refusal.Limit name) = status.Limit name
names_status refusal.Memory = status.Memory

-- the texts have trees whose names are refused, and this is the status that the refusal gives
pub record NamesStop (texts : List (List ℕ)) (end : Status) : Type 0 where
  pub trees : List (List ItemTree)
  pub have : HaveTrees 1 texts trees
  pub why : NameRefusal
  pub refused : Refused (all_items trees) why
  pub gives : end ≡ names_status why

-- the texts have trees in which the names resolve, and this is the program that they are of
pub record ResolveTo (texts : List (List ℕ)) (program : core.Program) : Type 0 where
  pub trees : List (List ItemTree)
  pub have : HaveTrees 1 texts trees
  pub resolves : Resolves (all_items trees) program

-- the names in the trees resolve
pub record NamesResolve (trees : List (List ItemTree)) : Type 0 where
  pub program : core.Program
  pub resolves : Resolves (all_items trees) program
