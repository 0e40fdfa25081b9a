-- What a program's names stand for, and the refusals of names.
use Rattle.std.specs.Prelude.{◌≡◌, List, [], ◌∷◌, ◌⊎◌, Some, None}
use Rattle.wy_text.specs.declared.fault.Place.{Place}
use Rattle.wy_syntax.specs.Trees.{ItemTree}
use Rattle.wy_text.specs.Members.{In}
use Rattle.wy_types.specs.declared.resolved.TypeDecl.{TypeDecl}
use Rattle.wy_types.specs.Primitive.{primitive_types}
use Rattle.wy_types.specs.Program.{Program}
use Rattle.wy_symbols.specs.declared.refusal.Cause.{Cause}
use Rattle.wy_symbols.specs.declared.refusal.Cause.TheVariants as cause
use Rattle.wy_symbols.specs.declared.refusal.Refusal.{Refusal}
use Rattle.wy_names.specs.declared.refusal.NameRefusal.{NameRefusal}
use Rattle.wy_names.specs.declared.refusal.NameRefusal.TheVariants.{Unknown, Twice, Cycle, NoProgram, TwoPrograms, MemberUndefined, MemberUnknown, Limit, Memory}
use Rattle.wy_symbols.specs.Least.{IsLeast, refusal_at}
use Rattle.wy_symbols.specs.Declarations.{ProgramTree, modules_of, programs_of}
use Rattle.wy_heads.specs.Counts.{limit_of, limit_over}
use Rattle.wy_heads.specs.Cycles.{IsCycle}
use Rattle.wy_names.specs.Scopes.{refusals_over, resolved_over}

-- the refusals that stand at a place, over a table of primitive types
abbrev pub RefusesOver : List TypeDecl → List ItemTree → Refusal → Type 0
RefusesOver table items r = In r (refusals_over table items) ⊎ IsCycle (modules_of items) r

-- names within the limits and without a refusal, and one program block: each is bound as its scope says
pub record ResolvesOver (table : List TypeDecl) (items : List ItemTree) (p : Program) : Type 0 where
  pub program : ProgramTree
  pub one : programs_of items ≡ program ∷ []
  pub bound : p ≡ resolved_over table items program
  pub within : limit_over table items ≡ None
  pub sound : (r : Refusal) → RefusesOver table items r → ⊥

-- over today's table
abbrev pub Refuses : List ItemTree → Refusal → Type 0
Refuses items r = RefusesOver primitive_types items r

abbrev pub Resolves : List ItemTree → Program → Type 0
Resolves items p = ResolvesOver primitive_types items p

-- a refusal at a place: no limit is passed, and it comes first
pub record IsFirst (items : List ItemTree) (place : Place) (c : Cause) : Type 0 where
  pub within : limit_of items ≡ None
  pub first : IsLeast (Refuses items) (refusal_at place c)

pub record HasNoProgram (items : List ItemTree) : Type 0 where
  pub none : programs_of items ≡ []
  pub within : limit_of items ≡ None
  pub sound : (r : Refusal) → Refuses items r → ⊥

-- when each refusal comes, and want of memory at any time
abbrev pub Refused : List ItemTree → NameRefusal → Type 0
Refused items (Unknown p) = IsFirst items p cause.Unknown
Refused items (Twice p) = IsFirst items p cause.Twice
Refused items (Cycle p) = IsFirst items p cause.Cycle
Refused items NoProgram = HasNoProgram items
Refused items (TwoPrograms p) = IsFirst items p cause.TwoPrograms
Refused items (MemberUndefined p) = IsFirst items p cause.MemberUndefined
Refused items (MemberUnknown p) = IsFirst items p cause.MemberUnknown
Refused items (Limit l) = limit_of items ≡ Some l
Refused items Memory = Unit {0}
