-- What every core keeps: all that resolving gives of a program, for which its laws and the calls on it ask.
use Rattle.std.specs.Prelude.{◌≡◌, [], slice_get}
use Rattle.wy_text.specs.Members.{In, Apart}
use Rattle.wy_types.specs.declared.resolved.ScopeKind.TheVariants.{Program as Main}
use Rattle.wy_types.specs.Program.{Program, Scope}
use Rattle.wy_types.specs.Core.{IsCore}
use Rattle.wy_types.specs.Vals.{literal_fields}
use Rattle.wy_types.specs.Ground.{names_of, program_number}
use Rattle.wy_rules.specs.OwnNames.{LinesAreTyped, HavePlainNames, HasOrdinaryNames, GrantsStandFirst, ModulesCaptureNothing}
use Rattle.wy_rules.specs.News.{scope_news}

-- no scope makes an object literal at two places
abbrev pub MakesOnce : Program → Type 0
MakesOnce p = (s : Scope) → In s p.scopes → Apart (scope_news s)

-- the program's own object has no fields
abbrev pub MainHasNoFields : Program → Type 0
MainHasNoFields p = (s : Scope) → In s p.scopes → s.kind ≡ Main → literal_fields (slice_get s.literals 0) ≡ []

-- what resolving gives of every program: it is a core, its own names have their types, the program's grants first, its modules capture nothing,
-- it makes each object literal at one place, and the program's own object has no fields
pub record CoreKeeps (p : Program) : Type 0 where
  pub core : IsCore p
  pub lines : LinesAreTyped p
  pub grants : GrantsStandFirst (names_of (slice_get p.scopes (program_number p)))
  pub captures : ModulesCaptureNothing p
  pub once : MakesOnce p
  pub main : MainHasNoFields p

-- what it gives of one whose items are of words: no hidden instance has the name of an own name, and no report gives one to anything else
pub record IsResolved (p : Program) : Type 0 where
  pub keeps : CoreKeeps p
  pub names : HavePlainNames p
  pub ordinary : HasOrdinaryNames p
