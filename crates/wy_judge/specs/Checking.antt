-- What checking comes to: of a scope by itself, of modules in their turns, and of a whole program.
use Rattle.std.specs.Prelude.{◌≡◌, ℕ, List, length, Some, slice_get, Bool as Truth, true, false}
use Rattle.wy_text.specs.declared.limit.LimitName.TheVariants.{ReachedTypes}
use Rattle.wy_types.specs.declared.types.TypeRef.{TypeRef}
use Rattle.wy_types.specs.Program.{Program, Scope}
use Rattle.wy_rules.specs.Failing.{IsScopeFault}
use Rattle.wy_rules.specs.Refusals.{Turn, plain_modules, other_modules, turn_of, is_its_turn, Numbered}
use Rattle.wy_rules.specs.Ends.{limited, refused, ReachesTooMany, FirstEnd, IsEnd}
use Rattle.wy_judge.specs.declared.checking.Checked.{Checked}
use Rattle.wy_judge.specs.declared.checking.CheckRefusal.{CheckRefusal}
use Rattle.wy_judge.specs.declared.checking.CheckRefusal.TheVariants.{Fails, Limit, Memory}
use Rattle.wy_judge.specs.Walking.{PassesOver}

------------------------------------------------------------
-- Scopes

-- the scope of a number is within the limit, and every node of it passes over the types of its `val`s, one for each
pub record IsChecked (p : Program) (k : ℕ) (c : Checked) : Type 0 where
  pub number : c.scope ≡ k
  pub scope : Scope
  pub there : slice_get p.scopes k ≡ Some scope
  pub within : ReachesTooMany p k → ⊥
  pub passes : PassesOver p k scope c.locals

-- it passes the limit
abbrev pub IsLimitRefusal : Program → ℕ → CheckRefusal → Type 0
IsLimitRefusal p k (Fails fault) = ⊥
IsLimitRefusal p k (Limit name) = (name ≡ ReachedTypes) × ReachesTooMany p k
IsLimitRefusal p k Memory = Unit {0}

-- it is not so: the limit is looked at first
abbrev pub IsCheckRefusal : Program → ℕ → CheckRefusal → Type 0
IsCheckRefusal p k (Fails fault) = (ReachesTooMany p k → ⊥) × ((s : Scope) × (slice_get p.scopes k ≡ Some s) × IsScopeFault p k s fault)
IsCheckRefusal p k (Limit name) = (name ≡ ReachedTypes) × ReachesTooMany p k
IsCheckRefusal p k Memory = Unit {0}

------------------------------------------------------------
-- Lists of the types of `val`s, one for each scope by its number

-- the scope of a number passes over the list of that number, which has a type for each of its `val`s
pub record PassesIn (p : Program) (k : ℕ) (s : Scope) (lists : List (List TypeRef)) : Type 0 where
  pub types : List TypeRef
  pub there : slice_get lists k ≡ Some types
  pub passes : PassesOver p k s types

-- there is a list for each scope, over which it passes
pub record AreLocalsOf (p : Program) (lists : List (List TypeRef)) : Type 0 where
  pub size : length lists ≡ length p.scopes
  pub each : (k : ℕ) (s : Scope) → slice_get p.scopes k ≡ Some s → PassesIn p k s lists

-- judging the scopes of a turn puts each one's list at its number, and the other lists stay
pub record PutsLists (p : Program) (turn : Turn) (old new : List (List TypeRef)) : Type 0 where
  pub size : length new ≡ length old
  pub put : (k : ℕ) (s : Scope) → slice_get p.scopes k ≡ Some s → is_its_turn turn (turn_of s.kind) ≡ true → PassesIn p k s new
  pub others : (k : ℕ) (s : Scope) → slice_get p.scopes k ≡ Some s → is_its_turn turn (turn_of s.kind) ≡ false → slice_get new k ≡ slice_get old k

------------------------------------------------------------
-- Programs

-- the modules are judged in two turns
abbrev pub module_turn : Truth → Turn
module_turn true = plain_modules
module_turn false = other_modules

-- why judging scopes stops at one of them
abbrev pub IsFirstRefusal : Program → List Numbered → CheckRefusal → Type 0
IsFirstRefusal p ns (Fails fault) = FirstEnd p ns (refused fault)
IsFirstRefusal p ns (Limit name) = FirstEnd p ns (limited name)
IsFirstRefusal p ns Memory = Unit {0}

-- why judging a whole program ends
abbrev pub IsRefusalOf : Program → CheckRefusal → Type 0
IsRefusalOf p (Fails fault) = IsEnd p (refused fault)
IsRefusalOf p (Limit name) = IsEnd p (limited name)
IsRefusalOf p Memory = Unit {0}
