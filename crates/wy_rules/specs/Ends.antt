-- How judging a whole program ends where the program is not accepted: by the fault that refuses it, or by a limit. A module's limit
-- on types comes before its faults; the program's, and then the one on instances, before all lines (docs/LANGUAGE.md, "First failing
-- node" and "Limits").
use Rattle.std.specs.Prelude.{◌≡◌, ℕ, ◌<◌, List, [], ◌∷◌, ◌⊎◌, Some, Err, length, slice_get}
use Rattle.wy_text.specs.declared.fault.Fault.{Fault}
use Rattle.wy_text.specs.declared.limit.LimitName.{LimitName}
use Rattle.wy_text.specs.declared.limit.LimitName.TheVariants.{ReachedTypes, Instances}
use Rattle.wy_types.specs.declared.reach.ReachRefusal.TheVariants.{Limit}
use Rattle.wy_types.specs.Program.{Program, Scope}
use Rattle.wy_types.specs.Core.{IsCore}
use Rattle.wy_types.specs.Reached.{Reach}
use Rattle.wy_types.specs.Ground.{start_list}
use Rattle.wy_rules.specs.Acceptance.{Accepted}
use Rattle.wy_rules.specs.Failing.{IsScopeFault, IsLineFault}
use Rattle.wy_rules.specs.Refusals.{Numbered, plain_modules, other_modules, the_program, scopes_of, ScopePasses, FirstFault, LinesPassFrom}

pub data End : Type 0 where
  limited : LimitName → End
  refused : Fault → End

-- the scope of a number reaches more object types than the limit
abbrev pub ReachesTooMany : Program → ℕ → Type 0
ReachesTooMany p k = Reach p k (Err (Limit ReachedTypes))

-- the program has more instances in its start list than the limit, whether or not the rules for lines hold
abbrev pub StartsTooMany : Program → Type 0
StartsTooMany p = 1024 < length (start_list p)

pub record IsWithinLimits (p : Program) : Type 0 where
  pub types : (k : ℕ) (s : Scope) → slice_get p.scopes k ≡ Some s → ReachesTooMany p k → ⊥
  pub instances : StartsTooMany p → ⊥

-- the program is accepted, within the limits
pub record IsAccepted (p : Program) : Type 0 where
  pub accepted : Accepted p
  pub within : IsWithinLimits p

module _ (p : Program) where
  abbrev pub IsScopeEnd : Numbered → End → Type 0
  IsScopeEnd n (limited name) = (name ≡ ReachedTypes) × ReachesTooMany p n.number
  IsScopeEnd n (refused fault) = (ReachesTooMany p n.number → ⊥) × IsScopeFault p n.number n.scope fault

  pub record ScopeGoesOn (n : Numbered) : Type 0 where
    pub within : ReachesTooMany p n.number → ⊥
    pub passes : ScopePasses p n.number n.scope

  -- the first of these scopes at which judging ends; or it goes on after all of them
  abbrev pub FirstEnd : List Numbered → End → Type 0
  FirstEnd [] end = ⊥
  FirstEnd (n ∷ ns) end = IsScopeEnd n end ⊎ (ScopeGoesOn n × FirstEnd ns end)

  abbrev pub AllGoOn : List Numbered → Type 0
  AllGoOn [] = Unit {0}
  AllGoOn (n ∷ ns) = ScopeGoesOn n × AllGoOn ns

  -- the limits on the program's types and on instances
  abbrev pub SomeReachTooMany : List Numbered → Type 0
  SomeReachTooMany [] = ⊥
  SomeReachTooMany (n ∷ ns) = ReachesTooMany p n.number ⊎ SomeReachTooMany ns

  abbrev pub IsLimitEnd : List Numbered → End → Type 0
  IsLimitEnd ns (limited name) = ((name ≡ ReachedTypes) × SomeReachTooMany ns) ⊎ ((SomeReachTooMany ns → ⊥) × (name ≡ Instances) × StartsTooMany p)
  IsLimitEnd ns (refused fault) = ⊥

  abbrev pub KeepsLimits : List Numbered → Type 0
  KeepsLimits ns = (SomeReachTooMany ns → ⊥) × (StartsTooMany p → ⊥)

  abbrev pub IsLineEnd : End → Type 0
  IsLineEnd (limited name) = ⊥
  IsLineEnd (refused fault) = IsLineFault p fault

  abbrev pub IsBodyEnd : List Numbered → End → Type 0
  IsBodyEnd ns (limited name) = ⊥
  IsBodyEnd ns (refused fault) = FirstFault p ns fault

  -- the modules, plain ones first; the limits on the program's types and on instances; the lines; the program's body
  abbrev pub IsEnd : End → Type 0
  IsEnd end =
      FirstEnd (scopes_of plain_modules 0 p.scopes) end ⊎
      (AllGoOn (scopes_of plain_modules 0 p.scopes) ×
      (FirstEnd (scopes_of other_modules 0 p.scopes) end ⊎
      (AllGoOn (scopes_of other_modules 0 p.scopes) ×
      (IsLimitEnd (scopes_of the_program 0 p.scopes) end ⊎
      (KeepsLimits (scopes_of the_program 0 p.scopes) ×
      (IsLineEnd end ⊎
      (LinesPassFrom p 0 p.scopes × IsBodyEnd (scopes_of the_program 0 p.scopes) end)))))))

-- a scope has one fault
abbrev pub OneScopeFault : Type 0
OneScopeFault = (p : Program) (k : ℕ) (s : Scope) (one other : Fault) → IsCore p → slice_get p.scopes k ≡ Some s → IsScopeFault p k s one → IsScopeFault p k s other → one ≡ other

-- judging a core has one end
abbrev pub OneEnd : Type 0
OneEnd = (p : Program) (one other : End) → IsCore p → IsEnd p one → IsEnd p other → one ≡ other

-- .. and none where it is accepted within the limits
abbrev pub AcceptedHasNoEnd : Type 0
AcceptedHasNoEnd = (p : Program) (end : End) → IsCore p → Accepted p → IsWithinLimits p → IsEnd p end → ⊥
