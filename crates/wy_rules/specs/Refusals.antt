-- The turns in which the scopes of a program are judged, and the first fault in a turn. Plain modules come first, then
-- the other modules, then the program, each in file order (docs/LANGUAGE.md, "First failing node").
use Rattle.std.specs.Prelude.{ℕ, ◌+◌, List, [], ◌∷◌, ◌⊎◌, Bool as Truth, true, false, if◌then◌else◌}
use Rattle.wy_text.specs.declared.fault.Fault.{Fault}
use Rattle.wy_types.specs.declared.resolved.ScopeKind.{ScopeKind}
use Rattle.wy_types.specs.declared.resolved.ScopeKind.TheVariants.{Pure, Resource, Plain, Program as Main}
use Rattle.wy_types.specs.Program.{Program, Scope}
use Rattle.wy_rules.specs.Acceptance.{scope_reading}
use Rattle.wy_rules.specs.Nodes.{scope_nodes, lines_nodes}
use Rattle.wy_rules.specs.Failing.{AllPass, IsScopeFault}

-- the passes over the scopes
pub data Turn : Type 0 where
  plain_modules : Turn
  other_modules : Turn
  the_program : Turn

-- the turn of a scope
abbrev pub turn_of : ScopeKind → Turn
turn_of Pure = other_modules
turn_of Resource = other_modules
turn_of Plain = plain_modules
turn_of Main = the_program

-- the two turns are the same
abbrev pub is_its_turn : Turn → Turn → Truth
is_its_turn plain_modules plain_modules = true
is_its_turn other_modules other_modules = true
is_its_turn the_program the_program = true
is_its_turn a b = false

-- each node of the scope passes over some types of its `val`s
pub record ScopePasses (p : Program) (k : ℕ) (s : Scope) : Type 0 where
  pub locals : List (scope_reading p k s).Kind
  pub nodes : AllPass p k s locals (scope_nodes s)

-- a scope with its number
pub record Numbered : Type 0 where
  pub number : ℕ
  pub scope : Scope

-- the scopes of a turn, from a number on
abbrev pub scopes_of : Turn → ℕ → List Scope → List Numbered
scopes_of turn k [] = []
scopes_of turn k (s ∷ ss) = if is_its_turn turn (turn_of s.kind) then record { number = k; scope = s } ∷ scopes_of turn (k + 1) ss else scopes_of turn (k + 1) ss

module _ (p : Program) where
  -- the first of these scopes that has a fault; or all of them pass
  abbrev pub FirstFault : List Numbered → Fault → Type 0
  FirstFault [] fault = ⊥
  FirstFault (n ∷ ns) fault = IsScopeFault p n.number n.scope fault ⊎ (ScopePasses p n.number n.scope × FirstFault ns fault)

  -- the lines of each of these scopes pass, the first scope having this number
  abbrev pub LinesPassFrom : ℕ → List Scope → Type 0
  LinesPassFrom k [] = Unit {0}
  LinesPassFrom k (s ∷ ss) = AllPass p k s [] (lines_nodes s.names) × LinesPassFrom (k + 1) ss
