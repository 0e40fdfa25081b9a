-- The fault by which a whole program is refused: plain modules are judged first, then the other modules, then all
-- lines, then the program's body, each in file order (docs/LANGUAGE.md, "First failing node").
use Rattle.std.specs.Prelude.{ℕ, List, [], ◌∷◌, ◌⊎◌}
use Rattle.wy_text.specs.declared.fault.Fault.{Fault}
use Rattle.wy_types.specs.Program.{Program, Scope}
use Rattle.wy_types.specs.Core.{IsCore, ScopeFits}
use Rattle.wy_rules.specs.Acceptance.{Accepted, ScopeAccepted}
use Rattle.wy_rules.specs.Failing.{IsScopeFault, IsLineFault}
use Rattle.wy_rules.specs.Refusals.{plain_modules, other_modules, the_program, ScopePasses, Numbered, scopes_of, FirstFault, LinesPassFrom}

module _ (p : Program) where
  -- each of these scopes passes
  abbrev pub AllScopesPass : List Numbered → Type 0
  AllScopesPass [] = Unit {0}
  AllScopesPass (n ∷ ns) = ScopePasses p n.number n.scope × AllScopesPass ns

  -- the program is refused by the fault
  abbrev pub IsRefusal : Fault → Type 0
  IsRefusal fault =
      FirstFault p (scopes_of plain_modules 0 p.scopes) fault ⊎
      (AllScopesPass (scopes_of plain_modules 0 p.scopes) ×
      (FirstFault p (scopes_of other_modules 0 p.scopes) fault ⊎
      (AllScopesPass (scopes_of other_modules 0 p.scopes) ×
      (IsLineFault p fault ⊎
      (LinesPassFrom p 0 p.scopes × FirstFault p (scopes_of the_program 0 p.scopes) fault)))))

-- no module and no program's body is refused whose rules hold
abbrev pub AcceptedScopesHold : Type 0
AcceptedScopesHold =
    (p : Program) (k : ℕ) (s : Scope) (fault : Fault) → ScopeFits p s → ScopeAccepted p k s →
    IsScopeFault p k s fault → ⊥

-- an accepted program has no fault
abbrev pub AcceptedHasNoFault : Type 0
AcceptedHasNoFault = (p : Program) (fault : Fault) → IsCore p → Accepted p → IsRefusal p fault → ⊥
