-- What judging the lines of a program comes to.
use Rattle.std.specs.Prelude.{ℕ, List, [], Option, Some, None, slice_get}
use Rattle.wy_text.specs.declared.fault.AtomName.{AtomName}
use Rattle.wy_text.specs.declared.fault.Place.{Place}
use Rattle.wy_text.specs.declared.fault.Fault.{Fault}
use Rattle.wy_text.specs.declared.fault.RuleName.{RuleName}
use Rattle.wy_types.specs.declared.resolved.Origin.TheVariants.{Use, Instance, Import}
use Rattle.wy_types.specs.declared.resolved.OwnName.{OwnName}
use Rattle.wy_types.specs.Program.{Program, Scope}
use Rattle.wy_rules.specs.Nodes.{Node, line_nodes, lines_nodes}
use Rattle.wy_rules.specs.Failing.{AllPass, FirstFailing, IsLineFault, IsLineFaultFrom}
use Rattle.wy_rules.specs.Refusals.{LinesPassFrom}
use Rattle.wy_link.specs.declared.misfit.Misfit.{Misfit}
use Rattle.wy_premises.specs.Tried.{missing_atom}

------------------------------------------------------------
-- Faults of rules with several premises

abbrev pub missing_name : List AtomName → Option ℕ → Option AtomName
missing_name atoms None = None
missing_name atoms (Some a) = slice_get atoms a

abbrev pub misfit_fault : Place → RuleName → List AtomName → Misfit → Fault
misfit_fault place rule atoms x = record { place = place; rule = rule; premise = x.premise; atom = missing_name atoms (missing_atom x.missing) }

------------------------------------------------------------
-- Nodes

-- nodes of lines pass, or the first that fails
abbrev pub NodesComeTo : Program → ℕ → Scope → List Node → Option Fault → Type 0
NodesComeTo p k s ns None = AllPass p k s [] ns
NodesComeTo p k s ns (Some fault) = FirstFailing p k s [] ns fault

-- those of a use, in whichever scope it stands
abbrev pub UseTo : Program → OwnName → ℕ → Option Fault → Type 0
UseTo p n m o = (k : ℕ) (s : Scope) → NodesComeTo p k s (line_nodes n (Use m)) o

-- those of an instance and of an import
module _ (p : Program) (k : ℕ) (s : Scope) (n : OwnName) where
  abbrev pub InstanceTo : ℕ → List ℕ → Option Fault → Type 0
  InstanceTo m arguments o = NodesComeTo p k s (line_nodes n (Instance m arguments)) o

  abbrev pub ImportTo : ℕ → List ℕ → List ℕ → Option Fault → Type 0
  ImportTo m arguments bound o = NodesComeTo p k s (line_nodes n (Import m arguments bound)) o

  -- those of one of a scope's own names
  abbrev pub NameComesTo : Option Fault → Type 0
  NameComesTo o = NodesComeTo p k s (line_nodes n n.origin) o

-- those of all of a scope's lines
abbrev pub ScopeComesTo : Program → ℕ → Scope → Option Fault → Type 0
ScopeComesTo p k s o = NodesComeTo p k s (lines_nodes s.names) o

-- the lines of the scopes from a number on, and of all scopes, in their order
abbrev pub LinesFrom : Program → ℕ → List Scope → Option Fault → Type 0
LinesFrom p k ss None = LinesPassFrom p k ss
LinesFrom p k ss (Some fault) = IsLineFaultFrom p k ss fault

abbrev pub LinesComeTo : Program → Option Fault → Type 0
LinesComeTo p None = LinesPassFrom p 0 p.scopes
LinesComeTo p (Some fault) = IsLineFault p fault
