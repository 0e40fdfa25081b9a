-- What checking a whole program gives: its links, where it is accepted within the limits.
use Rattle.wy_types.specs.Program.{Program}
use Rattle.wy_rules.specs.Refusals.{plain_modules, other_modules, the_program, scopes_of}
use Rattle.wy_rules.specs.Ends.{AllGoOn, KeepsLimits, IsAccepted}
use Rattle.wy_link.specs.declared.linking.Links.{Links}
use Rattle.wy_link.specs.Linking.{IsLinked}

-- what is known when lines are judged
pub record IsBeforeLines (p : Program) : Type 0 where
  pub plain : AllGoOn p (scopes_of plain_modules 0 p.scopes)
  pub others : AllGoOn p (scopes_of other_modules 0 p.scopes)
  pub limits : KeepsLimits p (scopes_of the_program 0 p.scopes)

pub record IsCheckedProgram (p : Program) (l : Links) : Type 0 where
  pub accepted : IsAccepted p
  pub linked : IsLinked p l
