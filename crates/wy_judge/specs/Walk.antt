-- A walk over the bodies of a scope of a core, what is said at its scope, and what its pairs are asked about.
use Rattle.std.specs.Prelude.{◌≡◌, ℕ}
use Rattle.wy_types.specs.Program.{Program, Scope, program_of, scope_of}
use Rattle.wy_subtype.specs.Decided.{About}
use Rattle.wy_judge.specs.declared.walk.Walk.{Walk}
use Rattle.wy_judge.specs.Tables.{IsScopeOf, HasOwner}
use Rattle.wy_judge.specs.Targets.{about_of}

-- what is said of a scope of a program, by its number, of the walk's own
abbrev pub Here : {A : Type 1} → Walk → (Program → ℕ → Scope → A) → A
Here w P = P (program_of w.core.now) w.number (scope_of w.scope.now)

pub record IsWalk (w : Walk) : Type 0 where
  pub context : Here w IsScopeOf
  pub owner : HasOwner (scope_of w.scope.now) w.owner

-- the pairs are those of the walk's scope
abbrev pub Asks : Walk → About → Type 0
Asks w about = about ≡ about_of (program_of w.core.now) w.number (scope_of w.scope.now)
