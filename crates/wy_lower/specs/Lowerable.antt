-- Which programs, with their instances in start order, are lowered to code that does what they mean.
-- (docs/LANGUAGE.md, "Code of programs")
use Rattle.std.specs.Prelude.{◌≡◌, ℕ, List, [], ◌∷◌, ◌++◌, Some, false, length, slice_get}
use Rattle.wy_text.specs.Members.{Apart}
use Rattle.wy_types.specs.Code.{Expr, New}
use Rattle.wy_types.specs.Core.{IsCore}
use Rattle.wy_types.specs.Vals.{literal_captures}
use Rattle.wy_types.specs.Program.{Program, Scope}
pub use Rattle.wy_rules.specs.OwnNames.{GrantsStandFirst}
use Rattle.wy_device.specs.Editions.{current}
use Rattle.wy_meaning.specs.Starts.{Started, Starts, scope_names, last_scope}
use Rattle.wy_lower.specs.Lowering.{is_program}
use Rattle.wy_lower.specs.Parts.{scope_parts}

-- the literal that an expression makes an object of, if it is a `new`
abbrev pub literal_made : Expr → List ℕ
literal_made (New place l xs) = l ∷ []
literal_made _ = []

abbrev pub literals_made_in : List Expr → List ℕ
literals_made_in [] = []
literals_made_in (e ∷ es) = literal_made e ++ literals_made_in es

-- the literals of the `new` expressions of a scope
abbrev pub literals_made : Scope → List ℕ
literals_made s = literals_made_in (scope_parts s)

-- an instance of a module, which is handed something for each own name of the module
pub record IsModuleStarted (p : Program) (i : Started) : Type 0 where
  pub scope : Scope
  pub stands : slice_get p.scopes i.scope ≡ Some scope
  pub is_module : is_program scope.kind ≡ false
  pub handed : length i.actuals ≡ length scope.names

pub record Lowerable (p : Program) (s : Starts) : Type 0 where
  pub core : IsCore p
  pub edition : s.edition ≡ current
  -- an object literal is made by one `new`, and a module's own object captures nothing
  pub made : (k : ℕ) (scope : Scope) → slice_get p.scopes k ≡ Some scope → Apart (literals_made scope)
  pub bare : (k : ℕ) (scope : Scope) → slice_get p.scopes k ≡ Some scope → literal_captures (slice_get scope.literals 0) ≡ []
  pub instances : (x : ℕ) (i : Started) → slice_get s.instances x ≡ Some i → IsModuleStarted p i
  -- `main` is the program
  pub main : s.main.scope ≡ last_scope p.scopes
  pub grants : GrantsStandFirst (scope_names (slice_get p.scopes (last_scope p.scopes)))
