-- Few types are reached.
use Rattle.std.specs.Prelude.{ℕ, ◌+◌, ◌^◌, ◌≤◌, List, [], ◌∷◌, length}
use Rattle.wy_text.specs.Members.{In, Apart}
use Rattle.wy_types.specs.declared.types.TypeRef.{TypeRef}
use Rattle.wy_types.specs.declared.resolved.TypeDecl.{TypeDecl}
use Rattle.wy_types.specs.declared.path.Step.{Step}
use Rattle.wy_types.specs.Program.{Program}
use Rattle.wy_types.specs.Types.{methods_of}
use Rattle.wy_types.specs.Paths.{Walks}
use Rattle.wy_types.specs.Fitting.{IsTypeOf, own_count}
use Rattle.wy_types.specs.Core.{IsCore}

-- how many types there are by declarations, where so many atoms are: each is bare, or has a set for each abstract member, or stands at a bound
abbrev pub declared_count : ℕ → List TypeDecl → ℕ
declared_count atoms [] = 0
declared_count atoms (d ∷ ds) = (1 + (2 ^ atoms) ^ length d.members) + (2 ^ atoms + declared_count atoms ds)

-- how many types there are: the four base types, those by declarations, and so many own types
abbrev pub type_count : Program → ℕ → ℕ → ℕ
type_count p atoms owns = 4 + (declared_count atoms p.declarations + owns)

-- how many types can be reached in a scope at most: a scope has at most 512 atoms, and an own type for each literal
abbrev pub type_bound : Program → ℕ → ℕ
type_bound p scope = type_count p 512 (own_count p scope)

-- for each program, scope and type in range, no list of distinct types reached from the type is longer than that number
abbrev pub ReachedAreFew : Type 0
ReachedAreFew =
    (p : Program) → IsCore p → (scope : ℕ) (t : TypeRef) → IsTypeOf p scope t →
    (us : List TypeRef) → Apart us → ((u : TypeRef) → In u us → (path : List Step) × Walks TypeRef (methods_of p scope) t path u) →
    length us ≤ type_bound p scope
