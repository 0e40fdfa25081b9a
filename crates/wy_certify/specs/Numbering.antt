-- The types of which the part of a scope speaks, and lists of types that have each once (docs/LANGUAGE.md,
-- "Certificates").
use Rattle.std.specs.Prelude.{List, ◌++◌}
use Rattle.wy_text.specs.Members.{In, Apart}
use Rattle.wy_types.specs.declared.types.TypeRef.{TypeRef}
use Rattle.wy_proving.specs.Certified.{Pair}
use Rattle.wy_proving.specs.Steps.{Step}
use Rattle.wy_proving.specs.Written.{pair_types, step_types}

-- the types of which the part of a scope speaks: those of pairs, of pairs for plain comparison, of steps and of `val`s
unfoldable pub part_types : List Pair → List Pair → List TypeRef → List (Step TypeRef) → List TypeRef
part_types ps bs us sts = pair_types ps ++ (pair_types bs ++ (step_types sts ++ us))

-- a list that has these types, each once, and no others
pub record IsEachOnce (us ts : List TypeRef) : Type 0 where
  pub all : (t : TypeRef) → In t us → In t ts
  pub only : (t : TypeRef) → In t ts → In t us
  pub apart : Apart ts
