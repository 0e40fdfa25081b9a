-- The types of the `val`s of a scope, as a certificate gives them.
use Rattle.std.specs.Prelude.{ℕ, List}
use Rattle.wy_types.specs.declared.types.TypeRef.{TypeRef}
use Rattle.wy_types.specs.Program.{Program, Scope}
use Rattle.wy_types.specs.Types.{is_plain}
use Rattle.wy_rules.specs.Canonical.{same_type, canonical_locals}
use Rattle.wy_proving.specs.OneReading.{reading_at}

-- of all `val`s of a scope
abbrev pub locals_at : Program → ℕ → Scope → List TypeRef
locals_at p k s = canonical_locals (reading_at p k (is_plain s.kind)) same_type s
