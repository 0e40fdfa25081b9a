-- Typing of a scope of either kind as one reading: plain typing differs in its tests of effects alone.
use Rattle.std.specs.Prelude.{ℕ, List, Bool as Truth, true, false}
use Rattle.wy_text.specs.Members.{Within}
use Rattle.wy_effects.specs.Bounds.{IsUnder, IsWithin}
use Rattle.wy_types.specs.declared.types.TypeRef.{TypeRef}
use Rattle.wy_types.specs.Program.{Program}
use Rattle.wy_types.specs.Types.{IsObject, methods_of}
use Rattle.wy_types.specs.Bounds.{bounds_of}
use Rattle.wy_types.specs.Subtyping.{AnyEffect}
use Rattle.wy_rules.specs.Readings.{Reading}

-- the tests of effects, in a plain scope and in another
abbrev pub includes_in : Truth → List ℕ → List ℕ → Type 0
includes_in true = AnyEffect
includes_in false = Within

abbrev pub allows_in : Program → ℕ → Truth → List ℕ → List ℕ → Type 0
allows_in p k true = AnyEffect
allows_in p k false = IsWithin (bounds_of p k)

abbrev pub under_in : Program → ℕ → Truth → List ℕ → ℕ → Type 0
under_in p k true = λ f a. Unit {0}
under_in p k false = IsUnder (bounds_of p k)

-- types are read as they are written
abbrev pub reading_at : Program → ℕ → Truth → Reading
reading_at p k plain = record {
  Kind = TypeRef;
  read = λ t. t;
  effect = λ e. e;
  methods = methods_of p k;
  IsObject = IsObject;
  Includes = includes_in plain;
  Allows = allows_in p k plain;
  Under = under_in p k plain;
}
