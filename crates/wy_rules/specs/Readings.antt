-- How a scope's types are read where its bodies are typed: as they are written, with sets put in for the atoms, or with no
-- regard to effects. One definition of typing serves them all (docs/LANGUAGE.md, "Typing of bodies").
use Rattle.std.specs.Prelude.{ℕ, List, []}
use Rattle.wy_text.specs.Members.{Within}
use Rattle.wy_effects.specs.EffSet.{replace}
use Rattle.wy_effects.specs.Bounds.{Bounds, IsUnder, IsWithin, IsOneOf}
use Rattle.wy_types.specs.declared.types.TypeRef.{TypeRef}
use Rattle.wy_types.specs.Program.{Program}
use Rattle.wy_types.specs.Signature.{Signature}
use Rattle.wy_types.specs.Types.{IsObject as IsObjectType, substituted, annotated, erased, methods_of}
use Rattle.wy_types.specs.Bounds.{bounds_of}
use Rattle.wy_types.specs.Subtyping.{IsSubtype, AnyEffect}
use Rattle.wy_rules.specs.Tables.{replaced_methods, retyped_methods}
use Rattle.wy_rules.specs.PlainMethods.{erased_methods}

pub record Reading : Type 1 where
  pub Kind : Type 0
  -- a type and an effect of the scope, as they are read
  pub read : TypeRef → Kind
  pub effect : List ℕ → List ℕ
  -- what is known of the types that are read
  pub methods : Kind → List (Signature Kind)
  pub IsObject : Kind → Type 0
  -- the second effect is a larger one, as T-Sub asks
  pub Includes : List ℕ → List ℕ → Type 0
  -- the first effect is within the second, as subtypes and declared effects ask
  pub Allows : List ℕ → List ℕ → Type 0
  -- the atom is, by itself, within an effect
  pub Under : List ℕ → ℕ → Type 0

-- a subtype, as types are read
abbrev pub IsBelow : (y : Reading) → y.Kind → y.Kind → Type 0
IsBelow y s t = IsSubtype y.Kind y.methods y.IsObject y.Allows s t

-- annotated typing: types and effects as they stand
abbrev pub annotated_reading : Program → ℕ → Reading
annotated_reading p scope = record { Kind = TypeRef; read = λ t. t; effect = λ e. e; methods = methods_of p scope; IsObject = IsObjectType; Includes = Within; Allows = IsWithin (bounds_of p scope); Under = IsUnder (bounds_of p scope) }

-- plain typing: no test looks at an effect
abbrev pub plain_reading : Program → ℕ → Reading
plain_reading p scope = record { Kind = TypeRef; read = λ t. t; effect = λ e. e; methods = methods_of p scope; IsObject = IsObjectType; Includes = AnyEffect; Allows = AnyEffect; Under = λ f a. Unit {0} }

-- typing after a replacement of atoms by sets
abbrev pub replaced_reading : Program → ℕ → List (List ℕ) → Bounds → Reading
replaced_reading p scope by bounds = record { Kind = TypeRef; read = substituted by; effect = replace by; methods = replaced_methods p scope by; IsObject = IsObjectType; Includes = Within; Allows = IsWithin bounds; Under = IsUnder bounds }

-- typing of a scope without effects, whatever its kind
abbrev pub erased_reading : Program → ℕ → Reading
erased_reading p scope = record { Kind = TypeRef; read = erased; effect = λ e. []; methods = erased_methods p scope; IsObject = IsObjectType; Includes = AnyEffect; Allows = AnyEffect; Under = λ f a. Unit {0} }

-- annotated typing of a plain module, with every declared type at a set and every effect that set
abbrev pub retyped_reading : Program → ℕ → List ℕ → Reading
retyped_reading p scope e = record { Kind = TypeRef; read = annotated e; effect = λ f. e; methods = retyped_methods p scope e; IsObject = IsObjectType; Includes = Within; Allows = Within; Under = IsOneOf }
