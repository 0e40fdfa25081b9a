-- The type that is declared for what a name stands for.
use Rattle.std.specs.Prelude.{ℕ, Option, None, slice_get}
use Rattle.std.specs.Option.{option_map}
use Rattle.wy_types.specs.declared.types.TypeRef.{TypeRef}
use Rattle.wy_types.specs.declared.code.Variable.{Variable}
use Rattle.wy_types.specs.declared.code.Variable.TheVariants.{Parameter, Local}
use Rattle.wy_types.specs.declared.code.Binding.{Binding}
use Rattle.wy_types.specs.declared.code.Binding.TheVariants as to
use Rattle.wy_types.specs.declared.resolved.Field.{Field}
use Rattle.wy_types.specs.declared.resolved.OwnName.{OwnName}
use Rattle.wy_types.specs.Program.{Scope}
use Rattle.wy_rules.specs.Typing.{field_at, parameter_type}

-- .. of a parameter; of a `val` none
abbrev pub declared_type_of_variable : Scope → Variable → Option TypeRef
declared_type_of_variable s (Parameter k i) = parameter_type (slice_get s.bodies k) i
declared_type_of_variable s (Local n) = None

abbrev pub declared_type : Scope → Option ℕ → Binding → Option TypeRef
declared_type s owner (to.Variable v) = declared_type_of_variable s v
declared_type s owner (to.Field i) = option_map (λ (f : Field). f.typ) (field_at s owner i)
declared_type s owner (to.Own k) = option_map (λ (n : OwnName). n.typ) (slice_get s.names k)
