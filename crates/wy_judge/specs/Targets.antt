-- What is looked up where a part is judged: the type of a name, the method that a call names, whether a type is below another.
use Rattle.std.specs.Prelude.{◌≡◌, ℕ, ◌↔◌, List, ◌⊎◌, Option, Some, None, Bool as Truth, true, length, slice_get}
use Rattle.std.specs.Option.{option_map}
use Rattle.wy_types.specs.declared.types.TypeRef.{TypeRef}
use Rattle.wy_types.specs.declared.types.Method.{Method}
use Rattle.wy_types.specs.declared.code.Variable.{Variable}
use Rattle.wy_types.specs.declared.code.Variable.TheVariants.{Parameter, Local}
use Rattle.wy_types.specs.declared.code.Binding.{Binding}
use Rattle.wy_types.specs.declared.code.Binding.TheVariants as to
use Rattle.wy_types.specs.declared.resolved.Field.{Field}
use Rattle.wy_types.specs.declared.resolved.OwnName.{OwnName}
use Rattle.wy_types.specs.Program.{Program, Scope}
use Rattle.wy_types.specs.Signature.{find_method}
use Rattle.wy_types.specs.Types.{is_plain, IsObject, methods_of, signature}
use Rattle.wy_types.specs.Fitting.{IsTypeOf}
use Rattle.wy_subtype.specs.declared.verdict.Mode.{Mode}
use Rattle.wy_subtype.specs.declared.verdict.Mode.TheVariants.{Annotated, Plain}
use Rattle.wy_subtype.specs.Verdict.{IsSubtypeIn}
use Rattle.wy_subtype.specs.Decided.{About}
use Rattle.wy_rules.specs.Typing.{field_at, parameter_type}
use Rattle.wy_judge.specs.Inference.{Inference}
use Rattle.wy_judge.specs.Inference as inferred
use Rattle.wy_judge.specs.declared.targets.Target.{Target}
use Rattle.wy_judge.specs.declared.targets.Target.TheVariants.{Without, Found}
use Rattle.wy_judge.specs.Outcomes.{fitted_outcome}
use Rattle.wy_judge.specs.Fit.{Fit}
use Rattle.wy_judge.specs.Tables.{Table}

-- the mode of a kind of scope: plain modules are judged without effects
abbrev pub mode_of : Truth → Mode
mode_of true = Plain
mode_of other = Annotated

-- what pairs are asked about in the scope of a number and a mode, and in the mode of the scope
abbrev pub about_in : Program → ℕ → Mode → About
about_in p k mode = record { program = p; scope = k; mode = mode }

abbrev pub about_of : Program → ℕ → Scope → About
about_of p k s = about_in p k (mode_of (is_plain s.kind))

------------------------------------------------------------
-- Names

abbrev pub known : Option (Option TypeRef) → Option TypeRef
known None = None
known (Some o) = o

-- the type of what a name stands for, over the types that are known
abbrev pub type_of_variable : Scope → Table → Variable → Option TypeRef
type_of_variable s table (Parameter k i) = parameter_type (slice_get s.bodies k) i
type_of_variable s table (Local n) = known (slice_get table n)

abbrev pub type_of_binding : Scope → Table → Option ℕ → Binding → Option TypeRef
type_of_binding s table owner (to.Variable v) = type_of_variable s table v
type_of_binding s table owner (to.Field i) = option_map (λ (f : Field). f.typ) (field_at s owner i)
type_of_binding s table owner (to.Own k) = option_map (λ (n : OwnName). n.typ) (slice_get s.names k)

------------------------------------------------------------
-- Calls

-- what a receiver that came to this offers by a name, for so many arguments: a premise that is false, or the method
abbrev pub IsTargetOf : Program → ℕ → Inference → List ℕ → ℕ → Target → Type 0
IsTargetOf p k (inferred.Fails fault) name arity target = ⊥
IsTargetOf p k (inferred.Least t e) name arity (Without n) =
    ((n ≡ 1) × (IsObject t → ⊥)) ⊎
    (((n ≡ 2) × IsObject t × (find_method name (methods_of p k t) ≡ None)) ⊎
    ((n ≡ 3) × IsObject t × ((m : Method) × (find_method name (methods_of p k t) ≡ Some (signature m)) × (length m.params ≡ arity → ⊥))))
IsTargetOf p k (inferred.Least t e) name arity (Found effect m) =
    (effect ≡ e) × IsObject t × (find_method name (methods_of p k t) ≡ Some (signature m)) × (length m.params ≡ arity)

------------------------------------------------------------
-- Types at a place

-- the least type is in range
abbrev pub IsInRangeOf : Program → ℕ → Inference → Type 0
IsInRangeOf p k (inferred.Least t e) = IsTypeOf p k t
IsInRangeOf p k (inferred.Fails fault) = Unit {0}

-- whether the least type is a subtype of another
abbrev pub IsBelowIn : Program → ℕ → Mode → Inference → TypeRef → Truth → Type 0
IsBelowIn p k mode (inferred.Least t e) u below = (below ≡ true) ↔ IsSubtypeIn p k mode t u
IsBelowIn p k mode (inferred.Fails fault) u below = Unit {0}

abbrev pub IsFittedIn : Program → ℕ → Mode → Inference → TypeRef → Fit → Type 0
IsFittedIn p k mode x u v = (below : Truth) × IsBelowIn p k mode x u below × (v ≡ fitted_outcome below x)
