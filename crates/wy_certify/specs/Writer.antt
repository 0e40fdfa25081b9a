-- Where a writer stands, and what it looks up there.
use Rattle.std.specs.Prelude.{◌≡◌, ℕ, List}
use Rattle.wy_types.specs.declared.types.TypeRef.{TypeRef}
use Rattle.wy_types.specs.declared.types.Method.{Method}
use Rattle.wy_types.specs.Program.{program_of, scope_of}
use Rattle.wy_certify.specs.declared.writer.Writer.{Writer}
use Rattle.wy_certify.specs.Written.{Context, method_at, params_of, effect_of, result_of}

unfoldable pub context_of : Writer → Context
context_of w = record { program = program_of w.core.now; number = w.number; scope = scope_of w.scope.now; locals = w.locals.now; owner = w.owner }

-- the parameters, the effect and the result of the method of a name that a type has
abbrev pub IsMethod : Context → TypeRef → List ℕ → Method → Type 0
IsMethod c t name m = (m.params ≡ params_of c (method_at c t name)) × (m.effect ≡ effect_of c (method_at c t name)) × (m.result ≡ result_of c (method_at c t name))
