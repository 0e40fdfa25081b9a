-- What is written for each part of a scope's bodies: the steps of its canonical derivation, and the type and the effect that it gives.
use Rattle.std.specs.Prelude.{ℕ, ◌+◌, List, [], ◌∷◌, ◌++◌, Option, Some, None, map, slice_get}
use Rattle.wy_text.specs.declared.fault.Place.{Place}
use Rattle.wy_effects.specs.EffSet.{union}
use Rattle.wy_types.specs.declared.types.TypeRef.{TypeRef}
use Rattle.wy_types.specs.declared.types.TypeRef.TheVariants.{Unit as Nothing}
use Rattle.wy_types.specs.declared.code.Binding.{Binding}
use Rattle.wy_types.specs.declared.code.BinaryOperator.{BinaryOperator}
use Rattle.wy_types.specs.declared.code.Stmt as st
use Rattle.wy_types.specs.Code.{Expr, Value, Plain, Values, Block}
use Rattle.wy_types.specs.View.{value_of}
use Rattle.wy_types.specs.Program.{Program, Scope, Body}
use Rattle.wy_types.specs.Vals.{value_count}
use Rattle.wy_types.specs.Types.{is_plain}
use Rattle.wy_types.specs.Signature.{Signature, find_method}
use Rattle.wy_rules.specs.Readings.{Reading}
use Rattle.wy_rules.specs.Operators.{Row, binary_rows}
use Rattle.wy_rules.specs.Derivations.{effects_of, mark, block_mark}
use Rattle.wy_rules.specs.Typing.{binding_type, var_field, field_types}
use Rattle.wy_rules.specs.Canonical.{Typed, TypedBlock, same_type, row_of, found_type, object_type, field_type, method_params, method_effect, method_result, first_operand, at_type, block_at_type, canonical_expr, canonical_value, canonical_values, canonical_block, canonical_start, canonical_body}
use Rattle.wy_cert.specs.declared.certificate.Rule.TheVariants as by
use Rattle.wy_proving.specs.Steps.{Step, step, value_steps, values_steps, block_steps, start_steps, body_steps, bodies_steps}
use Rattle.wy_proving.specs.OneReading.{reading_at}
use Rattle.wy_certify.specs.Step.{sub_steps}

-- where a part stands: the scope of a number in a program, the types of its `val`s, and the current object
pub record Context : Type 0 where
  pub program : Program
  pub number : ℕ
  pub scope : Scope
  pub locals : List TypeRef
  pub owner : Option ℕ

abbrev pub reading : Context → Reading
reading c = reading_at c.program c.number (is_plain c.scope.kind)

------------------------------------------------------------
-- What a premise looks up

unfoldable pub this_typ : Context → TypeRef
this_typ c = object_type (reading c) c.owner

unfoldable pub name_typ : Context → Binding → TypeRef
name_typ c name = found_type (reading c) (binding_type (reading c) c.scope c.locals c.owner name)

unfoldable pub local_typ : Context → ℕ → TypeRef
local_typ c n = found_type (reading c) (slice_get c.locals n)

unfoldable pub var_typ : Context → Binding → TypeRef
var_typ c name = field_type (reading c) (var_field c.scope c.owner name)

unfoldable pub field_typs : Context → ℕ → List TypeRef
field_typs c l = map (reading c).read (field_types c.scope l)

-- the method of a name that a type has
unfoldable pub method_at : Context → TypeRef → List ℕ → Option (Signature TypeRef)
method_at c t name = find_method name ((reading c).methods t)

unfoldable pub params_of : Context → Option (Signature TypeRef) → List TypeRef
params_of c o = method_params (reading c) o

unfoldable pub effect_of : Context → Option (Signature TypeRef) → List ℕ
effect_of c o = method_effect (reading c) o

unfoldable pub result_of : Context → Option (Signature TypeRef) → TypeRef
result_of c o = method_result (reading c) o

-- of an operator of two operands, the first of which has the type: the type that is asked of both, and the result's
abbrev pub binary_row : Context → BinaryOperator → TypeRef → Row
binary_row c op t = row_of (reading c) same_type (binary_rows op) t

unfoldable pub operand_typ : Context → BinaryOperator → TypeRef → TypeRef
operand_typ c op t = first_operand (reading c) (binary_row c op t).operands

unfoldable pub result_typ : Context → BinaryOperator → TypeRef → TypeRef
result_typ c op t = (binary_row c op t).result

------------------------------------------------------------
-- Expressions

abbrev pub typed_expr : Context → Expr → Typed TypeRef
typed_expr c x = canonical_expr (reading c) same_type c.scope c.locals c.owner x

unfoldable pub expr_steps : Context → Expr → List (Step TypeRef)
expr_steps c x = value_steps (reading c) c.scope c.owner (typed_expr c x).derivation (Plain x) (typed_expr c x).typ (typed_expr c x).effect

unfoldable pub expr_typ : Context → Expr → TypeRef
expr_typ c x = (typed_expr c x).typ

unfoldable pub expr_effect : Context → Expr → List ℕ
expr_effect c x = (typed_expr c x).effect

------------------------------------------------------------
-- Values, by themselves and at the type that is asked for

abbrev pub typed_value : Context → Value → TypeRef → Typed TypeRef
typed_value c x t = canonical_value (reading c) same_type c.scope c.locals c.owner x t

unfoldable pub own_steps : Context → Value → TypeRef → List (Step TypeRef)
own_steps c x t = value_steps (reading c) c.scope c.owner (typed_value c x t).derivation x (typed_value c x t).typ (typed_value c x t).effect

unfoldable pub own_typ : Context → Value → TypeRef → TypeRef
own_typ c x t = (typed_value c x t).typ

unfoldable pub own_effect : Context → Value → TypeRef → List ℕ
own_effect c x t = (typed_value c x t).effect

unfoldable pub at_steps : Context → Value → TypeRef → List (Step TypeRef)
at_steps c x t = value_steps (reading c) c.scope c.owner (at_type (reading c) same_type (mark x) (typed_value c x t) t) x t (typed_value c x t).effect

unfoldable pub all_steps : Context → Values → List TypeRef → List (Step TypeRef)
all_steps c xs ts = values_steps (reading c) c.scope c.owner (canonical_values (reading c) same_type c.scope c.locals c.owner xs ts) xs ts

unfoldable pub all_effect : Context → Values → List TypeRef → List ℕ
all_effect c xs ts = effects_of (canonical_values (reading c) same_type c.scope c.locals c.owner xs ts)

-- what is written of an operation after its first operand, and of a call after its receiver, which have this type and this effect
unfoldable pub second_effect : Context → List ℕ → Expr → List ℕ
second_effect c e z = union e (union (expr_effect c z) [])

unfoldable pub second_steps : Context → Place → BinaryOperator → TypeRef → List ℕ → Place → Expr → List (Step TypeRef)
second_steps c place op t e mark z =
    sub_steps mark t (operand_typ c op t) e ++ (at_steps c (Plain z) (operand_typ c op t) ++ step by.Op place 2 (Some (result_typ c op t)) (second_effect c e z) ∷ [])

unfoldable pub call_effect : Context → TypeRef → List ℕ → List ℕ → Values → List ℕ
call_effect c t e name xs = union e (union (all_effect c xs (params_of c (method_at c t name))) (effect_of c (method_at c t name)))

unfoldable pub call_steps : Context → Place → TypeRef → List ℕ → List ℕ → Values → List (Step TypeRef)
call_steps c place t e name xs =
    all_steps c xs (params_of c (method_at c t name)) ++ step by.Call place (value_count xs + 1) (Some (result_of c (method_at c t name))) (call_effect c t e name xs) ∷ []

------------------------------------------------------------
-- Blocks

abbrev pub typed_block : Context → Block → TypeRef → TypedBlock TypeRef
typed_block c b t = canonical_block (reading c) same_type c.scope c.locals c.owner b t

unfoldable pub run_steps : Context → Block → TypeRef → List (Step TypeRef)
run_steps c b t = block_steps (reading c) c.scope c.owner (typed_block c b t).derivation b (typed_block c b t).typ (typed_block c b t).effect

unfoldable pub run_typ : Context → Block → TypeRef → TypeRef
run_typ c b t = (typed_block c b t).typ

unfoldable pub run_effect : Context → Block → TypeRef → List ℕ
run_effect c b t = (typed_block c b t).effect

unfoldable pub run_at_steps : Context → Block → TypeRef → List (Step TypeRef)
run_at_steps c b t = block_steps (reading c) c.scope c.owner (block_at_type (reading c) same_type (block_mark b) (typed_block c b t) t) b t (typed_block c b t).effect

-- a statement: what is written before the rest of its block, its effect and its place
unfoldable pub stmt_steps : Context → st.Stmt → List (Step TypeRef)
stmt_steps c (st.Val place n typ x) = at_steps c (value_of x) (local_typ c n) ++ step by.Val place 1 None (own_effect c (value_of x) (local_typ c n)) ∷ []
stmt_steps c (st.Do x) = at_steps c (value_of x) Nothing

unfoldable pub stmt_effect : Context → st.Stmt → List ℕ
stmt_effect c (st.Val place n typ x) = own_effect c (value_of x) (local_typ c n)
stmt_effect c (st.Do x) = own_effect c (value_of x) Nothing

abbrev pub stmt_mark : st.Stmt → Place
stmt_mark (st.Val place n typ x) = place
stmt_mark (st.Do x) = mark (value_of x)

-- .. statements: what is written before the last value of their block, and after it, from the last one to the first
unfoldable pub front_steps : Context → List st.Stmt → List (Step TypeRef)
front_steps c [] = []
front_steps c (x ∷ xs) = stmt_steps c x ++ front_steps c xs

unfoldable pub joined_effect : Context → List st.Stmt → List ℕ → List ℕ
joined_effect c [] f = f
joined_effect c (x ∷ xs) f = union (stmt_effect c x) (joined_effect c xs f)

unfoldable pub back_steps : Context → List st.Stmt → TypeRef → List ℕ → List (Step TypeRef)
back_steps c [] t f = []
back_steps c (x ∷ xs) t f = back_steps c xs t f ++ step by.Seq (stmt_mark x) 2 (Some t) (joined_effect c (x ∷ xs) f) ∷ []

------------------------------------------------------------
-- Bodies

-- of what the scope does at its start
unfoldable pub start_written : Context → List (Step TypeRef)
start_written c = start_steps (reading c) c.scope (canonical_start (reading c) same_type c.scope c.locals c.scope.start) c.scope.start

-- .. of a body, and of bodies in their order
unfoldable pub body_written : Context → Body → List (Step TypeRef)
body_written c b = body_steps (reading c) c.scope (canonical_body (reading c) same_type c.scope c.locals b) b

unfoldable pub bodies_written : Context → List Body → List (Step TypeRef)
bodies_written c bs = bodies_steps (reading c) c.scope (map (canonical_body (reading c) same_type c.scope c.locals) bs) bs
