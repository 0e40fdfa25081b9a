-- The types of `val`s that are known after each part of a scope's bodies, over those that were known before it.
use Rattle.std.specs.Prelude.{List, [], ◌∷◌, Option}
use Rattle.wy_types.specs.declared.types.TypeRef.{TypeRef}
use Rattle.wy_types.specs.declared.code.Stmt as st
use Rattle.wy_types.specs.Code.{Expr, Value, Values, Block}
use Rattle.wy_types.specs.View.{value_of}
use Rattle.wy_types.specs.Program.{Body, program_of, scope_of}
use Rattle.wy_rules.specs.Canonical.{same_type, with_local, val_type, settle_expr, settle_value, settle_values, settle_block, settle_start, settle_bodies}
use Rattle.wy_certify.specs.declared.settling.Settler.{Settler}
use Rattle.wy_certify.specs.Written.{Context, reading}

-- where a part stands: no type is known by itself
unfoldable pub standing_of : Settler → Context
standing_of w = record { program = program_of w.core.now; number = w.number; scope = scope_of w.scope.now; locals = []; owner = w.owner }

-- .. over the types that are known
abbrev pub knowing : Context → List TypeRef → Context
knowing c us = record { program = c.program; number = c.number; scope = c.scope; locals = us; owner = c.owner }

-- the type of a `val`: the written one, or else that of its initialiser
unfoldable pub val_typ : Context → Option TypeRef → Value → TypeRef
val_typ c typ x = val_type (reading c) same_type c.scope c.locals c.owner typ x

unfoldable pub expr_settled : Context → Expr → List TypeRef → List TypeRef
expr_settled c x us = settle_expr (reading c) same_type c.scope c.owner x us

unfoldable pub value_settled : Context → Value → List TypeRef → List TypeRef
value_settled c x us = settle_value (reading c) same_type c.scope c.owner x us

unfoldable pub values_settled : Context → Values → List TypeRef → List TypeRef
values_settled c xs us = settle_values (reading c) same_type c.scope c.owner xs us

unfoldable pub block_settled : Context → Block → List TypeRef → List TypeRef
block_settled c b us = settle_block (reading c) same_type c.scope c.owner b us

-- a statement, and statements one after the other
unfoldable pub stmt_settled : Context → st.Stmt → List TypeRef → List TypeRef
stmt_settled c (st.Val place n typ x) us = let vs = value_settled c (value_of x) us in with_local n (val_typ (knowing c vs) typ (value_of x)) vs
stmt_settled c (st.Do x) us = value_settled c (value_of x) us

unfoldable pub front_settled : Context → List st.Stmt → List TypeRef → List TypeRef
front_settled c [] us = us
front_settled c (x ∷ xs) us = front_settled c xs (stmt_settled c x us)

-- the start of the scope, and bodies in their order
unfoldable pub start_settled : Context → List TypeRef
start_settled c = settle_start (reading c) same_type c.scope c.scope.start

unfoldable pub bodies_settled : Context → List Body → List TypeRef → List TypeRef
bodies_settled c bs us = settle_bodies (reading c) same_type c.scope bs us
