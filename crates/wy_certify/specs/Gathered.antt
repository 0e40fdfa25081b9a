-- What a walk gathers of a scope's steps, and whether memory was wanting on the way.
use Rattle.std.specs.Prelude.{◌≡◌, ℕ, Bool, false, List, ◌++◌, map}
use Rattle.wy_text.specs.declared.fault.Place.{Place}
use Rattle.wy_types.specs.declared.types.TypeRef.{TypeRef}
use Rattle.wy_types.specs.declared.code.BinaryOperator.{BinaryOperator}
use Rattle.wy_types.specs.declared.code.Stmt.{Stmt}
use Rattle.wy_types.specs.Code.{Expr, Value, Plain, Values, Block}
use Rattle.wy_proving.specs.Steps.{Step}
use Rattle.wy_certify.specs.declared.typed.Typed.{Typed}
use Rattle.wy_certify.specs.Written.{Context, result_typ, method_at, result_of, expr_steps, expr_typ, expr_effect, own_steps, own_typ, own_effect, at_steps, second_steps, second_effect, call_steps, call_effect, all_steps, all_effect, run_steps, run_typ, run_effect, run_at_steps, stmt_steps, stmt_effect, front_steps, joined_effect, back_steps}

pub record Gathered : Type 0 where
  pub list : List (Step TypeRef)
  pub wanting : Bool

-- these steps are added and this holds, but for want of memory
pub record Writes (steps : List (Step TypeRef)) (P : Type 0) (old new : Gathered) : Type 0 where
  pub enough : new.wanting ≡ false → old.wanting ≡ false
  pub added : new.wanting ≡ false → new.list ≡ old.list ++ steps
  pub holds : new.wanting ≡ false → P

-- .. these steps
abbrev pub Adds : List (Step TypeRef) → Gathered → Gathered → Type 0
Adds steps old new = Writes steps (Unit {0}) old new

-- the type and the effect that a part gives
abbrev pub Gives : TypeRef → List ℕ → Typed → Type 0
Gives t e m = (m.typ ≡ t) × (m.effect ≡ e)

------------------------------------------------------------
-- What is written, and what it gives

-- an expression
abbrev pub WritesExpr : Context → Expr → Typed → Gathered → Gathered → Type 0
WritesExpr c x m old new = Writes (expr_steps c x) (Gives (expr_typ c x) (expr_effect c x) m) old new

-- .. at the type that is asked for: its effect
abbrev pub WritesOperand : Context → Expr → TypeRef → List ℕ → Gathered → Gathered → Type 0
WritesOperand c x t e old new = Writes (at_steps c (Plain x) t) (e ≡ expr_effect c x) old new

-- an operation after its first operand, whose mark this is, and a call after its receiver
abbrev pub WritesSecond : Context → Place → BinaryOperator → Typed → Place → Expr → Typed → Gathered → Gathered → Type 0
WritesSecond c q op first at y m old new =
    Writes (second_steps c q op first.typ first.effect at y) (Gives (result_typ c op first.typ) (second_effect c first.effect y) m) old new

abbrev pub WritesCall : Context → Place → Typed → List ℕ → Values → Typed → Gathered → Gathered → Type 0
WritesCall c q receiver name xs m old new =
    Writes (call_steps c q receiver.typ receiver.effect name xs) (Gives (result_of c (method_at c receiver.typ name)) (call_effect c receiver.typ receiver.effect name xs) m) old new

-- a value by itself, where this type is asked for
abbrev pub WritesOwn : Context → Value → TypeRef → Typed → Gathered → Gathered → Type 0
WritesOwn c x t m old new = Writes (own_steps c x t) (Gives (own_typ c x t) (own_effect c x t) m) old new

-- .. at that type: its effect
abbrev pub WritesAt : Context → Value → TypeRef → List ℕ → Gathered → Gathered → Type 0
WritesAt c x t e old new = Writes (at_steps c x t) (e ≡ own_effect c x t) old new

-- values, as far as there are types
abbrev pub WritesAll : Context → Values → List TypeRef → List ℕ → Gathered → Gathered → Type 0
WritesAll c xs ts e old new = Writes (all_steps c xs ts) (e ≡ all_effect c xs ts) old new

-- a statement, and statements before the last value of their block
abbrev pub WritesStmt : Context → Stmt → List ℕ → Gathered → Gathered → Type 0
WritesStmt c x e old new = Writes (stmt_steps c x) (e ≡ stmt_effect c x) old new

abbrev pub WritesFront : Context → List Stmt → List (List ℕ) → Gathered → Gathered → Type 0
WritesFront c xs es old new = Writes (front_steps c xs) (es ≡ map (stmt_effect c) xs) old new

-- .. and after it, if these are their effects
abbrev pub WritesBack : Context → List Stmt → List (List ℕ) → Typed → Typed → Gathered → Gathered → Type 0
WritesBack c xs es last m old new =
    es ≡ map (stmt_effect c) xs → Writes (back_steps c xs last.typ last.effect) (Gives last.typ (joined_effect c xs last.effect) m) old new

-- a block by itself, where this type is asked for
abbrev pub WritesRun : Context → Block → TypeRef → Typed → Gathered → Gathered → Type 0
WritesRun c b t m old new = Writes (run_steps c b t) (Gives (run_typ c b t) (run_effect c b t) m) old new

-- .. at that type: its effect
abbrev pub WritesRunAt : Context → Block → TypeRef → List ℕ → Gathered → Gathered → Type 0
WritesRunAt c b t e old new = Writes (run_at_steps c b t) (e ≡ run_effect c b t) old new
