-- One level of depth.
use Rattle.std.proofs.Common.{◌≡◌, ℕ, suc, ◌-◌, ◌<◌, Bool, List, [], ◌∷◌, refl, ap, arith}
use Rattle.wy_syntax.specs.Tokens.{Tok, code}
use Rattle.wy_parser.specs.declared.operators.Level.{Level}
use Rattle.wy_parser.specs.declared.operators.Level.TheVariants as levels
use Rattle.wy_parser.specs.Reading.{Deep, choose, and_then, fold_many}
use Rattle.wy_parser.specs.ExprParsing.{p_unary, p_expr, p_arg, unary_at, level_at, operand_at, operator_part, add_binary, symbols_of, product, sum, conj, disj, choice_of}
use Rattle.wy_parser.specs.StmtParsing.{p_rhs, p_block, rhs_at, stmt_at, block_of}

predecessor : (n : ℕ) → 0 < n → n ≡ suc (n - 1)
predecessor n h = omega arith

pub expr_deeper : (plain : Bool) (n : ℕ) → 0 < n → (ts : List Tok) → p_expr plain n ts ≡ level_at plain (n - 1) levels.Or ts
unfolding p_expr level_at
expr_deeper plain n h ts = ap (λ (k : ℕ). p_expr plain k ts) (predecessor n h)

pub unary_deeper : (plain : Bool) (n : ℕ) → 0 < n → (ts : List Tok) → p_unary plain n ts ≡ unary_at plain (n - 1) ts
unfolding p_expr
unary_deeper plain n h ts = ap (λ (k : ℕ). p_unary plain k ts) (predecessor n h)

pub arg_deeper : (plain : Bool) (n : ℕ) → 0 < n → (ts : List Tok) → p_arg plain n ts ≡ choose code (22 ∷ []) (choice_of (p_expr plain (n - 1)) (p_arg plain (n - 1))) (level_at plain (n - 1) levels.Or) ts
unfolding p_expr level_at
arg_deeper plain n h ts = ap (λ (k : ℕ). p_arg plain k ts) (predecessor n h)

pub expr_zero : (plain : Bool) (ts : List Tok) → p_expr plain 0 ts ≡ Deep
unfolding p_expr
expr_zero plain ts = refl

pub arg_zero : (plain : Bool) (ts : List Tok) → p_arg plain 0 ts ≡ Deep
unfolding p_expr
arg_zero plain ts = refl

pub unary_zero : (plain : Bool) (ts : List Tok) → p_unary plain 0 ts ≡ Deep
unfolding p_expr
unary_zero plain ts = refl

-- a level is its first operand, and operators with operands behind it
pub level_opens : (plain : Bool) (n : ℕ) (l : Level) (ts : List Tok) → level_at plain n l ts ≡ and_then (operand_at plain n l ts) (λ left r. fold_many code n (symbols_of l) (operator_part (symbols_of l) (operand_at plain n l)) add_binary left r)
unfolding level_at operand_at product sum conj disj
level_opens plain n levels.Or ts = refl
level_opens plain n levels.And ts = refl
level_opens plain n levels.Sum ts = refl
level_opens plain n levels.Product ts = refl

pub rhs_deeper : (plain : Bool) (n : ℕ) → 0 < n → (ts : List Tok) → p_rhs plain n ts ≡ rhs_at plain (n - 1) ts
unfolding p_rhs
rhs_deeper plain n h ts = ap (λ (k : ℕ). p_rhs plain k ts) (predecessor n h)

pub block_deeper : (plain : Bool) (n : ℕ) → 0 < n → (ts : List Tok) → p_block plain n ts ≡ block_of (stmt_at plain (n - 1)) (n - 1) ts
unfolding p_rhs
block_deeper plain n h ts = ap (λ (k : ℕ). p_block plain k ts) (predecessor n h)

pub rhs_zero : (plain : Bool) (ts : List Tok) → p_rhs plain 0 ts ≡ Deep
unfolding p_rhs
rhs_zero plain ts = refl

pub block_zero : (plain : Bool) (ts : List Tok) → p_block plain 0 ts ≡ Deep
unfolding p_rhs
block_zero plain ts = refl

pub ruleset arg_rules = (arg_deeper, arg_zero)

pub ruleset expr_rules = (expr_deeper, expr_zero)

pub ruleset unary_rules = (unary_deeper, unary_zero)

pub ruleset level_rules = (level_opens)

pub ruleset rhs_rules = (rhs_deeper, rhs_zero)

pub ruleset block_rules = (block_deeper, block_zero)

-- how far each level is from what stands alone: what a level's operands are is nearer than the level
abbrev pub height : Level → ℕ
height levels.Product = 8
height levels.Sum = 10
height levels.And = 13
height levels.Or = 15
