-- `val`s that are taken from a number, of one part after the other.
use Rattle.std.proofs.Common.{◌≡◌, ℕ, ◌+◌, ◌<◌, ◌≤◌, List, [], ◌++◌, length, get_or, drop, sym, ap, ◌∙◌, subst, arith, Option, Some, None, length-append, refl, false}
use Rattle.std.specs.Prelude.{map, nat_eq}
use Rattle.std.proofs.lemmas.Bool.Decides.{nat_tests}
use Rattle.wy_effects.proofs.Walks.{drop_none}
use Rattle.wy_types.specs.declared.code.Value as v
use Rattle.wy_types.specs.declared.code.Stmt.{Stmt}
use Rattle.wy_types.specs.declared.code.Stmt.TheVariants.{Val, Do}
use Rattle.wy_types.specs.declared.resolved.Body as b
use Rattle.wy_types.specs.Code.{Block}
use Rattle.wy_types.specs.View.{value_of, values_of, stmt_block, stmts_block, block_of}
use Rattle.wy_types.specs.Program.{body_of}
use Rattle.wy_types.specs.Vals.{value_vals, values_vals, block_vals, bodies_vals}
use Rattle.wy_recheck.specs.Vals.{IsTaken, statement_vals}
use Rattle.wy_recheck.proofs.NodesPassed.{left_at}

-- those of two parts
pub taken_both : (n m : ℕ) (xs ys : List ℕ) (o : Option ℕ) → IsTaken n xs (Some m) → IsTaken m ys o → IsTaken n (xs ++ ys) o
taken_both n m xs ys None h g = (let l = length-append xs ys in omega (arith, h, g, l))
taken_both n m xs ys (Some r) h g = (let l = length-append xs ys in omega (arith, h, g, l))

-- there are too many in the first
pub too_many : (n : ℕ) (xs ys : List ℕ) → IsTaken n xs None → IsTaken n (xs ++ ys) None
too_many n xs ys h = (let l = length-append xs ys in omega (arith, h, l))

-- the same `val`s
pub taken_as : (n : ℕ) (xs ys : List ℕ) (o : Option ℕ) → ys ≡ xs → IsTaken n xs o → IsTaken n ys o
taken_as n xs ys o e h = subst (λ l. IsTaken n l o) (sym e) h

-- a number from which the `val`s of some parts are taken, and then those of others: what is left is the same
abbrev pub Goes : ℕ → List ℕ → ℕ → List ℕ → Type 0
Goes n all m rest = n + length rest ≡ m + length all

pub goes_more : (n m k : ℕ) (all xs rest : List ℕ) → Goes n all m (xs ++ rest) → IsTaken m xs (Some k) → Goes n all k rest
goes_more n m k all xs rest h g = (let l = length-append xs rest in omega (arith, h, g, l))

pub goes_short : (n m : ℕ) (all xs rest : List ℕ) → Goes n all m (xs ++ rest) → IsTaken m xs None → IsTaken n all None
goes_short n m all xs rest h g = (let l = length-append xs rest in omega (arith, h, g, l))

pub goes_end : (n m : ℕ) (all rest : List ℕ) (o : Option ℕ) → Goes n all m rest → IsTaken m rest o → IsTaken n all o
goes_end n m all rest None h g = omega (arith, h, g)
goes_end n m all rest (Some k) h g = omega (arith, h, g)

-- values, statements and bodies in their order
pub next_values : (xs : List v.Value) (i : ℕ) (x : v.Value) → i < length xs → x ≡ get_or xs i x → values_vals (values_of (drop i xs)) ≡ value_vals (value_of x) ++ values_vals (values_of (drop (i + 1) xs))
next_values xs i x lt is = ap (λ l. values_vals (values_of l)) (left_at xs i x lt is)

pub no_values : (xs : List v.Value) (i : ℕ) → length xs ≤ i → values_vals (values_of (drop i xs)) ≡ []
no_values xs i le = ap (λ l. values_vals (values_of l)) (drop_none xs i le)

of_statement : (x : Stmt) (rest : Block) → block_vals (stmt_block x rest) ≡ statement_vals x ++ block_vals rest
of_statement (Val q n typ x) rest = refl
of_statement (Do x) rest = refl

pub next_statements : (xs : List Stmt) (i : ℕ) (x : Stmt) → i < length xs → x ≡ get_or xs i x → (rest : Block) →
    block_vals (stmts_block (drop i xs) rest) ≡ statement_vals x ++ block_vals (stmts_block (drop (i + 1) xs) rest)
next_statements xs i x lt is rest = ap (λ l. block_vals (stmts_block l rest)) (left_at xs i x lt is) ∙ of_statement x (stmts_block (drop (i + 1) xs) rest)

pub no_statements : (xs : List Stmt) (i : ℕ) → length xs ≤ i → (rest : Block) → block_vals (stmts_block (drop i xs) rest) ≡ block_vals rest
no_statements xs i le rest = ap (λ l. block_vals (stmts_block l rest)) (drop_none xs i le)

pub next_bodies : (xs : List b.Body) (i : ℕ) (x : b.Body) → i < length xs → x ≡ get_or xs i x → bodies_vals (map body_of (drop i xs)) ≡ block_vals (block_of x.block) ++ bodies_vals (map body_of (drop (i + 1) xs))
next_bodies xs i x lt is = ap (λ l. bodies_vals (map body_of l)) (left_at xs i x lt is)

pub no_bodies : (xs : List b.Body) (i : ℕ) → length xs ≤ i → bodies_vals (map body_of (drop i xs)) ≡ []
no_bodies xs i le = ap (λ l. bodies_vals (map body_of l)) (drop_none xs i le)

-- as many as a number says
pub short_of : (n : ℕ) (vals : List ℕ) → IsTaken n vals None → false ≡ nat_eq n (length vals)
short_of n vals h = grind (arith, nat_tests)

pub none_left : (n r : ℕ) (vals : List ℕ) → IsTaken n vals (Some r) → nat_eq r 0 ≡ nat_eq n (length vals)
none_left n r vals h = grind (arith, nat_tests)
