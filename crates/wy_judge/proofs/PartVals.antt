-- The `val`s of several values, and of statements, from those of the first ones and of the rest.
use Rattle.std.proofs.Common.{◌≡◌, ℕ, ◌+◌, List, [], ◌∷◌, ◌++◌, refl, sym, ◌∙◌, ap, subst, Some, take, drop, append-nil, append_assoc}
use Rattle.std.specs.Prelude.{slice_get}
use Rattle.std.proofs.lemmas.List.{take_more, take-append-drop}
use Rattle.std.proofs.lemmas.Option.{slice_get_within, get_or_from_slice_get}
use Rattle.wy_text.specs.Members.{In}
use Rattle.wy_text.proofs.Lists.{In-left}
use Rattle.wy_types.specs.declared.code.Value as v
use Rattle.wy_types.specs.declared.code.Stmt as st
use Rattle.wy_types.specs.Code.{Block}
use Rattle.wy_types.specs.View.{value_of, values_of, stmt_block, stmts_block}
use Rattle.wy_types.specs.Vals.{value_vals, values_vals, block_vals}
use Rattle.wy_judge.specs.Judging.{stmt_vals, stmts_vals}

-- up to the next place there is what was there before it, and what stands there
pub take_there : {X : Type 0} (xs : List X) (i : ℕ) (x : X) → slice_get xs i ≡ Some x → take (i + 1) xs ≡ take i xs ++ x ∷ []
take_there xs i x e = take_more xs i x (slice_get_within xs i x e) ∙ ap (λ y. take i xs ++ y ∷ []) (get_or_from_slice_get xs i x x e)

------------------------------------------------------------
-- Values

pub values_vals_both : (xs ys : List v.Value) → values_vals (values_of (xs ++ ys)) ≡ values_vals (values_of xs) ++ values_vals (values_of ys)
values_vals_both [] ys = refl
values_vals_both (x ∷ xs) ys = ap (λ l. value_vals (value_of x) ++ l) (values_vals_both xs ys) ∙ sym (append_assoc (value_vals (value_of x)) (values_vals (values_of xs)) (values_vals (values_of ys)))

-- those before the next place
pub values_vals_there : (xs : List v.Value) (i : ℕ) (x : v.Value) → slice_get xs i ≡ Some x → values_vals (values_of (take i xs)) ++ value_vals (value_of x) ≡ values_vals (values_of (take (i + 1) xs))
values_vals_there xs i x e =
    ap (λ l. values_vals (values_of (take i xs)) ++ l) (sym (append-nil (value_vals (value_of x)))) ∙
    sym (values_vals_both (take i xs) (x ∷ [])) ∙ ap (λ l. values_vals (values_of l)) (sym (take_there xs i x e))

-- .. are among those of all
pub values_vals_within : (xs : List v.Value) (i n : ℕ) → In n (values_vals (values_of (take i xs))) → In n (values_vals (values_of xs))
values_vals_within xs i n h =
    subst (λ l. In n (values_vals (values_of l))) (take-append-drop i xs)
    (subst (λ l. In n l) (sym (values_vals_both (take i xs) (drop i xs))) (In-left n (values_vals (values_of (take i xs))) (values_vals (values_of (drop i xs))) h))

------------------------------------------------------------
-- Statements

pub stmt_block_vals : (x : st.Stmt) (b : Block) → block_vals (stmt_block x b) ≡ stmt_vals x ++ block_vals b
stmt_block_vals (st.Val place n typ x) b = refl
stmt_block_vals (st.Do x) b = refl

pub stmts_vals_both : (xs ys : List st.Stmt) → stmts_vals (xs ++ ys) ≡ stmts_vals xs ++ stmts_vals ys
stmts_vals_both [] ys = refl
stmts_vals_both (x ∷ xs) ys = ap (λ l. stmt_vals x ++ l) (stmts_vals_both xs ys) ∙ sym (append_assoc (stmt_vals x) (stmts_vals xs) (stmts_vals ys))

pub stmts_vals_there : (xs : List st.Stmt) (i : ℕ) (x : st.Stmt) → slice_get xs i ≡ Some x → stmts_vals (take i xs) ++ stmt_vals x ≡ stmts_vals (take (i + 1) xs)
stmts_vals_there xs i x e =
    ap (λ l. stmts_vals (take i xs) ++ l) (sym (append-nil (stmt_vals x))) ∙ sym (stmts_vals_both (take i xs) (x ∷ [])) ∙ ap stmts_vals (sym (take_there xs i x e))

pub stmts_vals_within : (xs : List st.Stmt) (i n : ℕ) → In n (stmts_vals (take i xs)) → In n (stmts_vals xs)
stmts_vals_within xs i n h =
    subst (λ l. In n (stmts_vals l)) (take-append-drop i xs)
    (subst (λ l. In n l) (sym (stmts_vals_both (take i xs) (drop i xs))) (In-left n (stmts_vals (take i xs)) (stmts_vals (drop i xs)) h))

-- a block's are those of its statements and of what comes after them
pub stmts_block_vals : (xs : List st.Stmt) (b : Block) → stmts_vals xs ++ block_vals b ≡ block_vals (stmts_block xs b)
stmts_block_vals [] b = refl
stmts_block_vals (x ∷ xs) b =
    append_assoc (stmt_vals x) (stmts_vals xs) (block_vals b) ∙ ap (λ l. stmt_vals x ++ l) (stmts_block_vals xs b) ∙ sym (stmt_block_vals x (stmts_block xs b))
