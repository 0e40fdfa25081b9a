-- The most operands so far, and those of what is left, are those of the whole.
use Rattle.std.proofs.Common.{◌≡◌, ◌<◌, ◌≤◌, ℕ, suc, ◌+◌, max, List, length, drop, get_or, refl, sym, ap, ◌∙◌, arith}
use Rattle.wy_types.specs.declared.code.Value as v
use Rattle.wy_types.specs.declared.code.Stmt as s
use Rattle.wy_types.specs.Code.{Value, Block, Last}
use Rattle.wy_types.specs.View.{value_of, values_of, stmt_block, stmts_block}
use Rattle.wy_lower.specs.Capped.{capped}
use Rattle.wy_lower.specs.Operands.{value_operands, values_operands, block_operands, fields_operands}
use Rattle.wy_lower.specs.Emits.{statement_operands}
use Rattle.wy_lower.proofs.Capped.{capped_max}
use Rattle.wy_lower.proofs.EmitLists.{split_at, drop_all}

-- the most so far, as far as the machine counts, and those of what is left are all
pub record Mosts (most left all : ℕ) : Type 0 where
  pub so : ℕ
  pub counted : most ≡ capped so
  pub by : max so left ≡ all

pub mosts_none : (left all : ℕ) → left ≡ all → Mosts 0 left all
mosts_none left all same = record { so = 0; counted = refl; by = omega arith }

mosts_more : (all most here next own rest left : ℕ) → here ≡ capped own → next ≡ max most here → left ≡ max own rest → Mosts most left all → Mosts next rest all
mosts_more all most here next own rest left b n front m = record { so = max m.so own; counted = capped_max next most here m.so own n m.counted b; by = all_of m.so own rest left all front m.by }
  where
    all_of : (so own rest left all : ℕ) → left ≡ max own rest → max so left ≡ all → max (max so own) rest ≡ all
    all_of so own rest left all front h = omega arith

pub values_more : (all most below next i : ℕ) (xs : List v.Value) (x : v.Value) → i < length xs → x ≡ get_or xs i x → below ≡ capped (i + value_operands (value_of x)) → next ≡ max most below →
    Mosts most (i + values_operands (values_of (drop i xs))) all → Mosts next ((i + 1) + values_operands (values_of (drop (i + 1) xs))) all
unfolding values_operands
values_more all most below next i xs x lt same b n m =
    let own = value_operands (value_of x) in
    let rest = values_operands (values_of (drop (i + 1) xs)) in
    let front : values_operands (values_of (drop i xs)) ≡ max own (suc rest) = ap (λ ys. values_operands (values_of ys)) (split_at xs i x lt same) in
    record { so = max m.so (i + own); counted = capped_max next most below m.so (i + own) n m.counted b; by = values_all m.so i own rest (values_operands (values_of (drop i xs))) all front m.by }
  where
    values_all : (so i own rest left all : ℕ) → left ≡ max own (suc rest) → max so (i + left) ≡ all → max (max so (i + own)) ((i + 1) + rest) ≡ all
    values_all so i own rest left all front h = omega arith

pub values_end : (all most long next i : ℕ) (xs : List v.Value) → length xs ≤ i → i ≡ long → long ≡ capped long → next ≡ max most long → Mosts most (i + values_operands (values_of (drop i xs))) all → next ≡ capped all
unfolding values_operands
values_end all most long next i xs le e fits is m =
    let none : values_operands (values_of (drop i xs)) ≡ 0 = ap (λ ys. values_operands (values_of ys)) (drop_all xs i le) in
    let whole : max m.so long ≡ all = values_all m.so i (values_operands (values_of (drop i xs))) long all none e m.by in
    capped_max next most long m.so long is m.counted fits ∙ ap capped whole
  where
    values_all : (so i left long all : ℕ) → left ≡ 0 → i ≡ long → max so (i + left) ≡ all → max so long ≡ all
    values_all so i left long all none e h = omega arith

pub fields_more : (all most here next i : ℕ) (xs : List v.Value) (x : v.Value) → i < length xs → x ≡ get_or xs i x → here ≡ capped (value_operands (value_of x)) → next ≡ max most here →
    Mosts most (fields_operands (values_of (drop i xs))) all → Mosts next (fields_operands (values_of (drop (i + 1) xs))) all
unfolding fields_operands
fields_more all most here next i xs x lt same b n m =
    let front : fields_operands (values_of (drop i xs)) ≡ max (value_operands (value_of x)) (fields_operands (values_of (drop (i + 1) xs))) = ap (λ ys. fields_operands (values_of ys)) (split_at xs i x lt same) in
    mosts_more all most here next (value_operands (value_of x)) (fields_operands (values_of (drop (i + 1) xs))) (fields_operands (values_of (drop i xs))) b n front m

pub fields_end : (all most i : ℕ) (xs : List v.Value) → length xs ≤ i → Mosts most (fields_operands (values_of (drop i xs))) all → most ≡ capped all
unfolding fields_operands
fields_end all most i xs le m =
    let none : fields_operands (values_of (drop i xs)) ≡ 0 = ap (λ ys. fields_operands (values_of ys)) (drop_all xs i le) in
    let whole : m.so ≡ all = omega (arith, m.by, none) in
    m.counted ∙ ap capped whole

statement_first : (x : s.Stmt) (rest : Block) → block_operands (stmt_block x rest) ≡ max (statement_operands x) (block_operands rest)
unfolding block_operands
statement_first (s.Val place n typ x) rest = refl
statement_first (s.Do x) rest = refl

pub block_more : (all most here next i : ℕ) (xs : List s.Stmt) (x : s.Stmt) (last : Block) → i < length xs → x ≡ get_or xs i x → here ≡ capped (statement_operands x) → next ≡ max most here →
    Mosts most (block_operands (stmts_block (drop i xs) last)) all → Mosts next (block_operands (stmts_block (drop (i + 1) xs) last)) all
block_more all most here next i xs x last lt same b n m =
    let front : block_operands (stmts_block (drop i xs) last) ≡ max (statement_operands x) (block_operands (stmts_block (drop (i + 1) xs) last)) =
    ap (λ ys. block_operands (stmts_block ys last)) (split_at xs i x lt same) ∙ statement_first x (stmts_block (drop (i + 1) xs) last) in
    mosts_more all most here next (statement_operands x) (block_operands (stmts_block (drop (i + 1) xs) last)) (block_operands (stmts_block (drop i xs) last)) b n front m

pub block_end : (all most here next i : ℕ) (xs : List s.Stmt) (last : Value) → length xs ≤ i → here ≡ capped (value_operands last) → next ≡ max most here →
    Mosts most (block_operands (stmts_block (drop i xs) (Last last))) all → next ≡ capped all
unfolding block_operands
block_end all most here next i xs last le b n m =
    let none : block_operands (stmts_block (drop i xs) (Last last)) ≡ value_operands last = ap (λ ys. block_operands (stmts_block ys (Last last))) (drop_all xs i le) in
    capped_max next most here m.so (value_operands last) n m.counted b ∙ ap (λ k. capped (max m.so k)) (sym none) ∙ ap capped m.by
