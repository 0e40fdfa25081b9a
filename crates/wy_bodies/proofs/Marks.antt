-- The names that methods write, and the variables that they stand for.
use Rattle.std.proofs.Common.{◌≡◌, ℕ, zero, suc, ◌+◌, ◌-◌, ◌≤◌, ◌<◌, List, [], ◌∷◌, ◌++◌, map, Bool, true, false, cond, refl, sym, ap, ap₂, ◌∙◌, Option, Some, None, is_some, if◌then◌else◌, arith, nat_eq, not}
use Rattle.std.specs.Prelude.{◌||◌, ◌&&◌}
use Rattle.std.proofs.lemmas.Bool.Decides.{nat_tests}
use Rattle.std.proofs.lemmas.Cmp.{ranked}
use Rattle.std.specs.declared.cmp.Ordering.TheVariants.{Less}
use Rattle.std.specs.Ordering.{nat_cmp}
use Rattle.std.specs.BTreeMap.{is_at}
use Rattle.std.specs.Map.{lookup, keys_of, values_of}
use Rattle.std.specs.List.{AllByRecursion}
use Rattle.std.specs.List.Sorted.{IsStrictlySortedBy}
use Rattle.wy_syntax.specs.Trees as t
use Rattle.wy_types.specs.declared.code.Variable.{Variable}
use Rattle.wy_bodies.specs.declared.sight.Latest.{Latest}
use Rattle.wy_symbols.specs.Declarations.{same_name, has_name}
use Rattle.wy_bodies.specs.Sight.{expr_writes, exprs_write, rhs_writes, stmt_writes, stmts_write, part_writes, parts_write, tail_writes, methods_write, entry_names, written_of}
use Rattle.wy_bodies.specs.InSight.{Known, entries, numbered, later, latest}
use Rattle.wy_bodies.specs.Written.{expr_names, exprs_names, rhs_names, stmt_names, stmts_names, part_names, parts_names, tail_names, methods_names, mark}
use Rattle.wy_symbols.proofs.Firsts.{same_exact, same_itself}

or_false : (b : Bool) → b || false ≡ b
or_false true = refl
or_false false = refl

or_assoc : (a b c : Bool) → (a || b) || c ≡ a || (b || c)
or_assoc true b c = refl
or_assoc false b c = refl

has_name-append : (x : List ℕ) (xs ys : List (List ℕ)) → has_name x (xs ++ ys) ≡ has_name x xs || has_name x ys
has_name-append x [] ys = refl
has_name-append x (n ∷ xs) ys = ap (λ b. same_name n x || b) (has_name-append x xs ys) ∙ sym (or_assoc (same_name n x) (has_name x xs) (has_name x ys))

two : (x : List ℕ) (xs ys : List (List ℕ)) (a b : Bool) → has_name x xs ≡ a → has_name x ys ≡ b → has_name x (xs ++ ys) ≡ a || b
two x xs ys a b h g = has_name-append x xs ys ∙ ap₂ (λ p q. p || q) h g

three : (x : List ℕ) (xs ys zs : List (List ℕ)) (a b c : Bool) → has_name x xs ≡ a → has_name x ys ≡ b → has_name x zs ≡ c → has_name x (xs ++ (ys ++ zs)) ≡ a || (b || c)
three x xs ys zs a b c h g k = two x xs (ys ++ zs) a (b || c) h (two x ys zs b c g k)

mutual
  expr_written : (x : List ℕ) (e : t.ExprTree) → has_name x (expr_names e) ≡ expr_writes x e
  expr_written x (t.number v p) = refl
  expr_written x (t.text s p) = refl
  expr_written x (t.yes p) = refl
  expr_written x (t.no p) = refl
  expr_written x (t.this p) = refl
  expr_written x (t.name n) = or_false (same_name n.text x)
  expr_written x (t.unit p) = refl
  expr_written x (t.negate e p) = expr_written x e
  expr_written x (t.invert e p) = expr_written x e
  expr_written x (t.binary o a b p) = two x (expr_names a) (expr_names b) _ _ (expr_written x a) (expr_written x b)
  expr_written x (t.call e n es) = two x (expr_names e) (exprs_names es) _ _ (expr_written x e) (exprs_written x es)
  expr_written x (t.size e p) = expr_written x e
  expr_written x (t.part e a b p) = three x (expr_names e) (expr_names a) (expr_names b) _ _ _ (expr_written x e) (expr_written x a) (expr_written x b)
  expr_written x (t.byte_at e i p) = two x (expr_names e) (expr_names i) _ _ (expr_written x e) (expr_written x i)
  expr_written x (t.byte e p) = expr_written x e
  expr_written x (t.show e p) = expr_written x e
  expr_written x (t.ascribe e u p) = expr_written x e
  expr_written x (t.choice c a b p) = three x (expr_names c) (expr_names a) (expr_names b) _ _ _ (expr_written x c) (expr_written x a) (expr_written x b)

  exprs_written : (x : List ℕ) (es : t.ExprTrees) → has_name x (exprs_names es) ≡ exprs_write x es
  exprs_written x t.none = refl
  exprs_written x (t.more e es) = two x (expr_names e) (exprs_names es) _ _ (expr_written x e) (exprs_written x es)

mutual
  rhs_written : (x : List ℕ) (r : t.RhsTree) → has_name x (rhs_names r) ≡ rhs_writes x r
  rhs_written x (t.literal p ps) = parts_written x ps
  rhs_written x (t.branch p c a b) = three x (expr_names c) (stmts_names a) (stmts_names b) _ _ _ (expr_written x c) (stmts_written x a) (stmts_written x b)
  rhs_written x (t.value e) = expr_written x e

  stmt_written : (x : List ℕ) (s : t.StmtTree) → has_name x (stmt_names s) ≡ stmt_writes x s
  stmt_written x (t.val n u r) = rhs_written x r
  stmt_written x (t.assign n r) = ap (λ b. same_name n.text x || b) (rhs_written x r)
  stmt_written x (t.run r) = rhs_written x r

  stmts_written : (x : List ℕ) (ss : t.StmtTrees) → has_name x (stmts_names ss) ≡ stmts_write x ss
  stmts_written x t.no_stmts = refl
  stmts_written x (t.more_stmts s ss) = two x (stmt_names s) (stmts_names ss) _ _ (stmt_written x s) (stmts_written x ss)

  part_written : (x : List ℕ) (p : t.PartTree) → has_name x (part_names p) ≡ part_writes x p
  part_written x (t.field k n u r) = rhs_written x r
  part_written x (t.method g b) = tail_written x b

  parts_written : (x : List ℕ) (ps : t.PartTrees) → has_name x (parts_names ps) ≡ parts_write x ps
  parts_written x t.no_parts = refl
  parts_written x (t.more_parts p ps) = two x (part_names p) (parts_names ps) _ _ (part_written x p) (parts_written x ps)

  tail_written : (x : List ℕ) (b : t.TailTree) → has_name x (tail_names b) ≡ tail_writes x b
  tail_written x (t.short r) = rhs_written x r
  tail_written x (t.long ss) = stmts_written x ss

-- a name is among those that the methods write exactly where some method writes it
methods_written : (x : List ℕ) (ps : t.PartTrees) → has_name x (methods_names ps) ≡ methods_write x ps
methods_written x t.no_parts = refl
methods_written x (t.more_parts (t.field k n u r) ps) = methods_written x ps
methods_written x (t.more_parts (t.method g b) ps) = two x (tail_names b) (methods_names ps) _ _ (tail_written x b) (methods_written x ps)

-- no names
pub mark_none : (es : List Known) (k : ℕ) → mark es [] k ≡ None
mark_none [] k = refl
mark_none (e ∷ es) zero =
    let P : Bool → Type 0 = λ b. (if b && false then Some e.variable else None) ≡ None in
    elim (not (has_name e.name (map (λ (k : Known). k.name) es))) as P [ true ↦ refl | false ↦ refl ]
mark_none (e ∷ es) (suc k) = mark_none es k

------------------------------------------------------------
-- One name more

abbrev names_of : List Known → List (List ℕ)
names_of ks = map (λ (k : Known). k.name) ks

later_there : (o : Option Latest) (e : Known) (x : List ℕ) → is_some (later o e x) ≡ same_name e.name x || is_some o
later_there (Some l) e x = (let P : Bool → Type 0 = λ b. true ≡ b || true in elim (same_name e.name x) as P [ true ↦ refl | false ↦ refl ])
later_there None e x =
    let P : Bool → Type 0 = λ b. is_some (if b then Some (numbered 0 e.variable) else None) ≡ b || false in
    elim (same_name e.name x) as P [ true ↦ refl | false ↦ refl ]

latest_there : (es : List Known) (x : List ℕ) → is_some (latest es x) ≡ has_name x (names_of es)
latest_there [] x = refl
latest_there (e ∷ es) x = later_there (latest es x) e x ∙ ap (λ b. same_name e.name x || b) (latest_there es x)

-- the mark of a variable that a name stands for
abbrev pub put : Option Latest → ℕ → Option Variable → Option Variable
put None k o = o
put (Some l) k o = if nat_eq l.number k then Some l.variable else o

zero_not : (n : ℕ) → nat_eq (suc n) 0 ≡ false
zero_not n = grind arith

not_zero : (n : ℕ) → nat_eq 0 (suc n) ≡ false
not_zero n = grind arith

both_next : (m n : ℕ) → nat_eq (suc m) (suc n) ≡ nat_eq m n
both_next m n = grind arith

put_next : (o : Option Latest) (e : Known) (x : List ℕ) (k : ℕ) (v : Option Variable) → put (later o e x) (suc k) v ≡ put o k v
put_next (Some l) e x k v = ap (λ b. if b then Some l.variable else v) (both_next l.number k)
put_next None e x k v =
    let P : Bool → Type 0 = λ b. put (if b then Some (numbered 0 e.variable) else None) (suc k) v ≡ v in
    elim (same_name e.name x) as P [ true ↦ ap (λ b. if b then Some e.variable else v) (not_zero k) | false ↦ refl ]

shown : Bool → Bool → Variable → Option Variable
shown hidden written v = if not hidden && written then Some v else None

-- `hidden` is that a later one has its name, `same` that the new name is its own, `there` that a later one has the new name
put_first : (o : Option Latest) (e : Known) (x : List ℕ) (hidden written same : Bool) → same_name e.name x ≡ same → (same ≡ true → hidden ≡ is_some o) →
    shown hidden (written || same) e.variable ≡ put (later o e x) 0 (shown hidden written e.variable)
unfolding shown
put_first (Some l) e x hidden written same at h =
    let z : put (later (Some l) e x) 0 (shown hidden written e.variable) ≡ shown hidden written e.variable = ap (λ b. if b then Some l.variable else shown hidden written e.variable) (zero_not l.number) in
    let P : Bool → Type 0 = λ s. (s ≡ true → hidden ≡ true) → shown hidden (written || s) e.variable ≡ shown hidden written e.variable in
    (elim same as P [
      | true ↦ λ g. ap (λ b. shown b (written || true) e.variable) (g refl) ∙ ap (λ b. shown b written e.variable) (sym (g refl))
      | false ↦ λ g. ap (λ b. shown hidden b e.variable) (or_false written)
    ]) h ∙ sym z
put_first None e x hidden written same at h =
    let P : Bool → Type 0 = λ s. (s ≡ true → hidden ≡ false) → shown hidden (written || s) e.variable ≡ put (if s then Some (numbered 0 e.variable) else None) 0 (shown hidden written e.variable) in
    (elim same as P [
      | true ↦ λ g. ap (λ b. shown b (written || true) e.variable) (g refl) ∙ ap (λ b. shown false b e.variable) (or_true written)
      | false ↦ λ g. ap (λ b. shown hidden b e.variable) (or_false written)
    ]) h ∙ ap (λ s. put (if s then Some (numbered 0 e.variable) else None) 0 (shown hidden written e.variable)) (sym at)
  where
    or_true : (b : Bool) → b || true ≡ true
    or_true true = refl
    or_true false = refl

same_turned : (x y : List ℕ) → same_name x y ≡ same_name y x
same_turned x y =
    let P : Bool → Type 0 = λ b. same_name x y ≡ b → same_name x y ≡ same_name y x in
    let Q : Bool → Type 0 = λ b. same_name y x ≡ b → same_name x y ≡ false → same_name x y ≡ same_name y x in
    (elim (same_name x y) as P [
      | true ↦ λ e. e ∙ sym (ap (λ z. same_name z x) (same_exact x y e) ∙ same_itself x)
      | false ↦ λ e. (elim (same_name y x) as Q [
        | true ↦ λ g n. ap (λ z. same_name z y) (same_exact y x g) ∙ same_itself y ∙ sym g
        | false ↦ λ g n. n ∙ sym g
      ]) refl e
    ]) refl

pub mark_more : (es : List Known) (names : List (List ℕ)) (x : List ℕ) (k : ℕ) → mark es (names ++ x ∷ []) k ≡ put (latest es x) k (mark es names k)
unfolding shown
mark_more [] names x k = refl
mark_more (e ∷ es) names x zero =
    let hidden = has_name e.name (names_of es) in
    ap (λ b. shown hidden b e.variable) (has_name-append e.name names (x ∷ []) ∙ ap (λ b. has_name e.name names || b) (or_false (same_name x e.name) ∙ same_turned x e.name))
    ∙ put_first (latest es x) e x hidden (has_name e.name names) (same_name e.name x) refl
    (λ h. ap (λ y. has_name y (names_of es)) (sym (same_exact e.name x h)) ∙ sym (latest_there es x))
mark_more (e ∷ es) names x (suc k) =
    mark_more es names x k ∙ sym (put_next (latest es x) e x k (mark es names k))

------------------------------------------------------------
-- The marks in order

abbrev pub marked_of : List Known → List (List ℕ) → List Variable
marked_of [] names = []
marked_of (e ∷ es) names = (if not (has_name e.name (names_of es)) && has_name e.name names then e.variable ∷ [] else []) ++ marked_of es names

entry_names_are : (es : List Known) → entry_names (entries es) ≡ names_of es
entry_names_are [] = refl
entry_names_are (e ∷ es) = ap (λ l. e.name ∷ l) (entry_names_are es)

-- the variables that stand for names that the methods write are the captured ones
pub marked_written : (es : List Known) (ps : t.PartTrees) → marked_of es (methods_names ps) ≡ written_of (entries es) ps
marked_written [] ps = refl
marked_written (e ∷ es) ps =
    ap₂ (λ l b. (if not (has_name e.name l) && b then e.variable ∷ [] else []) ++ marked_of es (methods_names ps)) (sym (entry_names_are es)) (methods_written e.name ps)
    ∙ ap (λ l. (if not (has_name e.name (entry_names (entries es))) && methods_write e.name ps then e.variable ∷ [] else []) ++ l) (marked_written es ps)

cmp_below : (k y : ℕ) → k + 1 ≤ y → is_at (nat_cmp k) y ≡ false
cmp_below k y h = grind (arith, nat_tests, h)

cmp_above : (k y : ℕ) → y + 1 ≤ k → is_at (nat_cmp k) y ≡ false
cmp_above k y h = grind (arith, nat_tests, h)

cmp_same : (k y : ℕ) → k ≡ y → is_at (nat_cmp k) y ≡ true
cmp_same k y h = grind (arith, nat_tests, h)

cmp_equal : (k y : ℕ) → is_at (nat_cmp k) y ≡ true → k ≡ y
cmp_equal k y h = grind (arith, nat_tests, h)

cmp_next : (k y : ℕ) → k ≤ y → is_at (nat_cmp k) y ≡ false → k + 1 ≤ y
cmp_next k y h g = grind (arith, nat_tests, h, g)

all_after : (k x : ℕ) (ys : List ℕ) → k ≤ x → AllByRecursion (λ y. nat_cmp x y ≡ Less) ys → AllByRecursion (λ y. k + 1 ≤ y) ys
all_after k x [] le h = tt
all_after k x (y ∷ ys) le h =
    let lt : x < y = ranked x y Less (sym h.0) in
    (omega arith, all_after k x ys le h.1)

not_found : (k : ℕ) (es : List (ℕ × Variable)) → AllByRecursion (λ y. k + 1 ≤ y) (keys_of es) → lookup (is_at (nat_cmp k)) es ≡ None
not_found k [] h = refl
not_found k (e ∷ es) h = ap (λ b. cond b (Some e.1) (lookup (is_at (nat_cmp k)) es)) (cmp_below k e.0 h.0) ∙ not_found k es h.1

-- what follows from the entries with numbers from one on
abbrev Follows : List Known → List (List ℕ) → ℕ → Type 0
Follows vs names k =
    (es : List (ℕ × Variable)) → AllByRecursion (λ y. k ≤ y) (keys_of es) → IsStrictlySortedBy nat_cmp (keys_of es) →
    ((j : ℕ) → lookup (is_at (nat_cmp (k + j))) es ≡ mark vs names j) → values_of es ≡ marked_of vs names

module _ (vs : List Known) (names : List (List ℕ)) (k : ℕ) (follows : Follows vs names (k + 1)) where
  next_number : (j : ℕ) → (k + 1) + j ≡ k + suc j
  next_number j = omega arith

  first_marked : (w : Variable) (es : List (ℕ × Variable)) → AllByRecursion (λ y. k ≤ y) (keys_of es) → IsStrictlySortedBy nat_cmp (keys_of es) →
      lookup (is_at (nat_cmp k)) es ≡ Some w → ((j : ℕ) → lookup (is_at (nat_cmp (k + suc j))) es ≡ mark vs names j) → values_of es ≡ w ∷ marked_of vs names
  unfolding IsStrictlySortedBy
  first_marked w [] from sorted found h = absurd cc
  first_marked w (e ∷ es) from sorted found h =
      let P : Bool → Type 0 = λ b. is_at (nat_cmp k) e.0 ≡ b → cond b (Some e.1) (lookup (is_at (nat_cmp k)) es) ≡ Some w → e.1 ∷ values_of es ≡ w ∷ marked_of vs names in
      (elim (is_at (nat_cmp k) e.0) as P [
        | true ↦ λ t g.
            let same : k ≡ e.0 = cmp_equal k e.0 t in
            let value : e.1 ≡ w = cc in
            let later : (j : ℕ) → e.0 + 1 ≤ k + suc j = λ j. omega (arith, same) in
            let skip : (j : ℕ) → lookup (is_at (nat_cmp (k + suc j))) (e ∷ es) ≡ lookup (is_at (nat_cmp (k + suc j))) es =
            λ j. ap (λ b. cond b (Some e.1) (lookup (is_at (nat_cmp (k + suc j))) es)) (cmp_above (k + suc j) e.0 (later j)) in
            ap₂ (λ x l. x ∷ l) value
            (follows es (all_after k e.0 (keys_of es) from.0 sorted.0) sorted.1 (λ j. ap (λ m. lookup (is_at (nat_cmp m)) es) (next_number j) ∙ sym (skip j) ∙ h j))
        | false ↦ λ t g. let none = not_found k es (all_after k e.0 (keys_of es) from.0 sorted.0) in absurd cc
      ]) refl found

  above : (es : List (ℕ × Variable)) → AllByRecursion (λ y. k ≤ y) (keys_of es) → IsStrictlySortedBy nat_cmp (keys_of es) → lookup (is_at (nat_cmp k)) es ≡ None → AllByRecursion (λ y. k + 1 ≤ y) (keys_of es)
  unfolding IsStrictlySortedBy
  above [] from sorted none = tt
  above (e ∷ es) from sorted none =
      let P : Bool → Type 0 = λ b. is_at (nat_cmp k) e.0 ≡ b → cond b (Some e.1) (lookup (is_at (nat_cmp k)) es) ≡ None → k + 1 ≤ e.0 in (
        (elim (is_at (nat_cmp k) e.0) as P [ true ↦ λ t g. absurd cc | false ↦ λ t g. cmp_next k e.0 from.0 t ]) refl none,
        all_after k e.0 (keys_of es) from.0 sorted.0,
      )

-- entries in the order of their numbers, one for each mark
pub marks_in_order : (vs : List Known) (names : List (List ℕ)) (k : ℕ) → Follows vs names k
marks_in_order [] names k [] from sorted h = refl
marks_in_order [] names k (e ∷ es) from sorted h =
    let at : k + (e.0 - k) ≡ e.0 = omega (arith, from.0) in
    let found : lookup (is_at (nat_cmp (k + (e.0 - k)))) (e ∷ es) ≡ Some e.1 = ap (λ b. cond b (Some e.1) (lookup (is_at (nat_cmp (k + (e.0 - k)))) es)) (cmp_same (k + (e.0 - k)) e.0 at) in
    let none = h (e.0 - k) in
    absurd cc
marks_in_order (v ∷ vs) names k es from sorted h =
    let start : k + 0 ≡ k = omega arith in
    let here = ap (λ m. lookup (is_at (nat_cmp m)) es) (sym start) ∙ h 0 in
    let P : Bool → Type 0 = λ b. lookup (is_at (nat_cmp k)) es ≡ (if b then Some v.variable else None) → values_of es ≡ (if b then v.variable ∷ [] else []) ++ marked_of vs names in
    (elim (not (has_name v.name (names_of vs)) && has_name v.name names) as P [
      | true ↦ λ found. first_marked vs names k (marks_in_order vs names (k + 1)) v.variable es from sorted found (λ j. h (suc j))
      | false ↦ λ none. marks_in_order vs names (k + 1) es (above vs names k (marks_in_order vs names (k + 1)) es from sorted none) sorted
          (λ j. ap (λ m. lookup (is_at (nat_cmp m)) es) (next_number vs names k (marks_in_order vs names (k + 1)) j) ∙ h (suc j))
    ]) here

from_zero : (ys : List ℕ) → AllByRecursion (λ y. 0 ≤ y) ys
from_zero [] = tt
from_zero (y ∷ ys) = (omega arith, from_zero ys)

-- all entries, from the first on
pub marks_are : (vs : List Known) (names : List (List ℕ)) (es : List (ℕ × Variable)) → IsStrictlySortedBy nat_cmp (keys_of es) → ((k : ℕ) → lookup (is_at (nat_cmp k)) es ≡ mark vs names k) → values_of es ≡ marked_of vs names
marks_are vs names es sorted h =
    let start : (j : ℕ) → 0 + j ≡ j = λ j. omega arith in
    marks_in_order vs names 0 es (from_zero (keys_of es)) sorted (λ j. ap (λ m. lookup (is_at (nat_cmp m)) es) (start j) ∙ h j)

pub put_is : (l : Latest) (k : ℕ) (o : Option Variable) → cond (is_at (nat_cmp l.number) k) (Some l.variable) o ≡ put (Some l) k o
put_is l k o = ap (λ b. cond b (Some l.variable) o) (same_tests l.number k)
  where
    same_tests : (m n : ℕ) → is_at (nat_cmp m) n ≡ nat_eq m n
    same_tests m n = grind (arith, nat_tests)
