-- Loops over lists by number, and what they add to tables.
use Rattle.std.proofs.Common.{◌≡◌, ℕ, zero, suc, ◌+◌, ◌<◌, ◌≤◌, true, false, List, [], ◌∷◌, ◌++◌, length, map, drop, get_or, Some, refl, sym, ap, ◌∙◌, subst, append_assoc, arith, if◌then◌else◌}
use Rattle.std.specs.Prelude.{slice_get}
use Rattle.std.proofs.lemmas.List.{at_drop_more}
use Rattle.indexmap.specs.IndexMap.{IndexMap}
use Rattle.wy_code.specs.declared.code.Literal.{Literal}
use Rattle.wy_code.specs.declared.code.Method.{Method}
use Rattle.wy_code.specs.declared.code.Scope.{Scope}
use Rattle.wy_code.specs.EachOnce.{is_among}
use Rattle.wy_device.specs.declared.operation.OpName.{OpName}
use Rattle.wy_device.specs.Operation.{method_text}
use Rattle.wy_image.specs.declared.file.Instance.{Instance}
use Rattle.wy_image.specs.declared.typing.Atom.{Atom}
use Rattle.wy_verified.specs.CodeOf.{without, primitive_methods}
use Rattle.wy_verified.proofs.Lists.{drop_at, get_map}
use Rattle.wy_verify.specs.declared.tables.Entry.{Entry}
use Rattle.wy_verify.specs.Judging.{operation_numbers}
use Rattle.wy_verify.specs.Tables.{same_pair, same_triple, Adds, Adding, entry_of, items_notes, rows_notes, methods_notes, literals_notes, scopes_notes, typings_in}
use Rattle.wy_verify.proofs.Noting.{adding_more, adding_all}

next_place : (n : ℕ) → suc n ≡ n + 1
next_place n = omega arith

-- the item at a place, and those after it
pub drop_read : {X : Type 0} (xs : List X) (i : ℕ) (x : X) → slice_get xs i ≡ Some x → drop i xs ≡ x ∷ drop (i + 1) xs
drop_read xs i x e = drop_at xs i x e ∙ ap (λ n. x ∷ drop n xs) (next_place i)

pub drop_item : {X : Type 0} (xs : List X) (i : ℕ) (x : X) → i < length xs → x ≡ get_or xs i x → drop i xs ≡ x ∷ drop (i + 1) xs
drop_item xs i x lt e = at_drop_more (λ l. l) xs i x lt ∙ ap (λ v. v ∷ drop (i + 1) xs) (sym e)

pub drop_past : {X : Type 0} (xs : List X) (i : ℕ) → length xs ≤ i → drop i xs ≡ []
drop_past [] zero le = refl
drop_past [] (suc i) le = refl
drop_past (y ∷ xs) zero le = absurd (omega arith)
drop_past (y ∷ xs) (suc i) le = drop_past xs i (omega (arith, le))

module _ {T X : Type 0} (items : T → List X) (key : X → ℕ) (effect : X → List Atom) {S : Type 0} (old m new : IndexMap (ℕ × ℕ) Entry S) where
  -- an item more of a row
  pub items_step : (row at place : ℕ) (xs : List X) (x : X) → slice_get xs at ≡ Some x → place ≡ at →
      Adding same_pair old m (items_notes items key effect row at (drop at xs)) (items_notes items key effect row 0 xs) →
      Adds same_pair m new (((row, key x), entry_of place (effect x)) ∷ []) →
      Adding same_pair old new (items_notes items key effect row (at + 1) (drop (at + 1) xs)) (items_notes items key effect row 0 xs)
  items_step row at place xs x e p a b =
      let whole = items_notes items key effect row 0 xs in
      let P : List X → Type 0 = λ l. Adding same_pair old m (items_notes items key effect row at l) whole in
      let Q : ℕ → Type 0 = λ n. Adding same_pair old new (items_notes items key effect row n (drop (at + 1) xs)) whole in
      let R : ℕ → Type 0 = λ n. Adds same_pair m new (((row, key x), entry_of n (effect x)) ∷ []) in
      subst Q (next_place at) (
      adding_more same_pair old m new (((row, key x), entry_of at (effect x)) ∷ []) (items_notes items key effect row (suc at) (drop (at + 1) xs)) whole
      (subst P (drop_read xs at x e) a) (subst R p b))

  -- a row more
  pub rows_step : (at row : ℕ) (ts : List T) (t : T) → slice_get ts at ≡ Some t → row ≡ at →
      Adding same_pair old m (rows_notes items key effect at (drop at ts)) (rows_notes items key effect 0 ts) →
      Adds same_pair m new (items_notes items key effect row 0 (items t)) →
      Adding same_pair old new (rows_notes items key effect (at + 1) (drop (at + 1) ts)) (rows_notes items key effect 0 ts)
  rows_step at row ts t e p a b =
      let whole = rows_notes items key effect 0 ts in
      let P : List T → Type 0 = λ l. Adding same_pair old m (rows_notes items key effect at l) whole in
      let Q : ℕ → Type 0 = λ n. Adding same_pair old new (rows_notes items key effect n (drop (at + 1) ts)) whole in
      let R : ℕ → Type 0 = λ n. Adds same_pair m new (items_notes items key effect n 0 (items t)) in
      subst Q (next_place at) (
      adding_more same_pair old m new (items_notes items key effect at 0 (items t)) (rows_notes items key effect (suc at) (drop (at + 1) ts)) whole
      (subst P (drop_read ts at t e) a) (subst R p b))

  -- none is left
  pub items_end : (row at : ℕ) (xs : List X) → length xs ≤ at →
      Adding same_pair old new (items_notes items key effect row at (drop at xs)) (items_notes items key effect row 0 xs) → Adds same_pair old new (items_notes items key effect row 0 xs)
  items_end row at xs le a =
      adding_all same_pair old new (items_notes items key effect row at (drop at xs)) (items_notes items key effect row 0 xs)
      (ap (items_notes items key effect row at) (drop_past xs at le)) a

  pub rows_end : (at : ℕ) (ts : List T) → length ts ≤ at →
      Adding same_pair old new (rows_notes items key effect at (drop at ts)) (rows_notes items key effect 0 ts) → Adds same_pair old new (rows_notes items key effect 0 ts)
  rows_end at ts le a =
      adding_all same_pair old new (rows_notes items key effect at (drop at ts)) (rows_notes items key effect 0 ts)
      (ap (rows_notes items key effect at) (drop_past ts at le)) a

module _ {S : Type 0} (old m new : IndexMap (ℕ × ℕ × ℕ) ℕ S) where
  pub methods_step : (s l at : ℕ) (xs : List Method) (x : Method) → slice_get xs at ≡ Some x →
      Adding same_triple old m (methods_notes s l (drop at xs)) (methods_notes s l xs) → Adds same_triple m new (((s, l, x.method), x.body) ∷ []) →
      Adding same_triple old new (methods_notes s l (drop (at + 1) xs)) (methods_notes s l xs)
  methods_step s l at xs x e a b =
      let P : List Method → Type 0 = λ ms. Adding same_triple old m (methods_notes s l ms) (methods_notes s l xs) in
      adding_more same_triple old m new (((s, l, x.method), x.body) ∷ []) (methods_notes s l (drop (at + 1) xs)) (methods_notes s l xs)
      (subst P (drop_read xs at x e) a) b

  pub literals_step : (s at l : ℕ) (xs : List Literal) (x : Literal) → slice_get xs at ≡ Some x → l ≡ at →
      Adding same_triple old m (literals_notes s at (drop at xs)) (literals_notes s 0 xs) → Adds same_triple m new (methods_notes s l x.methods) →
      Adding same_triple old new (literals_notes s (at + 1) (drop (at + 1) xs)) (literals_notes s 0 xs)
  literals_step s at l xs x e p a b =
      let whole = literals_notes s 0 xs in
      let P : List Literal → Type 0 = λ ls. Adding same_triple old m (literals_notes s at ls) whole in
      let Q : ℕ → Type 0 = λ n. Adding same_triple old new (literals_notes s n (drop (at + 1) xs)) whole in
      let R : ℕ → Type 0 = λ n. Adds same_triple m new (methods_notes s n x.methods) in
      subst Q (next_place at) (
      adding_more same_triple old m new (methods_notes s at x.methods) (literals_notes s (suc at) (drop (at + 1) xs)) whole
      (subst P (drop_read xs at x e) a) (subst R p b))

  pub scopes_step : (at s : ℕ) (xs : List Scope) (x : Scope) → slice_get xs at ≡ Some x → s ≡ at →
      Adding same_triple old m (scopes_notes at (drop at xs)) (scopes_notes 0 xs) → Adds same_triple m new (literals_notes s 0 x.literals) →
      Adding same_triple old new (scopes_notes (at + 1) (drop (at + 1) xs)) (scopes_notes 0 xs)
  scopes_step at s xs x e p a b =
      let whole = scopes_notes 0 xs in
      let P : List Scope → Type 0 = λ l. Adding same_triple old m (scopes_notes at l) whole in
      let Q : ℕ → Type 0 = λ n. Adding same_triple old new (scopes_notes n (drop (at + 1) xs)) whole in
      let R : ℕ → Type 0 = λ n. Adds same_triple m new (literals_notes n 0 x.literals) in
      subst Q (next_place at) (
      adding_more same_triple old m new (literals_notes at 0 x.literals) (scopes_notes (suc at) (drop (at + 1) xs)) whole
      (subst P (drop_read xs at x e) a) (subst R p b))

  pub methods_end : (s l at : ℕ) (xs : List Method) → length xs ≤ at → Adding same_triple old new (methods_notes s l (drop at xs)) (methods_notes s l xs) → Adds same_triple old new (methods_notes s l xs)
  methods_end s l at xs le a = adding_all same_triple old new (methods_notes s l (drop at xs)) (methods_notes s l xs) (ap (methods_notes s l) (drop_past xs at le)) a

  pub literals_end : (s at : ℕ) (xs : List Literal) → length xs ≤ at → Adding same_triple old new (literals_notes s at (drop at xs)) (literals_notes s 0 xs) → Adds same_triple old new (literals_notes s 0 xs)
  literals_end s at xs le a = adding_all same_triple old new (literals_notes s at (drop at xs)) (literals_notes s 0 xs) (ap (literals_notes s at) (drop_past xs at le)) a

  pub scopes_end : (at : ℕ) (xs : List Scope) → length xs ≤ at → Adding same_triple old new (scopes_notes at (drop at xs)) (scopes_notes 0 xs) → Adds same_triple old new (scopes_notes 0 xs)
  scopes_end at xs le a = adding_all same_triple old new (scopes_notes at (drop at xs)) (scopes_notes 0 xs) (ap (scopes_notes at) (drop_past xs at le)) a

-- what an instance states
pub typing_read : (is : List Instance) (k : ℕ) (i : Instance) → slice_get is k ≡ Some i → slice_get (typings_in is) k ≡ Some i.typing
typing_read is k i e = get_map (λ (i : Instance). i.typing) is k i e

------------------------------------------------------------
-- Names

without_more : (names xs ys : List (List ℕ)) → without names (xs ++ ys) ≡ without names xs ++ without names ys
without_more names [] ys = refl
without_more names (x ∷ xs) ys =
    elim (is_among x names) as (λ b. (if b then without names (xs ++ ys) else x ∷ without names (xs ++ ys)) ≡ (if b then without names xs else x ∷ without names xs) ++ without names ys) [
      | true ↦ without_more names xs ys
      | false ↦ ap (λ l. x ∷ l) (without_more names xs ys)
    ]

pub lacking_step : (names more new : List (List ℕ)) (os : List OpName) (at : ℕ) (o : OpName) (whole : List (List ℕ)) → at < length os → o ≡ get_or os at o →
    new ≡ more ++ without names (map method_text (o ∷ [])) → more ++ without names (map method_text (drop at os)) ≡ whole →
    new ++ without names (map method_text (drop (at + 1) os)) ≡ whole
lacking_step names more new os at o whole lt is e h =
    let rest = map method_text (drop (at + 1) os) in
    ap (λ (l : List (List ℕ)). l ++ without names rest) e ∙
    append_assoc more (without names (map method_text (o ∷ []))) (without names rest) ∙
    ap (λ (l : List (List ℕ)). more ++ l) (sym (without_more names (map method_text (o ∷ [])) rest)) ∙
    ap (λ (l : List OpName). more ++ without names (map method_text l)) (sym (drop_item os at o lt is)) ∙ h

pub numbers_more : (k : ℕ) (xs ys : List (List ℕ)) → operation_numbers k (xs ++ ys) ≡ operation_numbers k xs ++ operation_numbers (k + length xs) ys
numbers_more k [] ys = ap (λ n. operation_numbers n ys) (let z : k ≡ k + 0 = omega arith in z)
numbers_more k (x ∷ xs) ys =
    let z : suc k + length xs ≡ k + suc (length xs) = omega arith in
    let ih = numbers_more (suc k) xs ys ∙ ap (λ n. operation_numbers (suc k) xs ++ operation_numbers n ys) z in
    elim (is_among x primitive_methods) as (λ b. (if b then k ∷ operation_numbers (suc k) (xs ++ ys) else operation_numbers (suc k) (xs ++ ys)) ≡
    (if b then k ∷ operation_numbers (suc k) xs else operation_numbers (suc k) xs) ++ operation_numbers (k + suc (length xs)) ys) [
      | true ↦ ap (λ l. k ∷ l) ih
      | false ↦ ih
    ]

pub numbers_step : (first at number : ℕ) (granted new : List ℕ) (names : List (List ℕ)) (n : List ℕ) (whole : List ℕ) → slice_get names at ≡ Some n → number ≡ first + at →
    new ≡ granted ++ operation_numbers number (n ∷ []) → granted ++ operation_numbers (first + at) (drop at names) ≡ whole →
    new ++ operation_numbers (first + (at + 1)) (drop (at + 1) names) ≡ whole
numbers_step first at number granted new names n whole e p f h =
    let rest = drop (at + 1) names in
    let z : (first + at) + 1 ≡ first + (at + 1) = omega arith in
    ap (λ (l : List ℕ). l ++ operation_numbers (first + (at + 1)) rest) f ∙
    append_assoc granted (operation_numbers number (n ∷ [])) (operation_numbers (first + (at + 1)) rest) ∙
    ap (λ (k : ℕ). granted ++ (operation_numbers k (n ∷ []) ++ operation_numbers (first + (at + 1)) rest)) p ∙
    ap (λ (k : ℕ). granted ++ (operation_numbers (first + at) (n ∷ []) ++ operation_numbers k rest)) (sym z) ∙
    ap (λ (l : List ℕ). granted ++ l) (sym (numbers_more (first + at) (n ∷ []) rest)) ∙
    ap (λ (l : List (List ℕ)). granted ++ operation_numbers (first + at) l) (sym (drop_read names at n e)) ∙ h
