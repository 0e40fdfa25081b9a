-- What is reached from each module can be marked, so the cycles are a list.
use Rattle.std.proofs.Common.{◌≡◌, ◌<◌, ◌≤◌, ℕ, zero, suc, ◌+◌, List, [], ◌∷◌, length, Bool, true, false, refl, sym, ap, ◌∙◌, subst, inl, inr, arith}
use Rattle.std.specs.Prelude.{◌↔◌, slice_get, slice_index_or}
use Rattle.std.proofs.lemmas.Bool.{cases_lt}
use Rattle.wy_text.specs.Members.{In, Within, Apart}
use Rattle.wy_effects.specs.EffSet.{has}
use Rattle.wy_effects.proofs.Closure.{Closes, closure}
use Rattle.wy_text.proofs.Lists.{length-apart}
use Rattle.wy_effects.proofs.SetLaws.{cases_equal, has-In, In-has}
use Rattle.wy_symbols.specs.declared.refusal.Refusal.{Refusal}
use Rattle.wy_symbols.specs.Declarations.{ModuleTree}
use Rattle.wy_heads.specs.Cycles.{IsCycle}
use Rattle.wy_heads.specs.Leading.{edges_of, next_from, Goes, Reached, LeadsInside}
use Rattle.wy_heads.specs.CycleRefusals.{AreReached, cycle_refusals}
use Rattle.wy_heads.proofs.CyclesFound.{found_sound, found_complete, leads_inside}

-- the numbers below one
abbrev below : ℕ → List ℕ
below zero = []
below (suc n) = n ∷ below n

below_has : (n x : ℕ) → x < n → In x (below n)
below_has zero x lt = absurd (omega arith)
below_has (suc n) x lt = elim (cases_lt x n) [ inl less ↦ inr (below_has n x less) | inr most ↦ inl (omega arith) ]

below_length : (n : ℕ) → length (below n) ≡ n
below_length zero = refl
below_length (suc n) = ap suc (below_length n)

-- so many marks from a number on, of the numbers that are in a list
abbrev marks : ℕ → ℕ → List ℕ → List Bool
marks zero k xs = []
marks (suc n) k xs = has k xs ∷ marks n (k + 1) xs

marks_at : (n k i : ℕ) (xs : List ℕ) → i < n → slice_index_or (marks n k xs) i false ≡ has (k + i) xs
marks_at zero k i xs lt = absurd (omega arith)
marks_at (suc n) k zero xs lt = (let same : k ≡ k + 0 = omega arith in ap (λ a. has a xs) same)
marks_at (suc n) k (suc i) xs lt = marks_at n (k + 1) i xs (omega arith) ∙ (let same : k + 1 + i ≡ k + suc i = omega arith in ap (λ a. has a xs) same)

marks_past : (n k i : ℕ) (xs : List ℕ) → n ≤ i → slice_index_or (marks n k xs) i false ≡ false
marks_past zero k i xs le = refl
marks_past (suc n) k zero xs le = absurd (omega arith)
marks_past (suc n) k (suc i) xs le = marks_past n (k + 1) i xs (omega arith)

-- a table of rows, one for each of so many numbers
abbrev rows : (ℕ → List Bool) → ℕ → ℕ → List (List Bool)
rows row zero j = []
rows row (suc n) j = row j ∷ rows row n (j + 1)

rows_at : (row : ℕ → List Bool) (n j i : ℕ) → i < n → slice_index_or (rows row n j) i [] ≡ row (j + i)
rows_at row zero j i lt = absurd (omega arith)
rows_at row (suc n) j zero lt = (let same : j ≡ j + 0 = omega arith in ap row same)
rows_at row (suc n) j (suc i) lt = rows_at row n (j + 1) i (omega arith) ∙ (let same : j + 1 + i ≡ j + suc i = omega arith in ap row same)

module _ (edges : List (List ℕ)) (inside : LeadsInside edges) where
  -- a step behind a path
  on : (j : ℕ) (path : List ℕ) (k i : ℕ) → Goes edges j path k → In i (next_from edges k) → Reached edges j i
  on j [] k i e there = (let P : ℕ → Type 0 = λ v. In i (next_from edges v) in (i ∷ [], (subst P (sym e) there, refl)))
  on j (x ∷ path) k i go there = (let rest = on x path k i go.1 there in (x ∷ rest.0, (go.0, rest.1)))

  -- what is reached is the start or a module
  within : (j : ℕ) (path : List ℕ) (k : ℕ) → Goes edges j path k → k < length edges + (j + 1)
  within j [] k e = omega (arith, e)
  within j (x ∷ []) k go = (let lt = inside j x go.0 in let same : x ≡ k = go.1 in omega (arith, lt, same))
  within j (x ∷ y ∷ path) k go = (let lt = inside j x go.0 in let rest = within_edges x (y ∷ path) k lt go.1 in omega (arith, rest))
    where
      within_edges : (x : ℕ) (path : List ℕ) (k : ℕ) → x < length edges → Goes edges x path k → k < length edges
      within_edges x [] k lt e = (let same : x ≡ k = e in omega (arith, lt, same))
      within_edges x (y ∷ path) k lt go = within_edges y path k (inside x y go.0) go.1

  few : (j : ℕ) (xs : List ℕ) → Apart xs → ((x : ℕ) → In x xs → Reached edges j x) → length xs ≤ length edges + (j + 1)
  few j xs apart each =
      let size = below_length (length edges + (j + 1)) in
      let fits = length-apart xs (below (length edges + (j + 1))) apart (λ x i. (let r = each x i in below_has (length edges + (j + 1)) x (within j r.0 x r.1))) in
      omega (arith, fits, size)

  all_reached : (j : ℕ) → Closes ℕ (next_from edges) (Reached edges j) [] (j ∷ [])
  all_reached j =
      closure ℕ cases_equal (next_from edges) (Reached edges j) (λ x y r i. on j r.0 x y r.1 i) (length edges + (j + 1)) (few j) j ([], refl)

  abbrev reached_from : ℕ → List ℕ
  reached_from j = (all_reached j).list

  -- a closed list has what is reached from what it has
  closed_has : (list : List ℕ) → ((x : ℕ) → In x list → Within (next_from edges x) list) → (j : ℕ) (path : List ℕ) (k : ℕ) → In j list → Goes edges j path k → In k list
  closed_has list closed j [] k i e = (let P : ℕ → Type 0 = λ v. In v list in subst P e i)
  closed_has list closed j (x ∷ path) k i go = closed_has list closed x path k (closed j i x go.0) go.1

  reached_has : (j k : ℕ) → Reached edges j k → In k (reached_from j)
  reached_has j k r = closed_has (all_reached j).list (all_reached j).closed j r.0 k ((all_reached j).new j (inl refl)) r.1

  reached_below : (j k : ℕ) → j < length edges → Reached edges j k → k < length edges
  reached_below j k lt r = along j r.0 lt r.1
    where
      along : (x : ℕ) (path : List ℕ) → x < length edges → Goes edges x path k → k < length edges
      along x [] lt e = (let same : x ≡ k = e in omega (arith, lt, same))
      along x (y ∷ path) lt go = along y path (inside x y go.0) go.1

  pub marked : List (List Bool)
  marked = rows (λ j. marks (length edges) 0 (reached_from j)) (length edges) 0

  row_is : (j k : ℕ) → j < length edges → slice_index_or (slice_index_or marked j []) k false ≡ slice_index_or (marks (length edges) 0 (reached_from j)) k false
  unfolding marked
  row_is j k lt =
      let row : ℕ → List Bool = λ j. marks (length edges) 0 (reached_from j) in
      let same : 0 + j ≡ j = omega arith in
      ap (λ l. slice_index_or l k false) (rows_at row (length edges) 0 j lt ∙ ap row same)

  mark_at : (k : ℕ) (xs : List ℕ) → k < length edges → slice_index_or (marks (length edges) 0 xs) k false ≡ has k xs
  mark_at k xs lt = (let same : 0 + k ≡ k = omega arith in marks_at (length edges) 0 k xs lt ∙ ap (λ a. has a xs) same)

  pub marked_are_reached : AreReached edges marked
  marked_are_reached j k lt = (
    λ t. elim (cases_lt k (length edges)) [
      | inl fits ↦ (all_reached j).each k (In-has k (reached_from j) (sym (row_is j k lt ∙ mark_at k (reached_from j) fits) ∙ t))
      | inr past ↦ (let no : true ≡ false = sym t ∙ row_is j k lt ∙ marks_past (length edges) 0 k (reached_from j) past in absurd (cc))
    ],
    λ r. row_is j k lt ∙ mark_at k (reached_from j) (reached_below j k lt r) ∙ has-In k (reached_from j) (reached_has j k r),
  )

-- the refusals of cycles
pub record CyclesAre (modules : List ModuleTree) : Type 0 where
  pub list : List Refusal
  pub are : (r : Refusal) → In r list ↔ IsCycle modules r

pub cycles_of : (modules : List ModuleTree) → CyclesAre modules
cycles_of modules =
    let inside = leads_inside modules in
    let reached = marked (edges_of modules) inside in
    let are = marked_are_reached (edges_of modules) inside in
    record {
      list = cycle_refusals reached modules 0 modules;
      are = λ r. (found_sound reached modules are 0 modules (λ i. (let same : i ≡ 0 + i = omega arith in ap (slice_get modules) same)) r, found_complete reached modules are r);
    }
