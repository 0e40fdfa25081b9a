-- What a set lacks, and a set that is in all rows.
use Rattle.std.proofs.Common.{◌||◌, ◌≡◌, ℕ, zero, suc, ◌+◌, ◌<◌, ◌≤◌, List, [], ◌∷◌, ◌++◌, inl, inr, Bool, true, false, ◌&&◌, not, map, refl, sym, ap, ◌∙◌, arith, subst}
use Rattle.std.specs.Prelude.{◌↔◌}
use Rattle.std.specs.List.{range_with_len}
use Rattle.std.proofs.lemmas.Bool.{eq-eqb, ne_eqb, cases_eq, cases_lt, true≢false, false_from_ne_true}
use Rattle.wy_lanes.specs.Numbers.{AllIn, IsAscending, IsAscendingFrom, is_in}
use Rattle.wy_lanes.specs.Rows.{AllRowsIn, others}
use Rattle.wy_lanes.proofs.NumberLaws.{IsAscendingFrom-without_numbers, below_end, is_in-without_numbers, same_numbers}
use Rattle.wy_effects.specs.EffSet.{IsSet, IsSetFrom}
use Rattle.wy_text.specs.Members.{In, Within}
use Rattle.wy_effects.specs.Rows.{AreLacking, IsInAll}
use Rattle.wy_text.proofs.Lists.{In-cases, In-map, In-unmap}
use Rattle.wy_effects.proofs.Numbers.{all_are}

numbers : List ℕ
numbers = range_with_len 0 512

range_ascends : (a n e : ℕ) → a + n ≤ e → IsAscendingFrom a e (range_with_len a n)
range_ascends a zero e le = tt
range_ascends a (suc n) e le = (omega arith, omega (arith, le), range_ascends (a + 1) n e (omega (arith, le)))

in_range : (a n m : ℕ) → a ≤ m → m < a + n → is_in m (range_with_len a n) ≡ true
in_range a zero m above below = absurd (omega (arith, above, below))
in_range a (suc n) m above below =
    elim (cases_eq a m) [
      | inl same ↦ ap (λ (t : Bool). t || is_in m (range_with_len (a + 1) n)) (eq-eqb a m same)
      | inr other ↦ ap (λ (t : Bool). t || is_in m (range_with_len (a + 1) n)) (ne_eqb a m other) ∙ in_range (a + 1) n m (omega (arith, above, other)) (omega (arith, below))
    ]

-- which numbers are lacking
is_in-others : (m : ℕ) (xs : List ℕ) → m < 512 → is_in m (others xs) ≡ not (is_in m xs)
unfolding others
is_in-others m xs small =
    is_in-without_numbers m (range_with_len 0 512) xs ∙ ap (λ (t : Bool). t && not (is_in m xs)) (in_range 0 512 m (omega arith) (omega (arith, small)))

others_ascend : (xs : List ℕ) → IsAscending 512 (others xs)
unfolding others
others_ascend xs = IsAscendingFrom-without_numbers 0 512 (range_with_len 0 512) xs (range_ascends 0 512 512 (omega arith))

not_not : (t : Bool) → not (not t) ≡ t
not_not true = refl
not_not false = refl

below : (m : ℕ) (xs : List ℕ) → IsAscending 512 xs → is_in m xs ≡ true → m < 512
below m xs ascend i = below_end 0 512 xs m ascend i

-- what is lacking of what is lacking
twice : (xs : List ℕ) → IsAscending 512 xs → others (others xs) ≡ xs
twice xs ascend =
    same_numbers 0 512 (others (others xs)) xs (others_ascend (others xs)) ascend
    (λ m. elim (cases_lt m 512) [
      | inl small ↦ is_in-others m (others xs) small ∙ ap not (is_in-others m xs small) ∙ not_not (is_in m xs)
      | inr large ↦ (let none : (ys : List ℕ) → IsAscending 512 ys → is_in m ys ≡ false = λ ys up. false_from_ne_true (is_in m ys) (λ i. (let small = below m ys up i in omega (arith, small, large))) in
          none (others (others xs)) (others_ascend (others xs)) ∙ sym (none xs ascend))
    ])

ascending : (k n : ℕ) (xs : List ℕ) → IsSetFrom k n xs → IsAscendingFrom k n xs
ascending k n [] s = s
ascending k n (x ∷ xs) s = (s.0, s.1, ascending (x + 1) n xs s.2)

-- a set is what its complement lacks
pub others_twice : (xs : List ℕ) → IsSet 512 xs → others (others xs) ≡ xs
others_twice xs set = twice xs (ascending 0 512 xs set)

-- one more row
pub lacking_push : (rows : List (List ℕ)) (set : List ℕ) → AreLacking rows → AreLacking (rows ++ others set ∷ [])
lacking_push rows set lacking row i =
    elim (In-cases row rows (others set ∷ []) i) [
      | inl before ↦ lacking row before
      | inr (inl last) ↦ subst (λ (r : List ℕ). others (others r) ≡ r) last (twice (others set) (others_ascend set))
      | inr (inr none) ↦ absurd none
    ]

of_all : (rows : List (List ℕ)) (ys row : List ℕ) → AllRowsIn rows ys → In row rows → AllIn row ys
of_all [] ys row all i = absurd i
of_all (x ∷ xs) ys row all (inl e) = subst (λ (r : List ℕ). AllIn r ys) e all.0
of_all (x ∷ xs) ys row all (inr i) = of_all xs ys row all.1 i

to_all : (rows : List (List ℕ)) (ys : List ℕ) → ((row : List ℕ) → In row rows → AllIn row ys) → AllRowsIn rows ys
to_all [] ys all = tt
to_all (x ∷ xs) ys all = (all x (inl refl), to_all xs ys (λ row i. all row (inr i)))

within_row : (row atoms : List ℕ) → IsSet 512 atoms → AllIn row (others atoms) → Within atoms (others row)
within_row row atoms set all =
    (all_are atoms (others row)).0
    (λ a i. (let small = below a atoms (ascending 0 512 atoms set) i in
    is_in-others a row small ∙ ap not (false_from_ne_true (is_in a row) (λ lacks. true≢false (sym (all a lacks) ∙ is_in-others a atoms small ∙ ap not i)))))

row_within : (row atoms : List ℕ) → others (others row) ≡ row → Within atoms (others row) → AllIn row (others atoms)
row_within row atoms same within a i =
    let small = below a row (subst (IsAscending 512) same (others_ascend (others row))) i in
    is_in-others a atoms small ∙ ap not (false_from_ne_true (is_in a atoms) (λ has. true≢false (sym ((all_are atoms (others row)).1 within a has) ∙ is_in-others a row small ∙ ap not i)))

-- what all rows lack is lacking of the set exactly where the set is in each
pub in_all_rows : (rows : List (List ℕ)) (atoms : List ℕ) → IsSet 512 atoms → AreLacking rows → AllRowsIn rows (others atoms) ↔ IsInAll atoms (map others rows)
in_all_rows rows atoms set lacking = (
  λ all row i. (let found = In-unmap others row rows i in subst (Within atoms) found.2 (within_row found.0 atoms set (of_all rows (others atoms) found.0 all found.1))),
  λ all. to_all rows (others atoms) (λ row i. row_within row atoms (lacking row i) (all (others row) (In-map others row rows i))),
)

-- a row that is pushed is its set
pub map-push : (rows : List (List ℕ)) (set : List ℕ) → IsSet 512 set → map others (rows ++ others set ∷ []) ≡ map others rows ++ set ∷ []
map-push [] set is = ap (λ (s : List ℕ). s ∷ []) (others_twice set is)
map-push (x ∷ xs) set is = ap (λ (sets : List (List ℕ)). others x ∷ sets) (map-push xs set is)
