-- Rows of eight words that stand one after another, and the numbers of the words all of whose bits are set.
use Rattle.std.proofs.Common.{◌≡◌, ℕ, zero, suc, ◌+◌, ◌*◌, ◌<◌, List, [], ◌∷◌, ◌++◌, length, map, refl, sym, ap, ◌∙◌, arith, subst, length-append, Option, Some, None, Bool, not, true, false}
use Rattle.std.specs.Prelude.{take, drop, IfSome, IfNone, IsTrue, ◌↔◌}
use Rattle.std.specs.Option.{is_some}
use Rattle.std.proofs.lemmas.Bool.{false≢true}
use Rattle.std.specs.List.{flat_map, range_with_len}
use Rattle.std.proofs.Math.Seq.{take-append_seam, drop-append-add}
use Rattle.wy_lanes.specs.Words.{AllInside, row_of}
use Rattle.wy_lanes.specs.Numbers.{numbers_of}
use Rattle.wy_lanes.specs.Rows.{AllRowsIn, IsRow, AreRows}
use Rattle.wy_lanes.proofs.NumbersOf.{AllIn-from_inside, AllInside-from_in}

abbrev full : ℕ
full = 18446744073709551615

-- words all of whose bits are set have all numbers
pub all_numbers : numbers_of (full ∷ full ∷ full ∷ full ∷ full ∷ full ∷ full ∷ full ∷ []) ≡ range_with_len 0 512
unfolding numbers_of
all_numbers = refl

-- the rows one after another
abbrev pub flat : List (List ℕ) → List ℕ
flat xs = flat_map (λ x. x) xs

first_row : (x ws : List ℕ) → length x ≡ 8 → row_of (x ++ ws) 0 ≡ x
first_row x ws long = subst (λ (n : ℕ). take n (x ++ ws) ≡ x) long (take-append_seam x ws)

later_row : (x ws : List ℕ) (n : ℕ) → length x ≡ 8 → row_of (x ++ ws) (suc n) ≡ row_of ws n
later_row x ws n long =
    ap (take 8) (ap (λ (k : ℕ). drop k (x ++ ws)) (let e : 8 * suc n ≡ length x + 8 * n = omega (arith, long) in e) ∙ drop-append-add x ws (8 * n))

-- rows inside a bound have numbers of the bound alone
pub rows_in : (xs : List (List ℕ)) (bound : List ℕ) → length bound ≡ 8 → AreRows xs
    → ((row : ℕ) → 8 * row < length (flat xs) → AllInside (row_of (flat xs) row) bound)
    → AllRowsIn (map numbers_of xs) (numbers_of bound)
rows_in [] bound long rows all = tt
rows_in (x ∷ xs) bound long rows all =
    let longer = length-append x (flat xs) in (
      AllIn-from_inside x bound (rows.0.0 ∙ sym long) (subst (λ (r : List ℕ). AllInside r bound) (first_row x (flat xs) rows.0.0) (all 0 (omega (arith, rows.0.0, longer)))),
      rows_in xs bound long rows.1 (λ n lt. subst (λ (r : List ℕ). AllInside r bound) (later_row x (flat xs) n rows.0.0) (all (suc n) (omega (arith, lt, rows.0.0, longer)))),
    )

-- rows of numbers of the bound alone are inside it
pub rows_inside : (xs : List (List ℕ)) (bound : List ℕ) → AreRows xs → AllRowsIn (map numbers_of xs) (numbers_of bound)
    → (row : ℕ) → 8 * row < length (flat xs) → AllInside (row_of (flat xs) row) bound
rows_inside [] bound rows all row lt = absurd (omega (arith, lt))
rows_inside (x ∷ xs) bound rows all zero lt = subst (λ (r : List ℕ). AllInside r bound) (sym (first_row x (flat xs) rows.0.0)) (AllInside-from_in x bound rows.0.1 all.0)
rows_inside (x ∷ xs) bound rows all (suc n) lt =
    subst (λ (r : List ℕ). AllInside r bound) (sym (later_row x (flat xs) n rows.0.0)) (rows_inside xs bound rows.1 all.1 n (omega (arith, lt, rows.0.0, length-append x (flat xs))))

-- one more row
pub AreRows-append : (xs : List (List ℕ)) (x : List ℕ) → AreRows xs → IsRow x → AreRows (xs ++ x ∷ [])
AreRows-append [] x rows row = (row, tt)
AreRows-append (y ∷ ys) x rows row = (rows.0, AreRows-append ys x rows.1 row)

-- what the search for a row outside a bound says, without the first such row
pub record Found (words bound : List ℕ) (row : Option ℕ) : Type 0 where
  pub row_is : IfSome row (λ r. 8 * r < length words)
  pub outside : IfSome row (λ r. AllInside (row_of words r) bound → ⊥)
  pub none : IfNone row ((r : ℕ) → 8 * r < length words → AllInside (row_of words r) bound)

-- no row is found exactly where all numbers of the rows are in the bound
pub all_in : (xs : List (List ℕ)) (bound : List ℕ) (row : Option ℕ) (none : Bool) → length bound ≡ 8 → AreRows xs → Found (flat xs) bound row
    → is_some row ≡ not none → IsTrue none ↔ AllRowsIn (map numbers_of xs) (numbers_of bound)
all_in xs bound None true long rows found is = (λ yes. rows_in xs bound long rows found.none, λ all. refl)
all_in xs bound None false long rows found is = absurd (false≢true is)
all_in xs bound (Some r) true long rows found is = absurd (false≢true (sym is))
all_in xs bound (Some r) false long rows found is = (λ yes. absurd (false≢true yes), λ all. absurd (found.outside (rows_inside xs bound rows all r found.row_is)))
