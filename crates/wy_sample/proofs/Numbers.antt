-- The texts of numbers in their order: those up to one are written, and those from it on to the last are to come.
use Rattle.std.proofs.Common.{◌≡◌, ℕ, suc, ◌+◌, ◌-◌, ◌<◌, ◌≤◌, List, ◌++◌, sym, ap, ◌∙◌, arith, append_assoc}
use Rattle.std.proofs.lemmas.List.{append-nil}
use Rattle.std.specs.List.{flat_map, range_with_len}

-- before the first of them
pub none_written : (f : ℕ → List ℕ) (last : ℕ) (text : List ℕ) → text ++ flat_map f (range_with_len 2 (last + 1 - 2)) ≡ text ++ flat_map f (range_with_len 2 (last - 1))
none_written f last text =
    let e : last + 1 - 2 ≡ last - 1 = omega arith in
    ap (λ n. text ++ flat_map f (range_with_len 2 n)) e

pub one_written : (f : ℕ → List ℕ) (number last : ℕ) (text more whole : List ℕ) → number < last + 1 → text ++ flat_map f (range_with_len number (last + 1 - number)) ≡ whole
    → more ≡ text ++ f number → more ++ flat_map f (range_with_len (number + 1) (last + 1 - (number + 1))) ≡ whole
one_written f number last text more whole below h e =
    let left : ℕ = last + 1 - (number + 1) in
    let rest : List ℕ = flat_map f (range_with_len (number + 1) left) in
    let one : last + 1 - number ≡ suc left = omega (arith, below) in
    ap (λ t. t ++ rest) e ∙ append_assoc text (f number) rest ∙ sym (ap (λ n. text ++ flat_map f (range_with_len number n)) one) ∙ h

pub all_written : (f : ℕ → List ℕ) (number last : ℕ) (text whole : List ℕ) → last + 1 ≤ number → text ++ flat_map f (range_with_len number (last + 1 - number)) ≡ whole → text ≡ whole
all_written f number last text whole above h =
    let none : last + 1 - number ≡ 0 = omega (arith, above) in
    sym (append-nil text) ∙ sym (ap (λ n. text ++ flat_map f (range_with_len number n)) none) ∙ h
