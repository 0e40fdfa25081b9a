-- How far a table of types goes.
use Rattle.std.proofs.Common.{◌≡◌, ℕ, zero, suc, ◌<◌, ◌≤◌, List, length, refl, ◌∙◌, Some, arith}
use Rattle.std.proofs.lemmas.List.{length-map}
use Rattle.std.proofs.lemmas.Option.{slice_get_within}
use Rattle.wy_text.specs.Members.{In}
use Rattle.wy_types.specs.Core.{AreNumbered}
use Rattle.wy_judge.specs.Tables.{Table, EndsKnown, IsKnown}
use Rattle.wy_judge.specs.Walking.{settled, settled_types}

-- a table in which the `val`s of these numbers are known, and no others, and which goes no further, has as many types as there are numbers
pub known_room : (table : Table) (ns : List ℕ) → AreNumbered ns → ((n : ℕ) → In n ns → IsKnown table n) → ((n : ℕ) → IsKnown table n → In n ns) → EndsKnown table → length (settled_types table) ≡ length ns
known_room table ns numbered known only ends = length-map table settled ∙ (let a = at_most (length table) refl in let b = at_least (length ns) refl in omega (arith, a, b))
  where
    at_most : (size : ℕ) → length table ≡ size → length table ≤ length ns
    at_most zero e = omega (arith, e)
    at_most (suc n) e = (let below = (numbered n).0 (only n (ends n e)) in omega (arith, e, below))

    at_least : (size : ℕ) → length ns ≡ size → length ns ≤ length table
    at_least zero e = omega (arith, e)
    at_least (suc n) e =
        let there = known n ((numbered n).1 (omega (arith, e))) in
        let below : n < length table = slice_get_within table n (Some there.0) there.1 in
        omega (arith, e, below)
