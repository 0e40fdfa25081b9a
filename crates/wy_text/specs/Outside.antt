-- What contracts say of the outside: counts, and lists that an object tells or keeps to itself.
use Rattle.std.specs.Prelude.{ℕ, ◌+◌, ◌-◌, ◌<◌, ◌^◌, min, List, ◌++◌, Option, Some, None}

-- the list with a piece at its end, where it is told
abbrev pub gained : {A : Type 0} → Option (List A) → List A → Option (List A)
gained None piece = None
gained (Some all) piece = Some (all ++ piece)

-- a count after one more; it stays at its greatest number
abbrev pub next_count : ℕ → ℕ
next_count count = min (count + 1) (2 ^ 64 - 1)

-- a count rose; one that has reached its greatest number counts as risen
abbrev pub Rose : ℕ → ℕ → Type 0
Rose old new = old < 2 ^ 64 - 1 → old < new

-- what a sink means: the bytes that it took, where it tells them, and its count of faults
pub record SinkState : Type 0 where
  pub taken : Option (List ℕ)
  pub faults : ℕ
