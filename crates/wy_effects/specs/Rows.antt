-- Rows of effect sets: what each lacks stands in place of it.
use Rattle.std.specs.Prelude.{◌≡◌, ℕ, List}
use Rattle.wy_lanes.specs.Rows.{others}
use Rattle.wy_text.specs.Members.{In, Within}

-- each row is what a set lacks
abbrev pub AreLacking : List (List ℕ) → Type 0
AreLacking rows = (row : List ℕ) → In row rows → others (others row) ≡ row

-- the set is in each of the sets
abbrev pub IsInAll : List ℕ → List (List ℕ) → Type 0
IsInAll atoms sets = (set : List ℕ) → In set sets → Within atoms set
