-- Lists of names and texts without repetition.
use Rattle.std.specs.Prelude.{ℕ, Bool, false, ◌||◌, List, [], ◌∷◌, ◌++◌, bytes_eq, if◌then◌else◌}

abbrev pub is_among : List ℕ → List (List ℕ) → Bool
is_among x [] = false
is_among x (y ∷ ys) = bytes_eq y x || is_among x ys

abbrev pub each_once_after : List (List ℕ) → List (List ℕ) → List (List ℕ)
each_once_after seen [] = seen
each_once_after seen (x ∷ xs) = if is_among x seen then each_once_after seen xs else each_once_after (seen ++ x ∷ []) xs

-- the list without what stood in it before
abbrev pub each_once : List (List ℕ) → List (List ℕ)
each_once xs = each_once_after [] xs
