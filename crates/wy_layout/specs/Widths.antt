-- Which widths are open before a line. ws are the widths of the lines before it that aren't blank, the last first.
use Rattle.std.specs.Prelude.{◌≡◌, ℕ, zero, suc, ◌<◌, ◌≤◌, ◌==◌, nat_lt, Bool, false, cond, ◌⊎◌, List, [], ◌∷◌, ◌++◌}
use Rattle.std.specs.List.{AllByRecursion}

-- 0, or the width of an earlier line, where no line between is narrower
abbrev pub IsOpen : ℕ → List ℕ → Type 0
IsOpen w ws = (w ≡ 0) ⊎ ((later : List ℕ) × (before : List ℕ) × (ws ≡ later ++ w ∷ before) × AllByRecursion (λ v. w ≤ v) later)

-- the open widths, the greatest first: a line keeps those that are less than its own
abbrev pub below : ℕ → List ℕ → List ℕ
below w [] = []
below w (v ∷ st) = cond (nat_lt v w) (v ∷ st) (below w st)

-- the open widths before a line
abbrev pub opens : List ℕ → List ℕ
opens [] = 0 ∷ []
opens (w ∷ ws) = w ∷ below w (opens ws)

-- how many open widths are greater than w, and those that are not
abbrev pub above : ℕ → List ℕ → ℕ
above w [] = 0
above w (v ∷ st) = cond (nat_lt w v) (suc (above w st)) 0

-- those that are not greater than w
abbrev pub rest : ℕ → List ℕ → List ℕ
rest w [] = []
rest w (v ∷ st) = cond (nat_lt w v) (rest w st) (v ∷ st)

-- w is the greatest
abbrev pub is_top : ℕ → List ℕ → Bool
is_top w [] = false
is_top w (v ∷ st) = w == v

-- what stands before a line: an In; Outs, as many as there are open widths greater than its own; or
-- Outs, and then the width is not open
pub data Step : Type 0 where
  deeper : Step
  back : ℕ → Step
  wrong : ℕ → Step

-- a width that isn't open, by the number of greater ones
abbrev pub not_open : ℕ → Step
not_open zero = deeper
not_open (suc n) = wrong (suc n)

-- what stands before a line of the width w, by the open widths
abbrev pub step_of : ℕ → List ℕ → Step
step_of w st = cond (is_top w (rest w st)) (back (above w st)) (not_open (above w st))

-- ---- the same by the lines before

-- it is wider than all that is open
pub record IsIn (w : ℕ) (ws : List ℕ) : Type 0 where
  pub wider : (v : ℕ) → IsOpen v ws → v < w

-- it is open, and n open widths are greater
pub record IsOuts (n w : ℕ) (ws : List ℕ) : Type 0 where
  pub is_open : IsOpen w ws
  pub count : n ≡ above w (opens ws)

-- it isn't open, and an open one is greater
pub record IsNotOpen (n w : ℕ) (ws : List ℕ) : Type 0 where
  pub closed : IsOpen w ws → ⊥
  pub wider : (v : ℕ) × IsOpen v ws × (w < v)
  pub count : n ≡ above w (opens ws)

-- what stands before a line of the width w, by the lines before
abbrev pub Stands : Step → ℕ → List ℕ → Type 0
Stands deeper w ws = IsIn w ws
Stands (back n) w ws = IsOuts n w ws
Stands (wrong n) w ws = IsNotOpen n w ws
