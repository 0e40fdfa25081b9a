-- Which modules lead to which, by their numbers alone.
use Rattle.std.specs.Prelude.{◌≡◌, ℕ, ◌<◌, List, [], ◌∷◌, ◌++◌, map, length, slice_index_or, option_to_list}
use Rattle.wy_syntax.specs.declared.types.Name.{Name}
use Rattle.wy_text.specs.Members.{In, Apart}
use Rattle.wy_symbols.specs.Declarations.{ModuleTree, module_number}
use Rattle.wy_heads.specs.Cycles.{named_modules}

-- the modules that words name
abbrev pub numbers_of : List ModuleTree → List Name → List ℕ
numbers_of modules [] = []
numbers_of modules (w ∷ ws) = option_to_list (module_number modules w.text) ++ numbers_of modules ws

-- for each module those that its uses and lines name
abbrev pub edges_of : List ModuleTree → List (List ℕ)
edges_of modules = map (λ (m : ModuleTree). numbers_of modules (named_modules m)) modules

abbrev pub next_from : List (List ℕ) → ℕ → List ℕ
next_from edges k = slice_index_or edges k []

-- from one another is reached by way of others
abbrev pub Goes : List (List ℕ) → ℕ → List ℕ → ℕ → Type 0
Goes edges k [] j = k ≡ j
Goes edges k (i ∷ path) j = In i (next_from edges k) × Goes edges i path j

abbrev pub Reached : List (List ℕ) → ℕ → ℕ → Type 0
Reached edges k j = (path : List ℕ) × Goes edges k path j

-- all that some are, and the others that are not yet among them, each once
pub record Adds (old others new : List ℕ) : Type 0 where
  pub more : List ℕ
  pub longer : new ≡ old ++ more
  pub all : (k : ℕ) → In k others → In k new
  pub only : (k : ℕ) → In k more → In k others
  pub apart : Apart old → Apart new

-- for each list another with the same numbers, each once
abbrev pub EachOnce : List (List ℕ) → List (List ℕ) → Type 0
EachOnce [] [] = Unit {0}
EachOnce [] (new ∷ more) = ⊥
EachOnce (numbers ∷ others) [] = ⊥
EachOnce (numbers ∷ others) (new ∷ more) = Adds [] numbers new × EachOnce others more

-- numbers below a bound, in the order in which they came
pub record Numbers : Type 0 where
  pub below : ℕ
  pub list : List ℕ

-- no module leads out of their number
abbrev pub LeadsInside : List (List ℕ) → Type 0
LeadsInside edges = (k j : ℕ) → In j (next_from edges k) → j < length edges
