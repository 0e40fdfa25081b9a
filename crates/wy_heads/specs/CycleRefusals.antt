-- The refusals of modules that lead back to themselves, by marks of what is reached from each module.
use Rattle.std.specs.Prelude.{◌≡◌, ℕ, ◌+◌, ◌<◌, List, [], ◌∷◌, ◌++◌, ◌↔◌, Option, Some, None, Bool, false, IsTrue, length, slice_index_or, if◌then◌else◌}
use Rattle.wy_syntax.specs.declared.types.Name.{Name}
use Rattle.wy_text.specs.Members.{In}
use Rattle.wy_symbols.specs.declared.refusal.Cause.TheVariants.{Cycle}
use Rattle.wy_symbols.specs.declared.refusal.Refusal.{Refusal}
use Rattle.wy_symbols.specs.Least.{refusal_at, noted}
use Rattle.wy_symbols.specs.Declarations.{ModuleTree, module_number}
use Rattle.wy_heads.specs.Cycles.{named_modules, IsCycle}
use Rattle.wy_heads.specs.Leading.{Reached}

-- for each module the marks of those that are reached from it
abbrev pub AreReached : List (List ℕ) → List (List Bool) → Type 0
AreReached edges reached = (j k : ℕ) → j < length edges → IsTrue (slice_index_or (slice_index_or reached j []) k false) ↔ Reached edges j k

-- at the word of the module of a number, where this word names the module from which that one is reached
abbrev pub word_refusals : List (List Bool) → ℕ → Name → Option ℕ → List Refusal
word_refusals reached k word None = []
word_refusals reached k word (Some j) = if slice_index_or (slice_index_or reached j []) k false then refusal_at word.place Cycle ∷ [] else []

abbrev pub words_refusals : List (List Bool) → List ModuleTree → ℕ → List Name → List Refusal
words_refusals reached modules k [] = []
words_refusals reached modules k (w ∷ ws) = word_refusals reached k w (module_number modules w.text) ++ words_refusals reached modules k ws

-- of modules, the first of which has the number `k`
abbrev pub cycle_refusals : List (List Bool) → List ModuleTree → ℕ → List ModuleTree → List Refusal
cycle_refusals reached modules k [] = []
cycle_refusals reached modules k (m ∷ ms) = words_refusals reached modules k (named_modules m) ++ cycle_refusals reached modules (k + 1) ms

-- exactly the cycles are noted
pub record NotesCycles (modules : List ModuleTree) (old new : Option Refusal) : Type 0 where
  pub refusals : List Refusal
  pub are : (r : Refusal) → In r refusals ↔ IsCycle modules r
  pub noted_are : new ≡ noted old refusals
