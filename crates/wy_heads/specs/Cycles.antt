-- Modules whose lines and uses lead back to them.
use Rattle.std.specs.Prelude.{◌≡◌, ℕ, List, [], ◌∷◌, ◌++◌, map, Some, slice_get}
use Rattle.wy_syntax.specs.declared.types.Name.{Name}
use Rattle.wy_text.specs.Members.{In}
use Rattle.wy_symbols.specs.declared.refusal.Cause.TheVariants.{Cycle}
use Rattle.wy_symbols.specs.declared.refusal.Refusal.{Refusal}
use Rattle.wy_symbols.specs.Least.{refusal_at}
use Rattle.wy_symbols.specs.Declarations.{ModuleTree, module_number}
use Rattle.wy_heads.specs.Lines.{line_module}

-- the words that name modules in a module's uses and lines
abbrev pub named_modules : ModuleTree → List Name
named_modules m = m.uses ++ map line_module m.lines

-- a use or line of the module of one number, at this word, names the module of another
pub record Names (modules : List ModuleTree) (k : ℕ) (word : Name) (j : ℕ) : Type 0 where
  pub from : ModuleTree
  pub there : slice_get modules k ≡ Some from
  pub written : In word (named_modules from)
  pub number : module_number modules word.text ≡ Some j

abbrev pub LeadsTo : List ModuleTree → ℕ → ℕ → Type 0
LeadsTo modules k j = (word : Name) × Names modules k word j

-- from one module another is reached by way of these words' modules; without any they are the same
abbrev pub LeadsBy : List ModuleTree → ℕ → List ℕ → ℕ → Type 0
LeadsBy modules k [] j = k ≡ j
LeadsBy modules k (i ∷ path) j = LeadsTo modules k i × LeadsBy modules i path j

-- Cycle, at a word that names a module from which the module that has the word is reached
pub record IsCycle (modules : List ModuleTree) (r : Refusal) : Type 0 where
  pub back : ℕ
  pub word : Name
  pub next : ℕ
  pub names : Names modules back word next
  pub path : List ℕ
  pub leads : LeadsBy modules next path back
  pub at : r ≡ refusal_at word.place Cycle
