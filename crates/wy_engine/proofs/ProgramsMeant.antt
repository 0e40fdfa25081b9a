-- The program of accepted texts is one that resolving makes, so what the layers below say of such programs holds of it.
use Rattle.std.proofs.Common.{ℕ, suc, List, [], ◌∷◌, ◌++◌}
use Rattle.wy_syntax.specs.Trees.{ItemTree}
use Rattle.wy_types.specs.Program.{Program}
use Rattle.wy_canonical.specs.OwnWords as files
use Rattle.wy_symbols.specs.Declarations.{all_items}
use Rattle.wy_syntax.specs.OwnWords.{HaveWords}
use Rattle.wy_well_formed.specs.WellFormed.{ResolvedKeepsAll}
use Rattle.wy_rules.specs.Resolved.{IsResolved}
use Rattle.wy_engine.specs.FileTrees.{HaveTrees}
use Rattle.wy_engine.specs.NameFaults.{ResolveTo}

-- ---- the words of files

words_both : (items more : List ItemTree) → HaveWords items → HaveWords more → HaveWords (items ++ more)
words_both [] more a b = b
words_both (i ∷ is) more a b = (a.0, words_both is more a.1 b)

pub trees_words : files.TreesHaveWords → (file : ℕ) (texts : List (List ℕ)) (trees : List (List ItemTree)) → HaveTrees file texts trees → HaveWords (all_items trees)
trees_words law file [] [] have = tt
trees_words law file [] (t ∷ ts) have = absurd have
trees_words law file (x ∷ xs) [] have = absurd have
trees_words law file (x ∷ xs) (t ∷ ts) have = words_both t (all_items ts) (law file x t have.0) (trees_words law (suc file) xs ts have.1)

-- ---- programs that resolving makes

pub is_resolved : ResolvedKeepsAll → files.TreesHaveWords → (texts : List (List ℕ)) (program : Program) → ResolveTo texts program → IsResolved program
is_resolved keeps words texts program read = keeps (all_items read.trees) program read.resolves (trees_words words 1 texts read.trees read.have)
