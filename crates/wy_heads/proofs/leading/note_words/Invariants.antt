use Rattle.std.proofs.Common.{◌≡◌, drop, map}
use Rattle.wy_symbols.specs.Least.{noted}
use Rattle.wy_heads.specs.CycleRefusals.{words_refusals}
use Rattle.wy_symbols.specs.Lent.{module_tree, lent_name}
use Rattle.wy_heads.proofs.leading.note_words.Given as goal

abbrev pub invariant-loop-word : goal.invariant-loop-word
invariant-loop-word l =
    noted l.least (words_refusals l.reached (map module_tree l.modules) l.number (map lent_name (drop l.word-index l.words))) ≡
    noted l.initial.least (words_refusals l.reached (map module_tree l.modules) l.number (map lent_name l.words))
