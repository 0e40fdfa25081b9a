use Rattle.std.proofs.Common.{◌∙◌, ◌<◌, ◌≤◌, [], List, ℕ, Bor, length, map, rules, subst, sym, take}
use Rattle.std.specs.Prelude.{option_to_list}
use Rattle.std.proofs.lemmas.List.{take_all}
use Rattle.wy_syntax.specs.declared.types.Name.{Name}
use Rattle.wy_symbols.specs.Declarations.{module_number}
use Rattle.wy_heads.specs.Leading.{numbers_of, Adds}
use Rattle.wy_symbols.specs.Lent.{module_tree, lent_name}
use Rattle.wy_heads.proofs.Searching.{adds_then}
use Rattle.wy_heads.proofs.Cycling.{numbers_taken}
use Rattle.wy_heads.proofs.leading.numbers_of.Goals as goal

pub loop-word-preserved : goal.loop-word-preserved
loop-word-preserved c =
    let lt : c.loop-word.word-index < length c.args.words.now = search rules in
    let modules = map module_tree c.args.modules.now in
    let n = c.word-item.result in
    let P : List ℕ → Type 0 = λ l. Adds [] l c.add_number.new.list.list in
    record {
      bound = c.in_ok-add_number.ensures.bound ∙ c.loop-word.invariant.bound;
      added = subst P (sym (numbers_taken modules c.args.words.now c.loop-word.word-index n lt c.word-item.is))
          (adds_then [] c.loop-word.list.list c.add_number.new.list.list (numbers_of modules (map lent_name (take c.loop-word.word-index c.args.words.now)))
          (option_to_list (module_number modules n.now.text)) c.loop-word.invariant.added c.in_ok-add_number.ensures.added);
    }

pub returns : goal.returns
returns c =
    let modules = map module_tree c.args.modules.now in
    let le : length c.args.words.now ≤ c.loop-word.word-index = search rules in
    let P : List ℕ → Type 0 = λ l. Adds [] (numbers_of modules (map lent_name c.args.words.now)) l in
    let Q : List (Bor Name) → Type 0 = λ ws. Adds [] (numbers_of modules (map lent_name ws)) c.loop-word.list.list in
    subst P (sym c.into_list.ensures) (subst Q (take_all c.loop-word.word-index c.args.words.now le) c.loop-word.invariant.added)
