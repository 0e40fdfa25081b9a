use Rattle.std.proofs.Common.{List, ◌∷◌, ◌++◌, ◌+◌, ◌∙◌, drop, map, sym, ap, append_assoc}
use Rattle.std.proofs.lemmas.List.{at_drop_more}
use Rattle.wy_text.proofs.Lists.{In-read}
use Rattle.wy_types.specs.declared.types.Method.{Method}
use Rattle.wy_types.specs.Types.{signature}
use Rattle.wy_bounds.specs.declared.entry.Entry.{Entry}
use Rattle.wy_bounds.specs.Worklist.{all_entries, method_entries}
use Rattle.wy_bounds.proofs.reaching.parts.Goals as goal

pub add_method-requires : goal.add_method-requires
add_method-requires c = c.requires c.m-item.result (In-read c.args.methods.now c.loop-m.m-index c.m-item.result c.m-item.result c.loop-m-test.true c.m-item.is)

pub loop-m-preserved : goal.loop-m-preserved
loop-m-preserved c =
    let F : List Method → List Entry = λ ms. all_entries c.args.at c.args.positive (map signature ms) in
    let later : List Method = drop (c.loop-m.m-index + 1) c.args.methods.now in
    let before : List Entry = c.loop-m.out.items in
    ap (λ (l : List Entry). l ++ F later) c.in_ok-add_method.ensures ∙
    append_assoc before (method_entries c.args.at c.args.positive (signature c.m-item.result)) (F later) ∙
    ap (λ (l : List Entry). before ++ l)
    (sym (at_drop_more F c.args.methods.now c.loop-m.m-index c.m-item.result c.loop-m-test.true ∙ ap (λ m. F (m ∷ later)) (sym c.m-item.is))) ∙
    c.loop-m.invariant
