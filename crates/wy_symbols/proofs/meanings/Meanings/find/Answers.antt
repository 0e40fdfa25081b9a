use Rattle.std.proofs.Common.{◌≡◌, List, Some, None, sym, ap, ◌∙◌, rules}
use Rattle.std.specs.Prelude.{slice_get}
use Rattle.std.specs.Option.{option_copied}
use Rattle.wy_symbols.specs.declared.scoping.Meaning.{Meaning}
use Rattle.wy_symbols.specs.Declarations.{first_from}
use Rattle.wy_symbols.specs.Meanings.{meaning_names, meaning_of}
use Rattle.wy_symbols.proofs.Firsts.{meaning_item, item_at}
use Rattle.wy_symbols.proofs.meanings.Meanings.find.Goals as goal

pub returns-in-None : goal.returns-in-None
returns-in-None c =
    let ms = c.self.inside.list.items in
    let absent : first_from 0 (meaning_names ms) c.args.name.now ≡ None = sym (c.self.invariant c.args.name.now) ∙ sym c.get.ensures.value ∙ ap option_copied c.in-None.is in
    sym (ap (λ l. meaning_of l c.args.name.now) (sym c.self.view_is) ∙ meaning_item ms c.args.name.now ∙ ap (item_at ms) absent)

pub returns-in-Some : goal.returns-in-Some
returns-in-Some c =
    let ms = c.self.inside.list.items in
    let there : first_from 0 (meaning_names ms) c.args.name.now ≡ Some c.in-Some.number.now =
    sym (c.self.invariant c.args.name.now) ∙ sym c.get.ensures.value ∙ ap option_copied c.in-Some.is in
    c.item.ensures ∙ ap (λ (l : List Meaning). slice_get l c.in-Some.number.now) (search rules)
    ∙ sym (ap (λ l. meaning_of l c.args.name.now) (sym c.self.view_is) ∙ meaning_item ms c.args.name.now ∙ ap (item_at ms) there)
