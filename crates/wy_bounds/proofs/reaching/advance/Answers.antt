use Rattle.std.proofs.Common.{◌≡◌, ◌<◌, ◌∙◌, ap, map, sym, subst, refl, List, Some, length}
use Rattle.std.specs.Prelude.{slice_get}
use Rattle.std.proofs.lemmas.Option.{slice_get_read}
use Rattle.wy_types.specs.Program.{program_of}
use Rattle.wy_types.specs.Types.{signature}
use Rattle.wy_types.proofs.Arities.{few_parameters}
use Rattle.wy_bounds.specs.declared.entry.Entry.{Entry}
use Rattle.wy_bounds.specs.Worklist.{all_entries}
use Rattle.wy_bounds.proofs.Working.{advances}
use Rattle.wy_bounds.proofs.reaching.advance.Goals as goal

pub parts-requires : goal.parts-requires
parts-requires c =
    few_parameters (program_of c.args.core.now) c.requires.core c.args.scope c.index-as_slice-at.result.typ c.as_slice-2.result.now
    (ap (map signature) c.as_slice-2.ensures.value ∙ c.in_ok-found.ensures)

pub returns : goal.returns
returns c = λ t seen.
    let e : Entry = c.index-as_slice-at.result in
    let W : List Entry → Type 0 = λ l. c.args.at < length l in
    let G : List Entry → Type 0 = λ l. slice_get l c.args.at ≡ Some e in
    let is : slice_get c.args.table.now c.args.at ≡ Some e =
    subst G c.as_slice.ensures (slice_get_read c.as_slice.result.now _ c.args.at e refl (subst W (sym c.as_slice.ensures) c.requires.within) c.index-as_slice-at.is) in
    advances (program_of c.args.core.now) c.requires.core c.args.scope t c.in_ok-next.next.items c.args.table.now c.add_all.new.self c.args.at e is
    (c.in_ok-next.ensures ∙ ap (all_entries c.args.at e.positive) (ap (map signature) c.as_slice-2.ensures.value ∙ c.in_ok-found.ensures))
    c.in_ok-add_all.ensures seen
