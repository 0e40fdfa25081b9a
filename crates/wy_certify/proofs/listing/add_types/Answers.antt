use Rattle.std.proofs.Common.{List, map, ap, ◌∙◌}
use Rattle.std.proofs.lemmas.Result.{on_ok_weaker}
use Rattle.wy_types.specs.declared.types.TypeRef.{TypeRef}
use Rattle.wy_proving.specs.Written.{pair_types, step_types}
use Rattle.wy_certify.specs.declared.pair.TypePair.{TypePair}
use Rattle.wy_certify.specs.declared.step.Step as own
use Rattle.wy_certify.specs.PartTable.{each_once_after}
use Rattle.wy_certify.specs.Pair.{pair_of}
use Rattle.wy_certify.specs.Parts.{part_pairs, part_bares, part_steps}
use Rattle.wy_certify.specs.Step.{steps_of}
use Rattle.wy_certify.proofs.Numbers.{table_made}
use Rattle.wy_certify.proofs.listing.add_types.Goals as goal

pub returns : goal.returns
returns c =
    let x = c.args.part.now in
    let a : List TypeRef = c.args.table.now in
    let b : List TypeRef = c.add_pairs.new.self in
    let d : List TypeRef = c.add_pairs-2.new.self in
    let e : List TypeRef = c.add_steps.new.self in
    let with_pairs : List TypeRef → List TypePair → List TypeRef = λ ts l. each_once_after ts (pair_types (map pair_of l)) in
    on_ok_weaker c.add_all.result (λ h.
    table_made (part_pairs x) (part_bares x) x.vals (part_steps x) a b d e c.add_all.new.self c.requires
    (c.in_ok-add_pairs.ensures ∙ ap (with_pairs a) c.as_slice.ensures)
    (c.in_ok-add_pairs-2.ensures ∙ ap (with_pairs b) c.as_slice-2.ensures)
    (c.in_ok-add_steps.ensures ∙ ap (λ (l : List own.Step). each_once_after d (step_types (steps_of l))) c.as_slice-3.ensures)
    (h ∙ ap (λ (l : List TypeRef). each_once_after e l) c.as_slice-4.ensures)) c.add_all.ensures
