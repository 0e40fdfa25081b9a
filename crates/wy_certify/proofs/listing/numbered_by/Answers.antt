use Rattle.std.proofs.Common.{List, sym, subst, rules}
use Rattle.std.specs.Prelude.{IsTrue}
use Rattle.wy_types.specs.declared.types.TypeRef.{TypeRef}
use Rattle.wy_certify.specs.declared.step.Step as own
use Rattle.wy_certify.specs.PartTable.{AreNumbers}
use Rattle.wy_certify.specs.Parts.{part_steps}
use Rattle.wy_certify.specs.Step.{steps_of}
use Rattle.wy_certify.proofs.listing.numbered_by.Goals as goal

pub returns-then-not-are_numbers-clause-limit : goal.returns-then-not-are_numbers-clause-limit
returns-then-not-are_numbers-clause-limit c =
    λ e n.
    let here = subst (λ (l : List TypeRef). AreNumbers l (part_steps c.args.part.now)) (sym c.requires) n in
    let yes : IsTrue c.are_numbers.result = c.are_numbers.ensures.1 (subst (λ (l : List own.Step). AreNumbers c.args.table.now (steps_of l)) (sym c.as_slice.ensures) here) in
    search rules

pub written_by-requires : goal.written_by-requires
written_by-requires c =
    let yes : IsTrue c.are_numbers.result = c.if-not-are_numbers.false in
    subst (λ (l : List own.Step). AreNumbers c.args.table.now (steps_of l)) c.as_slice.ensures (c.are_numbers.ensures.0 yes)

pub returns-clause-numbers : goal.returns-clause-numbers
returns-clause-numbers c =
    let yes : IsTrue c.are_numbers.result = c.if-not-are_numbers.false in
    let here = subst (λ (l : List own.Step). AreNumbers c.args.table.now (steps_of l)) c.as_slice.ensures (c.are_numbers.ensures.0 yes) in
    subst (λ (l : List TypeRef). AreNumbers l (part_steps c.args.part.now)) c.requires here
