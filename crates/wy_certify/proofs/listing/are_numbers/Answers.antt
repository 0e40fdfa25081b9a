use Rattle.std.proofs.Common.{◌<◌, List, length, sym, subst, arith}
use Rattle.std.proofs.lemmas.Bool.{leb-true, le-leb}
use Rattle.std.proofs.lemmas.List.{take_all}
use Rattle.wy_text.specs.Members.{In}
use Rattle.wy_text.proofs.Lists.{In-read}
use Rattle.wy_spelling.specs.Spelling.{IsNumber}
use Rattle.wy_certify.specs.declared.step.Step as own
use Rattle.wy_certify.proofs.Numbers.{parts_said, parts_all, parts_turn}
use Rattle.wy_certify.proofs.listing.are_numbers.Goals as goal

pub loop-step-preserved : goal.loop-step-preserved
loop-step-preserved c =
    let few : IsNumber c.step-item.result.parts = omega arith in
    parts_turn c.args.steps.now c.loop-step.step-index c.step-item.result c.loop-step-test.true c.step-item.is few c.loop-step.invariant

pub returns-then-step : goal.returns-then-step
returns-then-step c = (
  λ t. absurd (cc),
  λ h.
      let x = c.step-item.result in
      let few : IsNumber x.parts = parts_said c.args.steps.now h.1 x (In-read c.args.steps.now c.loop-step.step-index x x c.loop-step-test.true c.step-item.is) in
      absurd (omega arith),
)

pub returns : goal.returns
returns c =
    let xs = c.args.steps.now in
    let i = c.loop-step.step-index in (
      λ t. (
        (let few = leb-true c.len.result 4294967295 t in omega arith),
        parts_all xs (λ x j. c.loop-step.invariant x (subst (λ (l : List own.Step). In x l) (sym (take_all i xs c.loop-step-test.false)) j)),
      ),
      λ h. (let few : length c.args.table.now < 4294967296 = h.0 in le-leb c.len.result 4294967295 (omega arith)),
    )
