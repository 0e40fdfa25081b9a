use Rattle.std.proofs.Common.{◌<◌, [], length, arith}
use Rattle.std.proofs.lemmas.Result.{err_from_is_err_and}
use Rattle.wy_spelling.specs.NumberLaws.{numbers_apart}
use Rattle.wy_spelling.specs.Plain.{IsTextSpelled, text_bytes}
use Rattle.wy_spelling.specs.Spelling.{IsNumber, number_bytes}
use Rattle.wy_spelling.proofs.Fronts.{refused_behind}
use Rattle.wy_spelling.proofs.TextFronts.{text_count_goes, text_ends_early}
use Rattle.wy_spelling.proofs.texts.TextSpelled.read.Goals as goal

pub returns-in_err-count-clause-bad : goal.returns-in_err-count-clause-bad
returns-in_err-count-clause-bad c =
    let p = err_from_is_err_and c.from_residual.result c.from_residual.ensures.1 in
    let error = c.in_err-count.field-0.0 in
    rw (p.1, p.2) (refused_behind IsNumber number_bytes IsTextSpelled text_bytes [] c.args.bytes.now error
    numbers_apart text_count_goes c.in_err-count.ensures.bad)

pub returns-then-behind-count-clause-bad : goal.returns-then-behind-count-clause-bad
returns-then-behind-count-clause-bad c =
    let found = c.in_ok-count.ensures.found in
    let behind = c.in_ok-count.behind.now in
    let few : length behind < c.in_ok-count.count = omega (arith, c.if-behind-count.true) in
    text_ends_early c.args.bytes.now behind c.in_ok-count.count found.0 found.1 few
