use Rattle.std.proofs.Common.{◌≡◌, List, Err}
use Rattle.wy_text.proofs.Lists.{In-read}
use Rattle.wy_certify.specs.declared.finding.ScopePart.{ScopePart}
use Rattle.wy_recheck.proofs.NodesFailing.{handed_on}
use Rattle.wy_certify.proofs.certifying.numbered.Goals as goal

pub returns-in_err-part_of-clause-limit : goal.returns-in_err-part_of-clause-limit
returns-in_err-part_of-clause-limit c =
    let xs : List ScopePart = c.args.parts.now in
    let x : ScopePart = c.part-item.result in
    let e : c.from_residual.result ≡ Err c.in_err-part_of.field-0.0 = handed_on c.from_residual.result c.in_err-part_of.field-0.0 c.from_residual.ensures.1 in
    rw e (λ is. (x, In-read xs c.loop-part.part-index x x c.loop-part-test.true c.part-item.is, c.in_err-part_of.ensures.limit is))
