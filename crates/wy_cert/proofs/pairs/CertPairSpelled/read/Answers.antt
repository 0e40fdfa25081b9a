use Rattle.std.proofs.lemmas.Result.{err_from_is_err_and}
use Rattle.wy_spelling.specs.Spelling.{AreBoth, IsNumber, both_bytes, number_bytes}
use Rattle.wy_spelling.proofs.Shapes.{refused_in_shape}
use Rattle.wy_cert.specs.PairLaws.{pair_of, pair_parts, pair_parts_apart, pair_shape}
use Rattle.wy_cert.specs.Spelled.{IsPairSpelled, pair_bytes}
use Rattle.wy_cert.proofs.pairs.CertPairSpelled.read.Goals as goal

pub returns-in_err-left-clause-bad : goal.returns-in_err-left-clause-bad
returns-in_err-left-clause-bad c =
    let p = err_from_is_err_and c.from_residual.result c.from_residual.ensures.1 in
    rw (p.1, p.2) (refused_in_shape (AreBoth IsNumber IsNumber) (both_bytes number_bytes number_bytes) IsPairSpelled pair_bytes pair_of pair_parts pair_shape c.args.bytes.now c.in_err-left.field-0.0 pair_parts_apart c.in_err-left.ensures.bad)
