use Rattle.wy_engine.proofs.Doing.{did_large, did_none}
use Rattle.wy_engine.proofs.answering.answer.Goals as goal

pub returns-then-has_large_certificate : goal.returns-then-has_large_certificate
returns-then-has_large_certificate g c =
    let large = c.has_large_certificate.ensures.large c.if-has_large_certificate.true in
    did_large _ c.args.texts.now _ _ _ large.0 large.1

pub returns-in-Err : goal.returns-in-Err
returns-in-Err g c =
    did_none _ c.args.texts.now _ _ _ c.in-Err.end (c.has_large_certificate.ensures.none c.if-has_large_certificate.false) (rw c.texts_among.ensures at c.in-Err.ensures.none)
