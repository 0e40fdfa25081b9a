use Rattle.std.proofs.Common.{rules, arith, ◌≡◌, ◌<◌, ℕ, List, true, ap, length, nat_lt}
use Rattle.std.proofs.lemmas.Bool.Decides.{nat_tests}
use Rattle.wy_engine.specs.Certificates.{most_certificate}
use Rattle.wy_engine.proofs.answering.has_large_certificate.Goals as goal

passed : (most : ℕ) (read bytes : List ℕ) → most ≡ most_certificate → read ≡ bytes → nat_lt most (length read) ≡ true → most_certificate < length bytes
passed most read bytes same all more =
    let size : length read ≡ length bytes = ap (λ (l : List ℕ). length l) all in
    grind (arith, nat_tests)

pub returns-in-Recheck-Some-clause-large : goal.returns-in-Recheck-Some-clause-large
returns-in-Recheck-Some-clause-large c = λ is. (
  c.in-Recheck-Some.is-0,
  record {
    under = record { bytes = c.in-Recheck-Some.certificate.now; texts = c.in-Recheck-Some._texts.now; split = search rules };
    large = passed c.number.result c.as_bytes.result.now c.in-Recheck-Some.certificate.now c.number.ensures c.as_bytes.ensures is;
  },
)
