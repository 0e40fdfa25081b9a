use Rattle.std.proofs.Common.{◌≡◌, List, map}
use Rattle.std.specs.Prelude.{Err}
use Rattle.wy_types.specs.declared.types.TypeRef.{TypeRef}
use Rattle.wy_types.specs.Program.{program_of}
use Rattle.wy_cert.specs.declared.certificate.CertPair.{CertPair}
use Rattle.wy_cert.specs.declared.certificate.CertScope.{CertScope}
use Rattle.wy_proving.specs.Certified.{Pair, typed_pairs, bare}
use Rattle.wy_recheck.specs.PairSet.{StandsFor}
use Rattle.wy_recheck.proofs.ListsHold.{plain_kept, plain_hold, plain_fail}
use Rattle.wy_recheck.proofs.NodesFailing.{handed_on}
use Rattle.wy_recheck.proofs.pairs.closed_plain_pairs.Goals as goal

pub returns-in_err-test-clause-first : goal.returns-in_err-test-clause-first
returns-in_err-test-clause-first g c =
    let p = program_of c.args.core.now in
    let part : CertScope = c.args.part.now in
    let types : List TypeRef = c.args.types.now in
    let same = c.requires.types in
    let qs : List CertPair = c.as_slice-pairs.result.now in
    let listed = c.as_slice-pairs.ensures in
    let pairs : List Pair = map bare (typed_pairs types qs) in
    let stands : StandsFor c.in_ok-listed.listed pairs = c.in_ok-listed.ensures in
    let e : c.from_residual-in_err-test.result ≡ Err c.in_err-test.field-0.0 = handed_on c.from_residual-in_err-test.result c.in_err-test.field-0.0 c.from_residual-in_err-test.ensures.1 in
    rw e (λ s. plain_fail p c.args.number s part types same qs listed c.in_err-test.field-0.0 (c.in_err-test.ensures.first pairs stands))

pub returns-clause-set : goal.returns-clause-set
returns-clause-set g c =
    let p = program_of c.args.core.now in
    let part : CertScope = c.args.part.now in
    let types : List TypeRef = c.args.types.now in
    let same = c.requires.types in
    let qs : List CertPair = c.as_slice-pairs.result.now in
    let listed = c.as_slice-pairs.ensures in
    let pairs : List Pair = map bare (typed_pairs types qs) in
    let stands : StandsFor c.in_ok-listed.listed pairs = c.in_ok-listed.ensures in
    plain_kept part types same qs c.in_ok-listed.listed listed stands

pub returns-clause-hold : goal.returns-clause-hold
returns-clause-hold g c = λ s.
    let p = program_of c.args.core.now in
    let part : CertScope = c.args.part.now in
    let types : List TypeRef = c.args.types.now in
    let same = c.requires.types in
    let qs : List CertPair = c.as_slice-pairs.result.now in
    let listed = c.as_slice-pairs.ensures in
    let pairs : List Pair = map bare (typed_pairs types qs) in
    let stands : StandsFor c.in_ok-listed.listed pairs = c.in_ok-listed.ensures in
    plain_hold p c.args.number s part types same qs listed (c.in_ok-test.ensures.stand pairs stands)
