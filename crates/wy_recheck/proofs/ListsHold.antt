-- What is told of the types and pairs that were read is told of the certificate's scope.
use Rattle.std.proofs.Common.{◌≡◌, ℕ, List, map, subst}
use Rattle.wy_types.specs.declared.types.TypeRef.{TypeRef}
use Rattle.wy_types.specs.Program.{Program, Scope}
use Rattle.wy_types.specs.Types.{erased}
use Rattle.wy_subtype.specs.declared.verdict.Mode.TheVariants.{Annotated, Plain as PlainMode}
use Rattle.wy_cert.specs.declared.certificate.CertPair.{CertPair}
use Rattle.wy_cert.specs.declared.certificate.CertScope.{CertScope}
use Rattle.wy_proving.specs.declared.proof.CertTest.TheVariants.{Pairs, Plain}
use Rattle.wy_proving.specs.Certified.{Pair, types_of, typed_pairs, bare, annotated_pairs, plain_pairs}
use Rattle.wy_proving.specs.Proving.{AllStand, PairsHold, PlainPairsHold}
use Rattle.wy_proving.specs.Unproved.{IsFirstWithout, FailsAt}
use Rattle.wy_recheck.specs.declared.failure.Failure.{Failure}
use Rattle.wy_recheck.specs.Standing.{FailsFirst}
use Rattle.wy_recheck.specs.PairSet.{StandsFor}
use Rattle.wy_recheck.specs.Closing.{PairStandsIn}
use Rattle.wy_recheck.proofs.ListedPairs.{pairs_erased}

-- the keys are those of the pairs that are listed
module _ (c : CertScope) (types : List TypeRef) (same : types ≡ types_of c) (qs : List CertPair) (keys : List (List ℕ)) where
  pub pairs_kept : qs ≡ c.pairs → StandsFor keys (typed_pairs types qs) → StandsFor keys (annotated_pairs c)
  pairs_kept listed h =
      let P : List TypeRef → Type 0 = λ ts. StandsFor keys (typed_pairs ts qs) in
      let Q : List CertPair → Type 0 = λ l. StandsFor keys (typed_pairs (types_of c) l) in
      subst Q listed (subst P same h)

  pub plain_kept : qs ≡ c.plain → StandsFor keys (map bare (typed_pairs types qs)) → StandsFor keys (plain_pairs c)
  plain_kept listed h =
      let P : List TypeRef → Type 0 = λ ts. StandsFor keys (map bare (typed_pairs ts qs)) in
      let Q : List CertPair → Type 0 = λ l. StandsFor keys (map bare (typed_pairs (types_of c) l)) in
      subst Q listed (subst P same h)

-- .. by the erased types
pub as_erased : (types erased_types : List TypeRef) (qs : List CertPair) (keys : List (List ℕ)) → erased_types ≡ map erased types → StandsFor keys (typed_pairs erased_types qs) → StandsFor keys (map bare (typed_pairs types qs))
as_erased types erased_types qs keys e h =
    let P : List TypeRef → Type 0 = λ l. StandsFor keys (typed_pairs l qs) in
    let Q : List Pair → Type 0 = λ l. StandsFor keys l in
    subst Q (pairs_erased types qs) (subst P e h)

-- the tests
module _ (p : Program) (k : ℕ) (s : Scope) (c : CertScope) (types : List TypeRef) (same : types ≡ types_of c) (qs : List CertPair) where
  -- annotated pairs
  module _ (listed : qs ≡ c.pairs) where
    pub pairs_hold : AllStand (λ q. PairStandsIn p k Annotated types q (typed_pairs types qs)) qs → PairsHold p k s c
    pairs_hold h =
        let P : List TypeRef → Type 0 = λ ts. AllStand (λ q. PairStandsIn p k Annotated ts q (typed_pairs ts qs)) qs in
        let Q : List CertPair → Type 0 = λ l. AllStand (λ q. PairStandsIn p k Annotated (types_of c) q (typed_pairs (types_of c) l)) l in
        subst Q listed (subst P same h)

    pub pairs_fail : (f : Failure) → FailsFirst (IsFirstWithout (λ q. PairStandsIn p k Annotated types q (typed_pairs types qs)) qs) f → FailsFirst (FailsAt p k s c Pairs) f
    pairs_fail f h =
        let P : List TypeRef → Type 0 = λ ts. FailsFirst (IsFirstWithout (λ q. PairStandsIn p k Annotated ts q (typed_pairs ts qs)) qs) f in
        let Q : List CertPair → Type 0 = λ l. FailsFirst (IsFirstWithout (λ q. PairStandsIn p k Annotated (types_of c) q (typed_pairs (types_of c) l)) l) f in
        subst Q listed (subst P same h)

  -- plain pairs
  module _ (listed : qs ≡ c.plain) where
    pub plain_hold : AllStand (λ q. PairStandsIn p k PlainMode types q (map bare (typed_pairs types qs))) qs → PlainPairsHold p k s c
    plain_hold h =
        let P : List TypeRef → Type 0 = λ ts. AllStand (λ q. PairStandsIn p k PlainMode ts q (map bare (typed_pairs ts qs))) qs in
        let Q : List CertPair → Type 0 = λ l. AllStand (λ q. PairStandsIn p k PlainMode (types_of c) q (map bare (typed_pairs (types_of c) l))) l in
        subst Q listed (subst P same h)

    pub plain_fail : (f : Failure) → FailsFirst (IsFirstWithout (λ q. PairStandsIn p k PlainMode types q (map bare (typed_pairs types qs))) qs) f → FailsFirst (FailsAt p k s c Plain) f
    plain_fail f h =
        let P : List TypeRef → Type 0 = λ ts. FailsFirst (IsFirstWithout (λ q. PairStandsIn p k PlainMode ts q (map bare (typed_pairs ts qs))) qs) f in
        let Q : List CertPair → Type 0 = λ l. FailsFirst (IsFirstWithout (λ q. PairStandsIn p k PlainMode (types_of c) q (map bare (typed_pairs (types_of c) l))) l) f in
        subst Q listed (subst P same h)
