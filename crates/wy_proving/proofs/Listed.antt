-- Pairs that are listed are subtypings, where each of them is closed.
use Rattle.std.proofs.Common.{◌≡◌, ℕ, List, [], ◌∷◌, inl, inr, refl, subst, Option, Some, None}
use Rattle.std.specs.Prelude.{slice_get}
use Rattle.wy_text.specs.Members.{In}
use Rattle.wy_effects.specs.Bounds.{IsWithin}
use Rattle.wy_text.proofs.Lists.{In-cases, In-unmap}
use Rattle.wy_types.specs.declared.types.TypeRef.{TypeRef}
use Rattle.wy_types.specs.Program.{Program, Scope}
use Rattle.wy_types.specs.Types.{IsObject, methods_of}
use Rattle.wy_types.specs.Bounds.{bounds_of}
use Rattle.wy_types.specs.Subtyping.{IsClosed, IsAnnotatedSubtype, IsPlainSubtype, AnyEffect}
use Rattle.wy_rules.specs.PlainMethods.{erased_methods}
use Rattle.wy_cert.specs.declared.certificate.CertPair.{CertPair}
use Rattle.wy_cert.specs.declared.certificate.CertScope.{CertScope}
use Rattle.wy_proving.specs.Certified.{Pair, pair_of, typed_pairs, types_of, bare, annotated_pairs, plain_pairs}
use Rattle.wy_proving.specs.Proving.{AllStand, PairIs, PairsHold, PlainPairsHold, IsListed, IsListedPlain}
use Rattle.wy_proving.proofs.ClosedTypes.{ClosedList}
use Rattle.wy_proving.proofs.PlainPairs.{plain_subtype}

pair_from : (a b : Option TypeRef) (u v : TypeRef) (q : Pair) → a ≡ Some u → b ≡ Some v → In {X = Pair} q (pair_of a b) → let r : Pair = (u, v) in r ≡ q
pair_from None b u v q e f i = absurd (cc)
pair_from (Some x) None u v q e f i = absurd (cc)
pair_from (Some x) (Some z) u v q e f (inl g) = cc
pair_from (Some x) (Some z) u v q e f (inr g) = absurd g

module _ (p : Program) (k : ℕ) (s : Scope) (c : CertScope) where
  -- what holds of each pair of a list holds of its types
  typed_hold : (P : Pair → Type 0) (qs : List CertPair) → AllStand (PairIs p k s c P) qs → (q : Pair) → In {X = Pair} q (typed_pairs (types_of c) qs) → P q
  typed_hold P [] h q i = absurd i
  typed_hold P (a ∷ qs) h q i =
      elim (In-cases {X = Pair} q (pair_of (slice_get (types_of c) a.left) (slice_get (types_of c) a.right)) (typed_pairs (types_of c) qs) i) [
        | inl j ↦ (let r = h a (inl refl) in subst P (pair_from (slice_get (types_of c) a.left) (slice_get (types_of c) a.right) r.0 r.1 q r.2 r.3 j) r.4)
        | inr j ↦ typed_hold P qs (λ b l. h b (inr l)) q j
      ]

  pub listed : PairsHold p k s c → (a b : TypeRef) → IsListed p k s c a b → IsAnnotatedSubtype p k a b
  listed h a b i = record { pairs = annotated_pairs c; first = i; closed = typed_hold (IsClosed TypeRef (methods_of p k) IsObject (IsWithin (bounds_of p k)) (annotated_pairs c)) c.pairs h }

  plain_closed : PlainPairsHold p k s c → (q : Pair) → In {X = Pair} q (plain_pairs c) → IsClosed TypeRef (erased_methods p k) IsObject AnyEffect (plain_pairs c) q
  plain_closed h q i =
      let P : Pair → Type 0 = IsClosed TypeRef (erased_methods p k) IsObject AnyEffect (plain_pairs c) in
      let r = In-unmap {X = Pair} {Y = Pair} bare q (typed_pairs (types_of c) c.plain) i in
      subst P r.2 (typed_hold (λ v. P (bare v)) c.plain h r.0 r.1)

  pub listed_plain : PlainPairsHold p k s c → (a b : TypeRef) → ClosedList p k a → ClosedList p k b → IsListedPlain p k s c a b → IsPlainSubtype p k a b
  listed_plain h a b x z i = plain_subtype p k (plain_pairs c) (plain_closed h) a b x z i
