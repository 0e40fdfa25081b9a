-- Types added to a list, one after another.
use Rattle.std.proofs.Common.{◌≡◌, ℕ, zero, suc, ◌+◌, ◌<◌, ◌≤◌, List, [], ◌∷◌, ◌++◌, map, take, ◌⊎◌, inl, inr, length, get_or, Err, refl, sym, ap, ◌∙◌, subst, arith, append_assoc, append-nil, length-append}
use Rattle.std.proofs.lemmas.List.{take_more, map-append}
use Rattle.wy_text.specs.Members.{In, Within, Apart}
use Rattle.wy_text.proofs.Lists.{In-left, In-right, In-cases, Apart-push}
use Rattle.wy_types.specs.declared.types.TypeRef.{TypeRef}
use Rattle.wy_types.specs.declared.types.Method.{Method}
use Rattle.wy_types.specs.declared.reach.ReachRefusal.{ReachRefusal}
use Rattle.wy_types.specs.declared.reach.ReachRefusal.TheVariants.{Limit, Memory}
use Rattle.wy_types.specs.Types.{IsObject, signature}
use Rattle.wy_types.specs.Signature.{Signature, signature_types}
use Rattle.wy_types.specs.Gathering.{IsGathered, IsCrowd, Gathers, Begins}

pub gathered_none : (old : List TypeRef) → Apart old → length old ≤ 1024 → IsGathered old [] old
gathered_none old apart small = record {
  more = [];
  grows = sym (append-nil old);
  from = λ u i. absurd i;
  all = λ u i o. absurd i;
  apart = apart;
  small = small;
}

-- what was there stays
pub gathered_old : (old ts new : List TypeRef) → IsGathered old ts new → Within old new
gathered_old old ts new g u i = let P : List TypeRef → Type 0 = λ l. In u l in subst P (sym g.grows) (In-left u old g.more i)

pub gathered_cases : (old ts new : List TypeRef) → IsGathered old ts new → (u : TypeRef) → In u new → In u old ⊎ (In u ts × IsObject u)
gathered_cases old ts new g u i =
    let P : List TypeRef → Type 0 = λ l. In u l in
    elim (In-cases u old g.more (subst P g.grows i)) [ inl h ↦ inl h | inr h ↦ inr (g.from u h) ]

pub gathered_more : (old xs mid ys new : List TypeRef) → IsGathered old xs mid → IsGathered mid ys new → IsGathered old (xs ++ ys) new
gathered_more old xs mid ys new g h = record {
  more = g.more ++ h.more;
  grows = h.grows ∙ ap (λ l. l ++ h.more) g.grows ∙ append_assoc old g.more h.more;
  from = λ u i. elim (In-cases u g.more h.more i) [
    | inl j ↦ (let r = g.from u j in (In-left u xs ys r.0, r.1))
    | inr j ↦ (let r = h.from u j in (In-right u xs ys r.0, r.1))
  ];
  all = λ u i o. elim (In-cases u xs ys i) [ inl j ↦ gathered_old mid ys new h u (g.all u j o) | inr j ↦ h.all u j o ];
  apart = h.apart;
  small = h.small;
}

-- one type added, or not
pub gathered_base : (old : List TypeRef) (t : TypeRef) → Apart old → length old ≤ 1024 → (IsObject t → ⊥) → IsGathered old (t ∷ []) old
gathered_base old t apart small n = record {
  more = [];
  grows = sym (append-nil old);
  from = λ u i. absurd i;
  all = λ u i o. elim i [ inl e ↦ absurd (let P : TypeRef → Type 0 = λ v. IsObject v in n (subst P (sym e) o)) | inr j ↦ absurd j ];
  apart = apart;
  small = small;
}

pub gathered_known : (old : List TypeRef) (t : TypeRef) → Apart old → length old ≤ 1024 → In t old → IsGathered old (t ∷ []) old
gathered_known old t apart small there = record {
  more = [];
  grows = sym (append-nil old);
  from = λ u i. absurd i;
  all = λ u i o. elim i [ inl e ↦ (let P : TypeRef → Type 0 = λ v. In v old in subst P e there) | inr j ↦ absurd j ];
  apart = apart;
  small = small;
}

pub gathered_new : (old new : List TypeRef) (t : TypeRef) → Apart old → length old < 1024 → IsObject t → (In t old → ⊥) → new ≡ old ++ t ∷ [] → IsGathered old (t ∷ []) new
gathered_new old new t apart small object absent e =
    let P : List TypeRef → Type 0 = λ l. Apart l × (length l ≤ 1024) in
    let both = subst P (sym e) (Apart-push t old apart absent, omega (arith, length-append old (t ∷ []))) in
    record {
      more = t ∷ [];
      grows = e;
      from = λ u i. (i, elim i [ inl f ↦ (let Q : TypeRef → Type 0 = λ v. IsObject v in subst Q f object) | inr j ↦ absurd j ]);
      all = λ u i o. (let R : List TypeRef → Type 0 = λ l. In u l in subst R (sym e) (In-right u old (t ∷ []) i));
      apart = both.0;
      small = both.1;
    }

pub crowd_new : (old : List TypeRef) (t : TypeRef) → Apart old → 1024 ≤ length old → IsObject t → (In t old → ⊥) → IsCrowd old (t ∷ []) (old ++ t ∷ [])
crowd_new old t apart many object absent = record {
  apart = Apart-push t old apart absent;
  many = omega (arith, length-append old (t ∷ []));
  from = λ u i. elim (In-cases u old (t ∷ []) i) [
    | inl j ↦ inl j
    | inr j ↦ inr (j, elim j [ inl f ↦ (let Q : TypeRef → Type 0 = λ v. IsObject v in subst Q f object) | inr k ↦ absurd k ])
  ];
}

pub crowd_within : (old xs ys us : List TypeRef) → Within xs ys → IsCrowd old xs us → IsCrowd old ys us
crowd_within old xs ys us w c = record {
  apart = c.apart;
  many = c.many;
  from = λ u i. elim (c.from u i) [ inl j ↦ inl j | inr r ↦ inr (w u r.0, r.1) ];
}

pub crowd_later : (old xs mid ys us : List TypeRef) → IsGathered old xs mid → IsCrowd mid ys us → IsCrowd old (xs ++ ys) us
crowd_later old xs mid ys us g c = record {
  apart = c.apart;
  many = c.many;
  from = λ u i. elim (c.from u i) [
    | inl j ↦ elim (gathered_cases old xs mid g u j) [ inl k ↦ inl k | inr r ↦ inr (In-left u xs ys r.0, r.1) ]
    | inr r ↦ inr (In-right u xs ys r.0, r.1)
  ];
}

-- a refusal of a part is one of the whole
pub gathers_refused : (old xs mid ys whole new : List TypeRef) (e : ReachRefusal) → IsGathered old xs mid → Within (xs ++ ys) whole → Gathers mid ys new (Err e) → (final : List TypeRef) → Gathers old whole final (Err e)
gathers_refused old xs mid ys whole new (Limit limit) g w h final =
    (h.0, (h.1.0, crowd_within old (xs ++ ys) whole h.1.0 w (crowd_later old xs mid ys h.1.0 g h.1.1)))
gathers_refused old xs mid ys whole new Memory g w h final = tt

-- a turn over a list of types
pub gathered_turn : (old ts mid new : List TypeRef) (t : TypeRef) (i : ℕ) → i < length ts → t ≡ get_or ts i t → IsGathered old (take i ts) mid → IsGathered mid (t ∷ []) new → IsGathered old (take (i + 1) ts) new
gathered_turn old ts mid new t i h e g k =
    let P : List TypeRef → Type 0 = λ l. IsGathered old l new in
    subst P (ap (λ x. take i ts ++ x ∷ []) e ∙ sym (take_more ts i t h)) (gathered_more old (take i ts) mid (t ∷ []) new g k)

In-take : {X : Type 0} (x : X) (xs : List X) (n : ℕ) → In x (take n xs) → In x xs
In-take x [] zero i = absurd i
In-take x [] (suc n) i = absurd i
In-take x (y ∷ xs) zero i = absurd i
In-take x (y ∷ xs) (suc n) (inl e) = inl e
In-take x (y ∷ xs) (suc n) (inr i) = inr (In-take x xs n i)

pub take_and_next : (ts : List TypeRef) (t : TypeRef) (i : ℕ) → i < length ts → t ≡ get_or ts i t → Within (take i ts ++ t ∷ []) ts
take_and_next ts t i h e u k =
    let P : List TypeRef → Type 0 = λ l. In u l in
    In-take u ts (i + 1) (subst P (ap (λ x. take i ts ++ x ∷ []) e ∙ sym (take_more ts i t h)) k)

-- the types of signatures, one after another
pub signature_types-append : (xs ys : List (Signature TypeRef)) → signature_types (xs ++ ys) ≡ signature_types xs ++ signature_types ys
signature_types-append [] ys = refl
signature_types-append (m ∷ xs) ys =
    ap (λ l. (m.params ++ m.result ∷ []) ++ l) (signature_types-append xs ys) ∙ sym (append_assoc (m.params ++ m.result ∷ []) (signature_types xs) (signature_types ys))

pub signature_types-take : (ms : List Method) (m : Method) (i : ℕ) → i < length ms → m ≡ get_or ms i m →
    signature_types (map signature (take (i + 1) ms)) ≡ signature_types (map signature (take i ms)) ++ (m.params ++ m.result ∷ [])
signature_types-take ms m i h e =
    ap (λ l. signature_types (map signature l)) (take_more ms i m h ∙ ap (λ x. take i ms ++ x ∷ []) (sym e)) ∙
    ap signature_types (map-append signature (take i ms) (m ∷ [])) ∙
    signature_types-append (map signature (take i ms)) (signature m ∷ []) ∙
    ap (λ l. signature_types (map signature (take i ms)) ++ l) (append-nil (m.params ++ m.result ∷ []))

pub signature_types-within : (ms : List Method) (n : ℕ) → Within (signature_types (map signature (take n ms))) (signature_types (map signature ms))
signature_types-within [] zero u i = absurd i
signature_types-within [] (suc n) u i = absurd i
signature_types-within (m ∷ ms) zero u i = absurd i
signature_types-within (m ∷ ms) (suc n) u i =
    elim (In-cases u (m.params ++ m.result ∷ []) (signature_types (map signature (take n ms))) i) [
      | inl j ↦ In-left u (m.params ++ m.result ∷ []) (signature_types (map signature ms)) j
      | inr j ↦ In-right u (m.params ++ m.result ∷ []) (signature_types (map signature ms)) (signature_types-within ms n u j)
    ]

module _ (ms : List Method) (m : Method) (i : ℕ) (h : i < length ms) (e : m ≡ get_or ms i m) where
  pub signatures_within : Within (signature_types (map signature (take i ms)) ++ (m.params ++ m.result ∷ [])) (signature_types (map signature ms))
  signatures_within =
      let P : List TypeRef → Type 0 = λ l. Within l (signature_types (map signature ms)) in
      subst P (signature_types-take ms m i h e) (signature_types-within ms (i + 1))

  pub params_within : Within (signature_types (map signature (take i ms)) ++ m.params) (signature_types (map signature ms))
  params_within u k =
      let old : List TypeRef = signature_types (map signature (take i ms)) in
      signatures_within u (elim (In-cases u old m.params k) [
        | inl j ↦ In-left u old (m.params ++ m.result ∷ []) j
        | inr j ↦ In-right u old (m.params ++ m.result ∷ []) (In-left u m.params (m.result ∷ []) j)
      ])

  pub result_within : Within ((signature_types (map signature (take i ms)) ++ m.params) ++ m.result ∷ []) (signature_types (map signature ms))
  result_within =
      let P : List TypeRef → Type 0 = λ l. Within l (signature_types (map signature ms)) in
      subst P (sym (append_assoc (signature_types (map signature (take i ms))) m.params (m.result ∷ []))) signatures_within

pub begins_refused : (ts new : List TypeRef) (e : ReachRefusal) → Gathers [] ts new (Err e) → Begins ts (Err e)
begins_refused ts new (Limit limit) h = h
begins_refused ts new Memory h = tt
