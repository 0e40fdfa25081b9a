-- What is known of the pairs of a table: that it stays right while pairs are met, unfolded and marked.
use Rattle.std.proofs.Common.{◌≡◌, ℕ, zero, suc, ◌<◌, ◌≤◌, List, [], ◌∷◌, ◌++◌, map, ◌⊎◌, inl, inr, length, get_or, refl, sym, ap, ◌∙◌, subst, arith, Some, false, append_assoc, append-nil}
use Rattle.std.specs.Prelude.{slice_get}
use Rattle.std.proofs.Math.ListN.{length-append, set}
use Rattle.std.proofs.Math.Seq.{map-set_same}
use Rattle.std.proofs.lemmas.List.{map-append}
use Rattle.wy_text.specs.Members.{In, Apart}
use Rattle.wy_text.proofs.Lists.{In-left, In-right, In-cases, In-unmap, In-slice_get, Apart-push}
use Rattle.wy_subtype.specs.declared.node.Outcome.{Outcome}
use Rattle.wy_subtype.specs.declared.node.Outcome.TheVariants.{Open, Fails, Asks, Holds}
use Rattle.wy_subtype.specs.declared.node.Node.{Node}
use Rattle.wy_subtype.specs.Verdict.{IsSubtypeIn}
use Rattle.wy_subtype.specs.Steps.{Pair}
use Rattle.wy_subtype.specs.Decided.{About}
use Rattle.wy_subtype.specs.Nodes.{is_open, IsOpen, node_pair, node_key, open_node, with_outcome, pair_or_none, pair_at, pairs_at, Continues, Meets, AreMore, IsAsking, IsOutcome, IsNoted, AreKnown}
use Rattle.wy_subtype.proofs.Places.{slice_get-left, slice_get-cases, slice_get-within, slice_get-mapped}

------------------------------------------------------------
-- Numbers

pub pair_at-is : (ps : List Pair) (n : ℕ) (q : Pair) → slice_get ps n ≡ Some q → ◌≡◌ {A = Pair} (pair_at ps n) q
pair_at-is ps n q e = ap pair_or_none e

pub pair_at-within : (ps : List Pair) (n : ℕ) → n < length ps → slice_get ps n ≡ Some (pair_at ps n)
pair_at-within ps n h =
    let r = slice_get-within ps n h in
    r.1 ∙ ap (λ (v : Pair). Some v) (sym (pair_at-is ps n r.0 r.1))

-- the pair of a number stays while others come behind
pub pair_at-left : (ps tail : List Pair) (n : ℕ) → n < length ps → ◌≡◌ {A = Pair} (pair_at (ps ++ tail) n) (pair_at ps n)
pair_at-left ps tail n h = pair_at-is (ps ++ tail) n (pair_at ps n) (slice_get-left ps tail n (pair_at ps n) (pair_at-within ps n h))

pub pairs_at-left : (ps tail : List Pair) (ns : List ℕ) → ((n : ℕ) → In n ns → n < length ps) → pairs_at (ps ++ tail) ns ≡ pairs_at ps ns
pairs_at-left ps tail [] h = refl
pairs_at-left ps tail (n ∷ ns) h =
    ap (λ (v : Pair). v ∷ pairs_at (ps ++ tail) ns) (pair_at-left ps tail n (h n (inl refl))) ∙ ap (λ (l : List Pair). pair_at ps n ∷ l) (pairs_at-left ps tail ns (λ m i. h m (inr i)))

-- distinct pairs have distinct numbers
pub once_at : {X : Type 0} (xs : List X) → Apart xs → (n m : ℕ) (x : X) → slice_get xs n ≡ Some x → slice_get xs m ≡ Some x → n ≡ m
once_at {X} [] a n m x e f = absurd (cc)
once_at {X} (y ∷ xs) a zero zero x e f = refl
once_at {X} (y ∷ xs) a zero (suc m) x e f = absurd (let g : x ≡ y = cc in let P : X → Type 0 = λ v. In v xs in a.0 (subst P g (In-slice_get xs m x f)))
once_at {X} (y ∷ xs) a (suc n) zero x e f = absurd (let g : x ≡ y = cc in let P : X → Type 0 = λ v. In v xs in a.0 (subst P g (In-slice_get xs n x e)))
once_at {X} (y ∷ xs) a (suc n) (suc m) x e f = ap suc (once_at xs a.1 n m x e f)

pub same_number : (ps : List Pair) → Apart ps → (n m : ℕ) → n < length ps → m < length ps → ◌≡◌ {A = Pair} (pair_at ps n) (pair_at ps m) → n ≡ m
same_number ps a n m hn hm e =
    once_at ps a n m (pair_at ps m) (pair_at-within ps n hn ∙ ap (λ (v : Pair). Some v) e) (pair_at-within ps m hm)

-- the pairs of distinct numbers are distinct
pub pairs_at-apart : (ps : List Pair) → Apart ps → (ns : List ℕ) → Apart ns → ((n : ℕ) → In n ns → n < length ps) → Apart (pairs_at ps ns)
pairs_at-apart ps a [] o h = tt
pairs_at-apart ps a (n ∷ ns) o h = (
  λ i.
      let r = In-unmap (pair_at ps) (pair_at ps n) ns i in
      let P : ℕ → Type 0 = λ v. In v ns in
      o.0 (subst P (same_number ps a r.0 n (h r.0 (inr r.1)) (h n (inl refl)) r.2) r.1),
  pairs_at-apart ps a ns o.1 (λ m i. h m (inr i)),
)

------------------------------------------------------------
-- Pairs that come behind

pub more_none : (old : List Node) → AreMore old old
more_none old = record { tail = []; more = sym (append-nil old); are_open = λ k i. absurd i; apart = λ a. a }

pub more_trans : (a b c : List Node) → AreMore a b → AreMore b c → AreMore a c
more_trans a b c f g = record {
  tail = f.tail ++ g.tail;
  more = g.more ∙ ap (λ (l : List Node). l ++ g.tail) f.more ∙ append_assoc a f.tail g.tail;
  are_open = λ k i. elim (In-cases k f.tail g.tail i) [ inl j ↦ f.are_open k j | inr j ↦ g.are_open k j ];
  apart = λ h. g.apart (f.apart h);
}

pub meets_more : (q : Pair) (old new : List Node) → Meets q old new → AreMore old new
meets_more q old new (inl e) = let P : List Node → Type 0 = λ l. AreMore old l in subst P (sym e) (more_none old)
meets_more q old new (inr h) = record {
  tail = open_node q ∷ [];
  more = h.1;
  are_open = λ k i. elim i [ inl e ↦ (let P : Node → Type 0 = λ v. IsOpen v.outcome in subst P e refl) | inr none ↦ absurd none ];
  apart = λ a.
      let P : List Pair → Type 0 = λ l. Apart l in
      subst P (sym (ap (map node_pair) h.1 ∙ map-append node_pair old (open_node q ∷ []))) (Apart-push q (map node_pair old) a h.0);
}

pub more_continues : (old new : List Node) → AreMore old new → Continues (map node_pair old) (map node_pair new)
more_continues old new h = (map node_pair h.tail, ap (map node_pair) h.more ∙ map-append node_pair old h.tail)

pub continues_get : (old new : List Pair) (n : ℕ) (q : Pair) → Continues old new → slice_get old n ≡ Some q → slice_get new n ≡ Some q
continues_get old new n q c e = let P : List Pair → Type 0 = λ l. slice_get l n ≡ Some q in subst P (sym c.1) (slice_get-left old c.0 n q e)

pub continues_length : (old new : List Pair) → Continues old new → length old ≤ length new
continues_length old new c = omega (arith, ap (λ (l : List Pair). length l) c.1, length-append old c.0)

pub continues_at : (old new : List Pair) (n : ℕ) → Continues old new → n < length old → ◌≡◌ {A = Pair} (pair_at new n) (pair_at old n)
continues_at old new n c h = ap (λ (l : List Pair). pair_at l n) c.1 ∙ pair_at-left old c.0 n h

pub continues_none : (old new : List Pair) → new ≡ old → Continues old new
continues_none old new e = ([], e ∙ sym (append-nil old))

pub continues_trans : (a b c : List Pair) → Continues a b → Continues b c → Continues a c
continues_trans a b c f g = (f.0 ++ g.0, g.1 ∙ ap (λ (l : List Pair). l ++ g.0) f.1 ∙ append_assoc a f.0 g.0)

------------------------------------------------------------
-- What is known

-- what is known of a pair is right while pairs come behind
asking_more : (about : About) (old new : List Pair) (q : Pair) (ns : List ℕ) → Continues old new → IsAsking about old q ns → IsAsking about new q ns
asking_more about old new q ns c h = record {
  steps = λ n i. (let r = h.steps n i in (r.0, continues_get old new n r.0 c r.1, r.2));
  closes = λ qs b w. h.closes qs b (λ n r i e. w n r i (continues_get old new n r c e));
}

pub outcome_more : (about : About) (old new : List Pair) (q : Pair) (o : Outcome) → Continues old new → IsOutcome about old q o → IsOutcome about new q o
outcome_more about old new q Open c h = tt
outcome_more about old new q (Fails cause) c h = h
outcome_more about old new q (Asks ns) c h = asking_more about old new q ns c h
outcome_more about old new q Holds c h = h

open_right : (about : About) (ps : List Pair) (q : Pair) (o : Outcome) → IsOpen o → IsOutcome about ps q o
open_right about ps q Open h = tt
open_right about ps q (Fails cause) h = absurd (cc)
open_right about ps q (Asks ns) h = absurd (cc)
open_right about ps q Holds h = absurd (cc)

pub open_noted : (P : Type 0) (o : Outcome) → IsOpen o → (P → ⊥) → IsNoted P o
open_noted P Open h n = n
open_noted P (Fails cause) h n = absurd (cc)
open_noted P (Asks ns) h n = absurd (cc)
open_noted P Holds h n = absurd (cc)

pub noted_open : (P : Type 0) (o : Outcome) → IsOpen o → IsNoted P o → P → ⊥
noted_open P Open h n = n
noted_open P (Fails cause) h n = absurd (cc)
noted_open P (Asks ns) h n = absurd (cc)
noted_open P Holds h n = absurd (cc)

pub noted_there : (P : Type 0) (o : Outcome) → is_open o ≡ false → IsNoted P o → P
noted_there P Open h n = absurd (cc)
noted_there P (Fails cause) h n = n
noted_there P (Asks ns) h n = n
noted_there P Holds h n = n

there_noted : (P : Type 0) (o : Outcome) → is_open o ≡ false → P → IsNoted P o
there_noted P Open h n = absurd (cc)
there_noted P (Fails cause) h n = n
there_noted P (Asks ns) h n = n
there_noted P Holds h n = n

noted_as : (P Q : Type 0) (o : Outcome) → (P → Q) → (Q → P) → IsNoted P o → IsNoted Q o
noted_as P Q Open f g n = λ q. n (g q)
noted_as P Q (Fails cause) f g n = f n
noted_as P Q (Asks ns) f g n = f n
noted_as P Q Holds f g n = f n

-- pairs that come behind are open
pub more_known : (about : About) (old new : List Node) (unfolded : List ℕ) → AreMore old new → AreKnown about old unfolded → AreKnown about new unfolded
more_known about old new unfolded m h = record {
  core = h.core;
  apart = m.apart h.apart;
  right = λ n k e.
      elim (slice_get-cases old m.tail n k (at n k e)) [
        | inl f ↦ outcome_more about (map node_pair old) (map node_pair new) (node_pair k) k.outcome (more_continues old new m) (h.right n k f)
        | inr f ↦ open_right about (map node_pair new) (node_pair k) k.outcome (m.are_open k f.1)
      ];
  noted = λ n k e.
      elim (slice_get-cases old m.tail n k (at n k e)) [
        | inl f ↦ h.noted n k f
        | inr f ↦ open_noted (In n unfolded) k.outcome (m.are_open k f.1) (λ i. let lt : n < length old = h.within n i in let le : length old ≤ n = f.0 in omega arith)
      ];
  once = h.once;
  within = λ n i.
      let lt : n < length old = h.within n i in
      omega (arith, ap (λ (l : List Node). length l) m.more, length-append old m.tail);
}
  where
    at : (n : ℕ) (k : Node) → slice_get new n ≡ Some k → slice_get (old ++ m.tail) n ≡ Some k
    at n k e = let P : List Node → Type 0 = λ l. slice_get l n ≡ Some k in subst P m.more e

-- the pairs with another outcome at a place
pub pairs-with : (ks : List Node) (n : ℕ) (o : Outcome) → map node_pair (with_outcome ks n o) ≡ map node_pair ks
pairs-with [] n o = refl
pairs-with (k ∷ ks) zero o = refl
pairs-with (k ∷ ks) (suc n) o = ap (λ (l : List Pair). node_pair k ∷ l) (pairs-with ks n o)

length-with : (ks : List Node) (n : ℕ) (o : Outcome) → length (with_outcome ks n o) ≡ length ks
length-with [] n o = refl
length-with (k ∷ ks) zero o = refl
length-with (k ∷ ks) (suc n) o = ap suc (length-with ks n o)

-- an outcome is written where the rest of the pair stays
pub written_with : (ks : List Node) (n : ℕ) (o : Outcome) (k : Node) → k ≡ get_or ks n k → set ks n (record { left = k.left; right = k.right; outcome = o }) ≡ with_outcome ks n o
written_with [] n o k e = refl
written_with (x ∷ ks) zero o k e = ap (λ (v : Node). record { left = v.left; right = v.right; outcome = o } ∷ ks) e
written_with (x ∷ ks) (suc n) o k e = ap (λ (l : List Node). x ∷ l) (written_with ks n o k e)

pub keys-with : (ks : List Node) (n : ℕ) (o : Outcome) (k : Node) → k ≡ get_or ks n k → map node_key (set ks n (record { left = k.left; right = k.right; outcome = o })) ≡ map node_key ks
keys-with ks n o k e = map-set_same node_key ks n (record { left = k.left; right = k.right; outcome = o }) k (ap node_key e)

-- at the place there is the pair with the outcome, and elsewhere what was there
pub get-with : (ks : List Node) (n : ℕ) (o : Outcome) (m : ℕ) (k : Node) → slice_get (with_outcome ks n o) m ≡ Some k →
    ((m ≡ n) × (k.outcome ≡ o) × ((j : Node) × (slice_get ks n ≡ Some j) × (◌≡◌ {A = Pair} (node_pair j) (node_pair k)))) ⊎ ((m ≡ n → ⊥) × (slice_get ks m ≡ Some k))
get-with [] n o m k e = absurd (cc)
get-with (x ∷ ks) zero o zero k e =
    let y : Node = record { left = x.left; right = x.right; outcome = o } in
    let f : y ≡ k = cc in
    inl (refl, sym (ap (λ (v : Node). v.outcome) f), (x, refl, ap node_pair f))
get-with (x ∷ ks) zero o (suc m) k e = inr (λ h. omega (arith, h), e)
get-with (x ∷ ks) (suc n) o zero k e = inr (λ h. omega (arith, h), e)
get-with (x ∷ ks) (suc n) o (suc m) k e =
    elim (get-with ks n o m k e) [
      | inl r ↦ inl (ap suc r.0, r.1, r.2)
      | inr r ↦ inr (λ h. r.0 (omega (arith, h)), r.1)
    ]

-- an outcome is written that is right, and the number is among those that were unfolded
module _ (about : About) (ks : List Node) (unfolded unfolded' : List ℕ) (n : ℕ) (o : Outcome) (h : AreKnown about ks unfolded) (lt : n < length ks)
    (right : IsOutcome about (map node_pair ks) (pair_at (map node_pair ks) n) o) (closed : is_open o ≡ false)
    (there : In n unfolded') (same : (m : ℕ) → (m ≡ n → ⊥) → (In m unfolded → In m unfolded') × (In m unfolded' → In m unfolded)) (once : Apart unfolded') where
  pub written_known : AreKnown about (with_outcome ks n o) unfolded'
  written_known = record {
    core = h.core;
    apart = (let A : List Pair → Type 0 = λ l. Apart l in subst A (sym (pairs-with ks n o)) h.apart);
    right = λ m k e.
        let R : List Pair → Type 0 = λ l. IsOutcome about l (node_pair k) k.outcome in
        subst R (sym (pairs-with ks n o)) (
        elim (get-with ks n o m k e) [
          | inl r ↦
              let at : ◌≡◌ {A = Pair} (pair_at (map node_pair ks) n) (node_pair k) = pair_at-is (map node_pair ks) n (node_pair r.2.0) (slice_get-mapped node_pair ks n r.2.0 r.2.1) ∙ r.2.2 in
              let P : Pair → Type 0 = λ q. IsOutcome about (map node_pair ks) q o in
              let Q : Outcome → Type 0 = λ v. IsOutcome about (map node_pair ks) (node_pair k) v in
              subst Q (sym r.1) (subst P at right)
          | inr r ↦ h.right m k r.1
        ]);
    noted = λ m k e.
        elim (get-with ks n o m k e) [
          | inl r ↦
              let P : ℕ → Type 0 = λ v. In v unfolded' in
              let Q : Outcome → Type 0 = λ v. is_open v ≡ false in
              there_noted (In m unfolded') k.outcome (subst Q (sym r.1) closed) (subst P (sym r.0) there)
          | inr r ↦ noted_as (In m unfolded) (In m unfolded') k.outcome (same m r.0).0 (same m r.0).1 (h.noted m k r.1)
        ];
    once = once;
    within = λ m i.
        elim (cases_eq m n) [
          | inl e ↦ omega (arith, e, lt, length-with ks n o)
          | inr e ↦ omega (arith, h.within m ((same m e).1 i), length-with ks n o)
        ];
  }
    where
      cases_eq : (a b : ℕ) → (a ≡ b) ⊎ (a ≡ b → ⊥)
      cases_eq zero zero = inl refl
      cases_eq zero (suc b) = inr (λ e. omega (arith, e))
      cases_eq (suc a) zero = inr (λ e. omega (arith, e))
      cases_eq (suc a) (suc b) = elim (cases_eq a b) [ inl e ↦ inl (ap suc e) | inr e ↦ inr (λ f. e (omega (arith, f))) ]

In-push_other : (m n : ℕ) (ns : List ℕ) → (m ≡ n → ⊥) → In m (ns ++ n ∷ []) → In m ns
In-push_other m n ns ne i = elim (In-cases m ns (n ∷ []) i) [ inl j ↦ j | inr j ↦ elim j [ inl e ↦ absurd (ne (sym e)) | inr none ↦ absurd none ] ]

-- an open pair is unfolded
pub unfolded_known : (about : About) (ks : List Node) (unfolded unfolded' : List ℕ) (n : ℕ) (o : Outcome) → AreKnown about ks unfolded → n < length ks → (In n unfolded → ⊥) →
    IsOutcome about (map node_pair ks) (pair_at (map node_pair ks) n) o → is_open o ≡ false → unfolded' ≡ unfolded ++ n ∷ [] → AreKnown about (with_outcome ks n o) unfolded'
unfolded_known about ks unfolded unfolded' n o h lt new right closed e =
    let P : List ℕ → Type 0 = λ l. AreKnown about (with_outcome ks n o) l in
    subst P (sym e) (written_known about ks unfolded (unfolded ++ n ∷ []) n o h lt right closed (In-right n unfolded (n ∷ []) (inl refl))
    (λ m ne. (λ i. In-left m unfolded (n ∷ []) i, λ i. In-push_other m n unfolded ne i)) (Apart-push n unfolded h.once new))

-- a pair that was unfolded is marked
pub marked_known : (about : About) (ks : List Node) (unfolded : List ℕ) (n : ℕ) → AreKnown about ks unfolded → n < length ks → In n unfolded →
    IsSubtypeIn about.program about.scope about.mode (pair_at (map node_pair ks) n).0 (pair_at (map node_pair ks) n).1 → AreKnown about (with_outcome ks n Holds) unfolded
marked_known about ks unfolded n h lt there sub =
    written_known about ks unfolded unfolded n Holds h lt sub refl there (λ m ne. (λ i. i, λ i. i)) h.once
