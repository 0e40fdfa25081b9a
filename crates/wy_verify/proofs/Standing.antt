-- A question's list as it grows.
use Rattle.std.proofs.Common.{◌⊎◌, ◌≡◌, ℕ, zero, suc, ◌+◌, ◌<◌, ◌≤◌, List, [], ◌∷◌, ◌++◌, length, take, inl, inr, refl, sym, ap, ◌∙◌, subst, Option, Some, None, append_assoc, arith}
use Rattle.std.specs.Prelude.{slice_get}
use Rattle.std.proofs.lemmas.Bool.{cases_lt}
use Rattle.std.proofs.lemmas.List.{append-nil, take_at}
use Rattle.wy_text.specs.Members.{In}
use Rattle.wy_text.proofs.Lists.{In-left, In-right, In-at, In-cases, In-slice_get}
use Rattle.wy_verified.specs.Images.{Image}
use Rattle.wy_verified.specs.declared.known.Kind.{Kind}
use Rattle.wy_verified.specs.Kinds.{Pair, MethodType, methods, ParamsIn, HasCover, IsClosed, Fits}
use Rattle.wy_verified.proofs.Lists.{read_first, some_same, none_some}
use Rattle.wy_verify.specs.Closing.{AreClosed, IsAdded, IsClosed', IsOpen, IsStanding}

------------------------------------------------------------
-- A closed pair stays closed

params_more : (ps qs : List Pair) (left right : List Kind) → ParamsIn ps left right → ParamsIn (ps ++ qs) left right
params_more ps qs [] [] h = tt
params_more ps qs [] (b ∷ right) h = absurd h
params_more ps qs (a ∷ left) [] h = absurd h
params_more ps qs (a ∷ left) (b ∷ right) h = (In-left {X = Pair} (b, a) ps qs h.0, params_more ps qs left right h.1)

pub cover_more : (ps qs : List Pair) (left : Option MethodType) (right : MethodType) → HasCover ps left right → HasCover (ps ++ qs) left right
cover_more ps qs None right h = absurd h
cover_more ps qs (Some left) right h = record {
  params = params_more ps qs left.params right.params h.params;
  effect = h.effect;
  result = In-left {X = Pair} (left.result, right.result) ps qs h.result;
}

pub closed_more : (image : Image) (ps qs : List Pair) (p : Pair) → IsClosed image ps p → IsClosed image (ps ++ qs) p
closed_more image ps qs p (inl h) = inl h
closed_more image ps qs p (inr h) = inr (h.0, h.1, λ m g e. cover_more ps qs (methods image p.0 m) g (h.2 m g e))

in_more : (xs ys : List Pair) (k : ℕ) (q : Pair) → length xs ≤ k → slice_get (xs ++ ys) k ≡ Some q → In q ys
in_more [] ys k q le e = In-slice_get ys k q e
in_more (x ∷ xs) ys zero q le e = absurd (omega arith)
in_more (x ∷ xs) ys (suc k) q le e = in_more xs ys k q (omega arith) e

------------------------------------------------------------
-- A question

module _ (image : Image) (old : List Pair) (p : Pair) (before : AreClosed image old) where
  -- it begins with the pair that is asked for
  pub begins : (ps : List Pair) → IsAdded old p ps → IsStanding image old p (length old) ps
  begins ps (inl h) = subst (IsStanding image old p (length old)) (sym h.1) (record {
    more = [];
    grown = sym (append-nil old);
    asked = h.0;
    closed = λ k q lt e. before q (In-slice_get old k q e);
    needed = λ q i. absurd i;
  })
  begins ps (inr e) = subst (IsStanding image old p (length old)) (sym e) (record {
    more = p ∷ [];
    grown = refl;
    asked = In-right p old (p ∷ []) (inl refl);
    closed = λ k q lt f. closed_more image old (p ∷ []) q (before q (In-slice_get old k q (within k q lt f)));
    needed = λ q i qs closed asked. elim i [ inl f ↦ subst (λ (q : Pair). In q qs) f asked | inr h ↦ absurd h ];
  })
    where
      within : (k : ℕ) (q : Pair) → k < length old → slice_get (old ++ p ∷ []) k ≡ Some q → slice_get old k ≡ Some q
      within k q lt f = let r = Rattle.wy_verified.proofs.Lists.read_there old k lt in r.1 ∙ sym (read_first old (p ∷ []) k r.0 r.1) ∙ f

  -- a pair was closed
  pub goes_on : (at : ℕ) (ps new : List Pair) → length old ≤ at → at < length ps → IsStanding image old p at ps → IsClosed' image ps at new → IsStanding image old p (suc at) new
  goes_on at ps new low lt s c =
      let here = Rattle.wy_verified.proofs.Lists.read_there ps at lt in
      subst (IsStanding image old p (suc at)) (sym c.grown) (record {
        more = s.more ++ c.more;
        grown = ap (λ (t : List Pair). t ++ c.more) s.grown ∙ append_assoc old s.more c.more;
        asked = In-left p ps c.more s.asked;
        closed = λ k q less e. closed_up k q less e (cases_lt k at);
        needed = λ q i qs closed asked. elim (In-cases q s.more c.more i) [
          | inl h ↦ s.needed q h qs closed asked
          | inr h ↦ c.parts here.0 q here.1 h qs (closed here.0 (here_needed here.0 here.1 qs closed asked))
        ];
      })
    where
      within : (k : ℕ) (q : Pair) → k < length ps → slice_get (ps ++ c.more) k ≡ Some q → slice_get ps k ≡ Some q
      within k q less f = let r = Rattle.wy_verified.proofs.Lists.read_there ps k less in r.1 ∙ sym (read_first ps c.more k r.0 r.1) ∙ f

      closed_up : (k : ℕ) (q : Pair) → k < suc at → slice_get (ps ++ c.more) k ≡ Some q → (k < at) ⊎ (at ≤ k) → IsClosed image (ps ++ c.more) q
      closed_up k q less e (inl h) = closed_more image ps c.more q (s.closed k q h (within k q (omega (arith, h, lt)) e))
      closed_up k q less e (inr h) =
          let same : k ≡ at = omega (arith, less, h) in
          subst (λ (t : List Pair). IsClosed image t q) c.grown (c.closed q (within at q lt (subst (λ n. slice_get (ps ++ c.more) n ≡ Some q) same e)))

      here_needed : (q : Pair) → slice_get ps at ≡ Some q → (qs : List Pair) → AreClosed image qs → In p qs → In q qs
      here_needed q e qs closed asked = s.needed q (in_more old s.more at q low (subst (λ (t : List Pair). slice_get t at ≡ Some q) s.grown e)) qs closed asked

  -- all are closed
  pub all_closed : (at : ℕ) (ps : List Pair) → length ps ≤ at → IsStanding image old p at ps → AreClosed image ps
  all_closed at ps end s q i = let w = In-at q ps i in s.closed w.0 q (let lt = w.1 in omega (arith, lt, end)) w.2

  pub is_subtype : (at : ℕ) (ps : List Pair) → length ps ≤ at → IsStanding image old p at ps → Fits image p.0 p.1
  is_subtype at ps end s = inr (record { pairs = ps; first = s.asked; closed = all_closed at ps end s })

  -- one can not be closed
  pub is_none : (at : ℕ) (ps new : List Pair) → (p.0 ≡ p.1 → ⊥) → length old ≤ at → at < length ps → IsStanding image old p at ps → IsOpen image ps at new → Fits image p.0 p.1 → ⊥
  is_none at ps new differ low lt s c (inl e) = differ e
  is_none at ps new differ low lt s c (inr sub) =
      let here = Rattle.wy_verified.proofs.Lists.read_there ps at lt in
      let i = in_more old s.more at here.0 low (subst (λ (t : List Pair). slice_get t at ≡ Some here.0) s.grown here.1) in
      c.never here.0 here.1 sub.pairs (sub.closed here.0 (s.needed here.0 i sub.pairs sub.closed sub.first))

  -- what is left after the pairs of the question are taken away
  pub is_cut : (at : ℕ) (ps new left : List Pair) → IsStanding image old p at ps → IsOpen image ps at new → left ≡ take (length old) new → AreClosed image left
  is_cut at ps new left s c e =
      let whole : new ≡ old ++ (s.more ++ c.more) = c.grown ∙ ap (λ (t : List Pair). t ++ c.more) s.grown ∙ append_assoc old s.more c.more in
      subst (AreClosed image) (sym (e ∙ ap (take (length old)) whole ∙ take_at old (s.more ++ c.more) (length old) refl)) before

pub next_number : (n : ℕ) → suc n ≡ n + 1
next_number n = omega arith
