-- `word_at` gives the longest word exactly where there is one within its limits, and else the fault.
use Rattle.std.proofs.Common.{◌≡◌, ℕ, suc, ◌+◌, ◌≤◌, List, [], ◌∷◌, ◌++◌, length, refl, sym, ap, subst, ◌∙◌, arith, length-append, inl, inr}
use Rattle.wy_layout.specs.Words.{Word, kind_of, IsWord, IsLongest, Within, fits, passes, over}
use Rattle.wy_layout.specs.Counts.{passed}
use Rattle.wy_layout.specs.declared.count.Count.{Count}
use Rattle.wy_layout.specs.Layout.{IsNext, IsWrong}
use Rattle.wy_layout.specs.Read.{Scan, Read, yes, bad, longest_at, limited, by_limit, word_at, by_count, next_at, scan, stuck, text_read}
use Rattle.wy_layout.specs.Faults.{IsWithin, IsWordFault, BeginsNone, WrongText}
use Rattle.wy_layout.specs.declared.refusal.Fault.{Fault}
use Rattle.wy_layout.specs.declared.escape.State.TheVariants as state
use Rattle.wy_layout.proofs.Scanning.{scan_stuck}
use Rattle.wy_layout.proofs.LongestWord.{FoundIs, found_is, Reaches, reaches}

-- two ways to split a text at one place are one
pub split_same : (w r w' r' : List ℕ) → w ++ r ≡ w' ++ r' → length r ≡ length r' → (w ≡ w') × (r ≡ r')
split_same [] r [] r' e h = (refl, e)
split_same [] r (x ∷ w') r' e h = absurd (let a = ap length e in let b : length ((x ∷ w') ++ r') ≡ suc (length w') + length r' = length-append (x ∷ w') r' in omega arith)
split_same (x ∷ w) r [] r' e h = absurd (let a = ap length e in let b : length ((x ∷ w) ++ r) ≡ suc (length w) + length r = length-append (x ∷ w) r in omega arith)
split_same (x ∷ w) r (y ∷ w') r' e h =
    let t = tails e in
    let k = split_same w r w' r' t.1 h in
    (ap (λ (z : ℕ). z ∷ w) t.0 ∙ ap (λ (z : List ℕ). y ∷ z) k.0, k.1)
  where
    tails : x ∷ (w ++ r) ≡ y ∷ (w' ++ r') → (x ≡ y) × (w ++ r ≡ w' ++ r')
    tails e = (cc, cc)

shorter : (w r w' r' : List ℕ) → w ++ r ≡ w' ++ r' → length r ≤ length r' → length w' ≤ length w
shorter w r w' r' e h = let a = ap length e in let b = length-append w r in let c = length-append w' r' in omega arith

-- a word that stands there is reached
pub record Reached (k' : Word) (w' r' u : List ℕ) : Type 0 where
  pub word : Word
  pub rest : List ℕ
  pub found : longest_at u ≡ yes word rest
  pub further : length rest ≤ length r'
  pub same : length rest ≡ length r' → word ≡ k'

pub reached : (k : Word) (w r u : List ℕ) → u ≡ w ++ r → IsWord k w → Reached k w r u
reached k w r u e h = go (longest_at u) refl (subst (λ (z : List ℕ). Reaches k r (longest_at z)) (sym e) (reaches k w r h))
  where
    go : (x : Read) → longest_at u ≡ x → Reaches k r x → Reached k w r u
    go (yes k' r') e h = record { word = k'; rest = r'; found = e; further = h.0; same = h.1 }
    go (bad f r') e h = absurd h

yes_kind : (k k' : Word) (r r' : List ℕ) → yes k r ≡ yes k' r' → (k ≡ k') × (r ≡ r')
yes_kind k k' r r' e = (cc, cc)

longest_is : (k : Word) (w r : List ℕ) → longest_at (w ++ r) ≡ yes k r → IsWord k w → IsLongest k w r
longest_is k w r e h = record {
  is_word = h;
  longest = λ k' w' r' p h'.
      let m = reached k' w' r' (w ++ r) (sym p) h' in
      let s = yes_kind k m.word r m.rest (sym e ∙ m.found) in
      shorter w r w' r' (sym p) (let q = m.further in let t = ap length s.1 in omega arith);
}

pub longest_read : (k : Word) (w r : List ℕ) → IsLongest k w r → longest_at (w ++ r) ≡ yes k r
longest_read k w r h =
    let m = reached k w r (w ++ r) refl h.is_word in
    by_found m (subst (FoundIs (w ++ r)) m.found (found_is (w ++ r)))
  where
    by_found : (m : Reached k w r (w ++ r)) → FoundIs (w ++ r) (yes m.word m.rest) → longest_at (w ++ r) ≡ yes k r
    by_found m f =
        let l = h.longest m.word f.0 m.rest (sym f.1) f.2 in
        let a = ap length f.1 in let b = length-append w r in let c = length-append f.0 m.rest in
        let e : length m.rest ≡ length r = let x = m.further in omega arith in
        let s = split_same f.0 m.rest w r (sym f.1) e in
        m.found ∙ ap (λ (z : Word). yes z m.rest) (m.same e) ∙ ap (λ (z : List ℕ). yes k z) s.1

-- ---- the law

abbrev pub WordIs : List ℕ → Read → Type 0
WordIs u (yes k r) = IsWithin k u r
WordIs u (bad f r) = IsWordFault f u r

word_of_longest : (u : List ℕ) (x : Read) → longest_at u ≡ x → FoundIs u x → WordIs u (limited u x)
word_of_longest u (yes k r) e (w, p, h) = go (over k) refl
  where
    best : IsLongest k w r
    best = longest_is k w r (ap longest_at (sym p) ∙ e) h

    go : (o : Within) → over k ≡ o → WordIs u (by_limit o k u r)
    go fits o = record { written = w; parts = p; longest = best; limits = o }
    go (passes f) o = inr (inr (record { place = refl; word = k; written = w; rest = r; parts = p; longest = best; passed = o }))
word_of_longest [] (bad f r) e h = inl (record { kind = h.0; place = h.1; no_text = tt; none = λ k w rest p q. let m = reached k w rest [] p q in let t = sym e ∙ m.found in cc })
word_of_longest (c ∷ cs) (bad f r) e (inl h) = inr (inl h)
word_of_longest (c ∷ cs) (bad f r) e (inr h) = inl (record { kind = h.1; place = h.2; no_text = h.0; none = λ k w rest p q. let m = reached k w rest (c ∷ cs) p q in let t = sym e ∙ m.found in cc })

pub word_is : (u : List ℕ) → WordIs u (word_at u)
unfolding word_at
word_is u = word_of_longest u (longest_at u) refl (found_is u)

-- ---- and back

bad_same : (f f' : Fault) (r r' : List ℕ) → f ≡ f' → r ≡ r' → bad f r ≡ bad f' r'
bad_same f f' r r' e h = ap (λ (z : Fault). bad z r) e ∙ ap (bad f') h

pub word_read : (k : Word) (u r : List ℕ) → IsWithin k u r → word_at u ≡ yes k r
unfolding word_at
word_read k u r h =
    let e : longest_at u ≡ yes k r = ap longest_at h.parts ∙ longest_read k h.written r h.longest in
    let o = h.limits in
    ap (limited u) e ∙ ap (λ (z : Within). by_limit z k u r) o

none_read : (f : Fault) (u r : List ℕ) (x : Read) → longest_at u ≡ x → FoundIs u x → BeginsNone f u r → limited u x ≡ bad f r
none_read f u r (yes k r') e (w, p, q) h = absurd (h.none k w r' p q)
none_read f [] r (bad f' r') e g h = bad_same f' f r' r (g.0 ∙ sym h.kind) (g.1 ∙ sym h.place)
none_read f (c ∷ cs) r (bad f' r') e (inl g) h = absurd (h.no_text g.0)
none_read f (c ∷ cs) r (bad f' r') e (inr g) h = bad_same f' f r' r (g.1 ∙ sym h.kind) (g.2 ∙ sym h.place)

text_fault_read : (f : Fault) (u r : List ℕ) → WrongText f u r → limited u (longest_at u) ≡ bad f r
text_fault_read f [] r h = absurd h
text_fault_read f (c ∷ cs) r (q, h) =
    let e : scan state.Plain cs ≡ stuck f r = ap (scan state.Plain) h.parts ∙ scan_stuck f h.pieces h.escape r h.are_good h.sane h.fails in
    ap (λ (z : ℕ). limited (z ∷ cs) (longest_at (z ∷ cs))) q ∙ ap (λ (z : Scan). limited (34 ∷ cs) (text_read (34 ∷ cs) z)) e

pub fault_read : (f : Fault) (u r : List ℕ) → IsWordFault f u r → word_at u ≡ bad f r
unfolding word_at
fault_read f u r (inl h) = none_read f u r (longest_at u) refl (found_is u) h
fault_read f u r (inr (inl h)) = text_fault_read f u r h
fault_read f u r (inr (inr h)) =
    let e : longest_at u ≡ yes h.word h.rest = ap longest_at h.parts ∙ longest_read h.word h.written h.rest h.longest in
    let o = h.passed in
    ap (limited u) e ∙ ap (λ (z : Within). by_limit z h.word u h.rest) o ∙ ap (bad f) (sym h.place)

-- ---- and with the limits that are counted

abbrev pub NextIs : Count → List ℕ → Read → Type 0
NextIs c u (yes k r) = IsNext c k u r
NextIs c u (bad f r) = IsWrong c f u r

pub next_is : (c : Count) (u : List ℕ) → NextIs c u (next_at c u)
unfolding next_at
next_is c u = go (word_at u) (word_is u)
  where
    go : (x : Read) → WordIs u x → NextIs c u (by_count c u x)
    go (bad f r) w = inl w
    go (yes k r) w = by (passed c (kind_of k)) refl
      where
        by : (o : Within) → passed c (kind_of k) ≡ o → NextIs c u (by_limit o k u r)
        by fits e = record { within = w; fitting = e }
        by (passes f) e = inr (record { place = refl; word = k; behind = r; within = w; passing = e })

pub next_read : (c : Count) (k : Word) (u r : List ℕ) → IsNext c k u r → next_at c u ≡ yes k r
unfolding next_at
next_read c k u r h = ap (by_count c u) (word_read k u r h.within) ∙ ap (λ (o : Within). by_limit o k u r) h.fitting

pub wrong_next : (c : Count) (f : Fault) (u r : List ℕ) → IsWrong c f u r → next_at c u ≡ bad f r
unfolding next_at
wrong_next c f u r (inl h) = ap (by_count c u) (fault_read f u r h)
wrong_next c f u r (inr h) = ap (by_count c u) (word_read h.word u h.behind h.within) ∙ ap (λ (o : Within). by_limit o h.word u h.behind) h.passing ∙ ap (bad f) (sym h.place)
