-- The words of a line, or the one place where they go wrong.
use Rattle.std.proofs.Common.{◌≡◌, ℕ, zero, suc, ◌+◌, ◌<◌, ◌≤◌, ◌==◌, Bool, true, false, cond, ◌||◌, List, [], ◌∷◌, ◌++◌, length, refl, sym, ap, subst, ◌∙◌, arith, length-append, inl, inr}
use Rattle.wy_text.specs.declared.token.Token.{Token}
use Rattle.wy_layout.specs.Texts.{spell}
use Rattle.wy_layout.specs.Words.{Word, name, number, text, fixed, kind_of, IsWord}
use Rattle.wy_layout.specs.Read.{Read, yes, bad, next_at}
use Rattle.wy_layout.specs.Faults.{IsWordFault, IsWithin, part}
use Rattle.wy_layout.specs.Counts.{counted}
use Rattle.wy_layout.specs.declared.count.Count.{Count}
use Rattle.wy_layout.specs.Lines.{after_blanks, is_done}
use Rattle.wy_layout.specs.Layout.{token, off, IsNext, IsWrong, Words, WrongIn}
use Rattle.wy_layout.specs.Lexed.{Found, good, bad_at, onto, next, read_words}
use Rattle.wy_layout.specs.declared.row.Row.{Row}
use Rattle.wy_layout.specs.declared.refusal.Fault.{Fault}
use Rattle.wy_layout.proofs.WordRead.{NextIs, next_is, next_read, wrong_next}

-- a word has a character
pub no_empty : (k : Word) → IsWord k [] → ⊥
no_empty (name v) h = absurd (let e = h.1 in cc)
no_empty (number n) h = absurd (let e = h.0 in cc)
no_empty (text v) h = absurd (let e = h.quoted in cc)
no_empty (fixed v) (e, inl h) = absurd (let k : false ≡ true = h in cc)
no_empty (fixed v) (e, inr h) = absurd (let k : false ≡ true = h in cc)

pub shrinks : (k : Word) (u r : List ℕ) → IsWithin k u r → length r < length u
shrinks k u r h = go h.written refl
  where
    go : (w : List ℕ) → h.written ≡ w → length r < length u
    go [] e = absurd (no_empty k (subst (IsWord k) e h.longest.is_word))
    go (x ∷ w) e = let p = ap length h.parts in let a = length-append h.written r in let b = ap length e in omega arith

fault_within : (f : Fault) (u r : List ℕ) → IsWordFault f u r → length r ≤ length u
fault_within f u r (inl h) = let e = ap length h.place in omega arith
fault_within f [] r (inr (inl h)) = absurd h
fault_within f (c ∷ cs) r (inr (inl (q, h))) =
    let p = ap length h.parts in let a = length-append (spell h.pieces) (part h.escape ++ r) in let b = length-append (part h.escape) r in omega arith
fault_within f u r (inr (inr h)) = let e = ap length h.place in omega arith

pub wrong_within : (c : Count) (f : Fault) (u r : List ℕ) → IsWrong c f u r → length r ≤ length u
wrong_within c f u r (inl h) = fault_within f u r h
wrong_within c f u r (inr h) = let e = ap length h.place in omega arith

pub blanks_within : (u : List ℕ) → length (after_blanks u) ≤ length u
blanks_within [] = omega arith
blanks_within (c ∷ cs) = go ((c == 32) || (c == 9)) (blanks_within cs)
  where
    go : (b : Bool) → length (after_blanks cs) ≤ length cs → length (cond b (after_blanks cs) (c ∷ cs)) ≤ length (c ∷ cs)
    go true h = omega arith
    go false h = omega arith

-- ---- what is read

abbrev pub FoundIs : Row → Count → ℕ → List ℕ → Found → Type 0
FoundIs row c at u (good ts) = Words row c at u ts
FoundIs row c at u (bad_at f o) = (ks : List Word) × WrongIn ks c at u f o

pub words_are : (n : ℕ) (row : Row) (c : Count) (at : ℕ) (u : List ℕ) → length u < n → FoundIs row c at u (read_words n row c at u)
words_are zero row c at u h = absurd (omega arith)
words_are (suc n) row c at u h = go (is_done (after_blanks u)) refl (next_at c (after_blanks u)) (next_is c (after_blanks u)) (λ c' at' r k. words_are n row c' at' r k)
  where
    onto_is : (k : Word) (r : List ℕ) → is_done (after_blanks u) ≡ false → IsNext c k (after_blanks u) r → (x : Found) → FoundIs row (counted c (kind_of k)) (off at u r) r x →
        FoundIs row c at u (onto (token row (kind_of k) (off at u (after_blanks u)) (off at u r)) x)
    onto_is k r e w (good ts) q = (e, k, r, w, refl, q)
    onto_is k r e w (bad_at f o) (ks, q) = (k ∷ ks, (e, r, w, q))

    go : (b : Bool) → is_done (after_blanks u) ≡ b → (x : Read) → NextIs c (after_blanks u) x → ((c' : Count) (at' : ℕ) (r : List ℕ) → length r < n → FoundIs row c' at' r (read_words n row c' at' r)) →
        FoundIs row c at u (cond b (good []) (next row c at u x (λ c' at' r. read_words n row c' at' r)))
    go true e x w ih = e
    go false e (yes k r) w ih = onto_is k r e w (read_words n row (counted c (kind_of k)) (off at u r) r) (ih (counted c (kind_of k)) (off at u r) r (let a = shrinks k (after_blanks u) r w.within in let b = blanks_within u in omega arith))
    go false e (bad f r) w ih = ([], (e, r, w, refl))

-- ---- and back

pub words_read : (n : ℕ) (row : Row) (c : Count) (at : ℕ) (u : List ℕ) (ts : List Token) → length u < n → Words row c at u ts → read_words n row c at u ≡ good ts
words_read zero row c at u ts h w = absurd (omega arith)
words_read (suc n) row c at u [] h w = rw w refl
words_read (suc n) row c at u (t ∷ ts) h (e, k, r, w, s, q) =
    let a = shrinks k (after_blanks u) r w.within in
    let b = blanks_within u in
    let ih = words_read n row (counted c (kind_of k)) (off at u r) r ts (omega arith) q in
    ap (λ (b : Bool). cond b (good []) (next row c at u (next_at c (after_blanks u)) (λ c' at' r. read_words n row c' at' r))) e
    ∙ ap (λ (x : Read). next row c at u x (λ c' at' r. read_words n row c' at' r)) (next_read c k (after_blanks u) r w)
    ∙ ap (onto (token row (kind_of k) (off at u (after_blanks u)) (off at u r))) ih
    ∙ ap (λ (z : Token). good (z ∷ ts)) (sym s)

pub wrong_read : (n : ℕ) (row : Row) (c : Count) (at : ℕ) (u : List ℕ) (ks : List Word) (f : Fault) (o : ℕ) → length u < n → WrongIn ks c at u f o → read_words n row c at u ≡ bad_at f o
wrong_read zero row c at u ks f o h w = absurd (omega arith)
wrong_read (suc n) row c at u [] f o h (e, r, w, s) =
    ap (λ (b : Bool). cond b (good []) (next row c at u (next_at c (after_blanks u)) (λ c' at' r. read_words n row c' at' r))) e
    ∙ ap (λ (x : Read). next row c at u x (λ c' at' r. read_words n row c' at' r)) (wrong_next c f (after_blanks u) r w)
    ∙ ap (bad_at f) (sym s)
wrong_read (suc n) row c at u (k ∷ ks) f o h (e, r, w, q) =
    let a = shrinks k (after_blanks u) r w.within in
    let b = blanks_within u in
    let ih = wrong_read n row (counted c (kind_of k)) (off at u r) r ks f o (omega arith) q in
    ap (λ (b : Bool). cond b (good []) (next row c at u (next_at c (after_blanks u)) (λ c' at' r. read_words n row c' at' r))) e
    ∙ ap (λ (x : Read). next row c at u x (λ c' at' r. read_words n row c' at' r)) (next_read c k (after_blanks u) r w)
    ∙ ap (onto (token row (kind_of k) (off at u (after_blanks u)) (off at u r))) ih

-- ---- where

pub wrong_place : (ks : List Word) (c : Count) (at : ℕ) (u : List ℕ) (f : Fault) (o : ℕ) → WrongIn ks c at u f o → (at ≤ o) × (o ≤ at + length u)
wrong_place [] c at u f o (e, r, w, s) = (omega arith, omega arith)
wrong_place (k ∷ ks) c at u f o (e, r, w, q) =
    let ih = wrong_place ks (counted c (kind_of k)) (off at u r) r f o q in
    let a = shrinks k (after_blanks u) r w.within in
    let b = blanks_within u in
    let c = ih.0 in let d = ih.1 in
    (omega arith, omega arith)
