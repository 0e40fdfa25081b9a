-- One token at a time.
use Rattle.std.proofs.Common.{◌≡◌, ℕ, suc, ◌+◌, ◌-◌, ◌<◌, ◌≤◌, nat_le, Bool, true, false, cond, ◌&&◌, List, [], ◌∷◌, ◌++◌, length, refl, sym, ap, subst, ◌∙◌, arith, append_assoc, Err}
use Rattle.wy_text.specs.declared.token.Token.{Token}
use Rattle.wy_text.specs.declared.token.TokenKind.{TokenKind}
use Rattle.wy_layout.specs.Words.{Word, kind_of, Within, fits, passes}
use Rattle.wy_text.specs.TokenLists.{is_counted, most_marks}
use Rattle.wy_layout.specs.Counts.{counted, passed, most_tokens}
use Rattle.wy_layout.specs.Read.{Read, yes, bad, word_at, next_at, by_count, by_limit}
use Rattle.wy_layout.specs.Faults.{IsWithin}
use Rattle.wy_layout.specs.Lines.{after_blanks, is_done}
use Rattle.wy_layout.specs.Layout.{token, off, IsNext}
use Rattle.wy_layout.specs.Lexed.{Found, good, bad_at, onto, next, read_words, words_of}
use Rattle.wy_layout.specs.Gives.{given, as_kind, GivesWord}
use Rattle.wy_layout.specs.Turns.{StopsWithin, halt_of, GivesTurn, prepend, IsTurn}
use Rattle.wy_layout.specs.declared.count.Count.{Count}
use Rattle.wy_layout.specs.declared.row.Row.{Row}
use Rattle.wy_layout.specs.declared.words.Stop.{Stop}
use Rattle.wy_layout.specs.declared.words.Stop.TheVariants.{At, Memory}
use Rattle.wy_layout.specs.declared.refusal.Fault.{Fault}
use Rattle.wy_layout.specs.declared.refusal.Fault.TheVariants as fault
use Rattle.wy_layout.proofs.WordRead.{WordIs, word_is, NextIs, next_is}
use Rattle.wy_layout.proofs.LineWords.{FoundIs, words_are, words_read, wrong_read, shrinks, wrong_within, blanks_within}

-- more turns than characters read the same
fuel : (n : ℕ) (row : Row) (c : Count) (at : ℕ) (u : List ℕ) → length u < n → read_words n row c at u ≡ words_of row c at u
unfolding words_of
fuel n row c at u h = go (read_words n row c at u) refl (words_are n row c at u h)
  where
    go : (x : Found) → read_words n row c at u ≡ x → FoundIs row c at u x → read_words n row c at u ≡ read_words (suc (length u)) row c at u
    go (good ts) e w = e ∙ sym (words_read (suc (length u)) row c at u ts (omega arith) w)
    go (bad_at f o) e (ks, w) = e ∙ sym (wrong_read (suc (length u)) row c at u ks f o (omega arith) w)

pub done : (row : Row) (c : Count) (at : ℕ) (u : List ℕ) → is_done (after_blanks u) ≡ true → words_of row c at u ≡ good []
unfolding words_of
done row c at u h = rw h refl

opened : (row : Row) (c : Count) (at : ℕ) (u : List ℕ) (x : Read) → is_done (after_blanks u) ≡ false → next_at c (after_blanks u) ≡ x →
    words_of row c at u ≡ next row c at u x (λ c' at' r. read_words (length u) row c' at' r)
unfolding words_of
opened row c at u x h e =
    ap (λ (b : Bool). cond b (good []) (next row c at u (next_at c (after_blanks u)) (λ c' at' r. read_words (length u) row c' at' r))) h
    ∙ ap (λ (x : Read). next row c at u x (λ c' at' r. read_words (length u) row c' at' r)) e

-- the word that the code's kind is of
pub record IsWordAt (k : TokenKind) (v r : List ℕ) : Type 0 where
  pub word : Word
  pub reads : word_at v ≡ yes word r
  pub is_kind : kind_of word ≡ k

pub word_given : (k : TokenKind) (v r : List ℕ) → as_kind (word_at v) ≡ given k r → IsWordAt k v r
word_given k v r h = go (word_at v) refl h
  where
    parts : (k k' : TokenKind) (r r' : List ℕ) → given k r ≡ given k' r' → (k ≡ k') × (r ≡ r')
    parts k k' r r' e = (cc, cc)

    go : (x : Read) → word_at v ≡ x → as_kind x ≡ given k r → IsWordAt k v r
    go (yes w r') e h = let p = parts (kind_of w) k r' r h in record { word = w; reads = e ∙ ap (yes w) p.1; is_kind = p.0 }
    go (bad f r') e h = absurd cc

room_of : (c : Count) (k : TokenKind) → passed c k ≡ fits → c.tokens < most_tokens
room_of c k h = go (nat_le most_tokens c.tokens) refl h
  where
    not_le : (a b : ℕ) → nat_le a b ≡ false → b < a
    not_le a b h = grind arith

    go : (b : Bool) → nat_le most_tokens c.tokens ≡ b → cond b (passes fault.Tokens) (cond (is_counted c.open_braces k && nat_le most_marks c.marks) (passes fault.Marks) fits) ≡ fits → c.tokens < most_tokens
    go true e h = absurd cc
    go false e h = not_le most_tokens c.tokens e

by_next : (c : Count) (v r : List ℕ) (w : Word) → word_at v ≡ yes w r → (x : Within) → passed c (kind_of w) ≡ x → next_at c v ≡ by_limit x w v r
unfolding next_at
by_next c v r w e x p = ap (by_count c v) e ∙ ap (λ (o : Within). by_limit o w v r) p

-- a turn with a token
pub turn_from : (row : Row) (c : Count) (at : ℕ) (u v r : List ℕ) (k : TokenKind) (t : Token) → v ≡ after_blanks u → is_done v ≡ false → as_kind (word_at v) ≡ given k r →
    passed c k ≡ fits → t ≡ token row k (at + (length u - length v)) (at + (length u - length r)) → IsTurn row c at u t r
turn_from row c at u v r k t p d h q s = go (word_given k v r h)
  where
    go : IsWordAt k v r → IsTurn row c at u t r
    go h =
        let n : next_at c v ≡ yes h.word r = by_next c v r h.word h.reads fits (ap (passed c) h.is_kind ∙ q) in
        let m : next_at c (after_blanks u) ≡ yes h.word r = ap (next_at c) (sym p) ∙ n in
        let w : IsNext c h.word (after_blanks u) r = subst (NextIs c (after_blanks u)) m (next_is c (after_blanks u)) in
        let a = shrinks h.word (after_blanks u) r w.within in
        let b = blanks_within u in
        let is_token : t ≡ token row (kind_of h.word) (off at u (after_blanks u)) (off at u r) =
        s ∙ ap (λ (k : TokenKind). token row k (at + (length u - length v)) (at + (length u - length r))) (sym h.is_kind)
        ∙ ap (λ (z : List ℕ). token row (kind_of h.word) (off at u z) (off at u r)) p in
        let e : t.end ≡ off at u r = ap (λ (x : Token). x.end) s in
        record {
          reads = opened row c at u (yes h.word r) (ap is_done (sym p) ∙ d) m
              ∙ ap (onto (token row (kind_of h.word) (off at u (after_blanks u)) (off at u r))) (fuel (length u) row (counted c (kind_of h.word)) (off at u r) r (omega arith))
              ∙ ap (λ (x : Token). onto x (words_of row (counted c (kind_of h.word)) (off at u r) r)) (sym is_token)
              ∙ ap (λ (k : TokenKind). onto t (words_of row (counted c k) (off at u r) r)) (sym (ap (λ (x : Token). x.kind) is_token))
              ∙ ap (λ (z : ℕ). onto t (words_of row (counted c t.kind) z r)) (sym e);
          shorter = omega arith;
          place = omega arith;
          room = room_of c k q;
        }

-- a word that passes a limit that is counted
pub passes_from : (row : Row) (c : Count) (at : ℕ) (u v r : List ℕ) (k : TokenKind) (f : Fault) → v ≡ after_blanks u → is_done v ≡ false → as_kind (word_at v) ≡ given k r →
    passed c k ≡ passes f → words_of row c at u ≡ bad_at f (at + (length u - length v))
passes_from row c at u v r k f p d h q = go (word_given k v r h)
  where
    go : IsWordAt k v r → words_of row c at u ≡ bad_at f (at + (length u - length v))
    go h =
        let n : next_at c v ≡ bad f v = by_next c v r h.word h.reads (passes f) (ap (passed c) h.is_kind ∙ q) in
        opened row c at u (bad f v) (ap is_done (sym p) ∙ d) (ap (next_at c) (sym p) ∙ n)

pub given_shorter : (k : TokenKind) (v r : List ℕ) → as_kind (word_at v) ≡ given k r → length r < length v
given_shorter k v r h = go (word_given k v r h)
  where
    go : IsWordAt k v r → length r < length v
    go h = let w : IsWithin h.word v r = subst (WordIs v) h.reads (word_is v) in shrinks h.word v r w

bad_next : (c : Count) (v r : List ℕ) (f : Fault) → word_at v ≡ bad f r → next_at c v ≡ bad f r
unfolding next_at
bad_next c v r f e = ap (by_count c v) e

bad_within : (v r : List ℕ) (f : Fault) → word_at v ≡ bad f r → length r ≤ length v
bad_within v r f e = wrong_within (record { tokens = 0; marks = 0; open_braces = 0 }) f v r (subst (NextIs _ v) (bad_next _ v r f e) (next_is _ v))

pub stop_within : (s : Stop) (u v : List ℕ) → length v ≤ length u → GivesWord (Err s) (word_at v) → StopsWithin s u
stop_within (At f r) u v w e = let h = bad_within v r.now f e in omega arith
stop_within Memory u v w e = tt

pub stop_turn : (s : Stop) (row : Row) (c : Count) (at : ℕ) (u v : List ℕ) → v ≡ after_blanks u → is_done v ≡ false → GivesWord (Err s) (word_at v) → GivesTurn (Err (halt_of s at u)) row c at u
stop_turn (At f r) row c at u v p d e = opened row c at u (bad f r.now) (ap is_done (sym p) ∙ d) (ap (next_at c) (sym p) ∙ bad_next c v r.now f e)
stop_turn Memory row c at u v p d e = tt

pub pushed : (ts : List Token) (t : Token) (x : Found) → prepend (ts ++ t ∷ []) x ≡ prepend ts (onto t x)
pushed ts t (bad_at f o) = refl
pushed ts t (good us) = ap good (append_assoc ts (t ∷ []) us)
