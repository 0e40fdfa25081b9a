-- Reading all lines of a file gives the layout's tokens exactly where there are any, and else the first fault.
use Rattle.std.proofs.Common.{◌≡◌, ℕ, ◌+◌, ◌<◌, ◌≤◌, ◌==◌, nat_lt, Bool, true, false, cond, ◌&&◌, ◌||◌, List, [], ◌∷◌, length, take, take_all, refl, sym, ap, subst, ◌∙◌, arith, inl, inr, ltb-true, ltb-false, IsUtf8, le-ltb}
use Rattle.std.proofs.lemmas.Str.{utf8_valid_len-IsUtf8}
use Rattle.std.specs.Str.Lossy.{utf8_valid_len}
use Rattle.wy_text.specs.declared.token.Token.{Token}
use Rattle.wy_layout.specs.Counts.{most_tokens}
use Rattle.wy_layout.specs.Widths.{opens}
use Rattle.wy_layout.specs.Lines.{Line, lines, first_row}
use Rattle.wy_layout.specs.Layout.{LineTokens, widths, closing, Lays, FileFault, rank, Before, judged_text, TextFault, FaultAt, IsLeast, Lexes}
use Rattle.wy_layout.specs.Lexed.{LineOut, laid, broken, line_out, Lexed, tokens, refused, join, by_out, end_of, lex_lines, lex_text, or_utf8, lex_bytes}
use Rattle.wy_layout.specs.declared.row.Row.{Row}
use Rattle.wy_layout.specs.declared.refusal.Fault.{Fault}
use Rattle.wy_layout.specs.declared.refusal.Fault.TheVariants as fault
use Rattle.wy_layout.proofs.Least.{OutIs, LeastIn, line_is, tokens_read, one_tokens, tokens_none}

pub record IsRefusal (e n : ℕ) (ws : List ℕ) (ls : List Line) (f : Fault) (o : ℕ) : Type 0 where
  pub stands : FileFault e n ws ls f o
  pub least : (f' : Fault) (o' : ℕ) → FileFault e n ws ls f' o' → Before o f o' f'

abbrev pub LexedIs : Row → ℕ → ℕ → List ℕ → List Line → Lexed → Type 0
LexedIs row e n ws ls (tokens ts) = Lays row e n ws ls ts
LexedIs row e n ws ls (refused f o) = IsRefusal e n ws ls f o

-- a fault of the first line comes before those behind it, which there are none of
first_least : (e n : ℕ) (ws : List ℕ) (l : Line) (ls : List Line) (f : Fault) (o : ℕ) → LeastIn n ws l f o → IsRefusal e n ws (l ∷ ls) f o
first_least e n ws l ls f o h = record { stands = inl h.stands; least = λ f' o' g. go f' o' g }
  where
    go : (f' : Fault) (o' : ℕ) → FileFault e n ws (l ∷ ls) f' o' → Before o f o' f'
    go f' o' (inl g) = h.least f' o' g
    go f' o' (inr (us, t, g)) = absurd (tokens_none n ws l us t f o h.stands)

-- a line with tokens leaves it to the others
later_least : (e n : ℕ) (ws : List ℕ) (l : Line) (ls : List Line) (us : List Token) (f : Fault) (o : ℕ) → LineTokens n ws l us →
    IsRefusal e (n + length us) (widths ws l) ls f o → IsRefusal e n ws (l ∷ ls) f o
later_least e n ws l ls us f o t h = record { stands = inr (us, t, h.stands); least = λ f' o' g. go f' o' g }
  where
    go : (f' : Fault) (o' : ℕ) → FileFault e n ws (l ∷ ls) f' o' → Before o f o' f'
    go f' o' (inl g) = absurd (tokens_none n ws l us t f' o' g)
    go f' o' (inr (vs, k, g)) = h.least f' o' (subst (λ (z : List Token). FileFault e (n + length z) (widths ws l) ls f' o') (sym (one_tokens n ws l us vs t k)) g)

end_is : (row : Row) (e n : ℕ) (ws : List ℕ) → LexedIs row e n ws [] (end_of row e n (opens ws))
end_is row e n ws = go (nat_lt most_tokens (n + length (opens ws))) refl
  where
    go : (b : Bool) → nat_lt most_tokens (n + length (opens ws)) ≡ b → LexedIs row e n ws [] (cond b (refused fault.Tokens e) (tokens (closing row e (opens ws))))
    go true h = record { stands = (ltb-true _ _ h, refl, refl); least = λ f' o' g. inr (sym g.2, let a = ap rank g.1 in omega arith) }
    go false h = (ltb-false _ _ h, refl)

pub lexed_is : (row : Row) (e n : ℕ) (ws : List ℕ) (ls : List Line) → LexedIs row e n ws ls (lex_lines row e n (opens ws) ls)
lexed_is row e n ws [] = end_is row e n ws
lexed_is row e n ws (l ∷ ls) = go (line_out n (opens ws) l) (line_is n ws l) (λ us. lexed_is l.row e (n + length us) (widths ws l) ls)
  where
    joined : (us : List Token) → LineTokens n ws l us → (x : Lexed) → LexedIs l.row e (n + length us) (widths ws l) ls x → LexedIs row e n ws (l ∷ ls) (join us x)
    joined us t (tokens more) h = (us, more, t, refl, h)
    joined us t (refused f o) h = later_least e n ws l ls us f o t h

    go : (x : LineOut) → OutIs n ws l x → ((us : List Token) → LexedIs l.row e (n + length us) (widths ws l) ls (lex_lines l.row e (n + length us) (opens (widths ws l)) ls)) →
        LexedIs row e n ws (l ∷ ls) (by_out x (λ us s. lex_lines l.row e (n + length us) s ls))
    go (broken f o) h ih = first_least e n ws l ls f o h
    go (laid us st) (t, s) ih = joined us t (lex_lines l.row e (n + length us) st ls) (subst (λ (z : List ℕ). LexedIs l.row e (n + length us) (widths ws l) ls (lex_lines l.row e (n + length us) z ls)) (sym s) (ih us))

-- ---- and back: what the layout lays is read

pub laid_read : (row : Row) (e n : ℕ) (ws : List ℕ) (ls : List Line) (ts : List Token) → Lays row e n ws ls ts → lex_lines row e n (opens ws) ls ≡ tokens ts
laid_read row e n ws [] ts h = let k : nat_lt most_tokens (n + length (opens ws)) ≡ false = le-ltb _ _ h.0 in ap (λ (b : Bool). cond b (refused fault.Tokens e) (tokens (closing row e (opens ws)))) k ∙ ap tokens (sym h.1)
laid_read row e n ws (l ∷ ls) ts (us, more, t, p, h) =
    ap (λ (x : LineOut). by_out x (λ us s. lex_lines l.row e (n + length us) s ls)) (tokens_read n ws l us t)
    ∙ ap (join us) (laid_read l.row e (n + length us) (widths ws l) ls more h)
    ∙ ap tokens (sym p)

-- where the layout lays tokens, nothing is wrong
pub laid_none : (row : Row) (e n : ℕ) (ws : List ℕ) (ls : List Line) (ts : List Token) → Lays row e n ws ls ts → (f : Fault) (o : ℕ) → FileFault e n ws ls f o → ⊥
laid_none row e n ws [] ts h f o g = let a = h.0 in let b = g.0 in absurd (omega arith)
laid_none row e n ws (l ∷ ls) ts (us, more, t, p, h) f o (inl g) = tokens_none n ws l us t f o g
laid_none row e n ws (l ∷ ls) ts (us, more, t, p, h) f o (inr (vs, k, g)) =
    laid_none l.row e (n + length us) (widths ws l) ls more h f o (subst (λ (z : List Token). FileFault e (n + length z) (widths ws l) ls f o) (sym (one_tokens n ws l us vs t k)) g)

-- ---- a file

-- what lexing a file within the limit on bytes must give
abbrev pub LexIs : ℕ → List ℕ → Lexed → Type 0
LexIs file bs (tokens ts) = (length bs ≤ utf8_valid_len bs) × Lays (first_row file) (length bs) 0 [] (lines (first_row file) bs) ts
LexIs file bs (refused f o) = IsLeast file bs f o

-- the faults of the text against the first byte that begins no character
against : (file : ℕ) (bs : List ℕ) → utf8_valid_len bs < length bs → (x : Lexed) → LexedIs (first_row file) (length (judged_text bs)) 0 [] (lines (first_row file) (judged_text bs)) x →
    LexIs file bs (or_utf8 (utf8_valid_len bs) x)
against file bs h (tokens ts) w = record { stands = inl (refl, refl, h); least = λ f' o' g. go f' o' g }
  where
    go : (f' : Fault) (o' : ℕ) → FaultAt file bs f' o' → Before (utf8_valid_len bs) fault.NotUtf8 o' f'
    go f' o' (inl g) = inr (sym g.1, let a = ap rank g.0 in omega arith)
    go f' o' (inr g) = absurd (laid_none (first_row file) (length (judged_text bs)) 0 [] (lines (first_row file) (judged_text bs)) ts w f' o' g.1)
against file bs h (refused f o) w = pick (nat_lt o (utf8_valid_len bs)) refl (o == utf8_valid_len bs) refl (nat_lt (rank f) (rank fault.NotUtf8)) refl
  where
    is_same : (a b : ℕ) → (a == b) ≡ true → a ≡ b
    is_same a b h = grind arith

    no_same : (a b : ℕ) → (a == b) ≡ false → a ≡ b → ⊥
    no_same a b h e = grind arith

    itself : o ≤ utf8_valid_len bs → Before o f (utf8_valid_len bs) fault.NotUtf8 → LexIs file bs (refused f o)
    itself k b = record { stands = inr ((λ q. k), w.stands); least = λ f' o' g. each f' o' g }
      where
        at_it : (f' : Fault) (o' : ℕ) → f' ≡ fault.NotUtf8 → o' ≡ utf8_valid_len bs → Before o f (utf8_valid_len bs) fault.NotUtf8 → Before o f o' f'
        at_it f' o' p q (inl l) = inl (omega arith)
        at_it f' o' p q (inr e) = let a = ap rank p in let c = e.0 in let d = e.1 in inr (omega arith, omega arith)

        each : (f' : Fault) (o' : ℕ) → FaultAt file bs f' o' → Before o f o' f'
        each f' o' (inl g) = at_it f' o' g.0 g.1 b
        each f' o' (inr g) = w.least f' o' g.1

    other : ((f' : Fault) (o' : ℕ) → o' ≤ utf8_valid_len bs → Before o f o' f' → Before (utf8_valid_len bs) fault.NotUtf8 o' f') → LexIs file bs (refused fault.NotUtf8 (utf8_valid_len bs))
    other late = record { stands = inl (refl, refl, h); least = λ f' o' g. each f' o' g }
      where
        each : (f' : Fault) (o' : ℕ) → FaultAt file bs f' o' → Before (utf8_valid_len bs) fault.NotUtf8 o' f'
        each f' o' (inl g) = inr (sym g.1, let a = ap rank g.0 in omega arith)
        each f' o' (inr g) = late f' o' (g.0 h) (w.least f' o' g.1)

    behind : (o ≡ utf8_valid_len bs → ⊥) → utf8_valid_len bs ≤ o → (f' : Fault) (o' : ℕ) → o' ≤ utf8_valid_len bs → Before o f o' f' → Before (utf8_valid_len bs) fault.NotUtf8 o' f'
    behind n k f' o' l (inl a) = absurd (omega arith)
    behind n k f' o' l (inr a) = let e = a.0 in absurd (n (omega arith))

    there : o ≡ utf8_valid_len bs → rank fault.NotUtf8 ≤ rank f → (f' : Fault) (o' : ℕ) → o' ≤ utf8_valid_len bs → Before o f o' f' → Before (utf8_valid_len bs) fault.NotUtf8 o' f'
    there e k f' o' l (inl a) = absurd (omega arith)
    there e k f' o' l (inr a) = let p = a.0 in let q = a.1 in inr (omega arith, omega arith)

    pick : (a : Bool) → nat_lt o (utf8_valid_len bs) ≡ a → (b : Bool) → (o == utf8_valid_len bs) ≡ b → (c : Bool) → nat_lt (rank f) (rank fault.NotUtf8) ≡ c →
        LexIs file bs (cond (a || (b && c)) (refused f o) (refused fault.NotUtf8 (utf8_valid_len bs)))
    pick true p b q c r = let l = ltb-true _ _ p in itself (omega arith) (inl l)
    pick false p true q true r = let e = is_same _ _ q in let l = ltb-true _ _ r in itself (omega arith) (inr (e, omega arith))
    pick false p true q false r = let l = ltb-false _ _ r in other (there (is_same _ _ q) l)
    pick false p false q c r = let l = ltb-false _ _ p in other (behind (no_same _ _ q) l)

whole : (file : ℕ) (bs : List ℕ) → length bs ≤ utf8_valid_len bs → (x : Lexed) → LexedIs (first_row file) (length bs) 0 [] (lines (first_row file) bs) x → LexIs file bs x
whole file bs h (tokens ts) w = (h, w)
whole file bs h (refused f o) w = record { stands = inr ((λ k. absurd (omega arith)), subst (λ (z : List ℕ). TextFault file z f o) (sym text) w.stands); least = λ f' o' g. each f' o' g }
  where
    text : judged_text bs ≡ bs
    text = take_all (utf8_valid_len bs + 1) bs (omega arith)

    each : (f' : Fault) (o' : ℕ) → FaultAt file bs f' o' → Before o f o' f'
    each f' o' (inl g) = absurd (let a = g.2 in omega arith)
    each f' o' (inr g) = w.least f' o' (subst (λ (z : List ℕ). TextFault file z f' o') text g.1)

pub lex_is : (file : ℕ) (bs : List ℕ) → LexIs file bs (lex_bytes file bs)
lex_is file bs = go (nat_lt (utf8_valid_len bs) (length bs)) refl
  where
    go : (b : Bool) → nat_lt (utf8_valid_len bs) (length bs) ≡ b → LexIs file bs (cond b (or_utf8 (utf8_valid_len bs) (lex_text file (judged_text bs))) (lex_text file bs))
    go true e = against file bs (ltb-true _ _ e) (lex_text file (judged_text bs)) (lexed_is (first_row file) (length (judged_text bs)) 0 [] (lines (first_row file) (judged_text bs)))
    go false e = whole file bs (ltb-false _ _ e) (lex_text file bs) (lexed_is (first_row file) (length bs) 0 [] (lines (first_row file) bs))

-- what the layout relates to the file is what is given
pub lexes_read : (file : ℕ) (bs : List ℕ) (ts : List Token) → Lexes file bs ts → lex_bytes file bs ≡ tokens ts
lexes_read file bs ts h =
    ap (λ (b : Bool). cond b (or_utf8 (utf8_valid_len bs) (lex_text file (judged_text bs))) (lex_text file bs)) (le-ltb (utf8_valid_len bs) (length bs) h.is_text)
    ∙ laid_read (first_row file) (length bs) 0 [] (lines (first_row file) bs) ts h.laid

-- a file has one list of tokens at most
pub one_list : (file : ℕ) (bs : List ℕ) (ts us : List Token) → Lexes file bs ts → Lexes file bs us → ts ≡ us
one_list file bs ts us h k = same ts us (sym (lexes_read file bs ts h) ∙ lexes_read file bs us k)
  where
    same : (ts us : List Token) → tokens ts ≡ tokens us → ts ≡ us
    same ts us e = cc

-- a file with tokens has nothing wrong in it
pub lexes_none : (file : ℕ) (bs : List ℕ) (ts : List Token) → Lexes file bs ts → (f : Fault) (o : ℕ) → FaultAt file bs f o → ⊥
lexes_none file bs ts h f o (inl g) = let a = h.is_text in let b = g.2 in absurd (omega arith)
lexes_none file bs ts h f o (inr g) =
    laid_none (first_row file) (length bs) 0 [] (lines (first_row file) bs) ts h.laid f o (subst (λ (z : List ℕ). TextFault file z f o) (take_all (utf8_valid_len bs + 1) bs (let a = h.is_text in omega arith)) g.1)

rank_one : (f g : Fault) → rank f ≡ rank g → f ≡ g
rank_one f g e = ranked f ∙ ap fault_ranked e ∙ sym (ranked g)
  where
    fault_ranked : ℕ → Fault
    fault_ranked n =
        cond (n == 0) fault.NameBytes (cond (n == 1) fault.Tokens (cond (n == 2) fault.Indents (cond (n == 3) fault.Marks (cond (n == 4) fault.NotUtf8
        (cond (n == 5) fault.TabIndent (cond (n == 6) fault.BadDedent (cond (n == 7) fault.BadCharacter (cond (n == 8) fault.OpenText (cond (n == 9) fault.BadEscape fault.NumberTooLarge)))))))))

    ranked : (f : Fault) → f ≡ fault_ranked (rank f)
    ranked fault.NameBytes = refl
    ranked fault.Tokens = refl
    ranked fault.Indents = refl
    ranked fault.Marks = refl
    ranked fault.NotUtf8 = refl
    ranked fault.TabIndent = refl
    ranked fault.BadDedent = refl
    ranked fault.BadCharacter = refl
    ranked fault.OpenText = refl
    ranked fault.BadEscape = refl
    ranked fault.NumberTooLarge = refl

-- no two things come first
pub one_fault : (file : ℕ) (bs : List ℕ) (f g : Fault) (o p : ℕ) → IsLeast file bs f o → IsLeast file bs g p → (f ≡ g) × (o ≡ p)
one_fault file bs f g o p h k = both (h.least g p k.stands) (k.least f o h.stands)
  where
    both : Before o f p g → Before p g o f → (f ≡ g) × (o ≡ p)
    both (inl a) (inl b) = absurd (omega arith)
    both (inl a) (inr b) = absurd (let c = b.0 in omega arith)
    both (inr a) (inl b) = absurd (let c = a.0 in omega arith)
    both (inr a) (inr b) = (rank_one f g (let c = a.1 in let d = b.1 in omega arith), a.0)

-- a file that is text whole is read as a text
pub text_read : (file : ℕ) (bs : List ℕ) → IsUtf8 bs → lex_bytes file bs ≡ lex_text file bs
text_read file bs u =
    let e = utf8_valid_len-IsUtf8 bs u in
    ap (λ (b : Bool). cond b (or_utf8 (utf8_valid_len bs) (lex_text file (judged_text bs))) (lex_text file bs)) (le-ltb (utf8_valid_len bs) (length bs) (omega arith))

-- a file that is text up to an offset
pub cut_read : (file : ℕ) (bs z : List ℕ) (v : ℕ) → v ≡ utf8_valid_len bs → v < length bs → z ≡ take (v + 1) bs → lex_bytes file bs ≡ or_utf8 v (lex_text file z)
cut_read file bs z v e h p =
    let n : nat_lt (utf8_valid_len bs) (length bs) ≡ true = less (utf8_valid_len bs) (length bs) (omega arith) in
    ap (λ (b : Bool). cond b (or_utf8 (utf8_valid_len bs) (lex_text file (judged_text bs))) (lex_text file bs)) n
    ∙ ap (λ (m : ℕ). or_utf8 m (lex_text file (take (m + 1) bs))) (sym e)
    ∙ ap (λ (u : List ℕ). or_utf8 v (lex_text file u)) (sym p)
  where
    less : (a b : ℕ) → a < b → nat_lt a b ≡ true
    less a b h = grind arith
