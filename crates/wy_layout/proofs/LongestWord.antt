-- The word that is read at a place is the longest word there.
use Rattle.std.proofs.Common.{◌≡◌, ℕ, suc, ◌+◌, ◌<◌, ◌≤◌, ◌==◌, nat_lt, Bool, true, false, not, ◌&&◌, ◌||◌, cond, List, [], ◌∷◌, ◌++◌, length, take, drop, refl, sym, ap, subst, ◌∙◌, append_assoc, append-nil, arith, take-append-drop, length-drop, length-append, take_all, lt-ltb, Some, ◌⊎◌, inl, inr, ◌≢◌}
use Rattle.std.specs.Char.{is_ascii_alphabetic, is_ascii_alphanumeric, is_ascii_digit}
use Rattle.unicode_ident.specs.Ident.{is_xid_continue}
use Rattle.unicode_ident.proofs.IdentLemmas.{is_xid_continue-ascii}
use Rattle.std.specs.Str.{continuation_len}
use Rattle.wy_text.specs.declared.token.TokenKind.{TokenKind}
use Rattle.wy_text.specs.Spelling.{spelling_of}
use Rattle.wy_layout.specs.Names.{head_char, starts, go_on, is_name}
use Rattle.wy_layout.specs.Texts.{IsText, spell}
use Rattle.wy_layout.specs.Words.{Word, name, number, text, fixed, reserved, symbols, same, lookup, is_some, among, all_digits, is_number, value_from, IsWord}
use Rattle.wy_layout.specs.Read.{Scan, closed, stuck, scan, Read, yes, bad, text_read, digits_len, number_read, name_len, first_len, name_word, name_read, symbol_read, longest_at}
use Rattle.wy_layout.specs.Faults.{IsTextFault}
use Rattle.wy_layout.specs.declared.refusal.Fault.TheVariants as fault
use Rattle.wy_layout.specs.declared.escape.State.TheVariants as state
use Rattle.wy_layout.proofs.Scanning.{and_left, and_right, not_is, eq_is, ScanIs, scan_is, scan_closed}
use Rattle.wy_layout.proofs.NameRuns.{both, first_taken, name_reach, starts_same, starts_ascii, head_ascii}

-- ---- tables

lt_is : (b n : ℕ) → nat_lt b n ≡ true → b < n
lt_is b n h = grind arith

pub same_is : (u v : List ℕ) → same u v ≡ true → u ≡ v
same_is [] [] e = refl
same_is [] (b ∷ v) e = absurd cc
same_is (a ∷ u) [] e = absurd cc
same_is (a ∷ u) (b ∷ v) e =
    let h : a ≡ b = eq_is a b (and_right (same u v) (a == b) e) in
    let t = same_is u v (and_left (same u v) (a == b) e) in
    ap (λ (z : ℕ). z ∷ u) h ∙ ap (λ (z : List ℕ). b ∷ z) t

abbrev pub every : (List ℕ → Bool) → List TokenKind → Bool
every P [] = true
every P (k ∷ ks) = P (spelling_of k) && every P ks

pub among_holds : (P : List ℕ → Bool) (u : List ℕ) (ks : List TokenKind) → every P ks ≡ true → among u ks ≡ true → P u ≡ true
among_holds P u [] a e = absurd (let t : false ≡ true = e in cc)
among_holds P u (k ∷ ks) a e = go (same u (spelling_of k)) refl e (λ h. among_holds P u ks (and_right (P (spelling_of k)) (every P ks) a) h)
  where
    go : (b : Bool) → same u (spelling_of k) ≡ b → is_some (cond b (Some k) (lookup u ks)) ≡ true → (among u ks ≡ true → P u ≡ true) → P u ≡ true
    go true h e ih = ap P (same_is u (spelling_of k) h) ∙ and_left (P (spelling_of k)) (every P ks) a
    go false h e ih = ih e

-- a word of ASCII letters and underscores is a name's form
abbrev letter : ℕ → Bool
letter b = nat_lt b 128 && (is_ascii_alphabetic b || (b == 95))

abbrev letters : List ℕ → Bool
letters [] = true
letters (b ∷ bs) = letter b && letters bs

abbrev lettered : List ℕ → Bool
lettered [] = false
lettered (b ∷ bs) = letter b && letters bs

small : (b : ℕ) → letter b ≡ true → b < 128
small b h = lt_is b 128 (and_left (nat_lt b 128) (is_ascii_alphabetic b || (b == 95)) h)

pub no_more : (b : ℕ) → b < 128 → continuation_len b ≡ 0
no_more b h = let e : nat_lt b 128 ≡ true = lt-ltb _ _ h in rw e refl

goes : (b : ℕ) → letter b ≡ true → (is_ascii_alphanumeric b || (b == 95)) ≡ true
goes b h = let k = and_right (nat_lt b 128) (is_ascii_alphabetic b || (b == 95)) h in grind arith

letters_go : (bs : List ℕ) → letters bs ≡ true → go_on 0 bs ≡ true
letters_go [] h = refl
letters_go (b ∷ bs) h =
    let l = and_left (letter b) (letters bs) h in
    let s = small b l in
    let ih = letters_go bs (and_right (letter b) (letters bs) h) in
    both (is_xid_continue (head_char (b ∷ bs))) (go_on (continuation_len b) bs)
    (ap is_xid_continue (head_ascii b bs s) ∙ is_xid_continue-ascii b s ∙ goes b l)
    (ap (λ (n : ℕ). go_on n bs) (no_more b s) ∙ ih)

lettered_name : (w : List ℕ) → lettered w ≡ true → is_name w ≡ true
lettered_name [] h = absurd (let t : false ≡ true = h in cc)
lettered_name (b ∷ bs) h =
    let l = and_left (letter b) (letters bs) h in
    let s = small b l in
    both (starts (b ∷ bs)) (go_on (continuation_len b) bs)
    (starts_ascii b bs s ∙ and_right (nat_lt b 128) (is_ascii_alphabetic b || (b == 95)) l)
    (ap (λ (n : ℕ). go_on n bs) (no_more b s) ∙ letters_go bs (and_right (letter b) (letters bs) h))

pub reserved_name : (w : List ℕ) → among w reserved ≡ true → is_name w ≡ true
reserved_name w h = lettered_name w (among_holds lettered w reserved refl h)

-- what begins a symbol begins nothing else
abbrev pub other : ℕ → Bool
other a = nat_lt a 128 && (not (is_ascii_alphabetic a || (a == 95)) && (not (is_ascii_digit a) && not (a == 34)))

abbrev pub symbol_like : List ℕ → Bool
symbol_like [] = false
symbol_like (a ∷ []) = other a
symbol_like (a ∷ b ∷ []) = other a
symbol_like (a ∷ b ∷ c ∷ u) = false

pub symbols_like : (w : List ℕ) → among w symbols ≡ true → symbol_like w ≡ true
symbols_like w h = among_holds symbol_like w symbols refl h

pub record IsOther (a : ℕ) (u : List ℕ) : Type 0 where
  pub no_quote : (a == 34) ≡ false
  pub no_digit : is_ascii_digit a ≡ false
  pub no_name : starts (a ∷ u) ≡ false

pub other_is : (a : ℕ) (u : List ℕ) → other a ≡ true → IsOther a u
other_is a u h =
    let x = and_left (nat_lt a 128) (not (is_ascii_alphabetic a || (a == 95)) && (not (is_ascii_digit a) && not (a == 34))) h in
    let k = and_right (nat_lt a 128) (not (is_ascii_alphabetic a || (a == 95)) && (not (is_ascii_digit a) && not (a == 34))) h in
    let y = and_left (not (is_ascii_alphabetic a || (a == 95))) (not (is_ascii_digit a) && not (a == 34)) k in
    let l = and_right (not (is_ascii_alphabetic a || (a == 95))) (not (is_ascii_digit a) && not (a == 34)) k in
    record {
      no_quote = not_is (a == 34) (and_right (not (is_ascii_digit a)) (not (a == 34)) l);
      no_digit = not_is (is_ascii_digit a) (and_left (not (is_ascii_digit a)) (not (a == 34)) l);
      no_name = starts_ascii a u (lt_is a 128 x) ∙ not_is (is_ascii_alphabetic a || (a == 95)) y;
    }

-- ---- runs

pub digits_reach : (w r : List ℕ) → all_digits w ≡ true → digits_len (w ++ r) ≡ length w + digits_len r
digits_reach [] r h = omega arith
digits_reach (b ∷ w) r h =
    let e = and_left (is_ascii_digit b) (all_digits w) h in
    let ih = digits_reach w r (and_right (is_ascii_digit b) (all_digits w) h) in
    rw e (omega arith)

pub digits_taken : (u : List ℕ) → all_digits (take (digits_len u) u) ≡ true
digits_taken [] = refl
digits_taken (b ∷ u) = go (is_ascii_digit b) refl (digits_taken u)
  where
    go : (t : Bool) → is_ascii_digit b ≡ t → all_digits (take (digits_len u) u) ≡ true → all_digits (take (cond t (suc (digits_len u)) 0) (b ∷ u)) ≡ true
    go true e ih = rw e ih
    go false e ih = refl

take_front : (w r : List ℕ) → take (length w) (w ++ r) ≡ w
take_front [] r = refl
take_front (x ∷ w) r = ap (λ (z : List ℕ). x ∷ z) (take_front w r)

pub cut_le : (n m : ℕ) (w r : List ℕ) → n ≡ length w + m → length (drop n (w ++ r)) ≤ length r
cut_le n m w r e = let a = length-drop n (w ++ r) in let b = length-append w r in omega arith

pub cut_same : (n m : ℕ) (w r : List ℕ) → n ≡ length w + m → length (drop n (w ++ r)) ≡ length r → take n (w ++ r) ≡ w
cut_same n m w [] e h = let l = length-append w [] in take_all n (w ++ []) (omega arith) ∙ append-nil w
cut_same n m w (x ∷ r) e h =
    let a = length-drop n (w ++ (x ∷ r)) in let b = length-append w (x ∷ r) in
    let k : n ≡ length w = omega arith in
    ap (λ (z : ℕ). take z (w ++ (x ∷ r))) k ∙ take_front w (x ∷ r)

-- ---- what is read is a word

abbrev pub FoundIs : List ℕ → Read → Type 0
FoundIs u (yes k r) = (w : List ℕ) × (u ≡ w ++ r) × IsWord k w
FoundIs [] (bad f r) = (f ≡ fault.BadCharacter) × (r ≡ [])
FoundIs (c ∷ cs) (bad f r) = ((c ≡ 34) × IsTextFault f cs r) ⊎ ((c ≢ 34) × (f ≡ fault.BadCharacter) × (r ≡ c ∷ cs))

text_is : (c : ℕ) (cs : List ℕ) → c ≡ 34 → (x : Scan) → ScanIs cs x → FoundIs (c ∷ cs) (text_read (c ∷ cs) x)
text_is c cs e (closed v r) h = (
  34 ∷ (spell h.pieces ++ 34 ∷ []),
  ap (λ (z : ℕ). z ∷ cs) e ∙ ap (λ (z : List ℕ). 34 ∷ z) (h.parts ∙ sym (append_assoc (spell h.pieces) (34 ∷ []) r)),
  record { pieces = h.pieces; are_good = h.are_good; quoted = refl; stands_for = h.stands_for },
)
text_is c cs e (stuck f r) h = inl (e, h)

name_is : (u : List ℕ) → starts u ≡ true → FoundIs u (name_read u)
name_is u h = let n = first_len u in (take n u, sym (take-append-drop n u), kind_is (take n u) (first_taken u h))
  where
    kind_is : (w : List ℕ) → is_name w ≡ true → IsWord (name_word w) w
    kind_is w h = go (among w reserved) refl
      where
        go : (b : Bool) → among w reserved ≡ b → IsWord (cond b (fixed w) (name w)) w
        go true e = (refl, inl e)
        go false e = (refl, h, e)

number_is : (c : ℕ) (cs : List ℕ) → is_ascii_digit c ≡ true → FoundIs (c ∷ cs) (number_read (c ∷ cs))
number_is c cs h = let n = digits_len (c ∷ cs) in (take n (c ∷ cs), sym (take-append-drop n (c ∷ cs)), (first, refl))
  where
    first : is_number (take (digits_len (c ∷ cs)) (c ∷ cs)) ≡ true
    first = rw h (both (is_ascii_digit c) (all_digits (take (digits_len cs) cs)) h (digits_taken cs))

symbol_is : (c : ℕ) (cs : List ℕ) → c ≢ 34 → FoundIs (c ∷ cs) (symbol_read (c ∷ cs))
symbol_is c cs ne = go (among (take 2 (c ∷ cs)) symbols) refl (among (take 1 (c ∷ cs)) symbols) refl
  where
    go : (a : Bool) → among (take 2 (c ∷ cs)) symbols ≡ a → (b : Bool) → among (take 1 (c ∷ cs)) symbols ≡ b →
        FoundIs (c ∷ cs) (cond a (yes (fixed (take 2 (c ∷ cs))) (drop 2 (c ∷ cs))) (cond b (yes (fixed (take 1 (c ∷ cs))) (drop 1 (c ∷ cs))) (bad fault.BadCharacter (c ∷ cs))))
    go true e b d = (take 2 (c ∷ cs), sym (take-append-drop 2 (c ∷ cs)), (refl, inr e))
    go false e true d = (take 1 (c ∷ cs), sym (take-append-drop 1 (c ∷ cs)), (refl, inr d))
    go false e false d = inr (ne, refl, refl)

pub found_is : (u : List ℕ) → FoundIs u (longest_at u)
found_is [] = (refl, refl)
found_is (c ∷ cs) = go (c == 34) refl (is_ascii_digit c) refl (starts (c ∷ cs)) refl
  where
    ne : (c == 34) ≡ false → c ≢ 34
    ne h = grind arith

    go : (a : Bool) → (c == 34) ≡ a → (b : Bool) → is_ascii_digit c ≡ b → (d : Bool) → starts (c ∷ cs) ≡ d →
        FoundIs (c ∷ cs) (cond a (text_read (c ∷ cs) (scan state.Plain cs)) (cond b (number_read (c ∷ cs)) (cond d (name_read (c ∷ cs)) (symbol_read (c ∷ cs)))))
    go true e b eb d ed = text_is c cs (eq_is c 34 e) (scan state.Plain cs) (scan_is state.Plain cs tt)
    go false e true eb d ed = number_is c cs eb
    go false e false eb true ed = name_is (c ∷ cs) ed
    go false e false eb false ed = symbol_is c cs (ne e)

-- ---- and every word at the front is reached

abbrev pub Reaches : Word → List ℕ → Read → Type 0
Reaches k' r' (yes k r) = (length r ≤ length r') × (length r ≡ length r' → k ≡ k')
Reaches k' r' (bad f r) = ⊥

pub at_digit : (c : ℕ) (cs : List ℕ) → (c == 34) ≡ false → is_ascii_digit c ≡ true → longest_at (c ∷ cs) ≡ number_read (c ∷ cs)
at_digit c cs q d = go (c == 34) q (is_ascii_digit c) d
  where
    go : (a : Bool) → a ≡ false → (b : Bool) → b ≡ true → cond a (text_read (c ∷ cs) (scan state.Plain cs)) (cond b (number_read (c ∷ cs)) (cond (starts (c ∷ cs)) (name_read (c ∷ cs)) (symbol_read (c ∷ cs)))) ≡ number_read (c ∷ cs)
    go a q b d = rw (q, d) refl

pub at_name : (c : ℕ) (cs : List ℕ) → (c == 34) ≡ false → is_ascii_digit c ≡ false → starts (c ∷ cs) ≡ true → longest_at (c ∷ cs) ≡ name_read (c ∷ cs)
at_name c cs q d n = rw (q, d, n) refl

pub at_symbol : (c : ℕ) (cs : List ℕ) → IsOther c cs → longest_at (c ∷ cs) ≡ symbol_read (c ∷ cs)
at_symbol c cs h = let q = h.no_quote in let d = h.no_digit in let n = h.no_name in rw (q, d, n) refl

reach_run : (mk : List ℕ → Word) (n m : ℕ) (w r : List ℕ) → n ≡ length w + m → Reaches (mk w) r (yes (mk (take n (w ++ r))) (drop n (w ++ r)))
reach_run mk n m w r e = (cut_le n m w r e, λ h. ap mk (cut_same n m w r e h))

pub no_digit_starts : (c : ℕ) (u : List ℕ) → starts (c ∷ u) ≡ true → is_ascii_digit c ≡ false
no_digit_starts c u h = go (is_ascii_digit c) refl
  where
    small : is_ascii_digit c ≡ true → c < 128
    small e = grind arith

    no_letter : is_ascii_digit c ≡ true → (is_ascii_alphabetic c || (c == 95)) ≡ false
    no_letter e = grind arith

    go : (b : Bool) → is_ascii_digit c ≡ b → is_ascii_digit c ≡ false
    go false e = e
    go true e = absurd (let t : false ≡ true = sym (no_letter e) ∙ sym (starts_ascii c u (small e)) ∙ h in cc)

pub no_quote_starts : (c : ℕ) (u : List ℕ) → starts (c ∷ u) ≡ true → (c == 34) ≡ false
no_quote_starts c u h = go (c == 34) refl
  where
    go : (b : Bool) → (c == 34) ≡ b → (c == 34) ≡ false
    go false e = e
    go true e = absurd (let q : c ≡ 34 = eq_is c 34 e in let t : false ≡ true = sym (starts_ascii 34 u (omega arith)) ∙ ap (λ (z : ℕ). starts (z ∷ u)) (sym q) ∙ h in cc)

reach_name : (w r : List ℕ) → is_name w ≡ true → Reaches (name_word w) r (longest_at (w ++ r))
reach_name [] r h = absurd cc
reach_name (b ∷ w) r h =
    let s = and_left (starts (b ∷ w)) (go_on (continuation_len b) w) h in
    let g = and_right (starts (b ∷ w)) (go_on (continuation_len b) w) h in
    let t : starts (b ∷ w ++ r) ≡ true = starts_same b w r g ∙ s in
    let l = name_reach (continuation_len b) w r g in
    let q = no_quote_starts b (w ++ r) t in
    let d = no_digit_starts b (w ++ r) t in
    subst (Reaches (name_word (b ∷ w)) r) (sym (at_name b (w ++ r) q d t)) (reach_run name_word (first_len (b ∷ w ++ r)) (name_len 0 r) (b ∷ w) r (omega arith))

pub digit_no_quote : (c : ℕ) → is_ascii_digit c ≡ true → (c == 34) ≡ false
digit_no_quote c h = grind arith

reach_number : (w r : List ℕ) → is_number w ≡ true → Reaches (number (value_from 0 w)) r (longest_at (w ++ r))
reach_number [] r h = absurd cc
reach_number (b ∷ w) r h =
    let s = and_left (is_ascii_digit b) (all_digits w) h in
    let q = digit_no_quote b s in
    let l = digits_reach (b ∷ w) r h in
    subst (Reaches (number (value_from 0 (b ∷ w))) r) (sym (at_digit b (w ++ r) q s)) (reach_run (λ v. number (value_from 0 v)) (digits_len (b ∷ w ++ r)) (digits_len r) (b ∷ w) r l)

reach_text : (v w r : List ℕ) → IsText v w → Reaches (text v) r (longest_at (w ++ r))
reach_text v w r h = subst (λ (z : List ℕ). Reaches (text v) r (longest_at (z ++ r))) (sym h.quoted) found
  where
    found : Reaches (text v) r (text_read (34 ∷ ((spell h.pieces ++ 34 ∷ []) ++ r)) (scan state.Plain ((spell h.pieces ++ 34 ∷ []) ++ r)))
    found = subst (λ (x : Scan). Reaches (text v) r (text_read (34 ∷ ((spell h.pieces ++ 34 ∷ []) ++ r)) x))
        (sym (ap (scan state.Plain) (append_assoc (spell h.pieces) (34 ∷ []) r) ∙ scan_closed h.pieces r h.are_good))
        (omega arith, λ e. ap text (sym h.stands_for))

reach_symbol : (w r : List ℕ) → among w symbols ≡ true → Reaches (fixed w) r (longest_at (w ++ r))
reach_symbol [] r h = absurd cc
reach_symbol (a ∷ []) r h =
    subst (Reaches (fixed (a ∷ [])) r) (sym (at_symbol a r (other_is a r (symbols_like (a ∷ []) h)))) (one r)
  where
    one : (r : List ℕ) → Reaches (fixed (a ∷ [])) r (symbol_read (a ∷ r))
    one [] = rw h (omega arith, λ e. refl)
    one (b ∷ r) = two (among (a ∷ b ∷ []) symbols)
      where
        two : (t : Bool) → Reaches (fixed (a ∷ [])) (b ∷ r) (cond t (yes (fixed (a ∷ b ∷ [])) r) (cond (among (a ∷ []) symbols) (yes (fixed (a ∷ [])) (b ∷ r)) (bad fault.BadCharacter (a ∷ b ∷ r))))
        two true = (omega arith, λ (e : length r ≡ length (b ∷ r)). absurd (omega arith))
        two false = rw h (omega arith, λ e. refl)
reach_symbol (a ∷ b ∷ []) r h =
    subst (Reaches (fixed (a ∷ b ∷ [])) r) (sym (at_symbol a (b ∷ r) (other_is a (b ∷ r) (symbols_like (a ∷ b ∷ []) h)))) (rw h (omega arith, λ e. refl))
reach_symbol (a ∷ b ∷ c ∷ w) r h = absurd (let k = symbols_like (a ∷ b ∷ c ∷ w) h in cc)

pub reaches : (k : Word) (w r : List ℕ) → IsWord k w → Reaches k r (longest_at (w ++ r))
reaches (name v) w r h = subst (λ (z : Word). Reaches z r (longest_at (w ++ r))) (ap (λ (b : Bool). cond b (fixed w) (name w)) h.2 ∙ ap name (sym h.0)) (reach_name w r h.1)
reaches (number n) w r h = subst (λ (z : ℕ). Reaches (number z) r (longest_at (w ++ r))) (sym h.1) (reach_number w r h.0)
reaches (text v) w r h = reach_text v w r h
reaches (fixed v) w r (e, inl h) = subst (λ (z : Word). Reaches z r (longest_at (w ++ r))) (ap (λ (b : Bool). cond b (fixed w) (name w)) h ∙ ap fixed (sym e)) (reach_name w r (reserved_name w h))
reaches (fixed v) w r (e, inr h) = subst (λ (z : List ℕ). Reaches (fixed z) r (longest_at (w ++ r))) (sym e) (reach_symbol w r h)
