-- Where names begin and end.
use Rattle.std.proofs.Common.{◌≡◌, ℕ, zero, suc, ◌+◌, ◌*◌, ◌-◌, ◌<◌, ◌≤◌, ◌==◌, Bool, true, false, ◌&&◌, ◌||◌, cond, List, [], ◌∷◌, ◌++◌, length, take, drop, refl, sym, ap, ◌∙◌, arith, take-append-drop, slice_index, nat_lt, length-take, lt-ltb}
use Rattle.std.specs.Str.{continuation_len, lead_bits, chars_after, chars, is_utf8}
use Rattle.std.specs.Char.{is_ascii_alphabetic}
use Rattle.unicode_ident.specs.Ident.{is_xid_start, is_xid_continue}
use Rattle.unicode_ident.proofs.IdentLemmas.{is_xid_start-ascii, is_xid_continue-ascii}
use Rattle.wy_layout.specs.Names.{head_char, decoded, starts, go_on, is_name}
use Rattle.wy_layout.specs.Read.{name_len, first_len}
use Rattle.wy_layout.proofs.Scanning.{and_left, and_right}

pub both : (a b : Bool) → a ≡ true → b ≡ true → (a && b) ≡ true
both a b e h = rw (e, h) refl

-- the first character is the same, whatever stands behind its bytes
enough : (n : ℕ) (bs : List ℕ) → go_on n bs ≡ true → n ≤ length bs
enough zero bs h = omega arith
enough (suc n) [] h = absurd cc
enough (suc n) (b ∷ bs) h = let ih = enough n bs h in omega arith

take_more : (n : ℕ) (bs r : List ℕ) → n ≤ length bs → take n (bs ++ r) ≡ take n bs
take_more zero bs r h = refl
take_more (suc n) [] r h = absurd (omega arith)
take_more (suc n) (b ∷ bs) r h = ap (λ (z : List ℕ). b ∷ z) (take_more n bs r (omega arith))

pub head_char_same : (b : ℕ) (bs r : List ℕ) → go_on (continuation_len b) bs ≡ true → head_char (b ∷ bs ++ r) ≡ head_char (b ∷ bs)
unfolding head_char
head_char_same b bs r h = ap (λ (z : List ℕ). cond (nat_lt b 128) b (decoded (b ∷ z))) (take_more (continuation_len b) bs r (enough (continuation_len b) bs h))

abbrev head_after : ℕ → ℕ → List ℕ → ℕ
head_after n c bs = slice_index (chars_after n c bs) 0

-- a character that isn't 0 is whole
whole : (n c : ℕ) (bs : List ℕ) → (head_after n c bs ≡ 0 → ⊥) → n ≤ length bs
whole zero c bs h = omega arith
whole (suc n) c [] h = absurd (h refl)
whole (suc n) c (b ∷ bs) h = let ih = whole n (c * 64 + (b - 128)) bs h in omega arith

whole_taken : (b : ℕ) (bs : List ℕ) → (slice_index (chars (b ∷ take (continuation_len b) bs)) 0 ≡ 0 → ⊥) → continuation_len b ≤ length bs
unfolding chars
whole_taken b bs h =
    let k = whole (continuation_len b) (lead_bits b) (take (continuation_len b) bs) h in
    let l = length-take (continuation_len b) bs in
    omega arith

head_whole : (b : ℕ) (bs : List ℕ) → (head_char (b ∷ bs) ≡ 0 → ⊥) → continuation_len b ≤ length bs
unfolding head_char
head_whole b bs h = go (nat_lt b 128) refl (is_utf8 (b ∷ take (continuation_len b) bs)) refl h
  where
    go : (a : Bool) → nat_lt b 128 ≡ a → (d : Bool) → is_utf8 (b ∷ take (continuation_len b) bs) ≡ d →
        (cond a b (cond d (slice_index (chars (b ∷ take (continuation_len b) bs)) 0) 0) ≡ 0 → ⊥) → continuation_len b ≤ length bs
    go true e d ed h = rw e (omega arith)
    go false e true ed h = whole_taken b bs h
    go false e false ed h = absurd (h refl)

pub continues_whole : (b : ℕ) (bs : List ℕ) → is_xid_continue (head_char (b ∷ bs)) ≡ true → continuation_len b ≤ length bs
continues_whole b bs h = head_whole b bs (λ e. let k = is_xid_continue-ascii 0 (omega arith) in let t : false ≡ true = sym k ∙ ap is_xid_continue (sym e) ∙ h in cc)

pub starts_whole : (b : ℕ) (bs : List ℕ) → starts (b ∷ bs) ≡ true → continuation_len b ≤ length bs
unfolding starts
starts_whole b bs h = head_whole b bs (λ e. let k = is_xid_start-ascii 0 (omega arith) in
    let t : false ≡ true = ap (λ (z : Bool). z || false) (sym k) ∙ ap (λ (z : ℕ). is_xid_start z || (z == 95)) (sym e) ∙ h in cc)

-- a name reaches at least as far as any name at its front
pub name_reach : (k : ℕ) (w r : List ℕ) → go_on k w ≡ true → name_len k (w ++ r) ≡ length w + name_len 0 r
name_reach zero [] r h = omega arith
name_reach (suc k) [] r h = absurd cc
name_reach (suc k) (b ∷ w) r h = let ih = name_reach k w r h in omega arith
name_reach zero (b ∷ w) r h =
    let g = and_right (is_xid_continue (head_char (b ∷ w))) (go_on (continuation_len b) w) h in
    let c = and_left (is_xid_continue (head_char (b ∷ w))) (go_on (continuation_len b) w) h in
    let e : is_xid_continue (head_char (b ∷ w ++ r)) ≡ true = ap is_xid_continue (head_char_same b w r g) ∙ c in
    let ih = name_reach (continuation_len b) w r g in
    rw e (omega arith)

pub name_taken : (k : ℕ) (bs : List ℕ) → k ≤ length bs → go_on k (take (name_len k bs) bs) ≡ true
name_taken zero [] h = refl
name_taken (suc k) [] h = absurd (omega arith)
name_taken (suc k) (b ∷ bs) h = name_taken k bs (omega arith)
name_taken zero (b ∷ bs) h = go (is_xid_continue (head_char (b ∷ bs))) refl (λ e. name_taken (continuation_len b) bs (continues_whole b bs e))
  where
    go : (t : Bool) → is_xid_continue (head_char (b ∷ bs)) ≡ t → (is_xid_continue (head_char (b ∷ bs)) ≡ true → go_on (continuation_len b) (take (name_len (continuation_len b) bs) bs) ≡ true) →
        go_on zero (take (cond t (suc (name_len (continuation_len b) bs)) 0) (b ∷ bs)) ≡ true
    go false e ih = refl
    go true e ih =
        let m = name_len (continuation_len b) bs in
        let g = ih e in
        let s : head_char (b ∷ bs) ≡ head_char (b ∷ take m bs) = ap (λ (z : List ℕ). head_char (b ∷ z)) (sym (take-append-drop m bs)) ∙ head_char_same b (take m bs) (drop m bs) g in
        both (is_xid_continue (head_char (b ∷ take m bs))) (go_on (continuation_len b) (take m bs)) (ap is_xid_continue (sym s) ∙ e) g

pub starts_same : (b : ℕ) (w r : List ℕ) → go_on (continuation_len b) w ≡ true → starts (b ∷ w ++ r) ≡ starts (b ∷ w)
unfolding starts
starts_same b w r g = ap (λ (z : ℕ). is_xid_start z || (z == 95)) (head_char_same b w r g)

pub starts_empty : starts [] ≡ true → false ≡ true
unfolding starts head_char
starts_empty h = let k = is_xid_start-ascii 0 (omega arith) in ap (λ (z : Bool). z || false) (sym k) ∙ h

pub first_taken : (u : List ℕ) → starts u ≡ true → is_name (take (first_len u) u) ≡ true
first_taken [] h = starts_empty h
first_taken (b ∷ bs) h =
    let m = name_len (continuation_len b) bs in
    let g = name_taken (continuation_len b) bs (starts_whole b bs h) in
    let s : starts (b ∷ bs) ≡ starts (b ∷ take m bs) = ap (λ (z : List ℕ). starts (b ∷ z)) (sym (take-append-drop m bs)) ∙ starts_same b (take m bs) (drop m bs) g in
    both (starts (b ∷ take m bs)) (go_on (continuation_len b) (take m bs)) (sym s ∙ h) g

-- an ASCII character is its own
pub head_ascii : (b : ℕ) (bs : List ℕ) → b < 128 → head_char (b ∷ bs) ≡ b
unfolding head_char
head_ascii b bs h = let e : nat_lt b 128 ≡ true = lt-ltb _ _ h in rw e refl

pub starts_ascii : (b : ℕ) (bs : List ℕ) → b < 128 → starts (b ∷ bs) ≡ (is_ascii_alphabetic b || (b == 95))
unfolding starts
starts_ascii b bs h = rw (head_ascii b bs h) (ap (λ (z : Bool). z || (b == 95)) (is_xid_start-ascii b h))

-- one character of a name
steps : (k : ℕ) (bs : List ℕ) → k ≤ length bs → name_len k bs ≡ k + name_len 0 (drop k bs)
steps zero bs h = omega arith
steps (suc k) [] h = absurd (omega arith)
steps (suc k) (b ∷ bs) h = let ih = steps k bs (omega arith) in omega arith

pub name_step : (b : ℕ) (bs : List ℕ) → is_xid_continue (head_char (b ∷ bs)) ≡ true → name_len 0 (b ∷ bs) ≡ suc (continuation_len b) + name_len 0 (drop (continuation_len b) bs)
name_step b bs h = let s = steps (continuation_len b) bs (continues_whole b bs h) in rw h (omega arith)

pub first_step : (b : ℕ) (bs : List ℕ) → continuation_len b ≤ length bs → first_len (b ∷ bs) ≡ suc (continuation_len b) + name_len 0 (drop (continuation_len b) bs)
first_step b bs h = let s = steps (continuation_len b) bs h in omega arith

pub name_len_within : (k : ℕ) (bs : List ℕ) → name_len k bs ≤ length bs
name_len_within k [] = omega arith
name_len_within (suc k) (b ∷ bs) = let ih = name_len_within k bs in omega arith
name_len_within zero (b ∷ bs) = go (is_xid_continue (head_char (b ∷ bs))) (name_len_within (continuation_len b) bs)
  where
    go : (t : Bool) → name_len (continuation_len b) bs ≤ length bs → cond t (suc (name_len (continuation_len b) bs)) 0 ≤ length (b ∷ bs)
    go true h = omega arith
    go false h = omega arith
