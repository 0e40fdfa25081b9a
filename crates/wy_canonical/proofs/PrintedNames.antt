-- A name is text, and has no line's end, no space and no full stop in it.
use Rattle.std.proofs.Common.{◌≡◌, ℕ, zero, suc, ◌+◌, ◌/◌, ◌<◌, ◌≤◌, ◌==◌, nat_lt, Bool, true, false, not, cond, ◌&&◌, ◌||◌, List, [], ◌∷◌, ◌++◌, take, drop, slice_index, refl, sym, ap, subst, ◌∙◌, arith, take-append-drop, ltb-true, IsUtf8}
use Rattle.std.specs.List.{AllByRecursion}
use Rattle.std.specs.Str.{continuation_len, chars, is_utf8}
use Rattle.std.specs.Char.{is_ascii_alphabetic, is_ascii_alphanumeric}
use lib.Utf8.{encode, encodes, next}
use Rattle.std.proofs.lemmas.Str.{IsUtf8-append, IsUtf8-nil, IsUtf8-from_is_utf8, encodes-chars, IsUtf8-from_ascii}
use Rattle.unicode_ident.specs.Ident.{is_xid_start, is_xid_continue}
use Rattle.unicode_ident.proofs.IdentLemmas.{is_xid_start-ascii, is_xid_continue-ascii}
use Rattle.wy_layout.specs.Names.{head_char, starts, go_on, is_name}
use Rattle.wy_layout.specs.Characters.{all_continue, is_name_of}
use Rattle.wy_layout.proofs.Scanning.{and_left, and_right, eq_is}
use Rattle.wy_layout.proofs.NameRuns.{both, starts_ascii}
use Rattle.wy_layout.proofs.NameCharacters.{name_characters}

-- ---- bytes that are text

pub utf8_small : (b : ℕ) → b < 128 → IsUtf8 (b ∷ [])
utf8_small b h = IsUtf8-from_ascii (b ∷ []) (λ i. at i)
  where
    at : (i : ℕ) → slice_index (b ∷ []) i < 128
    at zero = h
    at (suc i) = omega arith

-- a character that is none has the code 0
spelled : (b : ℕ) (bs : List ℕ) → (head_char (b ∷ bs) ≡ 0 → ⊥) → IsUtf8 (b ∷ take (continuation_len b) bs)
unfolding head_char
spelled b bs h = go (nat_lt b 128) refl (is_utf8 (b ∷ take (continuation_len b) bs)) refl h
  where
    none : nat_lt b 128 ≡ true → continuation_len b ≡ 0
    none e = rw e refl

    go : (a : Bool) → nat_lt b 128 ≡ a → (d : Bool) → is_utf8 (b ∷ take (continuation_len b) bs) ≡ d →
        (cond a b (cond d (slice_index (chars (b ∷ take (continuation_len b) bs)) 0) 0) ≡ 0 → ⊥) → IsUtf8 (b ∷ take (continuation_len b) bs)
    go true e d ed h = subst (λ (n : ℕ). IsUtf8 (b ∷ take n bs)) (sym (none e)) (utf8_small b (ltb-true b 128 e))
    go false e true ed h = IsUtf8-from_is_utf8 (b ∷ take (continuation_len b) bs) ed
    go false e false ed h = absurd (h refl)

joined : (b : ℕ) (bs : List ℕ) → (head_char (b ∷ bs) ≡ 0 → ⊥) → IsUtf8 (drop (continuation_len b) bs) → IsUtf8 (b ∷ bs)
joined b bs h k = subst (λ (z : List ℕ). IsUtf8 (b ∷ z)) (take-append-drop (continuation_len b) bs) (IsUtf8-append (b ∷ take (continuation_len b) bs) (drop (continuation_len b) bs) (spelled b bs h) k)

continues_some : (c : ℕ) → is_xid_continue c ≡ true → c ≡ 0 → ⊥
continues_some c h e = let k = is_xid_continue-ascii 0 (omega arith) in let t : false ≡ true = sym k ∙ ap is_xid_continue (sym e) ∙ h in absurd cc

going_utf8 : (n : ℕ) (bs : List ℕ) → go_on n bs ≡ true → IsUtf8 (drop n bs)
going_utf8 zero [] h = IsUtf8-nil
going_utf8 (suc n) [] h = absurd (let t : false ≡ true = h in cc)
going_utf8 zero (b ∷ bs) h =
    let c = and_left (is_xid_continue (head_char (b ∷ bs))) (go_on (continuation_len b) bs) h in
    let g = and_right (is_xid_continue (head_char (b ∷ bs))) (go_on (continuation_len b) bs) h in
    joined b bs (continues_some (head_char (b ∷ bs)) c) (going_utf8 (continuation_len b) bs g)
going_utf8 (suc n) (b ∷ bs) h = going_utf8 n bs h

starts_some : (b : ℕ) (bs : List ℕ) → starts (b ∷ bs) ≡ true → head_char (b ∷ bs) ≡ 0 → ⊥
unfolding starts
starts_some b bs h e =
    let k = is_xid_start-ascii 0 (omega arith) in
    let t : false ≡ true = sym (ap (λ (b : Bool). b || false) k) ∙ ap (λ (c : ℕ). is_xid_start c || (c == 95)) (sym e) ∙ h in absurd cc

pub name_utf8 : (w : List ℕ) → is_name w ≡ true → IsUtf8 w
name_utf8 [] h = IsUtf8-nil
name_utf8 (b ∷ bs) h =
    let s = and_left (starts (b ∷ bs)) (go_on (continuation_len b) bs) h in
    let g = and_right (starts (b ∷ bs)) (go_on (continuation_len b) bs) h in
    joined b bs (starts_some b bs s) (going_utf8 (continuation_len b) bs g)

-- ---- the bytes of names

-- a letter, a digit or an underscore, or a byte of a character beyond ASCII
abbrev is_name_byte : ℕ → Bool
is_name_byte b = not (nat_lt b 128) || (is_ascii_alphanumeric b || (b == 95))

abbrev name_bytes : List ℕ → Bool
name_bytes [] = true
name_bytes (b ∷ bs) = is_name_byte b && name_bytes bs

bytes_append : (u v : List ℕ) → name_bytes u ≡ true → name_bytes v ≡ true → name_bytes (u ++ v) ≡ true
bytes_append [] v h k = k
bytes_append (b ∷ u) v h k = both (is_name_byte b) (name_bytes (u ++ v)) (and_left (is_name_byte b) (name_bytes u) h) (bytes_append u v (and_right (is_name_byte b) (name_bytes u) h) k)

high : (b : ℕ) → 128 ≤ b → is_name_byte b ≡ true
high b h = go (nat_lt b 128) refl
  where
    go : (x : Bool) → nat_lt b 128 ≡ x → (not x || (is_ascii_alphanumeric b || (b == 95))) ≡ true
    go true e = absurd (let l = ltb-true b 128 e in omega arith)
    go false e = refl

char_bytes : (c : ℕ) → (nat_lt c 128 ≡ true → (is_ascii_alphanumeric c || (c == 95)) ≡ true) → name_bytes (encode c) ≡ true
unfolding encode
char_bytes c h = go (nat_lt c 128) refl (nat_lt c 2048) (nat_lt c 65536)
  where
    more : (b : ℕ) (bs : List ℕ) → 128 ≤ b → name_bytes bs ≡ true → name_bytes (b ∷ bs) ≡ true
    more b bs h k = both (is_name_byte b) (name_bytes bs) (high b h) k

    low : nat_lt c 128 ≡ true → is_name_byte c ≡ true
    low e = ap (λ (x : Bool). not x || (is_ascii_alphanumeric c || (c == 95))) e ∙ h e

    go : (x : Bool) → nat_lt c 128 ≡ x → (y z : Bool) → name_bytes (cond x (c ∷ []) (cond y ((192 + c / 64) ∷ next c ∷ []) (cond z ((224 + c / 4096) ∷ next (c / 64) ∷ next c ∷ []) ((240 + c / 262144) ∷ next (c / 4096) ∷ next (c / 64) ∷ next c ∷ [])))) ≡ true
    go true e y z = both (is_name_byte c) true (low e) refl
    go false e true z = more (192 + c / 64) (next c ∷ []) (omega arith) (more (next c) [] (omega arith) refl)
    go false e false true = more (224 + c / 4096) (next (c / 64) ∷ next c ∷ []) (omega arith) (more (next (c / 64)) (next c ∷ []) (omega arith) (more (next c) [] (omega arith) refl))
    go false e false false = more (240 + c / 262144) (next (c / 4096) ∷ next (c / 64) ∷ next c ∷ []) (omega arith) (more (next (c / 4096)) (next (c / 64) ∷ next c ∷ []) (omega arith) (more (next (c / 64)) (next c ∷ []) (omega arith) (more (next c) [] (omega arith) refl)))

continue_bytes : (c : ℕ) → is_xid_continue c ≡ true → name_bytes (encode c) ≡ true
continue_bytes c h = char_bytes c (λ e. sym (is_xid_continue-ascii c (ltb-true c 128 e)) ∙ h)

start_bytes : (c : ℕ) → (is_xid_start c || (c == 95)) ≡ true → name_bytes (encode c) ≡ true
start_bytes c h = char_bytes c (λ e. wider (sym (ap (λ (b : Bool). b || (c == 95)) (is_xid_start-ascii c (ltb-true c 128 e))) ∙ h))
  where
    wider : (is_ascii_alphabetic c || (c == 95)) ≡ true → (is_ascii_alphanumeric c || (c == 95)) ≡ true
    wider h = grind arith

all_bytes : (cs : List ℕ) → all_continue cs ≡ true → name_bytes (encodes cs) ≡ true
all_bytes [] h = refl
all_bytes (c ∷ cs) h = bytes_append (encode c) (encodes cs) (continue_bytes c (and_left (is_xid_continue c) (all_continue cs) h)) (all_bytes cs (and_right (is_xid_continue c) (all_continue cs) h))

named_bytes : (cs : List ℕ) → is_name_of cs ≡ true → name_bytes (encodes cs) ≡ true
named_bytes [] h = refl
named_bytes (c ∷ cs) h = bytes_append (encode c) (encodes cs) (start_bytes c (and_left (is_xid_start c || (c == 95)) (all_continue cs) h)) (all_bytes cs (and_right (is_xid_start c || (c == 95)) (all_continue cs) h))

are_name_bytes : (w : List ℕ) → is_name w ≡ true → name_bytes w ≡ true
are_name_bytes w h =
    let u = name_utf8 w h in
    subst (λ (z : List ℕ). name_bytes z ≡ true) (encodes-chars w u) (named_bytes (chars w) (sym (name_characters w u) ∙ h))

-- a byte that names have is none that they have not
other_byte : (b n : ℕ) → is_name_byte n ≡ false → is_name_byte b ≡ true → (b == n) ≡ false
other_byte b n none h = go (b == n) refl
  where
    go : (x : Bool) → (b == n) ≡ x → (b == n) ≡ false
    go false e = e
    go true e = absurd (let t : true ≡ false = sym h ∙ ap is_name_byte (eq_is b n e) ∙ none in cc)

-- no byte is a newline or a carriage return
abbrev pub flat : List ℕ → Bool
flat [] = true
flat (b ∷ bs) = not ((b == 10) || (b == 13)) && flat bs

pub flat_append : (u v : List ℕ) → flat u ≡ true → flat v ≡ true → flat (u ++ v) ≡ true
flat_append [] v h k = k
flat_append (b ∷ u) v h k = both (not ((b == 10) || (b == 13))) (flat (u ++ v)) (and_left (not ((b == 10) || (b == 13))) (flat u) h) (flat_append u v (and_right (not ((b == 10) || (b == 13))) (flat u) h) k)

flat_bytes : (w : List ℕ) → name_bytes w ≡ true → flat w ≡ true
flat_bytes [] h = refl
flat_bytes (b ∷ w) h =
    let g = and_left (is_name_byte b) (name_bytes w) h in
    let here : not ((b == 10) || (b == 13)) ≡ true = rw (other_byte b 10 refl g, other_byte b 13 refl g) refl in
    both (not ((b == 10) || (b == 13))) (flat w) here (flat_bytes w (and_right (is_name_byte b) (name_bytes w) h))

pub name_flat : (w : List ℕ) → is_name w ≡ true → flat w ≡ true
name_flat w h = flat_bytes w (are_name_bytes w h)

-- and none is a space or a full stop
unbroken_bytes : (w : List ℕ) → name_bytes w ≡ true → AllByRecursion (λ b. (b ≡ 32 → ⊥) × (b ≡ 46 → ⊥)) w
unbroken_bytes [] h = tt
unbroken_bytes (b ∷ w) h =
    let g = and_left (is_name_byte b) (name_bytes w) h in
    let no_space : b ≡ 32 → ⊥ = λ e. (let t : true ≡ false = sym g ∙ ap is_name_byte e in cc) in
    let no_stop : b ≡ 46 → ⊥ = λ e. (let t : true ≡ false = sym g ∙ ap is_name_byte e in cc) in
    ((no_space, no_stop), unbroken_bytes w (and_right (is_name_byte b) (name_bytes w) h))

pub name_unbroken : (w : List ℕ) → is_name w ≡ true → AllByRecursion (λ b. (b ≡ 32 → ⊥) × (b ≡ 46 → ⊥)) w
name_unbroken w h = unbroken_bytes w (are_name_bytes w h)

-- what a name begins with is no blank and no slash
pub name_first : (b : ℕ) (bs : List ℕ) → is_name (b ∷ bs) ≡ true → (n : ℕ) → n < 128 → (is_ascii_alphabetic n || (n == 95)) ≡ false → (b == n) ≡ false
name_first b bs h n small none = go (b == n) refl
  where
    go : (x : Bool) → (b == n) ≡ x → (b == n) ≡ false
    go false e = e
    go true e =
        let same = eq_is b n e in
        let s = and_left (starts (b ∷ bs)) (go_on (continuation_len b) bs) h in
        let t : true ≡ false = sym s ∙ ap (λ (z : ℕ). starts (z ∷ bs)) same ∙ starts_ascii n bs small ∙ none in absurd cc
