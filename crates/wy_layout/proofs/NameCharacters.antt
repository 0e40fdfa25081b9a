-- A name by its bytes is a name by its characters.
use Rattle.std.proofs.Common.{◌≡◌, ℕ, ◌+◌, ◌/◌, ◌<◌, ◌≤◌, ◌==◌, nat_lt, Bool, true, false, cond, ◌&&◌, ◌||◌, List, [], ◌∷◌, ◌++◌, length, take, slice_index, refl, sym, ap, ◌∙◌, arith, append-nil, ltb-true, ltb-false, chars, IsUtf8, inl, inr}
use Rattle.std.specs.Str.{continuation_len}
use lib.Utf8.{scalar, scalars, scalar_cases, encode, encodes, next}
use Rattle.std.proofs.lemmas.Str.{encodes-chars, scalars-chars, chars_past_char, chars-nil, IsUtf8-encode, is_utf8-from_IsUtf8}
use Rattle.unicode_ident.specs.Ident.{is_xid_start, is_xid_continue}
use Rattle.wy_layout.specs.Names.{head_char, decoded, starts, go_on, is_name}
use Rattle.wy_layout.specs.Characters.{all_continue, is_name_of}
use Rattle.wy_layout.proofs.Scanning.{and_left, and_right}

-- the first byte of a character says how many are to come
record HasFirst (c : ℕ) : Type 0 where
  first : ℕ
  more : List ℕ
  parts : encode c ≡ first ∷ more
  count : continuation_len first ≡ length more
  small : nat_lt first 128 ≡ true → first ≡ c

yes : (a b : ℕ) → a < b → nat_lt a b ≡ true
yes a b h = grind arith

no : (a b : ℕ) → b ≤ a → nat_lt a b ≡ false
no a b h = grind arith

has_first : (c : ℕ) → c < 1114112 → HasFirst c
unfolding encode
has_first c s = go (nat_lt c 128) refl (nat_lt c 2048) refl (nat_lt c 65536) refl
  where
    big : (b : ℕ) → 128 ≤ b → nat_lt b 128 ≡ true → b ≡ c
    big b h e = absurd (let l = ltb-true b 128 e in omega arith)

    two : (b : ℕ) → 128 ≤ b → b < 224 → continuation_len b ≡ 1
    two b h k = let x = no b 128 h in let y = yes b 224 k in rw (x, y) refl

    three : (b : ℕ) → 224 ≤ b → b < 240 → continuation_len b ≡ 2
    three b h k = let x = no b 128 (omega arith) in let y = no b 224 h in let z = yes b 240 k in rw (x, y, z) refl

    four : (b : ℕ) → 240 ≤ b → continuation_len b ≡ 3
    four b h = let x = no b 128 (omega arith) in let y = no b 224 (omega arith) in let z = no b 240 h in rw (x, y, z) refl

    one : nat_lt c 128 ≡ true → continuation_len c ≡ 0
    one e = rw e refl

    go : (x : Bool) → nat_lt c 128 ≡ x → (y : Bool) → nat_lt c 2048 ≡ y → (z : Bool) → nat_lt c 65536 ≡ z → HasFirst c
    go true e y f z g = record { first = c; more = []; parts = rw e refl; count = one e; small = λ h. refl }
    go false e true f z g =
        let a = ltb-false c 128 e in let b = ltb-true c 2048 f in
        record { first = 192 + c / 64; more = next c ∷ []; parts = rw (e, f) refl; count = two (192 + c / 64) (omega arith) (omega arith); small = big (192 + c / 64) (omega arith) }
    go false e false f true g =
        let a = ltb-false c 2048 f in let b = ltb-true c 65536 g in
        record { first = 224 + c / 4096; more = next (c / 64) ∷ next c ∷ []; parts = rw (e, f, g) refl; count = three (224 + c / 4096) (omega arith) (omega arith); small = big (224 + c / 4096) (omega arith) }
    go false e false f false g =
        record { first = 240 + c / 262144; more = next (c / 4096) ∷ next (c / 64) ∷ next c ∷ []; parts = rw (e, f, g) refl; count = four (240 + c / 262144) (omega arith); small = big (240 + c / 262144) (omega arith) }

scalar_small : (c : ℕ) → scalar c ≡ true → c < 1114112
scalar_small c e = elim (scalar_cases c e) [ inl h ↦ omega arith | inr h ↦ h.1 ]

take_front : (t r : List ℕ) → take (length t) (t ++ r) ≡ t
take_front [] r = refl
take_front (x ∷ t) r = ap (λ (z : List ℕ). x ∷ z) (take_front t r)

-- the bytes of a character spell it
decoded_is : (c : ℕ) → scalar c ≡ true → decoded (encode c) ≡ c
decoded_is c s =
    let u = IsUtf8-encode c s in
    let b = is_utf8-from_IsUtf8 (encode c) u in
    let e : chars (encode c) ≡ c ∷ [] = chars_past_char (encode c) [] c u (sym (append-nil (encode c))) ∙ ap (λ (z : List ℕ). c ∷ z) chars-nil in
    ap (λ (t : Bool). cond t (slice_index (chars (encode c)) 0) 0) b ∙ ap (λ (z : List ℕ). slice_index z 0) e

head_is : (c : ℕ) (r : List ℕ) (h : HasFirst c) → scalar c ≡ true → head_char (h.first ∷ (h.more ++ r)) ≡ c
unfolding head_char
head_is c r h s = go (nat_lt h.first 128) refl
  where
    taken : take (continuation_len h.first) (h.more ++ r) ≡ h.more
    taken = ap (λ (n : ℕ). take n (h.more ++ r)) h.count ∙ take_front h.more r

    go : (b : Bool) → nat_lt h.first 128 ≡ b → cond b h.first (decoded (h.first ∷ take (continuation_len h.first) (h.more ++ r))) ≡ c
    go true e = h.small e
    go false e = ap (λ (z : List ℕ). decoded (h.first ∷ z)) taken ∙ ap decoded (sym h.parts) ∙ decoded_is c s

passed_by : (t r : List ℕ) → go_on (length t) (t ++ r) ≡ go_on 0 r
passed_by [] r = refl
passed_by (x ∷ t) r = passed_by t r

go_on_is : (cs : List ℕ) → scalars cs ≡ true → go_on 0 (encodes cs) ≡ all_continue cs
go_on_is [] h = refl
go_on_is (c ∷ cs) h =
    let s = and_left (scalar c) (scalars cs) h in
    let f = has_first c (scalar_small c s) in
    let ih = go_on_is cs (and_right (scalar c) (scalars cs) h) in
    ap (λ (z : List ℕ). go_on 0 (z ++ encodes cs)) f.parts
    ∙ ap (λ (x : ℕ). is_xid_continue x && go_on (continuation_len f.first) (f.more ++ encodes cs)) (head_is c (encodes cs) f s)
    ∙ ap (λ (n : ℕ). is_xid_continue c && go_on n (f.more ++ encodes cs)) f.count
    ∙ ap (λ (b : Bool). is_xid_continue c && b) (passed_by f.more (encodes cs) ∙ ih)

starts_is : (c : ℕ) (r : List ℕ) (h : HasFirst c) → scalar c ≡ true → starts (h.first ∷ (h.more ++ r)) ≡ (is_xid_start c || (c == 95))
unfolding starts
starts_is c r h s = ap (λ (x : ℕ). is_xid_start x || (x == 95)) (head_is c r h s)

name_is : (cs : List ℕ) → scalars cs ≡ true → is_name (encodes cs) ≡ is_name_of cs
name_is [] h = refl
name_is (c ∷ cs) h =
    let s = and_left (scalar c) (scalars cs) h in
    let f = has_first c (scalar_small c s) in
    ap (λ (z : List ℕ). is_name (z ++ encodes cs)) f.parts
    ∙ ap (λ (b : Bool). b && go_on (continuation_len f.first) (f.more ++ encodes cs)) (starts_is c (encodes cs) f s)
    ∙ ap (λ (n : ℕ). (is_xid_start c || (c == 95)) && go_on n (f.more ++ encodes cs)) f.count
    ∙ ap (λ (b : Bool). (is_xid_start c || (c == 95)) && b) (passed_by f.more (encodes cs) ∙ go_on_is cs (and_right (scalar c) (scalars cs) h))

pub name_characters : (w : List ℕ) → IsUtf8 w → is_name w ≡ is_name_of (chars w)
name_characters w u = ap is_name (sym (encodes-chars w u)) ∙ name_is (chars w) (scalars-chars w u)
