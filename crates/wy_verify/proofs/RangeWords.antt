-- A name of the language is text, so it is an identifier exactly where it is not a reserved word.
use Rattle.std.proofs.Common.{◌≡◌, ℕ, zero, suc, ◌<◌, ◌==◌, nat_lt, Bool, true, false, not, cond, ◌&&◌, ◌||◌, List, [], ◌∷◌, take, drop, slice_index, refl, sym, ap, subst, ◌∙◌, arith, take-append-drop, ltb-true, IsUtf8}
use Rattle.std.specs.Str.{continuation_len, chars, is_utf8}
use Rattle.std.proofs.lemmas.Str.{IsUtf8-append, IsUtf8-nil, IsUtf8-from_is_utf8, IsUtf8-from_ascii, is_utf8-from_IsUtf8}
use Rattle.unicode_ident.specs.Ident.{is_xid_start, is_xid_continue}
use Rattle.unicode_ident.proofs.IdentLemmas.{is_xid_start-ascii, is_xid_continue-ascii}
use Rattle.wy_layout.specs.Names.{head_char, starts, go_on, is_name}
use Rattle.wy_layout.specs.Characters.{is_name_of}
use Rattle.wy_layout.specs.Identifiers.{is_identifier}
use Rattle.wy_layout.specs.Words.{among, reserved}
use Rattle.wy_layout.proofs.Scanning.{and_left, and_right}
use Rattle.wy_layout.proofs.NameCharacters.{name_characters}

------------------------------------------------------------
-- Bytes that are text

utf8_small : (b : ℕ) → b < 128 → IsUtf8 (b ∷ [])
utf8_small b h = IsUtf8-from_ascii (b ∷ []) (λ i. at i)
  where
    at : (i : ℕ) → slice_index (b ∷ []) i < 128
    at zero = h
    at (suc i) = omega arith

-- a character that is none has the code 0
spelled : (b : ℕ) (bs : List ℕ) → (head_char (b ∷ bs) ≡ 0 → ⊥) → IsUtf8 (b ∷ take (continuation_len b) bs)
unfolding head_char
spelled b bs h = go (nat_lt b 128) refl (is_utf8 (b ∷ take (continuation_len b) bs)) refl h
  where
    none : nat_lt b 128 ≡ true → continuation_len b ≡ 0
    none e = rw e refl

    go : (a : Bool) → nat_lt b 128 ≡ a → (d : Bool) → is_utf8 (b ∷ take (continuation_len b) bs) ≡ d →
        (cond a b (cond d (slice_index (chars (b ∷ take (continuation_len b) bs)) 0) 0) ≡ 0 → ⊥) → IsUtf8 (b ∷ take (continuation_len b) bs)
    go true e d ed h = subst (λ (n : ℕ). IsUtf8 (b ∷ take n bs)) (sym (none e)) (utf8_small b (ltb-true b 128 e))
    go false e true ed h = IsUtf8-from_is_utf8 (b ∷ take (continuation_len b) bs) ed
    go false e false ed h = absurd (h refl)

joined : (b : ℕ) (bs : List ℕ) → (head_char (b ∷ bs) ≡ 0 → ⊥) → IsUtf8 (drop (continuation_len b) bs) → IsUtf8 (b ∷ bs)
joined b bs h k = subst (λ (z : List ℕ). IsUtf8 (b ∷ z)) (take-append-drop (continuation_len b) bs) (IsUtf8-append (b ∷ take (continuation_len b) bs) (drop (continuation_len b) bs) (spelled b bs h) k)

continues_some : (c : ℕ) → is_xid_continue c ≡ true → c ≡ 0 → ⊥
continues_some c h e = let k = is_xid_continue-ascii 0 (omega arith) in let t : false ≡ true = sym k ∙ ap is_xid_continue (sym e) ∙ h in absurd cc

going_utf8 : (n : ℕ) (bs : List ℕ) → go_on n bs ≡ true → IsUtf8 (drop n bs)
going_utf8 zero [] h = IsUtf8-nil
going_utf8 (suc n) [] h = absurd (let t : false ≡ true = h in cc)
going_utf8 zero (b ∷ bs) h =
    let c = and_left (is_xid_continue (head_char (b ∷ bs))) (go_on (continuation_len b) bs) h in
    let g = and_right (is_xid_continue (head_char (b ∷ bs))) (go_on (continuation_len b) bs) h in
    joined b bs (continues_some (head_char (b ∷ bs)) c) (going_utf8 (continuation_len b) bs g)
going_utf8 (suc n) (b ∷ bs) h = going_utf8 n bs h

starts_some : (b : ℕ) (bs : List ℕ) → starts (b ∷ bs) ≡ true → head_char (b ∷ bs) ≡ 0 → ⊥
unfolding starts
starts_some b bs h e =
    let k = is_xid_start-ascii 0 (omega arith) in
    let t : false ≡ true = sym (ap (λ (b : Bool). b || false) k) ∙ ap (λ (c : ℕ). is_xid_start c || (c == 95)) (sym e) ∙ h in absurd cc

name_utf8 : (w : List ℕ) → is_name w ≡ true → IsUtf8 w
name_utf8 [] h = IsUtf8-nil
name_utf8 (b ∷ bs) h =
    let s = and_left (starts (b ∷ bs)) (go_on (continuation_len b) bs) h in
    let g = and_right (starts (b ∷ bs)) (go_on (continuation_len b) bs) h in
    joined b bs (starts_some b bs s) (going_utf8 (continuation_len b) bs g)

------------------------------------------------------------
-- Identifiers

both : (a b : Bool) → a ≡ true → b ≡ true → (a && b) ≡ true
both true b e f = f
both false b e f = cc

is_not : (b : Bool) → not b ≡ true → b ≡ false
is_not true e = cc
is_not false e = refl

not_is : (b : Bool) → b ≡ false → not b ≡ true
not_is true e = cc
not_is false e = refl

pub identifier_name : (w : List ℕ) → is_identifier w ≡ true → (is_name w ≡ true) × (among w reserved ≡ false)
identifier_name w h =
    let u = IsUtf8-from_is_utf8 w (and_left (is_utf8 w) (is_name_of (chars w) && not (among w reserved)) h) in
    let r = and_right (is_utf8 w) (is_name_of (chars w) && not (among w reserved)) h in
    (name_characters w u ∙ and_left (is_name_of (chars w)) (not (among w reserved)) r, is_not (among w reserved) (and_right (is_name_of (chars w)) (not (among w reserved)) r))

pub name_identifier : (w : List ℕ) → is_name w ≡ true → among w reserved ≡ false → is_identifier w ≡ true
name_identifier w n a =
    let u = name_utf8 w n in
    both (is_utf8 w) _ (is_utf8-from_IsUtf8 w u) (both (is_name_of (chars w)) _ (sym (name_characters w u) ∙ n) (not_is (among w reserved) a))
