-- What masks guess of names and texts.
use Rattle.std.proofs.Common.{◌≡◌, ℕ, suc, ◌<◌, ◌==◌, Bool, true, false, not, ◌&&◌, ◌||◌, cond, List, [], ◌∷◌, length, take, drop, refl, sym, ap, ◌∙◌, arith, IsAscii, slice_index_or}
use Rattle.std.specs.Char.{is_ascii_alphabetic, is_ascii_alphanumeric}
use Rattle.unicode_ident.specs.Ident.{is_xid_continue}
use Rattle.unicode_ident.proofs.IdentLemmas.{is_xid_continue-ascii}
use Rattle.wy_lanes.specs.Classes.{is_quote, is_word}
use Rattle.wy_lanes.specs.Runs.{front_len}
use Rattle.wy_layout.specs.Gives.{put_all}
use Rattle.wy_layout.specs.Names.{head_char, starts}
use Rattle.wy_layout.specs.Read.{Scan, closed, stuck, put, scan, name_len, first_len}
use Rattle.wy_layout.specs.Texts.{is_control, is_plain, plain}
use Rattle.wy_layout.specs.declared.escape.State.TheVariants as state
use Rattle.wy_layout.proofs.LongestWord.{no_more}
use Rattle.wy_layout.proofs.NameRuns.{head_ascii, starts_ascii}
use Rattle.wy_layout.proofs.Scanning.{piece_read}

-- ---- names

-- a byte of ASCII is a word byte where it goes on with a name
word_is : (b : ℕ) → b < 128 → is_word b ≡ (is_ascii_alphanumeric b || (b == 95))
word_is b h = grind arith

word_small : (b : ℕ) → is_word b ≡ false → b < 128
word_small b h = grind arith

word_letter : (b : ℕ) → b < 128 → (is_ascii_alphabetic b || (b == 95)) ≡ true → is_word b ≡ true
word_letter b s h = grind arith

continues : (b : ℕ) (bs : List ℕ) → b < 128 → is_xid_continue (head_char (b ∷ bs)) ≡ is_word b
continues b bs s = ap is_xid_continue (head_ascii b bs s) ∙ is_xid_continue-ascii b s ∙ sym (word_is b s)

-- a byte of ASCII at the front begins a name where it is a letter or an underscore
pub starts_small : (u : List ℕ) → 0 < length u → slice_index_or u 0 0 < 128 → starts u ≡ (is_ascii_alphabetic (slice_index_or u 0 0) || (slice_index_or u 0 0 == 95))
starts_small [] some small = absurd (omega (arith, some))
starts_small (b ∷ bs) some small = starts_ascii b bs small

-- a run of word bytes that are all of ASCII is what goes on with a name
run_continues : (bs : List ℕ) → IsAscii (take (front_len is_word bs) bs) → front_len is_word bs ≡ name_len 0 bs
run_continues [] ascii = refl
run_continues (b ∷ bs) ascii = go (is_word b) refl ascii (run_continues bs)
  where
    go : (w : Bool) → is_word b ≡ w → IsAscii (take (cond w (suc (front_len is_word bs)) 0) (b ∷ bs)) → (IsAscii (take (front_len is_word bs) bs) → front_len is_word bs ≡ name_len 0 bs) →
        cond w (suc (front_len is_word bs)) 0 ≡ name_len 0 (b ∷ bs)
    go true e ascii rest =
        let s : b < 128 = ascii 0 in
        let c = continues b bs s ∙ e in
        let k = no_more b s in
        rw (c, k) (ap suc (rest (λ i. ascii (suc i))))
    go false e ascii rest = let c = continues b bs (word_small b e) ∙ e in rw c refl

-- where a name begins, such a run is the name
pub run_is_name : (u : List ℕ) → starts u ≡ true → IsAscii (take (front_len is_word u) u) → front_len is_word u ≡ first_len u
run_is_name [] begins ascii = refl
run_is_name (b ∷ bs) begins ascii = go (is_word b) refl ascii
  where
    go : (w : Bool) → is_word b ≡ w → IsAscii (take (cond w (suc (front_len is_word bs)) 0) (b ∷ bs)) → cond w (suc (front_len is_word bs)) 0 ≡ first_len (b ∷ bs)
    go true e ascii =
        let k = no_more b (ascii 0) in
        rw k (ap suc (run_continues bs (λ i. ascii (suc i))))
    go false e ascii =
        let s = word_small b e in
        let t : false ≡ true = sym e ∙ word_letter b s (sym (starts_ascii b bs s) ∙ begins) in
        absurd cc

-- ---- texts

-- no backslash and no control character
abbrev pub is_bare : ℕ → Bool
is_bare b = not (b == 92) && not (is_control b)

put_none : (x : Scan) → x ≡ put_all [] x
put_none (closed vs r) = refl
put_none (stuck f r) = refl

put_before : (v : ℕ) (vs : List ℕ) (x : Scan) → put v (put_all vs x) ≡ put_all (v ∷ vs) x
put_before v vs (closed ws r) = refl
put_before v vs (stuck f r) = refl

-- how many bytes before the first quote stand for themselves, up to the first that does not
abbrev pub bare_len : List ℕ → ℕ
bare_len bs = front_len is_bare (take (front_len (λ b. not (is_quote b)) bs) bs)

-- they are put as they are
pub bare_read : (bs : List ℕ) (n : ℕ) → n ≡ bare_len bs → scan state.Plain bs ≡ put_all (take n bs) (scan state.Plain (drop n bs))
bare_read [] n e = rw e (put_none (scan state.Plain []))
bare_read (b ∷ bs) n e = go (b == 34) refl (is_bare b) refl n e (bare_read bs (bare_len bs) refl)
  where
    go : (q : Bool) → (b == 34) ≡ q → (p : Bool) → is_bare b ≡ p → (n : ℕ) → n ≡ front_len is_bare (take (cond (not q) (suc (front_len (λ c. not (is_quote c)) bs)) 0) (b ∷ bs)) →
        scan state.Plain bs ≡ put_all (take (bare_len bs) bs) (scan state.Plain (drop (bare_len bs) bs)) → scan state.Plain (b ∷ bs) ≡ put_all (take n (b ∷ bs)) (scan state.Plain (drop n (b ∷ bs)))
    go true q p h n e rest = rw e (put_none (scan state.Plain (b ∷ bs)))
    go false q false h n e rest = let z : n ≡ 0 = e ∙ ap (λ (t : Bool). cond t (suc (bare_len bs)) 0) h in rw z (put_none (scan state.Plain (b ∷ bs)))
    go false q true h n e rest =
        let z : n ≡ suc (bare_len bs) = e ∙ ap (λ (t : Bool). cond t (suc (bare_len bs)) 0) h in
        let g : is_plain b ≡ true = rw q h in
        rw z (piece_read (plain b) bs g ∙ ap (put b) rest ∙ put_before b (take (bare_len bs) bs) (scan state.Plain (drop (bare_len bs) bs)))
