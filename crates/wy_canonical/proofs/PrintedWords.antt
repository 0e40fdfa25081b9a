-- Words as they are printed, and what stands behind them.
use Rattle.std.proofs.Common.{◌≡◌, ℕ, ◌+◌, ◌*◌, ◌-◌, ◌/◌, ◌%◌, ◌<◌, ◌≤◌, ◌^◌, ◌==◌, nat_lt, Bool, true, false, not, cond, ◌&&◌, ◌||◌, List, [], ◌∷◌, ◌++◌, codes, decimal, refl, sym, ap, ◌∙◌, arith, IsUtf8, inl, inr, le-ltb}
use Rattle.std.specs.List.{AllByRecursion}
use Rattle.std.specs.Char.{is_ascii_digit, is_ascii_alphanumeric}
use Rattle.std.proofs.lemmas.Str.{IsUtf8-append, IsUtf8-nil}
use Rattle.std.proofs.lemmas.Fmt.{decimal_by_steps}
use Rattle.wy_text.specs.Quoted.{hexadecimal_digit_of, is_printed, quoted_byte, quoted_bytes, quoted_form}
use Rattle.wy_layout.specs.Words.{Word, name, number, text, fixed, IsWord, over, fits, passes, edge, among, reserved, symbols, is_number, all_digits, value_from}
use Rattle.wy_layout.specs.Names.{is_name}
use Rattle.wy_layout.specs.Read.{name_len, digits_len}
use Rattle.wy_layout.specs.Printed.{Ends, Apart}
use Rattle.wy_layout.specs.Lines.{content_of, ends_line, after_blanks, is_done}
use Rattle.wy_layout.specs.declared.refusal.Fault.TheVariants as fault
use Rattle.wy_layout.proofs.Scanning.{and_left, and_right, eq_is, not_is}
use Rattle.wy_layout.proofs.NameRuns.{both}
use Rattle.wy_layout.proofs.LongestWord.{among_holds}
use Rattle.wy_layout.proofs.Apart.{no_name_goes}
use Rattle.wy_layout.proofs.Quoting.{quoted_text}
use Rattle.wy_canonical.proofs.PrintedNames.{flat, name_flat, name_utf8, name_first, utf8_small}

-- ---- tests of a byte

-- it is one of these
abbrev pub one_of : ℕ → List ℕ → Bool
one_of c [] = false
one_of c (n ∷ ns) = (c == n) || one_of c ns

abbrev pub each : (ℕ → Bool) → List ℕ → Bool
each P [] = true
each P (n ∷ ns) = P n && each P ns

pub one_holds : (P : ℕ → Bool) (c : ℕ) (ns : List ℕ) → each P ns ≡ true → one_of c ns ≡ true → P c ≡ true
one_holds P c [] a h = absurd (let t : false ≡ true = h in cc)
one_holds P c (n ∷ ns) a h = go (c == n) refl h (λ k. one_holds P c ns (and_right (P n) (each P ns) a) k)
  where
    go : (b : Bool) → (c == n) ≡ b → (b || one_of c ns) ≡ true → (one_of c ns ≡ true → P c ≡ true) → P c ≡ true
    go true e h ih = ap P (eq_is c n e) ∙ and_left (P n) (each P ns) a
    go false e h ih = ih h

-- ---- what may stand behind a word

-- the bytes that close a word: a newline, a blank, a bracket of any kind but an opening brace, a comma, a full stop, a colon
abbrev pub closers : List ℕ
closers = 10 ∷ 32 ∷ 40 ∷ 41 ∷ 44 ∷ 46 ∷ 58 ∷ 91 ∷ 93 ∷ 125 ∷ []

-- a word is closed behind
abbrev pub closes : List ℕ → Bool
closes [] = true
closes (c ∷ cs) = one_of c closers

-- no symbol goes on behind
abbrev pub free : List ℕ → Bool
free [] = true
free (c ∷ cs) = not (one_of c (61 ∷ 43 ∷ 38 ∷ 124 ∷ 47 ∷ []))

-- anything may stand behind
abbrev pub any : List ℕ → Bool
any u = true

pub closes_free : (u : List ℕ) → closes u ≡ true → free u ≡ true
closes_free [] h = refl
closes_free (c ∷ cs) h = one_holds (λ b. not (one_of b (61 ∷ 43 ∷ 38 ∷ 124 ∷ 47 ∷ []))) c closers refl h

pub closes_content : (u : List ℕ) → closes u ≡ true → closes (content_of u) ≡ true
closes_content [] h = refl
closes_content (c ∷ cs) h = go (ends_line (c ∷ cs))
  where
    go : (b : Bool) → closes (cond b [] (c ∷ content_of cs)) ≡ true
    go true = refl
    go false = h

pub free_content : (u : List ℕ) → free u ≡ true → free (content_of u) ≡ true
free_content [] h = refl
free_content (c ∷ cs) h = go (ends_line (c ∷ cs))
  where
    go : (b : Bool) → free (cond b [] (c ∷ content_of cs)) ≡ true
    go true = refl
    go false = h

free_ends : (u : List ℕ) → free u ≡ true → Ends u
free_ends [] h = tt
free_ends (c ∷ cs) h = go (c == 61) (c == 43) (c == 38) (c == 124) (c == 47) h
  where
    go : (a b d e f : Bool) → not (a || (b || (d || (e || (f || false))))) ≡ true → (a || (b || (d || e))) ≡ false
    go true b d e f h = absurd (let t : false ≡ true = h in cc)
    go false true d e f h = absurd (let t : false ≡ true = h in cc)
    go false false true e f h = absurd (let t : false ≡ true = h in cc)
    go false false false true f h = absurd (let t : false ≡ true = h in cc)
    go false false false false f h = refl

-- no slash stands there
abbrev pub slashless : List ℕ → Bool
slashless [] = true
slashless (c ∷ cs) = not (c == 47)

pub free_slashless : (u : List ℕ) → free u ≡ true → slashless u ≡ true
free_slashless [] h = refl
free_slashless (c ∷ cs) h = go (c == 61) (c == 43) (c == 38) (c == 124) (c == 47) h
  where
    go : (a b d e f : Bool) → not (a || (b || (d || (e || (f || false))))) ≡ true → not f ≡ true
    go true b d e f h = absurd (let t : false ≡ true = h in cc)
    go false true d e f h = absurd (let t : false ≡ true = h in cc)
    go false false true e f h = absurd (let t : false ≡ true = h in cc)
    go false false false true f h = absurd (let t : false ≡ true = h in cc)
    go false false false false f h = go' f h
      where
        go' : (f : Bool) → not (f || false) ≡ true → not f ≡ true
        go' true h = h
        go' false h = refl

closed_name : (u : List ℕ) → closes u ≡ true → name_len 0 u ≡ 0
closed_name [] h = refl
closed_name (c ∷ cs) h =
    let small : nat_lt c 128 ≡ true = one_holds (λ b. nat_lt b 128) c closers refl h in
    let none = not_is (is_ascii_alphanumeric c || (c == 95)) (one_holds (λ b. not (is_ascii_alphanumeric b || (b == 95))) c closers refl h) in
    no_name_goes c cs (less c small) none
  where
    less : (c : ℕ) → nat_lt c 128 ≡ true → c < 128
    less c h = grind arith

closed_digits : (u : List ℕ) → closes u ≡ true → digits_len u ≡ 0
closed_digits [] h = refl
closed_digits (c ∷ cs) h = let none = not_is (is_ascii_digit c) (one_holds (λ b. not (is_ascii_digit b)) c closers refl h) in rw none refl

pub closed_apart : (word : Word) (u : List ℕ) → closes u ≡ true → Apart word u
closed_apart (name v) u h = closed_name u h
closed_apart (number n) u h = closed_digits u h
closed_apart (text v) u h = tt
closed_apart (fixed v) u h = ((λ e. closed_name u h), (λ e. free_ends u (closes_free u h)))

pub free_apart : (v u : List ℕ) → among v reserved ≡ false → free u ≡ true → Apart (fixed v) u
free_apart v u n h = ((λ e. absurd (let t : false ≡ true = sym n ∙ e in cc)), (λ e. free_ends u h))

-- ---- what a word begins with

abbrev pub unblank : ℕ → Bool
unblank c = not ((c == 32) || (c == 9))

-- it begins with no blank, and with no slash where it is longer
abbrev pub fine : List ℕ → Bool
fine [] = false
fine (a ∷ []) = unblank a
fine (a ∷ b ∷ u) = unblank a && not (a == 47)

pub fine_unblank : (a : ℕ) (u : List ℕ) → fine (a ∷ u) ≡ true → unblank a ≡ true
fine_unblank a [] h = h
fine_unblank a (b ∷ u) h = and_left (unblank a) (not (a == 47)) h

pub fine_done : (w u : List ℕ) → fine w ≡ true → slashless u ≡ true → is_done (w ++ u) ≡ false
fine_done [] u h s = absurd (let t : false ≡ true = h in cc)
fine_done (a ∷ []) [] h s = refl
fine_done (a ∷ []) (b ∷ u) h s = go (a == 47) (b == 47) s
  where
    go : (x y : Bool) → not y ≡ true → (x && y) ≡ false
    go true true s = absurd (let t : false ≡ true = s in cc)
    go true false s = refl
    go false y s = refl
fine_done (a ∷ b ∷ w) u h s = let n = not_is (a == 47) (and_right (unblank a) (not (a == 47)) h) in rw n refl

pub fine_blanks : (w u : List ℕ) → fine w ≡ true → after_blanks (w ++ u) ≡ w ++ u
fine_blanks [] u h = absurd (let t : false ≡ true = h in cc)
fine_blanks (a ∷ w) u h = let n = not_is ((a == 32) || (a == 9)) (fine_unblank a w h) in rw n refl

-- ---- lines

ends_not : (b : ℕ) (u : List ℕ) → not ((b == 10) || (b == 13)) ≡ true → ends_line (b ∷ u) ≡ false
ends_not b u h = go (b == 10) refl (b == 13) refl u h
  where
    go : (x : Bool) → (b == 10) ≡ x → (y : Bool) → (b == 13) ≡ y → (u : List ℕ) → not (x || y) ≡ true → ends_line (b ∷ u) ≡ false
    go true e y f u h = absurd (let t : false ≡ true = h in cc)
    go false e true f u h = absurd (let t : false ≡ true = h in cc)
    go false e false f [] h = e
    go false e false f (c ∷ u) h = rw (e, f) refl

pub flat_content : (w u : List ℕ) → flat w ≡ true → content_of (w ++ u) ≡ w ++ content_of u
flat_content [] u h = refl
flat_content (b ∷ w) u h =
    let e = ends_not b (w ++ u) (and_left (not ((b == 10) || (b == 13))) (flat w) h) in
    ap (λ (x : Bool). cond x [] (b ∷ content_of (w ++ u))) e ∙ ap (λ (z : List ℕ). b ∷ z) (flat_content w u (and_right (not ((b == 10) || (b == 13))) (flat w) h))

-- ---- printed words

pub record IsPrinted (word : Word) (w : List ℕ) : Type 0 where
  pub is_word : IsWord word w
  pub limits : over word ≡ fits
  pub is_flat : flat w ≡ true
  pub utf8 : IsUtf8 w
  pub begins : fine w ≡ true

-- each byte is below 128, and no line's end
abbrev plain_byte : ℕ → Bool
plain_byte b = nat_lt b 128 && not ((b == 10) || (b == 13))

abbrev plain : List ℕ → Bool
plain [] = true
plain (b ∷ bs) = plain_byte b && plain bs

pub plain_flat : (w : List ℕ) → plain w ≡ true → flat w ≡ true
plain_flat [] h = refl
plain_flat (b ∷ w) h = both (not ((b == 10) || (b == 13))) (flat w) (and_right (nat_lt b 128) (not ((b == 10) || (b == 13))) (and_left (plain_byte b) (plain w) h)) (plain_flat w (and_right (plain_byte b) (plain w) h))

pub plain_utf8 : (w : List ℕ) → plain w ≡ true → IsUtf8 w
plain_utf8 [] h = IsUtf8-nil
plain_utf8 (b ∷ w) h = IsUtf8-append (b ∷ []) w (utf8_small b (less b (and_left (nat_lt b 128) (not ((b == 10) || (b == 13))) (and_left (plain_byte b) (plain w) h)))) (plain_utf8 w (and_right (plain_byte b) (plain w) h))
  where
    less : (c : ℕ) → nat_lt c 128 ≡ true → c < 128
    less c h = grind arith

pub plain_append : (u v : List ℕ) → plain u ≡ true → plain v ≡ true → plain (u ++ v) ≡ true
plain_append [] v h k = k
plain_append (b ∷ u) v h k = both (plain_byte b) (plain (u ++ v)) (and_left (plain_byte b) (plain u) h) (plain_append u v (and_right (plain_byte b) (plain u) h) k)

pub printed_name : (v : List ℕ) → is_name v ≡ true → among v reserved ≡ false → over (name v) ≡ fits → IsPrinted (name v) v
printed_name v h r o = record { is_word = (refl, h, r); limits = o; is_flat = name_flat v h; utf8 = name_utf8 v h; begins = go v h }
  where
    go : (v : List ℕ) → is_name v ≡ true → fine v ≡ true
    go [] h = absurd (let t : false ≡ true = h in cc)
    go (a ∷ []) h = let x = name_first a [] h 32 (omega arith) refl in let y = name_first a [] h 9 (omega arith) refl in rw (x, y) refl
    go (a ∷ b ∷ v) h = let x = name_first a (b ∷ v) h 32 (omega arith) refl in let y = name_first a (b ∷ v) h 9 (omega arith) refl in let z = name_first a (b ∷ v) h 47 (omega arith) refl in rw (x, y, z) refl

pub printed_reserved : (v : List ℕ) → among v reserved ≡ true → IsPrinted (fixed v) v
printed_reserved v h = let p = among_holds plain v reserved refl h in record { is_word = (refl, inl h); limits = refl; is_flat = plain_flat v p; utf8 = plain_utf8 v p; begins = among_holds fine v reserved refl h }

pub printed_symbol : (v : List ℕ) → among v symbols ≡ true → IsPrinted (fixed v) v
printed_symbol v h = let p = among_holds plain v symbols refl h in record { is_word = (refl, inr h); limits = refl; is_flat = plain_flat v p; utf8 = plain_utf8 v p; begins = among_holds fine v symbols refl h }

-- ---- numbers

pub record IsDigits (n : ℕ) (w : List ℕ) : Type 0 where
  pub digits : is_number w ≡ true
  pub value : value_from 0 w ≡ n
  pub are_plain : plain w ≡ true
  pub begins : fine w ≡ true

digit_is : (d : ℕ) → d < 10 → is_ascii_digit (48 + d) ≡ true
digit_is d h = grind arith

digit_plain : (d : ℕ) → d < 10 → plain_byte (48 + d) ≡ true
digit_plain d h = grind arith

digits_append : (w v : List ℕ) → all_digits w ≡ true → all_digits v ≡ true → all_digits (w ++ v) ≡ true
digits_append [] v h k = k
digits_append (b ∷ w) v h k = both (is_ascii_digit b) (all_digits (w ++ v)) (and_left (is_ascii_digit b) (all_digits w) h) (digits_append w v (and_right (is_ascii_digit b) (all_digits w) h) k)

value_append : (m : ℕ) (w v : List ℕ) → value_from m (w ++ v) ≡ value_from (value_from m w) v
value_append m [] v = refl
value_append m (b ∷ w) v = value_append (m * 10 + (b - 48)) w v

number_fine : (w : List ℕ) → is_number w ≡ true → fine w ≡ true
number_fine [] h = absurd (let t : false ≡ true = h in cc)
number_fine (a ∷ w) h = go w
  where
    digit : is_ascii_digit a ≡ true
    digit = and_left (is_ascii_digit a) (all_digits w) h

    other : (n : ℕ) → is_ascii_digit n ≡ false → (a == n) ≡ false
    other n k = pick (a == n) refl
      where
        pick : (x : Bool) → (a == n) ≡ x → (a == n) ≡ false
        pick false e = e
        pick true e = let t : true ≡ false = sym digit ∙ ap is_ascii_digit (eq_is a n e) ∙ k in absurd cc

    go : (w : List ℕ) → fine (a ∷ w) ≡ true
    go [] = let x = other 32 refl in let y = other 9 refl in rw (x, y) refl
    go (b ∷ w) = let x = other 32 refl in let y = other 9 refl in let z = other 47 refl in rw (x, y, z) refl

decimal_is : (n : ℕ) → n < 2 ^ 64 → IsDigits n (decimal n)
decimal_is n h = decimal_by_steps IsDigits one step n h
  where
    one : (n : ℕ) → n < 10 → IsDigits n ((48 + n) ∷ [])
    one n h =
        let d : is_number ((48 + n) ∷ []) ≡ true = both (is_ascii_digit (48 + n)) true (digit_is n h) refl in
        record { digits = d; value = omega arith; are_plain = both (plain_byte (48 + n)) true (digit_plain n h) refl; begins = number_fine ((48 + n) ∷ []) d }

    number_append : (w : List ℕ) (d : ℕ) → is_number w ≡ true → is_ascii_digit d ≡ true → is_number (w ++ d ∷ []) ≡ true
    number_append [] d h k = absurd (let t : false ≡ true = h in cc)
    number_append (b ∷ w) d h k = both (is_ascii_digit b) (all_digits (w ++ d ∷ [])) (and_left (is_ascii_digit b) (all_digits w) h) (digits_append w (d ∷ []) (and_right (is_ascii_digit b) (all_digits w) h) (both (is_ascii_digit d) true k refl))

    step : (n : ℕ) (ds : List ℕ) → 10 ≤ n → IsDigits (n / 10) ds → IsDigits n (ds ++ ((48 + n % 10) ∷ []))
    step n ds h k =
        let small : n % 10 < 10 = omega arith in
        let d : is_number (ds ++ ((48 + n % 10) ∷ [])) ≡ true = number_append ds (48 + n % 10) k.digits (digit_is (n % 10) small) in
        let e = k.value in
        record {
          digits = d;
          value = value_append 0 ds ((48 + n % 10) ∷ []) ∙ ap (λ (m : ℕ). m * 10 + (48 + n % 10 - 48)) e ∙ omega arith;
          are_plain = plain_append ds ((48 + n % 10) ∷ []) k.are_plain (both (plain_byte (48 + n % 10)) true (digit_plain (n % 10) small) refl);
          begins = number_fine (ds ++ ((48 + n % 10) ∷ [])) d;
        }

pub printed_number : (n : ℕ) → n ≤ edge → IsPrinted (number n) (decimal n)
printed_number n h =
    let d = decimal_is n (omega arith) in
    let l : nat_lt edge n ≡ false = le-ltb edge n h in
    record { is_word = (d.digits, sym d.value); limits = ap (λ (b : Bool). cond b (passes fault.NumberTooLarge) fits) l; is_flat = plain_flat (decimal n) d.are_plain; utf8 = plain_utf8 (decimal n) d.are_plain; begins = d.begins }

-- ---- texts

digit_of_plain : (v : ℕ) → v < 16 → plain_byte (hexadecimal_digit_of v) ≡ true
digit_of_plain v h = go (nat_lt v 10) refl
  where
    low : nat_lt v 10 ≡ true → plain_byte (48 + v) ≡ true
    low e = grind arith

    up : nat_lt v 10 ≡ false → plain_byte (97 + (v - 10)) ≡ true
    up e = grind arith

    go : (b : Bool) → nat_lt v 10 ≡ b → plain_byte (cond b (48 + v) (97 + (v - 10))) ≡ true
    go true e = low e
    go false e = up e

byte_plain : (b : ℕ) → b < 256 → plain (quoted_byte b) ≡ true
byte_plain b h = go (b == 34) (b == 92) (b == 10) (b == 9) (is_printed b) refl
  where
    printed : is_printed b ≡ true → plain_byte b ≡ true
    printed h = grind arith

    go : (q s n t p : Bool) → is_printed b ≡ p → plain (cond q (codes "\\\"") (cond s (codes "\\\\") (cond n (codes "\\n") (cond t (codes "\\t") (cond p (b ∷ []) (92 ∷ 120 ∷ hexadecimal_digit_of (b / 16) ∷ hexadecimal_digit_of (b % 16) ∷ [])))))) ≡ true
    go true s n t p e = refl
    go false true n t p e = refl
    go false false true t p e = refl
    go false false false true p e = refl
    go false false false false true e = both (plain_byte b) true (printed e) refl
    go false false false false false e = both (plain_byte (hexadecimal_digit_of (b / 16))) (plain_byte (hexadecimal_digit_of (b % 16)) && true) (digit_of_plain (b / 16) (omega arith)) (both (plain_byte (hexadecimal_digit_of (b % 16))) true (digit_of_plain (b % 16) (omega arith)) refl)

bytes_plain : (v : List ℕ) → AllByRecursion (λ b. b < 256) v → plain (quoted_bytes v) ≡ true
bytes_plain [] h = refl
bytes_plain (b ∷ v) h = plain_append (quoted_byte b) (quoted_bytes v) (byte_plain b h.0) (bytes_plain v h.1)

pub printed_text : (v : List ℕ) → AllByRecursion (λ b. b < 256) v → IsPrinted (text v) (quoted_form v)
printed_text v h =
    let p : plain (quoted_form v) ≡ true = plain_append (quoted_bytes v) (34 ∷ []) (bytes_plain v h) refl in
    record { is_word = quoted_text v h; limits = refl; is_flat = plain_flat (quoted_form v) p; utf8 = plain_utf8 (quoted_form v) p; begins = go (quoted_bytes v) }
  where
    go : (w : List ℕ) → fine (34 ∷ (w ++ 34 ∷ [])) ≡ true
    go [] = refl
    go (b ∷ w) = refl
