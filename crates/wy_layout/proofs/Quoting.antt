-- A text in its quoted form is a text that stands for its bytes.
use Rattle.std.proofs.Common.{◌≡◌, ℕ, ◌+◌, ◌*◌, ◌-◌, ◌/◌, ◌%◌, ◌<◌, ◌==◌, nat_lt, Bool, true, false, cond, List, [], ◌∷◌, ◌++◌, map, codes, refl, ap, ◌∙◌, arith}
use Rattle.std.specs.List.{AllByRecursion}
use Rattle.std.specs.Char.{is_ascii_hexdigit}
use Rattle.wy_text.specs.Quoted.{hexadecimal_digit_of, is_printed, quoted_byte, quoted_bytes, quoted_form}
use Rattle.wy_layout.specs.Texts.{Piece, plain, short, hex, IsText, Good, good, spell, spelling, byte_of, hex_value, is_control, is_plain}
use Rattle.wy_layout.proofs.Scanning.{eq_is}

-- the digit of a value below 16 is one, and has the value
pub digit_good : (v : ℕ) → v < 16 → is_ascii_hexdigit (hexadecimal_digit_of v) ≡ true
digit_good v h = go (nat_lt v 10) refl
  where
    low : nat_lt v 10 ≡ true → is_ascii_hexdigit (48 + v) ≡ true
    low e = grind arith

    high : nat_lt v 10 ≡ false → is_ascii_hexdigit (97 + (v - 10)) ≡ true
    high e = grind arith

    go : (b : Bool) → nat_lt v 10 ≡ b → is_ascii_hexdigit (cond b (48 + v) (97 + (v - 10))) ≡ true
    go true e = low e
    go false e = high e

pub digit_value : (v : ℕ) → v < 16 → hex_value (hexadecimal_digit_of v) ≡ v
digit_value v h = go (nat_lt v 10) refl
  where
    low : nat_lt v 10 ≡ true → hex_value (48 + v) ≡ v
    low e = grind arith

    high : nat_lt v 10 ≡ false → hex_value (97 + (v - 10)) ≡ v
    high e = grind arith

    go : (b : Bool) → nat_lt v 10 ≡ b → hex_value (cond b (48 + v) (97 + (v - 10))) ≡ v
    go true e = low e
    go false e = high e

-- the piece of a byte
abbrev piece_of : ℕ → Piece
piece_of b =
    cond (b == 34) (short 34)
    (cond (b == 92) (short 92)
    (cond (b == 10) (short 110)
    (cond (b == 9) (short 116)
    (cond (is_printed b) (plain b) (hex (hexadecimal_digit_of (b / 16)) (hexadecimal_digit_of (b % 16)))))))

pub record IsQuoted (b : ℕ) (p : Piece) (w : List ℕ) : Type 0 where
  pub is_good : good p ≡ true
  pub spelled : w ≡ spelling p
  pub value : b ≡ byte_of p

no_control : (b : ℕ) → is_printed b ≡ true → is_control b ≡ false
no_control b h = grind arith

quoted_is : (b : ℕ) → b < 256 → IsQuoted b (piece_of b) (quoted_byte b)
quoted_is b h = go (b == 34) refl (b == 92) refl (b == 10) refl (b == 9) refl (is_printed b) refl
  where
    printed : (b == 34) ≡ false → (b == 92) ≡ false → is_printed b ≡ true → is_plain b ≡ true
    printed e f g = let n = no_control b g in rw (e, f, n) refl

    upper : b / 16 < 16
    upper = omega arith

    lower : b % 16 < 16
    lower = omega arith

    hex_good : good (hex (hexadecimal_digit_of (b / 16)) (hexadecimal_digit_of (b % 16))) ≡ true
    hex_good = let x = digit_good (b / 16) upper in let y = digit_good (b % 16) lower in rw (x, y) refl

    hex_byte : b ≡ hex_value (hexadecimal_digit_of (b / 16)) * 16 + hex_value (hexadecimal_digit_of (b % 16))
    hex_byte = let x = digit_value (b / 16) upper in let y = digit_value (b % 16) lower in rw (x, y) (omega arith)

    go : (q : Bool) → (b == 34) ≡ q → (s : Bool) → (b == 92) ≡ s → (n : Bool) → (b == 10) ≡ n → (t : Bool) → (b == 9) ≡ t → (p : Bool) → is_printed b ≡ p →
        IsQuoted b (cond q (short 34) (cond s (short 92) (cond n (short 110) (cond t (short 116) (cond p (plain b) (hex (hexadecimal_digit_of (b / 16)) (hexadecimal_digit_of (b % 16))))))))
        (cond q (codes "\\\"") (cond s (codes "\\\\") (cond n (codes "\\n") (cond t (codes "\\t") (cond p (b ∷ []) (92 ∷ 120 ∷ hexadecimal_digit_of (b / 16) ∷ hexadecimal_digit_of (b % 16) ∷ []))))))
    go true e s f n g t i p j = record { is_good = refl; spelled = refl; value = eq_is b 34 e }
    go false e true f n g t i p j = record { is_good = refl; spelled = refl; value = eq_is b 92 f }
    go false e false f true g t i p j = record { is_good = refl; spelled = refl; value = eq_is b 10 g }
    go false e false f false g true i p j = record { is_good = refl; spelled = refl; value = eq_is b 9 i }
    go false e false f false g false i true j = record { is_good = printed e f j; spelled = refl; value = refl }
    go false e false f false g false i false j = record { is_good = hex_good; spelled = refl; value = hex_byte }

abbrev AreBytes : List ℕ → Type 0
AreBytes v = AllByRecursion (λ b. b < 256) v

spelled_all : (v : List ℕ) → AreBytes v → quoted_bytes v ≡ spell (map piece_of v)
spelled_all [] h = refl
spelled_all (b ∷ v) (h, k) = let q = quoted_is b h in ap (λ (w : List ℕ). w ++ quoted_bytes v) q.spelled ∙ ap (λ (w : List ℕ). spelling (piece_of b) ++ w) (spelled_all v k)

good_all : (v : List ℕ) → AreBytes v → Good (map piece_of v)
good_all [] h = tt
good_all (b ∷ v) (h, k) = let q = quoted_is b h in (q.is_good, good_all v k)

value_all : (v : List ℕ) → AreBytes v → v ≡ map byte_of (map piece_of v)
value_all [] h = refl
value_all (b ∷ v) (h, k) = let q = quoted_is b h in ap (λ (x : ℕ). x ∷ v) q.value ∙ ap (λ (w : List ℕ). byte_of (piece_of b) ∷ w) (value_all v k)

pub quoted_text : (v : List ℕ) → AreBytes v → IsText v (quoted_form v)
quoted_text v h = record {
  pieces = map piece_of v;
  are_good = good_all v h;
  quoted = ap (λ (w : List ℕ). 34 ∷ (w ++ 34 ∷ [])) (spelled_all v h);
  stands_for = value_all v h;
}
