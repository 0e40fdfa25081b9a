-- A text between quotes.
use Rattle.std.specs.Prelude.{codes, ℕ, ◌+◌, ◌-◌, ◌/◌, ◌%◌, ◌==◌, ◌&&◌, nat_lt, nat_le, if◌then◌else◌, Bool, List, [], ◌∷◌, ◌++◌}

-- the lower-case hexadecimal digit of a value below 16
abbrev pub hexadecimal_digit_of : ℕ → ℕ
hexadecimal_digit_of value = if nat_lt value 10 then 48 + value else 97 + (value - 10)

-- a byte that stands between quotes as itself, where it is no quote and no backslash
abbrev pub is_printed : ℕ → Bool
is_printed byte = nat_le 32 byte && nat_le byte 126

-- a byte as it stands between quotes
abbrev pub quoted_byte : ℕ → List ℕ
quoted_byte byte =
    if byte == 34 then codes "\\\""
    else if byte == 92 then codes "\\\\"
    else if byte == 10 then codes "\\n"
    else if byte == 9 then codes "\\t"
    else if is_printed byte then byte ∷ []
    else (92 ∷ 120 ∷ hexadecimal_digit_of (byte / 16) ∷ hexadecimal_digit_of (byte % 16) ∷ [])

abbrev pub quoted_bytes : List ℕ → List ℕ
quoted_bytes [] = []
quoted_bytes (byte ∷ bytes) = quoted_byte byte ++ quoted_bytes bytes

-- the text between quotes
abbrev pub quoted_form : List ℕ → List ℕ
quoted_form text = 34 ∷ (quoted_bytes text ++ 34 ∷ [])
