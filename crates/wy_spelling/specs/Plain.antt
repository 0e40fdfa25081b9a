-- The bytes of texts, Ints and truth values.
use Rattle.std.specs.Prelude.{FitsSigned, ℕ, ◌/◌, ◌%◌, ℤ, Bool, true, false, List, [], ◌∷◌, ◌++◌, length}
use Rattle.std.specs.Int.{w64, cast_unsigned}
use Rattle.wy_spelling.specs.Spelling.{number_bytes, IsNumber}

-- a text: how many bytes, and the bytes
abbrev pub text_bytes : List ℕ → List ℕ
text_bytes t = number_bytes (length t) ++ t

-- .. and so many that four bytes can say how many
abbrev pub IsTextSpelled : List ℕ → Type 0
IsTextSpelled t = IsNumber (length t)

-- eight bytes, the least first
abbrev pub long_bytes : ℕ → List ℕ
long_bytes n =
    n % 256 ∷ n / 256 % 256 ∷ n / 65536 % 256 ∷ n / 16777216 % 256 ∷ n / 4294967296 % 256 ∷
    n / 1099511627776 % 256 ∷ n / 281474976710656 % 256 ∷ n / 72057594037927936 % 256 ∷ []

-- an Int: the eight bytes of its two's complement
abbrev pub int_bytes : ℤ → List ℕ
int_bytes n = long_bytes (cast_unsigned w64 n)

-- every Int
abbrev pub IsIntSpelled : ℤ → Type 0
IsIntSpelled n = FitsSigned w64 n

-- the byte of a truth value
abbrev pub truth_byte : Bool → ℕ
truth_byte false = 0
truth_byte true = 1

-- a truth value: its byte
abbrev pub truth_bytes : Bool → List ℕ
truth_bytes b = truth_byte b ∷ []

-- every truth value
abbrev pub IsTruthSpelled : Bool → Type 0
IsTruthSpelled b = Unit {0}
