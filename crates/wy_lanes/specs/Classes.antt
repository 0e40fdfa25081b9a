-- The classes of bytes, and where in a list the bytes of a class are, as bits.
use Rattle.std.specs.Prelude.{ℕ, Bool, ◌&&◌, ◌||◌, ◌==◌, List, [], ◌∷◌, map, nat_le}
use Rattle.std.specs.Simd.Lanes.{mask_l}

-- the byte at the end of a line
abbrev pub is_newline : ℕ → Bool
is_newline byte = byte == 10

abbrev pub is_space : ℕ → Bool
is_space byte = byte == 32

abbrev pub is_quote : ℕ → Bool
is_quote byte = byte == 34

-- the byte is one of those from the first to the last
abbrev pub is_from_to : ℕ → ℕ → ℕ → Bool
is_from_to first last byte = nat_le first byte && nat_le byte last

-- a letter, a digit or an underscore of ASCII, or a byte that is none of ASCII's
abbrev pub is_word : ℕ → Bool
is_word byte = is_from_to 65 90 byte || (is_from_to 97 122 byte || (is_from_to 48 57 byte || (byte == 95 || nat_le 128 byte)))

-- the number whose bit i says that byte i is of the class; no bit is set past the last byte
abbrev pub mask_of : (ℕ → Bool) → List ℕ → ℕ
mask_of is_of_class bytes = mask_l (map is_of_class bytes)

-- where the newlines, the spaces, the word bytes and the double quotes are
abbrev pub masks_of : List ℕ → List ℕ
masks_of bytes = mask_of is_newline bytes ∷ mask_of is_space bytes ∷ mask_of is_word bytes ∷ mask_of is_quote bytes ∷ []
