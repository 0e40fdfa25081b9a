-- The numbers that words are. (docs/LANGUAGE.md, "The command line")
use Rattle.std.specs.Prelude.{ℕ, ◌+◌, ◌*◌, ◌-◌, nat_le, ◌&&◌, List, [], ◌∷◌, Option, Some, None, Bool, if◌then◌else◌, length}
use Rattle.std.specs.List.{list_all}

-- the greatest number that any word may be asked for
abbrev pub most_number : ℕ
most_number = 1000000000000

abbrev pub is_digit : ℕ → Bool
is_digit byte = nat_le 48 byte && nat_le byte 57

-- the number that digits are, behind those that were read
abbrev pub number_after : ℕ → List ℕ → ℕ
number_after read [] = read
number_after read (digit ∷ digits) = number_after (10 * read + (digit - 48)) digits

-- one to thirteen digits
abbrev pub is_numeral : List ℕ → Bool
is_numeral word = nat_le 1 (length word) && (nat_le (length word) 13 && list_all is_digit word)

-- the number of a numeral, where it is no greater than the most
abbrev pub number_up_to : ℕ → List ℕ → Option ℕ
number_up_to most word = if is_numeral word && nat_le (number_after 0 word) most then Some (number_after 0 word) else None
