-- Words of 64 bits as sets of bits, and lists of words compared place by place.
use Rattle.std.specs.Prelude.{◌≡◌, ℕ, ◌*◌, ◌/◌, ◌%◌, Bool, List, take, drop, bit_or, nat_eq, slice_index}
use Rattle.std.specs.Int.{bit_at}
use Rattle.std.specs.Simd.Lanes.{zip2, Each2}

-- each word the bitwise or of the two in its place
abbrev pub union_of : List ℕ → List ℕ → List ℕ
union_of xs ys = zip2 bit_or xs ys

-- the word has no bit outside the bound: with the bound's bits it is the bound
abbrev pub IsInside : ℕ → ℕ → Type 0
IsInside word bound = bit_or word bound ≡ bound

-- no word has a bit outside the bound in its place
abbrev pub AllInside : List ℕ → List ℕ → Type 0
AllInside words bounds = Each2 IsInside words bounds

-- the row of eight words with this number, from 0
abbrev pub row_of : List ℕ → ℕ → List ℕ
row_of rows number = take 8 (drop (8 * number) rows)

-- whether this bit is set, counted from the lowest of the first word: bit n % 64 of word n / 64
abbrev pub has_bit : List ℕ → ℕ → Bool
has_bit words n = nat_eq (bit_at (slice_index words (n / 64)) (n % 64)) 1
