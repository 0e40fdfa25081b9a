-- What is told of streams: those whose bytes nobody knows, and what a console reads of known bytes.
use Rattle.std.specs.Prelude.{◌≡◌, ◌++◌, ℕ, List, Option, None, IfSome, take}
use Rattle.std.specs.Io.BufRead.{take_through}

-- a stream as a sink tells none of the bytes that it took
abbrev pub unsaid : Option (List ℕ)
unsaid = None

-- what a console reads first of these bytes: a line with its newline, or the first 65,536 bytes of a longer one
abbrev pub first_piece : List ℕ → List ℕ
first_piece bytes = take_through 10 (take 65536 bytes)

-- of known bytes these are the first piece
abbrev pub IsFirst : Option (List ℕ) → List ℕ → Type 0
IsFirst known piece = IfSome known (λ bytes. piece ≡ first_piece bytes)

-- of known bytes a line grew by those up to the first newline, and by so many at most
abbrev pub GrewUpTo : ℕ → Option (List ℕ) → List ℕ → List ℕ → Type 0
GrewUpTo room known old new = IfSome known (λ bytes. new ≡ old ++ take_through 10 (take room bytes))
