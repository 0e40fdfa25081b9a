-- Numbers as far as the machine counts.
use Rattle.std.specs.Prelude.{ℕ, ◌-◌, ◌^◌, min}

-- a number, or the greatest one of the machine if that is less
abbrev pub capped : ℕ → ℕ
capped n = min n (2 ^ 64 - 1)
