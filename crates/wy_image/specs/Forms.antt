-- Which forms have a number.
use Rattle.std.specs.Prelude.{◌≤◌, ◌⊎◌, ℕ}

-- listed types, literals, grants and instances
abbrev pub IsNumberedReference : ℕ → Type 0
IsNumberedReference f = (4 ≤ f) × (f ≤ 7)

-- slots and values
abbrev pub IsNumberedCapture : ℕ → Type 0
IsNumberedCapture f = (0 ≤ f) × (f ≤ 1)

-- grants and instances
abbrev pub IsNumberedArgument : ℕ → Type 0
IsNumberedArgument f = (0 ≤ f) × (f ≤ 1)

-- grants and instances
abbrev pub IsNumberedConstant : ℕ → Type 0
IsNumberedConstant f = (4 ≤ f) × (f ≤ 5)

-- all instructions that have exactly one number
abbrev pub IsNumberedInstruction : ℕ → Type 0
IsNumberedInstruction f = ((2 ≤ f) × (f ≤ 5)) ⊎ ((8 ≤ f) × (f ≤ 10))
