-- The last line of a run, by its end. (docs/LANGUAGE.md, "How a run ends")
use Rattle.std.specs.Prelude.{codes, ℕ, List, [], ◌++◌}
use Rattle.std.specs.Fmt.{decimal}
use Rattle.wy_text.specs.declared.fault.Place.{Place}
use Rattle.wy_device.specs.Operation.{method_text}
use Rattle.wy_device.specs.RunEnds.{RunEnd, Ended, Trap, TooDeep, DeviceFailed, Waiting, Spent, Wrong}
use Rattle.wy_device.specs.Traps.{trap_text}

-- a place, in the file of a word
abbrev pub place_text : (ℕ → List ℕ) → Place → List ℕ
place_text word place = word place.file ++ (codes ":" ++ (decimal place.line ++ (codes ":" ++ decimal place.column)))

-- the line of an end, with the file words by their numbers, the depth and the step bound. A run that came to its end
-- has none, nor has one that waits, which no run of a program does
abbrev pub end_line : (ℕ → List ℕ) → ℕ → ℕ → RunEnd → List ℕ
end_line word depth bound Ended = []
end_line word depth bound (Trap kind place) = place_text word place ++ (codes ": trap: " ++ (trap_text kind ++ codes "\n"))
end_line word depth bound TooDeep = codes "too deep: " ++ (decimal depth ++ codes "\n")
end_line word depth bound Spent = codes "spent: " ++ (decimal bound ++ codes "\n")
end_line word depth bound (DeviceFailed grant op) = grant ++ (codes "." ++ (method_text op ++ codes ": failed\n"))
end_line word depth bound Waiting = []
end_line word depth bound Wrong = []
