-- What operators give for words.
use Rattle.std.specs.Prelude.{◌≡◌, ℕ, ℤ, pos, negsuc, Bool, true, false, not, Option, Some, None, bytes_eq}
use Rattle.wy_device.specs.Operators as meant
use Rattle.wy_device.specs.Operators.{GivesNumber, GivesTruth, Builds, Traps, Misfits, same_int, same_truth}
use Rattle.wy_device.specs.Traps.{Overflow}
use Rattle.wy_code.specs.Stores as words
use Rattle.wy_code.specs.Stores.{Word, Int}
use Rattle.wy_machine.specs.TrapKinds.{trap_meant}
use Rattle.wy_machine.specs.declared.computed.Computed.{Computed}
use Rattle.wy_machine.specs.declared.computed.Computed.TheVariants.{Number, Truth, Text, Trap, Misfit}

abbrev pub computed_meant : Computed → meant.Computed
computed_meant (Number n) = GivesNumber n
computed_meant (Truth b) = GivesTruth b
computed_meant (Text bytes) = Builds bytes
computed_meant (Trap kind) = Traps (trap_meant kind)
computed_meant Misfit = Misfits

-- a number or a truth value as a word
abbrev pub word_given : Computed → Option Word
word_given (Number n) = Some (Int n)
word_given (Truth b) = Some (words.Truth b)
word_given (Text bytes) = None
word_given (Trap kind) = None
word_given Misfit = None

-- what an operator gives is this number or truth value
abbrev pub IsGiven : Word → meant.Computed → Type 0
IsGiven (Int n) c = GivesNumber n ≡ c
IsGiven (words.Truth b) c = GivesTruth b ≡ c
IsGiven _ c = ⊥

-- both values, where both are there
abbrev pub both : {A B : Type 0} → Option A → Option B → Option (A × B)
both None y = None
both (Some x) None = None
both (Some x) (Some y) = Some (x, y)

-- the number that is no negative one
abbrev pub natural : ℤ → Option ℕ
natural (pos n) = Some n
natural (negsuc n) = None

-- what a calculation gives, where only a number out of range has no result
abbrev pub ranged : Option ℤ → meant.Computed
ranged None = Traps Overflow
ranged (Some n) = GivesNumber n

-- whether both are the same number, truth value or text, where both are of one of these
abbrev pub same_operand : meant.Operand → meant.Operand → Option Bool
same_operand (meant.Number x) (meant.Number y) = Some (same_int x y)
same_operand (meant.Truth x) (meant.Truth y) = Some (same_truth x y)
same_operand (meant.Bytes s) (meant.Bytes t) = Some (bytes_eq s t)
same_operand _ _ = None

-- the other truth value where the first is true
abbrev pub not_if : Bool → Bool → Bool
not_if true b = not b
not_if false b = b
