-- What the operators and the operations on texts give, and when they trap. (docs/LANGUAGE.md, "Operations")
use Rattle.std.specs.Prelude.{ℕ, ◌-◌, ◌^◌, ◌==◌, nat_lt, nat_le, ℤ, pos, negsuc, ◌+ℤ◌, ◌-ℤ◌, ◌*ℤ◌, neg_ℤ, int_lt, int_le, int_div, int_rem, Bool, true, false, not, ◌&&◌, List, [], ◌∷◌, ◌++◌, length, take, drop, slice_get, Option, Some, None, bytes_eq, if◌then◌else◌}
use Rattle.std.specs.Fmt.{signed_decimal}
use Rattle.wy_device.specs.Traps.{TrapKind, Overflow, ZeroDivisor, BadPart, LongText, text_limit}

-- all operators but `&&` and `||`, which evaluate their right side only where it is needed
pub data Operator : Type 0 where
  Negate : Operator
  Not : Operator
  Add : Operator
  Subtract : Operator
  Multiply : Operator
  Divide : Operator
  Remainder : Operator
  Join : Operator
  Less : Operator
  LessOrEqual : Operator
  Greater : Operator
  GreaterOrEqual : Operator
  Equal : Operator
  NotEqual : Operator
  Size : Operator
  Part : Operator
  Code : Operator
  Byte : Operator
  Show : Operator

-- what operators see of a value
pub data Operand : Type 0 where
  Number : ℤ → Operand
  Truth : Bool → Operand
  Bytes : List ℕ → Operand
  -- a value of another kind
  Other : Operand

-- a number, a truth value, or a new text; a trap; or operands of a wrong kind
pub data Computed : Type 0 where
  GivesNumber : ℤ → Computed
  GivesTruth : Bool → Computed
  Builds : List ℕ → Computed
  Traps : TrapKind → Computed
  Misfits : Computed

-- from -9223372036854775808 to 9223372036854775807
abbrev pub is_int : ℤ → Bool
is_int (pos n) = nat_lt n (2 ^ 63)
is_int (negsuc n) = nat_lt n (2 ^ 63)

abbrev pub within_range : ℤ → Computed
within_range n = if is_int n then GivesNumber n else Traps Overflow

abbrev pub is_zero : ℤ → Bool
is_zero (pos n) = n == 0
is_zero (negsuc n) = false

-- division goes toward zero, and the remainder has the dividend's sign
abbrev pub quotient_of : ℤ → ℤ → Computed
quotient_of x y = if is_zero y then Traps ZeroDivisor else within_range (int_div x y)

abbrev pub remainder_of : ℤ → ℤ → Computed
remainder_of x y = if is_zero y then Traps ZeroDivisor else GivesNumber (int_rem x y)

-- one text and then the other, where a text has so many bytes at most
abbrev pub joined : ℕ → List ℕ → List ℕ → Computed
joined most s t = if nat_le (length (s ++ t)) most then Builds (s ++ t) else Traps LongText

-- the bytes from one place up to before another
abbrev pub part_of : List ℕ → ℤ → ℤ → Computed
part_of s (pos a) (pos b) = if nat_le a b && nat_le b (length s) then Builds (take (b - a) (drop a s)) else Traps BadPart
part_of s _ _ = Traps BadPart

abbrev pub byte_found : Option ℕ → Computed
byte_found None = Traps BadPart
byte_found (Some b) = GivesNumber (pos b)

abbrev pub byte_at : List ℕ → ℤ → Computed
byte_at s (pos i) = byte_found (slice_get s i)
byte_at s (negsuc i) = Traps BadPart

abbrev pub one_byte : ℤ → Computed
one_byte (pos b) = if nat_le b 255 then Builds (b ∷ []) else Traps BadPart
one_byte (negsuc b) = Traps BadPart

abbrev pub same_int : ℤ → ℤ → Bool
same_int (pos m) (pos n) = m == n
same_int (negsuc m) (negsuc n) = m == n
same_int _ _ = false

abbrev pub same_truth : Bool → Bool → Bool
same_truth true b = b
same_truth false b = not b

-- both are numbers, both truth values, or both texts
abbrev pub compared : (Bool → Bool) → Operand → Operand → Computed
compared as_asked (Number x) (Number y) = GivesTruth (as_asked (same_int x y))
compared as_asked (Truth x) (Truth y) = GivesTruth (as_asked (same_truth x y))
compared as_asked (Bytes s) (Bytes t) = GivesTruth (as_asked (bytes_eq s t))
compared as_asked _ _ = Misfits

abbrev pub on_numbers : (ℤ → ℤ → Computed) → List Operand → Computed
on_numbers f (Number x ∷ Number y ∷ []) = f x y
on_numbers f _ = Misfits

abbrev pub on_two : (Operand → Operand → Computed) → List Operand → Computed
on_two f (x ∷ y ∷ []) = f x y
on_two f _ = Misfits

abbrev pub on_number : (ℤ → Computed) → List Operand → Computed
on_number f (Number x ∷ []) = f x
on_number f _ = Misfits

abbrev pub on_truth : (Bool → Computed) → List Operand → Computed
on_truth f (Truth x ∷ []) = f x
on_truth f _ = Misfits

abbrev pub on_text : (List ℕ → Computed) → List Operand → Computed
on_text f (Bytes s ∷ []) = f s
on_text f _ = Misfits

abbrev pub on_texts : (List ℕ → List ℕ → Computed) → List Operand → Computed
on_texts f (Bytes s ∷ Bytes t ∷ []) = f s t
on_texts f _ = Misfits

abbrev pub on_text_and_number : (List ℕ → ℤ → Computed) → List Operand → Computed
on_text_and_number f (Bytes s ∷ Number i ∷ []) = f s i
on_text_and_number f _ = Misfits

abbrev pub on_text_and_numbers : (List ℕ → ℤ → ℤ → Computed) → List Operand → Computed
on_text_and_numbers f (Bytes s ∷ Number a ∷ Number b ∷ []) = f s a b
on_text_and_numbers f _ = Misfits

-- what an operator gives for its operands, where a text has so many bytes at most
unfoldable pub operate_within : ℕ → Operator → List Operand → Computed
operate_within most Negate xs = on_number (λ x. within_range (neg_ℤ x)) xs
operate_within most Not xs = on_truth (λ x. GivesTruth (not x)) xs
operate_within most Add xs = on_numbers (λ x y. within_range (x +ℤ y)) xs
operate_within most Subtract xs = on_numbers (λ x y. within_range (x -ℤ y)) xs
operate_within most Multiply xs = on_numbers (λ x y. within_range (x *ℤ y)) xs
operate_within most Divide xs = on_numbers quotient_of xs
operate_within most Remainder xs = on_numbers remainder_of xs
operate_within most Join xs = on_texts (joined most) xs
operate_within most Less xs = on_numbers (λ x y. GivesTruth (int_lt x y)) xs
operate_within most LessOrEqual xs = on_numbers (λ x y. GivesTruth (int_le x y)) xs
operate_within most Greater xs = on_numbers (λ x y. GivesTruth (int_lt y x)) xs
operate_within most GreaterOrEqual xs = on_numbers (λ x y. GivesTruth (int_le y x)) xs
operate_within most Equal xs = on_two (compared (λ same. same)) xs
operate_within most NotEqual xs = on_two (compared not) xs
operate_within most Size xs = on_text (λ s. GivesNumber (pos (length s))) xs
operate_within most Part xs = on_text_and_numbers part_of xs
operate_within most Code xs = on_text_and_number byte_at xs
operate_within most Byte xs = on_number one_byte xs
operate_within most Show xs = on_number (λ x. Builds (signed_decimal x)) xs

-- and what it gives on a machine
abbrev pub operate : Operator → List Operand → Computed
operate o xs = operate_within text_limit o xs
