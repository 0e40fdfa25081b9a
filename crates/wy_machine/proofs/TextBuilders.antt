-- Only four operators build a text.
use Rattle.std.proofs.Common.{◌≡◌, ℤ, pos, negsuc, Bool, true, false, List, [], ◌∷◌, refl, not, subst, sym}
use Rattle.std.specs.Prelude.{⊤, if◌then◌else◌, neg_ℤ, ◌+ℤ◌, ◌-ℤ◌, ◌*ℤ◌, int_div, int_rem, slice_get, Option, Some, None, ℕ}
use Rattle.wy_device.specs.Traps.{Overflow, ZeroDivisor}
use Rattle.wy_device.specs.Operators.{Operand, Number, Truth, Bytes, Other, Computed, GivesNumber, GivesTruth, Builds, Traps, Misfits, operate, operate_within, is_int, is_zero, within_range, quotient_of, remainder_of, byte_found, byte_at, compared, on_numbers, on_two, on_number, on_truth, on_text, on_text_and_number}
use Rattle.wy_code.specs.declared.instruction.Operator.{Operator}
use Rattle.wy_code.specs.declared.instruction.Operator.TheVariants as operator
use Rattle.wy_code.specs.Operations.{operator_meant}
use Rattle.wy_machine.specs.Wanting.{builds_text}

abbrev IsNoText : Computed → Type 0
IsNoText (GivesNumber n) = ⊤
IsNoText (GivesTruth b) = ⊤
IsNoText (Builds bytes) = ⊥
IsNoText (Traps kind) = ⊤
IsNoText Misfits = ⊤

------------------------------------------------------------
-- Results that are no text

ranged : (n : ℤ) → IsNoText (within_range n)
ranged n = of_test (is_int n)
  where
    of_test : (b : Bool) → IsNoText (if b then GivesNumber n else Traps Overflow)
    of_test true = tt
    of_test false = tt

quotient_plain : (x y : ℤ) → IsNoText (quotient_of x y)
quotient_plain x y = of_test (is_zero y)
  where
    of_test : (b : Bool) → IsNoText (if b then Traps ZeroDivisor else within_range (int_div x y))
    of_test true = tt
    of_test false = ranged (int_div x y)

remainder_plain : (x y : ℤ) → IsNoText (remainder_of x y)
remainder_plain x y = of_test (is_zero y)
  where
    of_test : (b : Bool) → IsNoText (if b then Traps ZeroDivisor else GivesNumber (int_rem x y))
    of_test true = tt
    of_test false = tt

byte_plain : (s : List ℕ) (i : ℤ) → IsNoText (byte_at s i)
byte_plain s (pos i) = of_byte (slice_get s i)
  where
    of_byte : (o : Option ℕ) → IsNoText (byte_found o)
    of_byte None = tt
    of_byte (Some b) = tt
byte_plain s (negsuc i) = tt

compared_plain : (f : Bool → Bool) (x y : Operand) → IsNoText (compared f x y)
compared_plain f (Number x) (Number y) = tt
compared_plain f (Number x) (Truth y) = tt
compared_plain f (Number x) (Bytes y) = tt
compared_plain f (Number x) Other = tt
compared_plain f (Truth x) (Number y) = tt
compared_plain f (Truth x) (Truth y) = tt
compared_plain f (Truth x) (Bytes y) = tt
compared_plain f (Truth x) Other = tt
compared_plain f (Bytes x) (Number y) = tt
compared_plain f (Bytes x) (Truth y) = tt
compared_plain f (Bytes x) (Bytes y) = tt
compared_plain f (Bytes x) Other = tt
compared_plain f Other (Number y) = tt
compared_plain f Other (Truth y) = tt
compared_plain f Other (Bytes y) = tt
compared_plain f Other Other = tt

------------------------------------------------------------
-- Operands

on_number_plain : (f : ℤ → Computed) → ((x : ℤ) → IsNoText (f x)) → (xs : List Operand) → IsNoText (on_number f xs)
on_number_plain f h [] = tt
on_number_plain f h (Number x ∷ []) = h x
on_number_plain f h (Number x ∷ y ∷ ys) = tt
on_number_plain f h (Truth x ∷ ys) = tt
on_number_plain f h (Bytes x ∷ ys) = tt
on_number_plain f h (Other ∷ ys) = tt

on_truth_plain : (f : Bool → Computed) → ((x : Bool) → IsNoText (f x)) → (xs : List Operand) → IsNoText (on_truth f xs)
on_truth_plain f h [] = tt
on_truth_plain f h (Number x ∷ ys) = tt
on_truth_plain f h (Truth x ∷ []) = h x
on_truth_plain f h (Truth x ∷ y ∷ ys) = tt
on_truth_plain f h (Bytes x ∷ ys) = tt
on_truth_plain f h (Other ∷ ys) = tt

on_text_plain : (f : List ℕ → Computed) → ((x : List ℕ) → IsNoText (f x)) → (xs : List Operand) → IsNoText (on_text f xs)
on_text_plain f h [] = tt
on_text_plain f h (Number x ∷ ys) = tt
on_text_plain f h (Truth x ∷ ys) = tt
on_text_plain f h (Bytes x ∷ []) = h x
on_text_plain f h (Bytes x ∷ y ∷ ys) = tt
on_text_plain f h (Other ∷ ys) = tt

on_numbers_plain : (f : ℤ → ℤ → Computed) → ((x y : ℤ) → IsNoText (f x y)) → (xs : List Operand) → IsNoText (on_numbers f xs)
on_numbers_plain f h [] = tt
on_numbers_plain f h (Number x ∷ []) = tt
on_numbers_plain f h (Number x ∷ Number y ∷ []) = h x y
on_numbers_plain f h (Number x ∷ Number y ∷ z ∷ zs) = tt
on_numbers_plain f h (Number x ∷ Truth y ∷ zs) = tt
on_numbers_plain f h (Number x ∷ Bytes y ∷ zs) = tt
on_numbers_plain f h (Number x ∷ Other ∷ zs) = tt
on_numbers_plain f h (Truth x ∷ ys) = tt
on_numbers_plain f h (Bytes x ∷ ys) = tt
on_numbers_plain f h (Other ∷ ys) = tt

on_text_and_number_plain : (f : List ℕ → ℤ → Computed) → ((x : List ℕ) (y : ℤ) → IsNoText (f x y)) → (xs : List Operand) → IsNoText (on_text_and_number f xs)
on_text_and_number_plain f h [] = tt
on_text_and_number_plain f h (Number x ∷ ys) = tt
on_text_and_number_plain f h (Truth x ∷ ys) = tt
on_text_and_number_plain f h (Bytes x ∷ []) = tt
on_text_and_number_plain f h (Bytes x ∷ Number y ∷ []) = h x y
on_text_and_number_plain f h (Bytes x ∷ Number y ∷ z ∷ zs) = tt
on_text_and_number_plain f h (Bytes x ∷ Truth y ∷ zs) = tt
on_text_and_number_plain f h (Bytes x ∷ Bytes y ∷ zs) = tt
on_text_and_number_plain f h (Bytes x ∷ Other ∷ zs) = tt
on_text_and_number_plain f h (Other ∷ ys) = tt

on_two_plain : (f : Operand → Operand → Computed) → ((x y : Operand) → IsNoText (f x y)) → (xs : List Operand) → IsNoText (on_two f xs)
on_two_plain f h [] = tt
on_two_plain f h (x ∷ []) = tt
on_two_plain f h (x ∷ y ∷ []) = h x y
on_two_plain f h (x ∷ y ∷ z ∷ zs) = tt

no_text : (xs : Computed) (bytes : List ℕ) → Builds bytes ≡ xs → IsNoText xs → ⊥
no_text c bytes e h = subst IsNoText (sym e) h

-- an operator that gives a text is one of the four
pub only_builders : (o : Operator) (xs : List Operand) (bytes : List ℕ) → Builds bytes ≡ operate (operator_meant o) xs → builds_text o ≡ true
unfolding operate_within
only_builders operator.Negate xs bytes e = absurd (no_text _ bytes e (on_number_plain _ (λ x. ranged (neg_ℤ x)) xs))
only_builders operator.Not xs bytes e = absurd (no_text _ bytes e (on_truth_plain _ (λ x. tt) xs))
only_builders operator.Add xs bytes e = absurd (no_text _ bytes e (on_numbers_plain _ (λ x y. ranged (x +ℤ y)) xs))
only_builders operator.Subtract xs bytes e = absurd (no_text _ bytes e (on_numbers_plain _ (λ x y. ranged (x -ℤ y)) xs))
only_builders operator.Multiply xs bytes e = absurd (no_text _ bytes e (on_numbers_plain _ (λ x y. ranged (x *ℤ y)) xs))
only_builders operator.Divide xs bytes e = absurd (no_text _ bytes e (on_numbers_plain quotient_of quotient_plain xs))
only_builders operator.Remainder xs bytes e = absurd (no_text _ bytes e (on_numbers_plain remainder_of remainder_plain xs))
only_builders operator.Join xs bytes e = refl
only_builders operator.Less xs bytes e = absurd (no_text _ bytes e (on_numbers_plain _ (λ x y. tt) xs))
only_builders operator.LessOrEqual xs bytes e = absurd (no_text _ bytes e (on_numbers_plain _ (λ x y. tt) xs))
only_builders operator.Greater xs bytes e = absurd (no_text _ bytes e (on_numbers_plain _ (λ x y. tt) xs))
only_builders operator.GreaterOrEqual xs bytes e = absurd (no_text _ bytes e (on_numbers_plain _ (λ x y. tt) xs))
only_builders operator.Equal xs bytes e = absurd (no_text _ bytes e (on_two_plain _ (compared_plain (λ same. same)) xs))
only_builders operator.NotEqual xs bytes e = absurd (no_text _ bytes e (on_two_plain _ (compared_plain not) xs))
only_builders operator.Size xs bytes e = absurd (no_text _ bytes e (on_text_plain _ (λ s. tt) xs))
only_builders operator.Part xs bytes e = refl
only_builders operator.Code xs bytes e = absurd (no_text _ bytes e (on_text_and_number_plain byte_at byte_plain xs))
only_builders operator.Byte xs bytes e = refl
only_builders operator.Show xs bytes e = refl
