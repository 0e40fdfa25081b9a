-- What operators see of words, and what they give for it.
use Rattle.std.proofs.Common.{◌≡◌, ℕ, ◌^◌, ◌<◌, ℤ, pos, negsuc, Bool, true, false, List, [], ◌∷◌, Option, Some, None, refl, sym, ap, ◌∙◌, arith, nat_lt}
use Rattle.std.specs.Prelude.{slice_get, if◌then◌else◌, FitsSigned}
use Rattle.std.specs.Option.{SomeIff}
use Rattle.wy_device.specs.Operators as meant
use Rattle.wy_device.specs.Traps.{Overflow}
use Rattle.std.specs.Int.{w64}
use Rattle.wy_device.specs.Operators.{Operand, Number, Truth as TruthOperand, Bytes, Other, Computed, GivesTruth, Misfits, is_int, within_range, on_numbers, on_number, on_truth, on_text, on_texts, on_text_and_number, on_text_and_numbers, compared, same_int, same_truth}
use Rattle.wy_code.specs.Stores.{Word, Int, Truth, Nothing, Text, Object, Grant, Store, operand, bytes_found}
use Rattle.wy_code.specs.Operations.{operand_text}
use Rattle.wy_machine.specs.Computing.{both, ranged}
use Rattle.wy_machine.specs.Words.{int_of, truth_of, text_of}

abbrev pub given_one : {A : Type 0} → (A → Computed) → Option A → Computed
given_one f None = Misfits
given_one f (Some x) = f x

abbrev pub given_two : {A B : Type 0} → (A → B → Computed) → Option (A × B) → Computed
given_two f None = Misfits
given_two f (Some p) = f p.0 p.1

------------------------------------------------------------
-- Operands

abbrev pub number_in : Operand → Option ℤ
number_in (Number n) = Some n
number_in (TruthOperand b) = None
number_in (Bytes bytes) = None
number_in Other = None

abbrev pub truth_in : Operand → Option Bool
truth_in (Number n) = None
truth_in (TruthOperand b) = Some b
truth_in (Bytes bytes) = None
truth_in Other = None

no_number : (o : Option (List ℕ)) → number_in (bytes_found o) ≡ None
no_number None = refl
no_number (Some bytes) = refl

no_truth : (o : Option (List ℕ)) → truth_in (bytes_found o) ≡ None
no_truth None = refl
no_truth (Some bytes) = refl

text_found : (o : Option (List ℕ)) → operand_text (bytes_found o) ≡ o
text_found None = refl
text_found (Some bytes) = refl

pub number_in_operand : (w : Store) (v : Word) → number_in (operand w v) ≡ int_of v
number_in_operand w (Int n) = refl
number_in_operand w (Truth b) = refl
number_in_operand w Nothing = refl
number_in_operand w (Text t) = no_number (slice_get w.texts t)
number_in_operand w (Object a) = refl
number_in_operand w (Grant g) = refl

pub truth_in_operand : (w : Store) (v : Word) → truth_in (operand w v) ≡ truth_of v
truth_in_operand w (Int n) = refl
truth_in_operand w (Truth b) = refl
truth_in_operand w Nothing = refl
truth_in_operand w (Text t) = no_truth (slice_get w.texts t)
truth_in_operand w (Object a) = refl
truth_in_operand w (Grant g) = refl

abbrev pub text_numbered : Store → Option ℕ → Option (List ℕ)
text_numbered w None = None
text_numbered w (Some t) = slice_get w.texts t

pub text_in_operand : (w : Store) (v : Word) → operand_text (operand w v) ≡ text_numbered w (text_of v)
text_in_operand w (Int n) = refl
text_in_operand w (Truth b) = refl
text_in_operand w Nothing = refl
text_in_operand w (Text t) = text_found (slice_get w.texts t)
text_in_operand w (Object a) = refl
text_in_operand w (Grant g) = refl

------------------------------------------------------------
-- Shapes of operands

numbers_shape : (f : ℤ → ℤ → Computed) (a b : Operand) → on_numbers f (a ∷ b ∷ []) ≡ given_two f (both (number_in a) (number_in b))
numbers_shape f (Number x) (Number y) = refl
numbers_shape f (Number x) (TruthOperand b) = refl
numbers_shape f (Number x) (Bytes s) = refl
numbers_shape f (Number x) Other = refl
numbers_shape f (TruthOperand b) y = refl
numbers_shape f (Bytes s) y = refl
numbers_shape f Other y = refl

number_shape : (f : ℤ → Computed) (a : Operand) → on_number f (a ∷ []) ≡ given_one f (number_in a)
number_shape f (Number x) = refl
number_shape f (TruthOperand b) = refl
number_shape f (Bytes s) = refl
number_shape f Other = refl

truth_shape : (f : Bool → Computed) (a : Operand) → on_truth f (a ∷ []) ≡ given_one f (truth_in a)
truth_shape f (Number x) = refl
truth_shape f (TruthOperand b) = refl
truth_shape f (Bytes s) = refl
truth_shape f Other = refl

pub text_shape : (f : List ℕ → Computed) (a : Operand) → on_text f (a ∷ []) ≡ given_one f (operand_text a)
text_shape f (Number x) = refl
text_shape f (TruthOperand b) = refl
text_shape f (Bytes s) = refl
text_shape f Other = refl

pub texts_shape : (f : List ℕ → List ℕ → Computed) (a b : Operand) → on_texts f (a ∷ b ∷ []) ≡ given_two f (both (operand_text a) (operand_text b))
texts_shape f (Bytes s) (Number y) = refl
texts_shape f (Bytes s) (TruthOperand b) = refl
texts_shape f (Bytes s) (Bytes t) = refl
texts_shape f (Bytes s) Other = refl
texts_shape f (Number x) y = refl
texts_shape f (TruthOperand b) y = refl
texts_shape f Other y = refl

pub text_number_shape : (f : List ℕ → ℤ → Computed) (a b : Operand) → on_text_and_number f (a ∷ b ∷ []) ≡ given_two f (both (operand_text a) (number_in b))
text_number_shape f (Bytes s) (Number y) = refl
text_number_shape f (Bytes s) (TruthOperand b) = refl
text_number_shape f (Bytes s) (Bytes t) = refl
text_number_shape f (Bytes s) Other = refl
text_number_shape f (Number x) y = refl
text_number_shape f (TruthOperand b) y = refl
text_number_shape f Other y = refl

abbrev pub given_three : (List ℕ → ℤ → ℤ → Computed) → Option (List ℕ × Option (ℤ × ℤ)) → Computed
given_three f None = Misfits
given_three f (Some p) = given_two (f p.0) p.1

abbrev pub with_numbers : Option (List ℕ) → Option (ℤ × ℤ) → Option (List ℕ × Option (ℤ × ℤ))
with_numbers None p = None
with_numbers (Some s) p = Some (s, p)

pub text_numbers_shape : (f : List ℕ → ℤ → ℤ → Computed) (a b c : Operand) → on_text_and_numbers f (a ∷ b ∷ c ∷ []) ≡ given_three f (with_numbers (operand_text a) (both (number_in b) (number_in c)))
text_numbers_shape f (Bytes s) (Number x) (Number y) = refl
text_numbers_shape f (Bytes s) (Number x) (TruthOperand b) = refl
text_numbers_shape f (Bytes s) (Number x) (Bytes t) = refl
text_numbers_shape f (Bytes s) (Number x) Other = refl
text_numbers_shape f (Bytes s) (TruthOperand b) c = refl
text_numbers_shape f (Bytes s) (Bytes t) c = refl
text_numbers_shape f (Bytes s) Other c = refl
text_numbers_shape f (Number x) b c = refl
text_numbers_shape f (TruthOperand t) b c = refl
text_numbers_shape f Other b c = refl

pub on_numbers_are : (w : Store) (f : ℤ → ℤ → Computed) (x y : Word) → on_numbers f (operand w x ∷ operand w y ∷ []) ≡ given_two f (both (int_of x) (int_of y))
on_numbers_are w f x y =
    numbers_shape f (operand w x) (operand w y)
    ∙ ap (λ n. given_two f (both n (number_in (operand w y)))) (number_in_operand w x)
    ∙ ap (λ n. given_two f (both (int_of x) n)) (number_in_operand w y)

pub on_number_are : (w : Store) (f : ℤ → Computed) (x : Word) → on_number f (operand w x ∷ []) ≡ given_one f (int_of x)
on_number_are w f x = number_shape f (operand w x) ∙ ap (given_one f) (number_in_operand w x)

pub on_truth_are : (w : Store) (f : Bool → Computed) (x : Word) → on_truth f (operand w x ∷ []) ≡ given_one f (truth_of x)
on_truth_are w f x = truth_shape f (operand w x) ∙ ap (given_one f) (truth_in_operand w x)

------------------------------------------------------------
-- Numbers

int_fits : (z : ℤ) → FitsSigned w64 z → is_int z ≡ true
int_fits (pos n) h = grind (arith, h.sfits)
int_fits (negsuc n) h = grind (arith, h.sfits)

int_misfits : (z : ℤ) → ¬ FitsSigned w64 z → is_int z ≡ false
int_misfits (pos n) h = of_test (nat_lt n (2 ^ 63)) refl
  where
    of_test : (b : Bool) → nat_lt n (2 ^ 63) ≡ b → nat_lt n (2 ^ 63) ≡ false
    of_test true e = let lt : n < 2 ^ 63 = grind arith in absurd (h (record { sfits = lt }))
    of_test false e = e
int_misfits (negsuc n) h = of_test (nat_lt n (2 ^ 63)) refl
  where
    of_test : (b : Bool) → nat_lt n (2 ^ 63) ≡ b → nat_lt n (2 ^ 63) ≡ false
    of_test true e = let lt : n < 2 ^ 63 = grind arith in absurd (h (record { sfits = lt }))
    of_test false e = e

-- a calculation that fails exactly where its result is out of range
pub fits : (z : ℤ) (o : Option ℤ) → SomeIff o (FitsSigned w64 z) z → ranged o ≡ within_range z
fits z None h = sym (ap (λ b. if b then meant.GivesNumber z else meant.Traps Overflow) (int_misfits z h))
fits z (Some n) h = ap meant.GivesNumber h.1 ∙ sym (ap (λ b. if b then meant.GivesNumber z else meant.Traps Overflow) (int_fits z h.0))
