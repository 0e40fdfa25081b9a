-- The forms of instructions.
use Rattle.std.proofs.Common.{◌≡◌, ◌≢◌, ◌⊎◌, ℕ, ◌≤◌, List, ◌∷◌, get_or, refl, sym, ap, inl, inr, arith}
use Rattle.wy_code.specs.declared.instruction.Operator.{Operator}
use Rattle.wy_spelling.specs.Kinds.{number_kind, pair_of}
use Rattle.wy_spelling.specs.Spelling.{AreBoth, IsNumber, both_bytes, number_bytes}
use Rattle.wy_spelling.proofs.Forms.{IsForm}
use Rattle.wy_image.specs.ConstantLaws.{constant_kind}
use Rattle.wy_image.specs.Forms.{IsNumberedInstruction}
use Rattle.wy_image.specs.InstructionLaws.{instruction_kind}
use Rattle.wy_image.specs.OperatorLaws.{operator_kind}
use Rattle.wy_image.specs.Spelled.{IsConstantSpelled, IsInstructionSpelled, IsOperatorSpelled}
use Rattle.wy_image.specs.Spelled.{constant_bytes, instruction_bytes, operator_bytes}
use Rattle.wy_image.specs.declared.file.Constant.{Constant}
use Rattle.wy_image.specs.declared.file.Instruction.{Instruction}
use Rattle.wy_image.specs.declared.file.Instruction.TheVariants as v
use Rattle.wy_image.proofs.Ranges.{one_of_3, one_of_4}

form_most : (x : Instruction) → get_or (instruction_bytes x) 0 0 ≤ 13
form_most (v.Push k) = omega arith
form_most (v.Load n) = omega arith
form_most (v.Store n) = omega arith
form_most (v.Get n) = omega arith
form_most (v.Set n) = omega arith
form_most v.Drop = omega arith
form_most (v.Op o) = omega arith
form_most (v.Jump n) = omega arith
form_most (v.JumpFalse n) = omega arith
form_most (v.New n) = omega arith
form_most (v.Call m n) = omega arith
form_most v.Return = omega arith
form_most v.Finish = omega arith

form_least : (x : Instruction) → 1 ≤ get_or (instruction_bytes x) 0 0
form_least (v.Push k) = omega arith
form_least (v.Load n) = omega arith
form_least (v.Store n) = omega arith
form_least (v.Get n) = omega arith
form_least (v.Set n) = omega arith
form_least v.Drop = omega arith
form_least (v.Op o) = omega arith
form_least (v.Jump n) = omega arith
form_least (v.JumpFalse n) = omega arith
form_least (v.New n) = omega arith
form_least (v.Call m n) = omega arith
form_least v.Return = omega arith
form_least v.Finish = omega arith

-- another byte is of no form
pub other_form : (bytes : List ℕ) → (1 ≤ get_or bytes 0 0 → get_or bytes 0 0 ≤ 13 → ⊥) → (x : Instruction)
    → get_or (instruction_bytes x) 0 0 ≢ get_or bytes 0 0
other_form bytes outside x same = outside (omega (arith, form_least x, same)) (omega (arith, form_most x, same))

constant_from : (x : Instruction) (others : List ℕ) → IsInstructionSpelled x → instruction_bytes x ≡ 1 ∷ others
    → (k : Constant) × IsConstantSpelled k × (others ≡ constant_bytes k)
constant_from (v.Push k) others is e = (k, is, cc)
constant_from x others is e = absurd cc

pub constant_form : IsForm constant_kind instruction_kind 1
constant_form = record { into = λ k is. (v.Push k, is, refl); from = constant_from }

operator_from : (x : Instruction) (others : List ℕ) → IsInstructionSpelled x → instruction_bytes x ≡ 7 ∷ others
    → (o : Operator) × IsOperatorSpelled o × (others ≡ operator_bytes o)
operator_from (v.Op o) others is e = (o, is, cc)
operator_from x others is e = absurd cc

pub operator_form : IsForm operator_kind instruction_kind 7
operator_form = record { into = λ o is. (v.Op o, is, refl); from = operator_from }

call_from : (x : Instruction) (others : List ℕ) → IsInstructionSpelled x → instruction_bytes x ≡ 11 ∷ others
    → (p : ℕ × ℕ) × AreBoth IsNumber IsNumber p × (others ≡ both_bytes number_bytes number_bytes p)
call_from (v.Call m n) others is e = ((m, n), is, cc)
call_from x others is e = absurd cc

pub call_form : IsForm (pair_of number_kind number_kind) instruction_kind 11
call_form = record { into = λ p is. (v.Call p.0 p.1, is, refl); from = call_from }

low_into : (f : ℕ) → (f ≡ 2) ⊎ (f ≡ 3) ⊎ (f ≡ 4) ⊎ (f ≡ 5) → (n : ℕ) → IsNumber n
    → (x : Instruction) × IsInstructionSpelled x × (instruction_bytes x ≡ f ∷ number_bytes n)
low_into f (inl e) n is = (v.Load n, is, ap (λ (form : ℕ). form ∷ number_bytes n) (sym e))
low_into f (inr (inl e)) n is = (v.Store n, is, ap (λ (form : ℕ). form ∷ number_bytes n) (sym e))
low_into f (inr (inr (inl e))) n is = (v.Get n, is, ap (λ (form : ℕ). form ∷ number_bytes n) (sym e))
low_into f (inr (inr (inr e))) n is = (v.Set n, is, ap (λ (form : ℕ). form ∷ number_bytes n) (sym e))

high_into : (f : ℕ) → (f ≡ 8) ⊎ (f ≡ 9) ⊎ (f ≡ 10) → (n : ℕ) → IsNumber n
    → (x : Instruction) × IsInstructionSpelled x × (instruction_bytes x ≡ f ∷ number_bytes n)
high_into f (inl e) n is = (v.Jump n, is, ap (λ (form : ℕ). form ∷ number_bytes n) (sym e))
high_into f (inr (inl e)) n is = (v.JumpFalse n, is, ap (λ (form : ℕ). form ∷ number_bytes n) (sym e))
high_into f (inr (inr e)) n is = (v.New n, is, ap (λ (form : ℕ). form ∷ number_bytes n) (sym e))

number_from : (f : ℕ) → IsNumberedInstruction f → (x : Instruction) (others : List ℕ) → IsInstructionSpelled x
    → instruction_bytes x ≡ f ∷ others → (n : ℕ) × IsNumber n × (others ≡ number_bytes n)
number_from f form (v.Push k) others is e = absurd (let byte : 1 ≡ f = cc in omega (arith, form, byte))
number_from f form (v.Load n) others is e = (n, is, cc)
number_from f form (v.Store n) others is e = (n, is, cc)
number_from f form (v.Get n) others is e = (n, is, cc)
number_from f form (v.Set n) others is e = (n, is, cc)
number_from f form v.Drop others is e = absurd (let byte : 6 ≡ f = cc in omega (arith, form, byte))
number_from f form (v.Op o) others is e = absurd (let byte : 7 ≡ f = cc in omega (arith, form, byte))
number_from f form (v.Jump n) others is e = (n, is, cc)
number_from f form (v.JumpFalse n) others is e = (n, is, cc)
number_from f form (v.New n) others is e = (n, is, cc)
number_from f form (v.Call m n) others is e = absurd (let byte : 11 ≡ f = cc in omega (arith, form, byte))
number_from f form v.Return others is e = absurd (let byte : 12 ≡ f = cc in omega (arith, form, byte))
number_from f form v.Finish others is e = absurd (let byte : 13 ≡ f = cc in omega (arith, form, byte))

-- those that have a number
pub low_form : (f : ℕ) → 2 ≤ f → f ≤ 5 → IsForm number_kind instruction_kind f
low_form f low high = record { into = low_into f (one_of_4 2 f low high); from = number_from f (inl (low, high)) }

pub high_form : (f : ℕ) → 8 ≤ f → f ≤ 10 → IsForm number_kind instruction_kind f
high_form f low high = record { into = high_into f (one_of_3 8 f low high); from = number_from f (inr (low, high)) }
