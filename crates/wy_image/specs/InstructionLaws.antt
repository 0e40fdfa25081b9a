-- Instructions: a byte for the form, and what the form has after it.
use Rattle.std.proofs.Common.{◌≡◌, ℕ, ◌≤◌, List, [], ◌∷◌, ◌++◌, length, get_or, refl, sym, ap, ◌∙◌, subst, arith, lit≤}
use Rattle.wy_spelling.specs.NumberLaws.{numbers_apart}
use Rattle.wy_spelling.specs.PairLaws.{pairs_apart}
use Rattle.wy_spelling.specs.Spelling.{AreApart, IsNumber, number_bytes}
use Rattle.wy_code.specs.declared.instruction.Operator.{Operator}
use Rattle.wy_code.specs.declared.instruction.Operator.TheVariants as o
use Rattle.wy_image.specs.ConstantLaws.{constants_apart}
use Rattle.wy_image.specs.OperatorLaws.{operators_apart}
use Rattle.wy_image.specs.Spelled.{IsConstantSpelled, IsInstructionSpelled, IsOperatorSpelled}
use Rattle.wy_image.specs.Spelled.{constant_bytes, instruction_bytes, operator_bytes}
use Rattle.wy_image.specs.declared.file.Constant.{Constant}
use Rattle.wy_image.specs.declared.file.Constant.TheVariants as c
use Rattle.wy_image.specs.declared.file.Instruction.{Instruction}
use Rattle.wy_image.specs.declared.file.Instruction.TheVariants as v
use Rattle.wy_spelling.specs.Kinds.{Kind}

-- one that has a spelling
pub some_instruction : (x : Instruction) × IsInstructionSpelled x
some_instruction = (v.Drop, tt)

-- each has a byte
pub instructions_filled : (x : Instruction) → 1 ≤ length (instruction_bytes x)
instructions_filled (v.Push k) = omega arith
instructions_filled (v.Load n) = lit≤ tt
instructions_filled (v.Store n) = lit≤ tt
instructions_filled (v.Get n) = lit≤ tt
instructions_filled (v.Set n) = lit≤ tt
instructions_filled v.Drop = lit≤ tt
instructions_filled (v.Op p) = omega arith
instructions_filled (v.Jump n) = lit≤ tt
instructions_filled (v.JumpFalse n) = lit≤ tt
instructions_filled (v.New n) = lit≤ tt
instructions_filled (v.Call m n) = omega arith
instructions_filled v.Return = lit≤ tt
instructions_filled v.Finish = lit≤ tt

-- the form of an instruction, and the parts that some form has; a part that its form lacks may be any
record Parts : Type 0 where
  form : ℕ
  number : ℕ
  count : ℕ
  constant : Constant
  operator : Operator

abbrev bare : ℕ → Parts
bare f = record { form = f; number = 0; count = 0; constant = c.Unit; operator = o.Add }

abbrev numbered : ℕ → ℕ → Parts
numbered f n = record (bare f) { number = n }

abbrev parts : Instruction → Parts
parts (v.Push k) = record (bare 1) { constant = k }
parts (v.Load n) = numbered 2 n
parts (v.Store n) = numbered 3 n
parts (v.Get n) = numbered 4 n
parts (v.Set n) = numbered 5 n
parts v.Drop = bare 6
parts (v.Op p) = record (bare 7) { operator = p }
parts (v.Jump n) = numbered 8 n
parts (v.JumpFalse n) = numbered 9 n
parts (v.New n) = numbered 10 n
parts (v.Call m n) = record (bare 11) { number = m; count = n }
parts v.Return = bare 12
parts v.Finish = bare 13

-- the instruction of each form, from 0, which is no form
abbrev wholes : Parts → List Instruction
wholes p =
    v.Drop ∷ v.Push p.constant ∷ v.Load p.number ∷ v.Store p.number ∷ v.Get p.number ∷ v.Set p.number ∷
    v.Drop ∷ v.Op p.operator ∷ v.Jump p.number ∷ v.JumpFalse p.number ∷ v.New p.number ∷
    v.Call p.number p.count ∷ v.Return ∷ v.Finish ∷ []

-- the bytes after the form's
abbrev behinds : Parts → List (List ℕ)
behinds p =
    let number = number_bytes p.number in
    [] ∷ constant_bytes p.constant ∷ number ∷ number ∷ number ∷ number ∷
    [] ∷ operator_bytes p.operator ∷ number ∷ number ∷ number ∷
    (number ++ number_bytes p.count) ∷ [] ∷ [] ∷ []

-- what has to fit
abbrev fits : Parts → List (Type 0)
fits p =
    let number = IsNumber p.number in
    let none = Unit {0} in
    none ∷ IsConstantSpelled p.constant ∷ number ∷ number ∷ number ∷ number ∷
    none ∷ IsOperatorSpelled p.operator ∷ number ∷ number ∷ number ∷
    (number × IsNumber p.count) ∷ none ∷ none ∷ []

-- an instruction has a form
record Is (y : Instruction) (form : ℕ) : Type 1 where
  whole : get_or (wholes (parts y)) form v.Drop ≡ y
  bytes : instruction_bytes y ≡ form ∷ get_or (behinds (parts y)) form []
  spelled : IsInstructionSpelled y → get_or (fits (parts y)) form (Unit {0})

is_so : (y : Instruction) → Is y (parts y).form
is_so (v.Push k) = record { whole = refl; bytes = refl; spelled = λ h. h }
is_so (v.Load n) = record { whole = refl; bytes = refl; spelled = λ h. h }
is_so (v.Store n) = record { whole = refl; bytes = refl; spelled = λ h. h }
is_so (v.Get n) = record { whole = refl; bytes = refl; spelled = λ h. h }
is_so (v.Set n) = record { whole = refl; bytes = refl; spelled = λ h. h }
is_so v.Drop = record { whole = refl; bytes = refl; spelled = λ h. h }
is_so (v.Op p) = record { whole = refl; bytes = refl; spelled = λ h. h }
is_so (v.Jump n) = record { whole = refl; bytes = refl; spelled = λ h. h }
is_so (v.JumpFalse n) = record { whole = refl; bytes = refl; spelled = λ h. h }
is_so (v.New n) = record { whole = refl; bytes = refl; spelled = λ h. h }
is_so (v.Call m n) = record { whole = refl; bytes = refl; spelled = λ h. h }
is_so v.Return = record { whole = refl; bytes = refl; spelled = λ h. h }
is_so v.Finish = record { whole = refl; bytes = refl; spelled = λ h. h }

-- the second instruction has the form of the first, and so its parts
second : (f : ℕ) (front others more : List ℕ) (y : Instruction) → (f ∷ front) ++ others ≡ instruction_bytes y ++ more
    → Is y f × (front ++ others ≡ get_or (behinds (parts y)) f [] ++ more)
second f front others more y e =
    let form = (parts y).form in
    let behind : ℕ → List ℕ = λ n. get_or (behinds (parts y)) n [] ++ more in
    let both : f ∷ (front ++ others) ≡ form ∷ behind form = e ∙ ap (λ (t : List ℕ). t ++ more) (is_so y).bytes in
    let same : f ≡ form = cc in
    let tail : front ++ others ≡ behind form = cc in
    (subst (Is y) (sym same) (is_so y), tail ∙ ap behind (sym same))

with_number : (of : ℕ → Instruction) (n : ℕ) (others more : List ℕ) (y : Instruction) → of (parts y).number ≡ y
    → IsNumber n → IsNumber (parts y).number → number_bytes n ++ others ≡ number_bytes (parts y).number ++ more
    → (of n ≡ y) × (others ≡ more)
with_number of n others more y w is also e =
    let q = numbers_apart n (parts y).number others more is also e in
    (ap of q.0 ∙ w, q.1)

-- no bytes begin those of another
pub instructions_apart : AreApart IsInstructionSpelled instruction_bytes
instructions_apart (v.Push k) y others more is also e =
    let s = second 1 (constant_bytes k) others more y e in
    let q = constants_apart k (parts y).constant others more is (s.0.spelled also) s.1 in
    (ap (λ (k : Constant). v.Push k) q.0 ∙ s.0.whole, q.1)
instructions_apart (v.Load n) y others more is also e =
    let s = second 2 (number_bytes n) others more y e in
    with_number v.Load n others more y s.0.whole is (s.0.spelled also) s.1
instructions_apart (v.Store n) y others more is also e =
    let s = second 3 (number_bytes n) others more y e in
    with_number v.Store n others more y s.0.whole is (s.0.spelled also) s.1
instructions_apart (v.Get n) y others more is also e =
    let s = second 4 (number_bytes n) others more y e in
    with_number v.Get n others more y s.0.whole is (s.0.spelled also) s.1
instructions_apart (v.Set n) y others more is also e =
    let s = second 5 (number_bytes n) others more y e in
    with_number v.Set n others more y s.0.whole is (s.0.spelled also) s.1
instructions_apart v.Drop y others more is also e =
    let s = second 6 [] others more y e in
    (s.0.whole, s.1)
instructions_apart (v.Op p) y others more is also e =
    let s = second 7 (operator_bytes p) others more y e in
    let q = operators_apart p (parts y).operator others more is (s.0.spelled also) s.1 in
    (ap (λ (p : Operator). v.Op p) q.0 ∙ s.0.whole, q.1)
instructions_apart (v.Jump n) y others more is also e =
    let s = second 8 (number_bytes n) others more y e in
    with_number v.Jump n others more y s.0.whole is (s.0.spelled also) s.1
instructions_apart (v.JumpFalse n) y others more is also e =
    let s = second 9 (number_bytes n) others more y e in
    with_number v.JumpFalse n others more y s.0.whole is (s.0.spelled also) s.1
instructions_apart (v.New n) y others more is also e =
    let s = second 10 (number_bytes n) others more y e in
    with_number v.New n others more y s.0.whole is (s.0.spelled also) s.1
instructions_apart (v.Call m n) y others more is also e =
    let s = second 11 (number_bytes m ++ number_bytes n) others more y e in
    let p : ℕ × ℕ = ((parts y).number, (parts y).count) in
    let numbers = pairs_apart IsNumber number_bytes IsNumber number_bytes numbers_apart numbers_apart in
    let q = numbers (m, n) p others more is (s.0.spelled also) s.1 in
    (ap (λ (r : ℕ × ℕ). v.Call r.0 r.1) q.0 ∙ s.0.whole, q.1)
instructions_apart v.Return y others more is also e =
    let s = second 12 [] others more y e in
    (s.0.whole, s.1)
instructions_apart v.Finish y others more is also e =
    let s = second 13 [] others more y e in
    (s.0.whole, s.1)

-- the kind
abbrev pub instruction_kind : Kind
instruction_kind = record {
  Value = Instruction;
  IsSpelled = IsInstructionSpelled;
  bytes_of = instruction_bytes;
  some = some_instruction;
  apart = instructions_apart;
  filled = instructions_filled;
}
