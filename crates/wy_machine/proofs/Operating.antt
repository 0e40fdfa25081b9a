-- What an operator is given: the topmost operands, in the order in which they were pushed.
use Rattle.std.proofs.Common.{◌≡◌, ℕ, List, [], ◌∷◌, map, take, reverse, Option, Some, Result, Ok, Err, sym, ap, ◌∙◌, subst}
use Rattle.std.specs.Prelude.{slice_get, IfOk, MatchOption, ⊤}
use Rattle.wy_device.specs.Operators.{operate}
use Rattle.wy_code.specs.declared.instruction.Operator.{Operator}
use Rattle.wy_code.specs.Operations.{operator_meant, operand_count}
use Rattle.wy_code.specs.Stores.{Word, Store, operand}
use Rattle.wy_machine.specs.Computing.{computed_meant, word_given, IsGiven}
use Rattle.wy_machine.specs.declared.computed.Computed.{Computed}
use Rattle.wy_machine.specs.declared.computed.Computed.TheVariants.{Number, Truth, Text, Trap, Misfit}
use Rattle.wy_machine.proofs.Lookups.{one_topmost, two_topmost, three_topmost}

-- what follows from what is said of a result that is there
pub if_ok : {A E : Type 0} (r : Result A E) {P Q : A → Type 0} → IfOk r P → ((x : A) → P x → Q x) → IfOk r Q
if_ok (Ok x) h f = f x h
if_ok (Err e) h f = h

module _ (w : Store) (o p : Operator) (same : o ≡ p) (ops : List Word) where
  given : (n : ℕ) (vs : List Word) → operand_count p ≡ n → reverse (take n ops) ≡ vs → operate (operator_meant p) (map (operand w) vs) ≡ operate (operator_meant o) (map (operand w) (reverse (take (operand_count o) ops)))
  given n vs count e =
      subst (λ q. operate (operator_meant p) (map (operand w) vs) ≡ operate (operator_meant q) (map (operand w) (reverse (take (operand_count q) ops)))) (sym same)
      (ap (λ vs. operate (operator_meant p) (map (operand w) vs)) (sym (ap (λ n. reverse (take n ops)) count ∙ e)))

  pub one_given : (x : Word) → operand_count p ≡ 1 → slice_get ops 0 ≡ Some x → operate (operator_meant p) (operand w x ∷ []) ≡ operate (operator_meant o) (map (operand w) (reverse (take (operand_count o) ops)))
  one_given x count e = given 1 (x ∷ []) count (one_topmost ops x e)

  pub two_given : (x y : Word) → operand_count p ≡ 2 → slice_get ops 1 ≡ Some x → slice_get ops 0 ≡ Some y → operate (operator_meant p) (operand w x ∷ operand w y ∷ []) ≡ operate (operator_meant o) (map (operand w) (reverse (take (operand_count o) ops)))
  two_given x y count e f = given 2 (x ∷ y ∷ []) count (two_topmost ops x y f e)

  pub three_given : (x y z : Word) → operand_count p ≡ 3 → slice_get ops 2 ≡ Some x → slice_get ops 1 ≡ Some y → slice_get ops 0 ≡ Some z → operate (operator_meant p) (operand w x ∷ operand w y ∷ operand w z ∷ []) ≡ operate (operator_meant o) (map (operand w) (reverse (take (operand_count o) ops)))
  three_given x y z count e f g = given 3 (x ∷ y ∷ z ∷ []) count (three_topmost ops x y z g f e)

-- a plain word of what an operator gives for two operands
module _ (o p : Operator) (same : o ≡ p) (two : operand_count p ≡ 2) (ops : List Word) (x y : Word) (e : slice_get ops 1 ≡ Some x) (f : slice_get ops 0 ≡ Some y) where
  abbrev IsPlain : Word → Type 0
  IsPlain v = (operand_count o ≡ 2) × ((w : Store) → IsGiven v (operate (operator_meant o) (map (operand w) (reverse (take (operand_count o) ops)))))

  abbrev Meant : Computed → Type 0
  Meant k = (w : Store) → computed_meant k ≡ operate (operator_meant p) (operand w x ∷ operand w y ∷ [])

  plain_of : (k : Computed) → Meant k → MatchOption (word_given k) ⊤ IsPlain
  plain_of (Number n) h = (ap operand_count same ∙ two, λ w. h w ∙ two_given w o p same ops x y two e f)
  plain_of (Truth b) h = (ap operand_count same ∙ two, λ w. h w ∙ two_given w o p same ops x y two e f)
  plain_of (Text bytes) h = tt
  plain_of (Trap kind) h = tt
  plain_of Misfit h = tt

  pub plainly_given : (k : Computed) → Meant k → (r : Option Word) → r ≡ word_given k → MatchOption r ⊤ IsPlain
  plainly_given k h r is = subst (λ r. MatchOption r ⊤ IsPlain) (sym is) (plain_of k h)
