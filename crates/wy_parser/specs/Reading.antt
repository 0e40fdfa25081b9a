-- Readers: functions from a list of symbols to a value and what is left, or to where they stop.
use Rattle.std.specs.Prelude.{ℕ, zero, suc, Bool, false, cond, ◌&&◌, List, [], ◌∷◌}
use Rattle.wy_syntax.specs.Tokens.{member}

pub data Out (T A : Type 0) : Type 0 where
  -- a value and the symbols after it
  Yes : A → List T → Out T A
  -- the symbols from the one that fits nothing
  No : List T → Out T A
  -- the depth is used up
  Deep : Out T A

abbrev pub Reader : Type 0 → Type 0 → Type 0
Reader T A = List T → Out T A

-- goes on after a value
abbrev pub and_then : {T A B : Type 0} → Out T A → (A → List T → Out T B) → Out T B
and_then (Yes a r) f = f a r
and_then (No r) f = No r
and_then Deep f = Deep

infixl 10 ◌>>=◌
abbrev pub ◌>>=◌ : {T A B : Type 0} → Reader T A → (A → Reader T B) → Reader T B
p >>= f = λ ts. and_then (p ts) f

abbrev pub ret : {T A : Type 0} → A → Reader T A
ret a ts = Yes a ts

-- the first symbol's code is in the set
abbrev pub starts : {T : Type 0} → (T → ℕ) → List ℕ → List T → Bool
starts code G [] = false
starts code G (x ∷ r) = member (code x) G

abbrev pub one_of : {T : Type 0} → (T → ℕ) → List ℕ → Reader T T
one_of code G [] = No []
one_of code G (x ∷ r) = cond (member (code x) G) (Yes x r) (No (x ∷ r))

abbrev pub choose : {T A : Type 0} → (T → ℕ) → List ℕ → Reader T A → Reader T A → Reader T A
choose code G p q ts = cond (starts code G ts) (p ts) (q ts)

-- while the first symbol is in the set, reads one more part and adds it
abbrev pub fold_many : {T A B : Type 0} → (T → ℕ) → ℕ → List ℕ → Reader T B → (A → B → A) → A → Reader T A
fold_many code zero G p add a ts = Deep
fold_many code (suc n) G p add a ts = cond (starts code G ts) (and_then (p ts) (λ b r. fold_many code n G p add (add a b) r)) (Yes a ts)

-- a choice by the next two symbols
abbrev pub starts2 : {T : Type 0} → (T → ℕ) → List ℕ → List ℕ → List T → Bool
starts2 code G H [] = false
starts2 code G H (x ∷ []) = false
starts2 code G H (x ∷ y ∷ r) = member (code x) G && member (code y) H

abbrev pub choose2 : {T A : Type 0} → (T → ℕ) → List ℕ → List ℕ → Reader T A → Reader T A → Reader T A
choose2 code G H p q ts = cond (starts2 code G H ts) (p ts) (q ts)

-- parts in a row, the last of which is not of a kind that must go on
abbrev pub next : {T A : Type 0} → (T → ℕ) → List ℕ → (A → Bool) → Reader T (List A) → A → Reader T (List A)
next code G goes r a = cond (goes a) (r >>= λ xs. ret (a ∷ xs)) (choose code G (r >>= λ xs. ret (a ∷ xs)) (ret (a ∷ [])))

abbrev pub blocks : {T A : Type 0} → (T → ℕ) → ℕ → List ℕ → (A → Bool) → Reader T A → Reader T (List A)
blocks code zero G goes p = λ ts. Deep
blocks code (suc n) G goes p = p >>= next code G goes (blocks code n G goes p)
