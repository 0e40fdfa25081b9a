-- Operators on operands of their types give what their rows say, or trap.
use Rattle.std.proofs.Common.{◌≡◌, ℕ, ℤ, pos, negsuc, Bool, true, false, not, ◌&&◌, List, [], ◌∷◌, ◌++◌, length, map}
use Rattle.std.proofs.Common.{inl, inr, refl, sym, ap, ◌∙◌, subst, Option, Some, None, nat_le, ◌-ℤ◌, ◌+ℤ◌, ◌*ℤ◌, neg_ℤ}
use Rattle.std.proofs.Common.{◌<◌, int_div, int_rem}
use Rattle.std.specs.Prelude.{slice_get, if◌then◌else◌}
use Rattle.wy_device.specs.Operators.{Operand, Number, Truth as TruthOperand, Bytes, Computed, GivesNumber, GivesTruth}
use Rattle.wy_device.specs.Operators.{Builds, Traps, Misfits, operate, operate_within, is_int, within_range, is_zero}
use Rattle.wy_device.specs.Operators.{quotient_of, remainder_of, joined, part_of, byte_found, byte_at, one_byte}
use Rattle.wy_device.specs.Operators.{compared, on_numbers, on_two, on_number, on_truth, on_text, on_texts}
use Rattle.wy_device.specs.Operators.{on_text_and_number, on_text_and_numbers}
use Rattle.wy_device.specs.Traps.{text_limit}
use Rattle.wy_code.specs.declared.instruction.Operator.{Operator}
use Rattle.wy_code.specs.declared.instruction.Operator.TheVariants.{Negate, Not, Add, Subtract, Multiply, Divide}
use Rattle.wy_code.specs.declared.instruction.Operator.TheVariants.{Remainder, Join, Less, LessOrEqual, Greater}
use Rattle.wy_code.specs.declared.instruction.Operator.TheVariants.{GreaterOrEqual, Equal, NotEqual, Size, Part}
use Rattle.wy_code.specs.declared.instruction.Operator.TheVariants.{Code as CodeAt, Byte, Show}
use Rattle.wy_code.specs.Stores.{Word, Int, Truth, Nothing, Text, Object, Grant, Store, operand, bytes_found}
use Rattle.wy_code.specs.Operations.{operator_meant}
use Rattle.wy_verified.specs.Images.{Image}
use Rattle.wy_verified.specs.Kinds.{Kind, Ints, Truths, Texts, Units, Named, Own, Granted}
use Rattle.wy_verified.specs.Rules.{operand_kinds, result_kind, IsCompared}
use Rattle.wy_verified.proofs.Lists.{read_there}
use Rattle.wy_verified.proofs.Below.{below_base}
use Rattle.wy_verified.proofs.Heaps.{Has, AllHave}

-- what is computed is of the base type, or a trap
abbrev pub Gives : Kind → Computed → Type 0
Gives k (GivesNumber n) = k ≡ Ints
Gives k (GivesTruth b) = k ≡ Truths
Gives k (Builds bytes) = k ≡ Texts
Gives k (Traps kind) = Unit {0}
Gives k Misfits = ⊥

gives_if : (k : Kind) (c : Bool) (a b : Computed) → Gives k a → Gives k b → Gives k (if c then a else b)
gives_if k true a b f g = f
gives_if k false a b f g = g

range_gives : (n : ℤ) → Gives Ints (within_range n)
range_gives n = gives_if Ints (is_int n) (GivesNumber n) (Traps _) refl tt

quotient_gives : (m n : ℤ) → Gives Ints (quotient_of m n)
quotient_gives m n = gives_if Ints (is_zero n) (Traps _) (within_range (int_div m n)) tt (range_gives (int_div m n))

remainder_gives : (m n : ℤ) → Gives Ints (remainder_of m n)
remainder_gives m n = gives_if Ints (is_zero n) (Traps _) (GivesNumber (int_rem m n)) tt refl

joined_gives : (most : ℕ) (s t : List ℕ) → Gives Texts (joined most s t)
joined_gives most s t = gives_if Texts (nat_le (length (s ++ t)) most) (Builds (s ++ t)) (Traps _) refl tt

part_gives : (s : List ℕ) (a b : ℤ) → Gives Texts (part_of s a b)
part_gives s (pos a) (pos b) = gives_if Texts (nat_le a b && nat_le b (length s)) (Builds _) (Traps _) refl tt
part_gives s (pos a) (negsuc b) = tt
part_gives s (negsuc a) b = tt

found_gives : (o : Option ℕ) → Gives Ints (byte_found o)
found_gives None = tt
found_gives (Some b) = refl

byte_at_gives : (s : List ℕ) (i : ℤ) → Gives Ints (byte_at s i)
byte_at_gives s (pos i) = found_gives (slice_get s i)
byte_at_gives s (negsuc i) = tt

one_byte_gives : (b : ℤ) → Gives Texts (one_byte b)
one_byte_gives (pos b) = gives_if Texts (nat_le b 255) (Builds (b ∷ [])) (Traps _) refl tt
one_byte_gives (negsuc b) = tt

-- an operand is of a base type
abbrev pub Sees : Operand → Kind → Type 0
Sees o Ints = (n : ℤ) × (o ≡ Number n)
Sees o Truths = (b : Bool) × (o ≡ TruthOperand b)
Sees o Texts = (s : List ℕ) × (o ≡ Bytes s)
Sees o Units = Unit {0}
Sees o (Named t) = Unit {0}
Sees o (Own x l) = Unit {0}
Sees o (Granted g) = Unit {0}

abbrev pub SeeAll : List Operand → List Kind → Type 0
SeeAll [] [] = Unit {0}
SeeAll [] (k ∷ ks) = ⊥
SeeAll (o ∷ os) [] = ⊥
SeeAll (o ∷ os) (k ∷ ks) = Sees o k × SeeAll os ks

on_numbers_gives : (k : Kind) (f : ℤ → ℤ → Computed) → ((m n : ℤ) → Gives k (f m n)) → (os : List Operand) →
    SeeAll os (Ints ∷ Ints ∷ []) → Gives k (on_numbers f os)
on_numbers_gives k f g [] h = absurd h
on_numbers_gives k f g (x ∷ []) h = absurd h.1
on_numbers_gives k f g (x ∷ y ∷ z ∷ os) h = absurd h.1.1
on_numbers_gives k f g (x ∷ y ∷ []) h =
    subst (λ x. Gives k (on_numbers f (x ∷ y ∷ []))) (sym h.0.1)
    (subst (λ y. Gives k (on_numbers f (Number h.0.0 ∷ y ∷ []))) (sym h.1.0.1) (g h.0.0 h.1.0.0))

on_number_gives : (k : Kind) (f : ℤ → Computed) → ((m : ℤ) → Gives k (f m)) → (os : List Operand) →
    SeeAll os (Ints ∷ []) → Gives k (on_number f os)
on_number_gives k f g [] h = absurd h
on_number_gives k f g (x ∷ y ∷ os) h = absurd h.1
on_number_gives k f g (x ∷ []) h = subst (λ x. Gives k (on_number f (x ∷ []))) (sym h.0.1) (g h.0.0)

on_truth_gives : (k : Kind) (f : Bool → Computed) → ((b : Bool) → Gives k (f b)) → (os : List Operand) →
    SeeAll os (Truths ∷ []) → Gives k (on_truth f os)
on_truth_gives k f g [] h = absurd h
on_truth_gives k f g (x ∷ y ∷ os) h = absurd h.1
on_truth_gives k f g (x ∷ []) h = subst (λ x. Gives k (on_truth f (x ∷ []))) (sym h.0.1) (g h.0.0)

on_text_gives : (k : Kind) (f : List ℕ → Computed) → ((s : List ℕ) → Gives k (f s)) → (os : List Operand) →
    SeeAll os (Texts ∷ []) → Gives k (on_text f os)
on_text_gives k f g [] h = absurd h
on_text_gives k f g (x ∷ y ∷ os) h = absurd h.1
on_text_gives k f g (x ∷ []) h = subst (λ x. Gives k (on_text f (x ∷ []))) (sym h.0.1) (g h.0.0)

on_texts_gives : (k : Kind) (f : List ℕ → List ℕ → Computed) → ((s t : List ℕ) → Gives k (f s t)) →
    (os : List Operand) → SeeAll os (Texts ∷ Texts ∷ []) → Gives k (on_texts f os)
on_texts_gives k f g [] h = absurd h
on_texts_gives k f g (x ∷ []) h = absurd h.1
on_texts_gives k f g (x ∷ y ∷ z ∷ os) h = absurd h.1.1
on_texts_gives k f g (x ∷ y ∷ []) h =
    subst (λ x. Gives k (on_texts f (x ∷ y ∷ []))) (sym h.0.1)
    (subst (λ y. Gives k (on_texts f (Bytes h.0.0 ∷ y ∷ []))) (sym h.1.0.1) (g h.0.0 h.1.0.0))

on_text_and_number_gives : (k : Kind) (f : List ℕ → ℤ → Computed) → ((s : List ℕ) (i : ℤ) → Gives k (f s i)) →
    (os : List Operand) → SeeAll os (Texts ∷ Ints ∷ []) →
    Gives k (on_text_and_number f os)
on_text_and_number_gives k f g [] h = absurd h
on_text_and_number_gives k f g (x ∷ []) h = absurd h.1
on_text_and_number_gives k f g (x ∷ y ∷ z ∷ os) h = absurd h.1.1
on_text_and_number_gives k f g (x ∷ y ∷ []) h =
    subst (λ x. Gives k (on_text_and_number f (x ∷ y ∷ []))) (sym h.0.1)
    (subst (λ y. Gives k (on_text_and_number f (Bytes h.0.0 ∷ y ∷ []))) (sym h.1.0.1) (g h.0.0 h.1.0.0))

on_text_and_numbers_gives : (k : Kind) (f : List ℕ → ℤ → ℤ → Computed) → ((s : List ℕ) (i j : ℤ) → Gives k (f s i j)) →
    (os : List Operand) →
    SeeAll os (Texts ∷ Ints ∷ Ints ∷ []) → Gives k (on_text_and_numbers f os)
on_text_and_numbers_gives k f g [] h = absurd h
on_text_and_numbers_gives k f g (x ∷ []) h = absurd h.1
on_text_and_numbers_gives k f g (x ∷ y ∷ []) h = absurd h.1.1
on_text_and_numbers_gives k f g (x ∷ y ∷ z ∷ u ∷ os) h = absurd h.1.1.1
on_text_and_numbers_gives k f g (x ∷ y ∷ z ∷ []) h =
    subst (λ x. Gives k (on_text_and_numbers f (x ∷ y ∷ z ∷ []))) (sym h.0.1)
    (subst (λ y. Gives k (on_text_and_numbers f (Bytes h.0.0 ∷ y ∷ z ∷ []))) (sym h.1.0.1)
    (subst (λ z. Gives k (on_text_and_numbers f (Bytes h.0.0 ∷ Number h.1.0.0 ∷ z ∷ []))) (sym h.1.1.0.1)
    (g h.0.0 h.1.0.0 h.1.1.0.0)))

compared_gives : (as_asked : Bool → Bool) (k : Kind) → IsCompared k → (os : List Operand) → SeeAll os (k ∷ k ∷ []) →
    Gives Truths (on_two (compared as_asked) os)
compared_gives f k c [] h = absurd h
compared_gives f k c (x ∷ []) h = absurd h.1
compared_gives f k c (x ∷ y ∷ z ∷ os) h = absurd h.1.1
compared_gives f k c (x ∷ y ∷ []) h = elim c [
  | inl e ↦ numbers (subst (λ (k : Kind). Sees x k) e h.0) (subst (λ (k : Kind). Sees y k) e h.1.0)
  | inr d ↦ elim d [
    | inl e ↦ truths (subst (λ (k : Kind). Sees x k) e h.0) (subst (λ (k : Kind). Sees y k) e h.1.0)
    | inr e ↦ texts (subst (λ (k : Kind). Sees x k) e h.0) (subst (λ (k : Kind). Sees y k) e h.1.0)
  ]
]
  where
    numbers : Sees x Ints → Sees y Ints → Gives Truths (on_two (compared f) (x ∷ y ∷ []))
    numbers p q =
        subst (λ x. Gives Truths (on_two (compared f) (x ∷ y ∷ []))) (sym p.1)
        (subst (λ y. Gives Truths (on_two (compared f) (Number p.0 ∷ y ∷ []))) (sym q.1) refl)

    truths : Sees x Truths → Sees y Truths → Gives Truths (on_two (compared f) (x ∷ y ∷ []))
    truths p q =
        subst (λ x. Gives Truths (on_two (compared f) (x ∷ y ∷ []))) (sym p.1)
        (subst (λ y. Gives Truths (on_two (compared f) (TruthOperand p.0 ∷ y ∷ []))) (sym q.1) refl)

    texts : Sees x Texts → Sees y Texts → Gives Truths (on_two (compared f) (x ∷ y ∷ []))
    texts p q =
        subst (λ x. Gives Truths (on_two (compared f) (x ∷ y ∷ []))) (sym p.1)
        (subst (λ y. Gives Truths (on_two (compared f) (Bytes p.0 ∷ y ∷ []))) (sym q.1) refl)

pub operate_gives : (o : Operator) (k : Kind) (os : List Operand) → IsCompared k → SeeAll os (operand_kinds o k) →
    Gives (result_kind o) (operate (operator_meant o) os)
unfolding operate_within
operate_gives Negate k os c h = on_number_gives Ints _ (λ x. range_gives (neg_ℤ x)) os h
operate_gives Not k os c h = on_truth_gives Truths _ (λ b. refl) os h
operate_gives Add k os c h = on_numbers_gives Ints _ (λ m n. range_gives (m +ℤ n)) os h
operate_gives Subtract k os c h = on_numbers_gives Ints _ (λ m n. range_gives (m -ℤ n)) os h
operate_gives Multiply k os c h = on_numbers_gives Ints _ (λ m n. range_gives (m *ℤ n)) os h
operate_gives Divide k os c h = on_numbers_gives Ints _ quotient_gives os h
operate_gives Remainder k os c h = on_numbers_gives Ints _ remainder_gives os h
operate_gives Join k os c h = on_texts_gives Texts _ (joined_gives text_limit) os h
operate_gives Less k os c h = on_numbers_gives Truths _ (λ m n. refl) os h
operate_gives LessOrEqual k os c h = on_numbers_gives Truths _ (λ m n. refl) os h
operate_gives Greater k os c h = on_numbers_gives Truths _ (λ m n. refl) os h
operate_gives GreaterOrEqual k os c h = on_numbers_gives Truths _ (λ m n. refl) os h
operate_gives Equal k os c h = compared_gives (λ same. same) k c os h
operate_gives NotEqual k os c h = compared_gives not k c os h
operate_gives Size k os c h = on_text_gives Ints _ (λ s. refl) os h
operate_gives Part k os c h = on_text_and_numbers_gives Texts _ part_gives os h
operate_gives CodeAt k os c h = on_text_and_number_gives Ints _ byte_at_gives os h
operate_gives Byte k os c h = on_number_gives Texts _ one_byte_gives os h
operate_gives Show k os c h = on_number_gives Texts _ (λ n. refl) os h

------------------------------------------------------------
-- Words of base types

module _ (image : Image) (now : ℕ) (w : Store) where
  seen_int : (v : Word) → Has image now w v Ints → (n : ℤ) × (v ≡ Int n)
  seen_int (Int n) h = (n, refl)
  seen_int (Truth b) h = let e = below_base image Truths Ints h (λ o. o) in absurd cc
  seen_int Nothing h = let e = below_base image Units Ints h (λ o. o) in absurd cc
  seen_int (Text t) h = let e = below_base image Texts Ints h.1 (λ o. o) in absurd cc
  seen_int (Object a) h = let e = below_base image (Own h.0.instance h.0.literal) Ints h.3 (λ o. o) in absurd cc
  seen_int (Grant g) h = let e = below_base image (Granted g) Ints h (λ o. o) in absurd cc

  pub seen_truth : (v : Word) → Has image now w v Truths → (b : Bool) × (v ≡ Truth b)
  seen_truth (Int n) h = let e = below_base image Ints Truths h (λ o. o) in absurd cc
  seen_truth (Truth b) h = (b, refl)
  seen_truth Nothing h = let e = below_base image Units Truths h (λ o. o) in absurd cc
  seen_truth (Text t) h = let e = below_base image Texts Truths h.1 (λ o. o) in absurd cc
  seen_truth (Object a) h = let e = below_base image (Own h.0.instance h.0.literal) Truths h.3 (λ o. o) in absurd cc
  seen_truth (Grant g) h = let e = below_base image (Granted g) Truths h (λ o. o) in absurd cc

  pub seen_text : (v : Word) → Has image now w v Texts → (t : ℕ) × (v ≡ Text t) × (t < length w.texts)
  seen_text (Int n) h = let e = below_base image Ints Texts h (λ o. o) in absurd cc
  seen_text (Truth b) h = let e = below_base image Truths Texts h (λ o. o) in absurd cc
  seen_text Nothing h = let e = below_base image Units Texts h (λ o. o) in absurd cc
  seen_text (Text t) h = (t, refl, h.0)
  seen_text (Object a) h = let e = below_base image (Own h.0.instance h.0.literal) Texts h.3 (λ o. o) in absurd cc
  seen_text (Grant g) h = let e = below_base image (Granted g) Texts h (λ o. o) in absurd cc

  pub text_operand : (v : Word) → Has image now w v Texts → (s : List ℕ) × (operand w v ≡ Bytes s)
  text_operand v h =
      let t = seen_text v h in
      let s = read_there w.texts t.0 t.2 in
      (s.0, ap (operand w) t.1 ∙ ap bytes_found s.1)

  sees : (v : Word) (k : Kind) → Has image now w v k → Sees (operand w v) k
  sees v Ints h = let n = seen_int v h in (n.0, ap (operand w) n.1)
  sees v Truths h = let b = seen_truth v h in (b.0, ap (operand w) b.1)
  sees v Texts h = text_operand v h
  sees v Units h = tt
  sees v (Named t) h = tt
  sees v (Own x l) h = tt
  sees v (Granted g) h = tt

  pub see_all : (vs : List Word) (ks : List Kind) → AllHave image now w vs ks → SeeAll (map (operand w) vs) ks
  see_all [] [] h = tt
  see_all [] (k ∷ ks) h = absurd h
  see_all (v ∷ vs) [] h = absurd h
  see_all (v ∷ vs) (k ∷ ks) h = (sees v k h.0, see_all vs ks h.1)
