-- The `val`s of a scope's bodies by the numbers of the bodies, and what a body captures.
use Rattle.std.proofs.Common.{◌≡◌, ℕ, zero, suc, ◌+◌, ◌<◌, List, [], ◌∷◌, ◌++◌, ◌⊎◌, inl, inr, subst, arith, Some, take, length}
use Rattle.std.specs.Prelude.{slice_get}
use Rattle.std.specs.List.{range_with_len}
use Rattle.wy_text.specs.Members.{In, Apart}
use Rattle.wy_text.proofs.Lists.{In-left, In-right, In-cases, In-unmap}
use Rattle.wy_types.specs.declared.code.Variable.TheVariants.{Parameter, Local}
use Rattle.wy_types.specs.Program.{Scope, Body}
use Rattle.wy_types.specs.Core.{body_parameters, CapturesBefore}
use Rattle.wy_types.specs.Vals.{bodies_vals, block_vals, literal_captures}
use Rattle.wy_judge.proofs.Apart.{Apart-left, Apart-right, Apart-across}

------------------------------------------------------------
-- The `val`s of the bodies before a number, and of the body of that number

pub vals_there : (n : ℕ) (bodies : List Body) (i : ℕ) (b : Body) → slice_get bodies i ≡ Some b → In n (block_vals b.block) → In n (bodies_vals bodies)
vals_there n [] i b e h = absurd (cc)
vals_there n (x ∷ xs) zero b e h = let same : b ≡ x = cc in In-left n (block_vals x.block) (bodies_vals xs) (subst (λ (v : Body). In n (block_vals v.block)) same h)
vals_there n (x ∷ xs) (suc i) b e h = In-right n (block_vals x.block) (bodies_vals xs) (vals_there n xs i b e h)

pub vals_differ : (bodies : List Body) (i : ℕ) (b : Body) → slice_get bodies i ≡ Some b → Apart (bodies_vals bodies) → Apart (block_vals b.block)
vals_differ [] i b e a = absurd (cc)
vals_differ (x ∷ xs) zero b e a = let same : x ≡ b = cc in subst (λ (v : Body). Apart (block_vals v.block)) same (Apart-left (block_vals x.block) (bodies_vals xs) a)
vals_differ (x ∷ xs) (suc i) b e a = vals_differ xs i b e (Apart-right (block_vals x.block) (bodies_vals xs) a)

pub vals_new : (n : ℕ) (bodies : List Body) (i : ℕ) (b : Body) → slice_get bodies i ≡ Some b → Apart (bodies_vals bodies) → In n (bodies_vals (take i bodies)) → In n (block_vals b.block) → ⊥
vals_new n [] i b e a before h = absurd (cc)
vals_new n (x ∷ xs) zero b e a before h = absurd before
vals_new n (x ∷ xs) (suc i) b e a before h =
    elim (In-cases n (block_vals x.block) (bodies_vals (take i xs)) before) [
      | inl first ↦ Apart-across n (block_vals x.block) (bodies_vals xs) a first (vals_there n xs i b e h)
      | inr later ↦ vals_new n xs i b e (Apart-right (block_vals x.block) (bodies_vals xs) a) later h
    ]

-- one more body
pub vals_more : (n : ℕ) (bodies : List Body) (i : ℕ) (b : Body) → slice_get bodies i ≡ Some b → In n (bodies_vals (take (i + 1) bodies)) → In n (bodies_vals (take i bodies)) ⊎ In n (block_vals b.block)
vals_more n [] i b e h = absurd (cc)
vals_more n (x ∷ xs) zero b e h =
    let same : x ≡ b = cc in
    elim (In-cases n (block_vals x.block) [] h) [
      | inl here ↦ inr (subst (λ (v : Body). In n (block_vals v.block)) same here)
      | inr none ↦ absurd none
    ]
vals_more n (x ∷ xs) (suc i) b e h =
    let same : suc i + 1 ≡ suc (i + 1) = omega arith in
    elim (In-cases n (block_vals x.block) (bodies_vals (take (i + 1) xs)) (subst (λ m. In n (bodies_vals (take m (x ∷ xs)))) same h)) [
      | inl first ↦ inl (In-left n (block_vals x.block) (bodies_vals (take i xs)) first)
      | inr later ↦ elim (vals_more n xs i b e later) [
        | inl before ↦ inl (In-right n (block_vals x.block) (bodies_vals (take i xs)) before)
        | inr here ↦ inr here
      ]
    ]

pub vals_before : (n : ℕ) (bodies : List Body) (i : ℕ) → In n (bodies_vals (take i bodies)) → In n (bodies_vals (take (i + 1) bodies))
vals_before n bodies zero h = absurd h
vals_before n [] (suc i) h = absurd h
vals_before n (x ∷ xs) (suc i) h =
    let same : suc (i + 1) ≡ suc i + 1 = omega arith in
    subst (λ m. In n (bodies_vals (take m (x ∷ xs)))) same
    (elim (In-cases n (block_vals x.block) (bodies_vals (take i xs)) h) [
      | inl first ↦ In-left n (block_vals x.block) (bodies_vals (take (i + 1) xs)) first
      | inr later ↦ In-right n (block_vals x.block) (bodies_vals (take (i + 1) xs)) (vals_before n xs i later)
    ])

pub vals_here : (n : ℕ) (bodies : List Body) (i : ℕ) (b : Body) → slice_get bodies i ≡ Some b → In n (block_vals b.block) → In n (bodies_vals (take (i + 1) bodies))
vals_here n [] i b e h = absurd (cc)
vals_here n (x ∷ xs) zero b e h = let same : b ≡ x = cc in In-left n (block_vals x.block) [] (subst (λ (v : Body). In n (block_vals v.block)) same h)
vals_here n (x ∷ xs) (suc i) b e h =
    let same : suc (i + 1) ≡ suc i + 1 = omega arith in
    subst (λ m. In n (bodies_vals (take m (x ∷ xs)))) same (In-right n (block_vals x.block) (bodies_vals (take (i + 1) xs)) (vals_here n xs i b e h))

------------------------------------------------------------
-- What a body sees

-- the `val`s that a body's literal captures stand before the body
pub captured_before : (s : Scope) (n : ℕ) (before : List ℕ) (bodies : List Body) (i : ℕ) (b : Body) → CapturesBefore s before bodies → slice_get bodies i ≡ Some b → In (Local n) (literal_captures (slice_get s.literals b.owner)) →
    In n (before ++ bodies_vals (take i bodies))
captured_before s n before [] i b c e h = absurd (cc)
captured_before s n before (x ∷ xs) zero b c e h =
    let same : b ≡ x = cc in
    In-left n before [] (c.0 n (subst (λ (v : Body). In (Local n) (literal_captures (slice_get s.literals v.owner))) same h))
captured_before s n before (x ∷ xs) (suc i) b c e h =
    elim (In-cases n (before ++ block_vals x.block) (bodies_vals (take i xs)) (captured_before s n (before ++ block_vals x.block) xs i b c.1 e h)) [
      | inl first ↦ elim (In-cases n before (block_vals x.block) first) [
        | inl there ↦ In-left n before (block_vals x.block ++ bodies_vals (take i xs)) there
        | inr here ↦ In-right n before (block_vals x.block ++ bodies_vals (take i xs)) (In-left n (block_vals x.block) (bodies_vals (take i xs)) here)
      ]
      | inr later ↦ In-right n before (block_vals x.block ++ bodies_vals (take i xs)) (In-right n (block_vals x.block) (bodies_vals (take i xs)) later)
    ]

-- numbers from one on are below that one and as many
in_range_below : (a many j : ℕ) → In j (range_with_len a many) → j < a + many
in_range_below a zero j h = absurd h
in_range_below a (suc many) j (inl e) = omega (arith, e)
in_range_below a (suc many) j (inr h) = let below = in_range_below (a + 1) many j h in omega (arith, below)

-- a body's own parameters are no `val`s, and it has them
pub no_local : (i : ℕ) (b : Body) (n : ℕ) → In (Local n) (body_parameters i b) → ⊥
no_local i b n h = (let r = In-unmap (λ j. Parameter i j) (Local n) (range_with_len 0 (length b.signature.params)) h in not_local r.0 r.2)
  where
    not_local : (j : ℕ) → Parameter i j ≡ Local n → ⊥
    not_local j e = absurd (cc)

pub own_parameter : (i : ℕ) (b : Body) (j m : ℕ) → In (Parameter j m) (body_parameters i b) → (i ≡ j) × (m < length b.signature.params)
own_parameter i b j m h = (let r = In-unmap (λ l. Parameter i l) (Parameter j m) (range_with_len 0 (length b.signature.params)) h in same r.0 (in_range_below 0 (length b.signature.params) r.0 r.1) r.2)
  where
    same : (l : ℕ) → l < 0 + length b.signature.params → Parameter i l ≡ Parameter j m → (i ≡ j) × (m < length b.signature.params)
    same l below e = (let number : l ≡ m = cc in (cc, omega (arith, below, number)))
