-- Scopes and bodies stand in the code at the numbers by which they are named.
use Rattle.std.proofs.Common.{◌≡◌, ℕ, zero, suc, ◌+◌, List, [], ◌∷◌, ◌++◌, Some, length, refl, ap, ◌∙◌, subst, arith}
use Rattle.std.specs.Prelude.{slice_get}
use Rattle.wy_types.specs.Program.{Program, Scope, Body}
use Rattle.wy_code.specs.declared.code.Scope as code
use Rattle.wy_meaning.specs.Starts.{Starts}
use Rattle.wy_lower.specs.Lowering.{start_code, body_code, bodies_code, scopes_bodies, scope_arguments, literals_code, scopes_code, lowered}
use Rattle.wy_lower.specs.Laws.{HasItsBodies}
use Rattle.wy_lower.proofs.Counting.{methods_counted}

in_front : {X : Type 0} (xs ys : List X) (k : ℕ) (x : X) → slice_get xs k ≡ Some x → slice_get (xs ++ ys) k ≡ Some x
in_front [] ys k x e = absurd cc
in_front (z ∷ xs) ys zero x e = e
in_front (z ∷ xs) ys (suc k) x e = in_front xs ys k x e

behind : {X : Type 0} (xs ys : List X) (k n : ℕ) → n ≡ length xs + k → slice_get (xs ++ ys) n ≡ slice_get ys k
behind [] ys k n e = let z : n ≡ k = omega arith in ap (slice_get ys) z
behind (x ∷ xs) ys k zero e = absurd (omega arith)
behind (x ∷ xs) ys k (suc n) e = behind xs ys k n (omega arith)

module _ (p : Program) (starts : Starts) where
  abbrev scope_code : ℕ → Scope → code.Scope
  scope_code first sc = record { arguments = scope_arguments sc; start = first; literals = literals_code p starts sc first 0 sc.literals }

  method_stands : (sc : Scope) (bs : List Body) (j k n : ℕ) (b : Body) → n ≡ j + k → slice_get bs k ≡ Some b → slice_get (bodies_code p starts sc j bs) k ≡ Some (body_code p starts sc n b)
  method_stands sc [] j k n b e h = absurd cc
  method_stands sc (x ∷ bs) j zero n b e h =
      let z : j ≡ n = omega arith in
      let same : x ≡ b = cc in
      ap (λ (m : ℕ). Some (body_code p starts sc m x)) z ∙ ap (λ (y : Body). Some (body_code p starts sc n y)) same
  method_stands sc (x ∷ bs) j (suc k) n b e h = method_stands sc bs (j + 1) k n b (omega arith) h

  -- in the code of some scopes, the first of which begins at a number
  record StandsFrom (first : ℕ) (ss : List Scope) (c : ℕ) (sc : Scope) : Type 0 where
    offset : ℕ
    scope : slice_get (scopes_code p starts first ss) c ≡ Some (scope_code (first + offset) sc)
    start : slice_get (scopes_bodies p starts ss) offset ≡ Some (start_code p starts sc)
    bodies : (k : ℕ) (b : Body) → slice_get sc.bodies k ≡ Some b → slice_get (scopes_bodies p starts ss) (offset + 1 + k) ≡ Some (body_code p starts sc k b)

  first_stands : (first : ℕ) (sc : Scope) (ss : List Scope) → StandsFrom first (sc ∷ ss) 0 sc
  first_stands first sc ss = record {
    offset = 0;
    scope = let z : first ≡ first + 0 = omega arith in ap (λ (n : ℕ). Some (scope_code n sc)) z;
    start = refl;
    bodies = λ k b h.
        let z : 0 + 1 + k ≡ suc k = omega arith in
        ap (slice_get (scopes_bodies p starts (sc ∷ ss))) z ∙ in_front (bodies_code p starts sc 0 sc.bodies) (scopes_bodies p starts ss) k _ (method_stands sc sc.bodies 0 k k b (omega arith) h);
  }

  later_stands : (first : ℕ) (s : Scope) (ss : List Scope) (c : ℕ) (sc : Scope) → StandsFrom (first + 1 + length s.bodies) ss c sc → StandsFrom first (s ∷ ss) (suc c) sc
  later_stands first s ss c sc x = record {
    offset = suc (length s.bodies + x.offset);
    scope =
        let z : first + 1 + length s.bodies + x.offset ≡ first + suc (length s.bodies + x.offset) = omega arith in
        x.scope ∙ ap (λ (n : ℕ). Some (scope_code n sc)) z;
    start =
        let n = methods_counted p starts s 0 s.bodies in
        behind (bodies_code p starts s 0 s.bodies) (scopes_bodies p starts ss) x.offset (length s.bodies + x.offset) (omega arith) ∙ x.start;
    bodies = λ k b h.
        let n = methods_counted p starts s 0 s.bodies in
        let z : suc (length s.bodies + x.offset) + 1 + k ≡ suc (length s.bodies + (x.offset + 1 + k)) = omega arith in
        ap (slice_get (scopes_bodies p starts (s ∷ ss))) z ∙
        (behind (bodies_code p starts s 0 s.bodies) (scopes_bodies p starts ss) (x.offset + 1 + k) (length s.bodies + (x.offset + 1 + k)) (omega arith) ∙ x.bodies k b h);
  }

  stands_from : (ss : List Scope) (first c : ℕ) (sc : Scope) → slice_get ss c ≡ Some sc → StandsFrom first ss c sc
  stands_from [] first c sc e = absurd cc
  stands_from (s ∷ ss) first zero sc e = let same : s ≡ sc = cc in subst (λ (x : Scope). StandsFrom first (s ∷ ss) 0 x) same (first_stands first s ss)
  stands_from (s ∷ ss) first (suc c) sc e = later_stands first s ss c sc (stands_from ss (first + 1 + length s.bodies) c sc e)

  pub bodies_stand : HasItsBodies p starts
  unfolding lowered
  bodies_stand c sc e =
      let x = stands_from p.scopes 0 c sc e in
      let z : 0 + x.offset ≡ x.offset = omega arith in
      record {
        first = x.offset;
        scope = x.scope ∙ ap (λ (n : ℕ). Some (scope_code n sc)) z;
        start = x.start;
        bodies = x.bodies;
      }
