-- The upper bounds of a scope's atoms.
use Rattle.std.proofs.Common.{◌≡◌, ℕ, ◌≤◌, List, [], length, refl, sym, ap, subst, Option, Some, None, arith}
use Rattle.std.specs.Prelude.{slice_get}
use Rattle.wy_text.specs.Members.{In}
use Rattle.wy_effects.specs.Bounds.{Bounds, GoDown, AreNone}
use Rattle.wy_text.proofs.Lists.{In-slice_get}
use Rattle.wy_types.specs.Program.{Program, Scope}
use Rattle.wy_types.specs.Bounds.{scope_bounds, bounds_of}
use Rattle.wy_types.specs.InRange.{IsInRange}

pub bounds_at : (p : Program) (k : ℕ) (s : Scope) → slice_get p.scopes k ≡ Some s → bounds_of p k ≡ s.bounds
bounds_at p k s e = ap scope_bounds e

pub bounds_past : (p : Program) (k : ℕ) → slice_get p.scopes k ≡ None → bounds_of p k ≡ []
bounds_past p k e = ap scope_bounds e

-- the bounds of two programs' scopes are equal where the scopes are
pub same_bounds : (p other : Program) (k : ℕ) → slice_get p.scopes k ≡ slice_get other.scopes k → bounds_of p k ≡ bounds_of other k
same_bounds p other k e = ap scope_bounds e

none_go_down : GoDown []
none_go_down a b e = absurd (cc)

-- in a program in range they name earlier atoms
go_down_of : (p : Program) → IsInRange p → (k : ℕ) (o : Option Scope) → slice_get p.scopes k ≡ o → GoDown (bounds_of p k)
go_down_of p c k None e = subst GoDown (sym (bounds_past p k e)) none_go_down
go_down_of p c k (Some s) e = subst GoDown (sym (bounds_at p k s e)) (c.bounds s (In-slice_get p.scopes k s e)).0

pub go_down : (p : Program) → IsInRange p → (k : ℕ) → GoDown (bounds_of p k)
go_down p c k = go_down_of p c k (slice_get p.scopes k) refl

few_bounds_of : (p : Program) → IsInRange p → (k : ℕ) (o : Option Scope) → slice_get p.scopes k ≡ o → length (bounds_of p k) ≤ 512
few_bounds_of p c k None e = subst (λ (l : Bounds). length l ≤ 512) (sym (bounds_past p k e)) (omega arith)
few_bounds_of p c k (Some s) e = subst (λ (l : Bounds). length l ≤ 512) (sym (bounds_at p k s e)) (c.bounds s (In-slice_get p.scopes k s e)).1

pub few_bounds : (p : Program) → IsInRange p → (k : ℕ) → length (bounds_of p k) ≤ 512
few_bounds p c k = few_bounds_of p c k (slice_get p.scopes k) refl
