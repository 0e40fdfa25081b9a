-- The bodies of a program's code are those that are counted.
use Rattle.std.proofs.Common.{◌≡◌, ℕ, ◌+◌, List, [], ◌∷◌, length, length-append, refl, arith}
use Rattle.wy_types.specs.Program.{Program, Scope, Body}
use Rattle.wy_meaning.specs.Starts.{Starts}
use Rattle.wy_lower.specs.Counts.{body_count}
use Rattle.wy_lower.specs.Lowering.{bodies_code, scopes_bodies, lowered}
use Rattle.wy_lower.specs.Laws.{HasCountedBodies}

module _ (p : Program) (starts : Starts) where
  pub methods_counted : (s : Scope) (k : ℕ) (bs : List Body) → length (bodies_code p starts s k bs) ≡ length bs
  methods_counted s k [] = refl
  methods_counted s k (b ∷ bs) = let rest = methods_counted s (k + 1) bs in omega arith

  scopes_counted : (ss : List Scope) → length (scopes_bodies p starts ss) ≡ body_count ss
  scopes_counted [] = refl
  scopes_counted (s ∷ ss) =
      let rest = scopes_counted ss in
      let here = methods_counted s 0 s.bodies in
      let both = length-append (bodies_code p starts s 0 s.bodies) (scopes_bodies p starts ss) in
      omega arith

  pub bodies_counted : HasCountedBodies p starts
  unfolding lowered
  bodies_counted = scopes_counted p.scopes
