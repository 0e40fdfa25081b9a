-- Several values at their types: as many as there are types, and so are the first of them.
use Rattle.std.proofs.Common.{◌≡◌, ℕ, zero, suc, List, [], ◌∷◌, length, refl, Option, arith, map, take}
use Rattle.wy_types.specs.declared.types.TypeRef.{TypeRef}
use Rattle.wy_types.specs.Code.{Value, Values, none, more}
use Rattle.wy_types.specs.Program.{Scope}
use Rattle.wy_types.specs.Vals.{value_count}
use Rattle.wy_rules.specs.Readings.{Reading}
use Rattle.wy_rules.specs.Derivations.{Derivations, none as no_derivations, more as one_more}
use Rattle.wy_rules.specs.Typing.{DerivesAll, AllHaveAt}
use Rattle.wy_rules.specs.Failing.{first_values}
use Rattle.wy_rules.proofs.Forms.{Lawful}
use Rattle.wy_rules.proofs.Needs.{first_has, others_have, none_too_few, all_at, none_at}

module _ (y : Reading) (w : Lawful y) (s : Scope) (locals : List y.Kind) (owner : Option ℕ) where
  too_many_derived : (ds : Derivations y.Kind) (x : Value) (xs : Values) → DerivesAll y s locals owner ds (more x xs) [] → ⊥
  too_many_derived no_derivations x xs h = h
  too_many_derived (one_more d e ds) x xs h = h

  pub too_many : (x : Value) (xs : Values) → AllHaveAt y s locals owner (more x xs) [] → ⊥
  too_many x xs h = too_many_derived h.have.derivations x xs h.have.derives

  pub as_many : (xs : Values) (ts : List y.Kind) → AllHaveAt y s locals owner xs ts → length ts ≡ value_count xs
  as_many none [] h = refl
  as_many none (t ∷ ts) h = absurd (none_too_few y w s locals owner t ts h)
  as_many (more x xs) [] h = absurd (too_many x xs h)
  as_many (more x xs) (t ∷ ts) h = (let rest : length ts ≡ value_count xs = as_many xs ts (others_have y w s locals owner x xs t ts h) in omega arith)

  -- the first values have their types where all have
  pub first_have : (n : ℕ) (xs : Values) (ts : List TypeRef) → AllHaveAt y s locals owner xs (map y.read ts) → AllHaveAt y s locals owner (first_values y s locals owner n xs) (map y.read (take n ts))
  first_have zero xs ts h = none_at y w s locals owner
  first_have (suc n) none [] h = none_at y w s locals owner
  first_have (suc n) none (t ∷ ts) h = absurd (none_too_few y w s locals owner (y.read t) (map y.read ts) h)
  first_have (suc n) (more x xs) [] h = absurd (too_many x xs h)
  first_have (suc n) (more x xs) (t ∷ ts) h =
      all_at y w s locals owner x (first_values y s locals owner n xs) (y.read t) (map y.read (take n ts)) (first_has y w s locals owner x xs (y.read t) (map y.read ts) h)
      (first_have n xs ts (others_have y w s locals owner x xs (y.read t) (map y.read ts) h))
