-- Where each list of modules is kept once each, the same modules are reached.
use Rattle.std.proofs.Common.{◌≡◌, ◌<◌, ℕ, zero, suc, List, [], ◌∷◌, ◌++◌, length, Bool, refl, ap, subst, arith}
use Rattle.std.specs.Prelude.{◌↔◌}
use Rattle.wy_text.specs.Members.{In}
use Rattle.wy_heads.specs.Leading.{Goes, Adds, EachOnce, LeadsInside, next_from}
use Rattle.wy_heads.specs.CycleRefusals.{AreReached}

-- what is at each place is there once
next_once : (all edges : List (List ℕ)) → EachOnce all edges → (k j : ℕ) → In j (next_from all k) ↔ In j (next_from edges k)
next_once [] [] once k j = (λ i. i, λ i. i)
next_once [] (new ∷ more) once k j = absurd once
next_once (numbers ∷ others) [] once k j = absurd once
next_once (numbers ∷ others) (new ∷ more) once zero j =
    let P : List ℕ → Type 0 = λ l. In j l in
    (once.0.all j, λ i. once.0.only j (subst P once.0.longer i))
next_once (numbers ∷ others) (new ∷ more) once (suc k) j = next_once others more once.1 k j

length_once : (all edges : List (List ℕ)) → EachOnce all edges → length all ≡ length edges
length_once [] [] once = refl
length_once [] (new ∷ more) once = absurd once
length_once (numbers ∷ others) [] once = absurd once
length_once (numbers ∷ others) (new ∷ more) once = ap (λ n. suc n) (length_once others more once.1)

pub more_once : (all edges : List (List ℕ)) (numbers new : List ℕ) → EachOnce all edges → Adds [] numbers new → EachOnce (all ++ numbers ∷ []) (edges ++ new ∷ [])
more_once [] [] numbers new once a = (a, tt)
more_once [] (y ∷ edges) numbers new once a = absurd once
more_once (x ∷ all) [] numbers new once a = absurd once
more_once (x ∷ all) (y ∷ edges) numbers new once a = (once.0, more_once all edges numbers new once.1 a)

goes_along : (edges others : List (List ℕ)) → ((k j : ℕ) → In j (next_from edges k) → In j (next_from others k)) → (k : ℕ) (path : List ℕ) (j : ℕ) → Goes edges k path j → Goes others k path j
goes_along edges others along k [] j e = e
goes_along edges others along k (i ∷ path) j g = (along k i g.0, goes_along edges others along i path j g.1)

-- the same is reached
pub inside_once : (all edges : List (List ℕ)) → EachOnce all edges → LeadsInside all → LeadsInside edges
inside_once all edges once inside k j i =
    let lt : j < length all = inside k j ((next_once all edges once k j).1 i) in
    omega (arith, lt, length_once all edges once)

pub reached_once : (all edges : List (List ℕ)) (reached : List (List Bool)) → EachOnce all edges → AreReached edges reached → AreReached all reached
reached_once all edges reached once are j k lt =
    let there : j < length edges = omega (arith, lt, length_once all edges once) in
    let is = are j k there in (
      λ t. (let r = is.0 t in (r.0, goes_along edges all (λ i n. (next_once all edges once i n).1) j r.0 k r.1)),
      λ r. is.1 (r.0, goes_along all edges (λ i n. (next_once all edges once i n).0) j r.0 k r.1),
    )
