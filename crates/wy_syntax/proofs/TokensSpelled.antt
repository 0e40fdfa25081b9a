-- Tokens of which each is `Ok`, and what they spell: the tokens of each part of it are `Ok` too.
use Rattle.std.proofs.Common.{ℕ, zero, suc, List, [], ◌∷◌, ◌++◌, subst}
use Rattle.std.specs.List.{AllByRecursion}
use Rattle.wy_syntax.specs.Tokens.{Tok}
use Rattle.wy_syntax.specs.Languages.{Lang, Then, ◌⨟◌, Lines}
use Rattle.wy_syntax.specs.ExprGrammar.{Wrapped, Placed}

module _ (Ok : Tok → Type 0) where
  front_of : (a b : List Tok) → AllByRecursion Ok (a ++ b) → AllByRecursion Ok a
  front_of [] b h = tt
  front_of (t ∷ a) b h = (h.0, front_of a b h.1)

  back_of : (a b : List Tok) → AllByRecursion Ok (a ++ b) → AllByRecursion Ok b
  back_of [] b h = h
  back_of (t ∷ a) b h = back_of a b h.1

  pub front_ok : {P Q : Lang} {u : List Tok} → (x : Then P Q u) → AllByRecursion Ok u → AllByRecursion Ok x.front
  front_ok x h = front_of x.front x.back (subst (AllByRecursion Ok) x.parts h)

  pub back_ok : {P Q : Lang} {u : List Tok} → (x : Then P Q u) → AllByRecursion Ok u → AllByRecursion Ok x.back
  back_ok x h = back_of x.front x.back (subst (AllByRecursion Ok) x.parts h)

-- such tokens, which spell something
pub record Of (Ok : Tok → Type 0) (P : Lang) : Type 1 where
  pub tokens : List Tok
  pub spelled : P tokens
  pub ok : AllByRecursion Ok tokens

pub of_both : {Ok : Tok → Type 0} {P Q : Lang} {u : List Tok} → Then P Q u → AllByRecursion Ok u → Of Ok (P ⨟ Q)
of_both {u = u} x h = record { tokens = u; spelled = x; ok = h }

pub first : {Ok : Tok → Type 0} {P Q : Lang} → Of Ok (P ⨟ Q) → Of Ok P
first {Ok} x = record { tokens = x.spelled.front; spelled = x.spelled.first; ok = front_ok Ok x.spelled x.ok }

pub rest : {Ok : Tok → Type 0} {P Q : Lang} → Of Ok (P ⨟ Q) → Of Ok Q
rest {Ok} x = record { tokens = x.spelled.back; spelled = x.spelled.second; ok = back_ok Ok x.spelled x.ok }

-- between its indentations
pub inner : {Ok : Tok → Type 0} {P : Lang} → Of Ok (Lines P) → Of Ok P
inner x = first (rest x)

-- inside its parentheses
wrapped : (Ok : Tok → Type 0) {P : ℕ → Lang} {goal : Type 0} → (n k : ℕ) (u : List Tok) → Wrapped n k P u → AllByRecursion Ok u →
    ((j : ℕ) (v : List Tok) → P j v → AllByRecursion Ok v → goal) → goal
wrapped Ok zero k u x h f = f k u x h
wrapped Ok (suc n) k u x h f = wrapped Ok n 1 x.second.front x.second.first (front_ok Ok x.second (back_ok Ok x h)) f

pub unwrapped : {Ok : Tok → Type 0} {P : ℕ → Lang} {goal : Type 0} {k : ℕ} → Of Ok (Placed k P) →
    ((j : ℕ) (v : List Tok) → P j v → AllByRecursion Ok v → goal) → goal
unwrapped {Ok} {k = k} x f = wrapped Ok x.spelled.depth k x.tokens x.spelled.inside x.ok f
