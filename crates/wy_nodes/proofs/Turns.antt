-- One turn of a loop over a list: what it counts.
use Rattle.std.proofs.Common.{◌≡◌, ◌≤◌, ℕ, ◌+◌, ◌<◌, List, ◌∷◌, length, drop, get_or, sym, ap, ◌∙◌, arith}
use Rattle.std.proofs.lemmas.List.{drop_more}

module _ {X : Type 0} (xs : List X) (i : ℕ) (x : X) (lt : i < length xs) (at : x ≡ get_or xs i x) where
  -- what is left, from the next element on
  pub next : drop i xs ≡ x ∷ drop (i + 1) xs
  next = drop_more xs i x lt ∙ ap (λ (v : X). v ∷ drop (i + 1) xs) (sym at)

  -- one element is counted
  pub counted_turn : (f : List X → ℕ) (old step one whole : ℕ) → step ≡ one → f (x ∷ drop (i + 1) xs) ≡ one + f (drop (i + 1) xs) → old + f (drop i xs) ≡ whole → old + step + f (drop (i + 1) xs) ≡ whole
  counted_turn f old step one whole is more h = let left = ap f next ∙ more in omega (arith, is, left, h)

  -- one element is counted, and there are no more of them than these
  pub within_turn : (f : List X → ℕ) (old step one whole : ℕ) → step ≤ one → f (x ∷ drop (i + 1) xs) ≡ one + f (drop (i + 1) xs) → old + f (drop i xs) ≤ whole → old + step + f (drop (i + 1) xs) ≤ whole
  within_turn f old step one whole is more h = let left = ap f next ∙ more in omega (arith, is, left, h)
