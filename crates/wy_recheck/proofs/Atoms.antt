-- Sets as they are listed: one atom after another, in ascending order.
use Rattle.std.proofs.Common.{◌≡◌, ℕ, ◌+◌, ◌<◌, ◌≤◌, List, [], ◌∷◌, ◌++◌, length, get_or, drop, refl, sym, ap, ◌∙◌, subst, arith, append_assoc}
use Rattle.std.specs.Prelude.{◌↔◌}
use Rattle.wy_effects.specs.EffSet.{IsSet, IsSetFrom, insert_atom}
use Rattle.wy_effects.proofs.SetLaws.{insert_atom-skip}
use Rattle.wy_effects.proofs.Walks.{drop_at}

wider : (k m n : ℕ) (xs : List ℕ) → m ≤ n → IsSetFrom k m xs → IsSetFrom k n xs
wider k m n [] le s = tt
wider k m n (x ∷ xs) le s = (s.0, omega (arith, s.1), wider (x + 1) m n xs le s.2)

-- an atom above all others is put last
insert_last : (k x : ℕ) (xs : List ℕ) → IsSetFrom k x xs → insert_atom x xs ≡ xs ++ x ∷ []
insert_last k x [] s = refl
insert_last k x (y ∷ xs) s = insert_atom-skip x y xs s.1 ∙ ap (λ l. y ∷ l) (insert_last (y + 1) x xs s.2)

with_last : (k x : ℕ) (xs : List ℕ) → k ≤ x → IsSetFrom k x xs → IsSetFrom k (x + 1) (xs ++ x ∷ [])
with_last k x [] le s = (le, omega arith, tt)
with_last k x (y ∷ xs) le s = (s.0, omega (arith, s.1), with_last (y + 1) x xs (omega (arith, s.1)) s.2)

-- what is known once so many numbers were read: they are a set, below the least number that may come
pub record Listing (atoms : ℕ) (listed : List ℕ) (i least : ℕ) (set : List ℕ) : Type 0 where
  pub whole : set ++ drop i listed ≡ listed
  pub below : IsSet least set
  pub rest : IsSet atoms listed ↔ IsSetFrom least atoms (drop i listed)

-- the number that comes next
module _ (atoms : ℕ) (listed : List ℕ) (i least : ℕ) (set : List ℕ) (g : Listing atoms listed i least set) (x : ℕ) (lt : i < length listed) (is : x ≡ get_or listed i 0) where
  next : drop i listed ≡ x ∷ drop (i + 1) listed
  next = drop_at listed i 0 lt ∙ ap (λ n. n ∷ drop (i + 1) listed) (sym is)

  stands_next : IsSet atoms listed → (least ≤ x) × (x < atoms) × IsSetFrom (x + 1) atoms (drop (i + 1) listed)
  stands_next h = let P : List ℕ → Type 0 = λ l. IsSetFrom least atoms l in subst P next (g.rest.0 h)

  pub listing_more : least ≤ x → x < atoms → (set' : List ℕ) → set' ≡ insert_atom x set → Listing atoms listed (i + 1) (x + 1) set'
  listing_more le in_range set' e =
      let s : IsSet x set = wider 0 least x set le g.below in
      let last : set' ≡ set ++ x ∷ [] = e ∙ insert_last 0 x set s in
      let P : List ℕ → Type 0 = λ l. IsSetFrom least atoms l in
      let Q : List ℕ → Type 0 = λ l. IsSet (x + 1) l in
      record {
        whole = ap (λ l. l ++ drop (i + 1) listed) last ∙ append_assoc set (x ∷ []) (drop (i + 1) listed) ∙ ap (λ l. set ++ l) (sym next) ∙ g.whole;
        below = subst Q (sym last) (with_last 0 x set (omega arith) s);
        rest = (λ h. (stands_next h).2, λ h. g.rest.1 (subst P (sym next) (le, in_range, h)));
      }
