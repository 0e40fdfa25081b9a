-- Replacement of atoms by sets: what is in it, and that a replacement after a replacement is one replacement.
use Rattle.std.proofs.Common.{◌≡◌, ℕ, zero, suc, List, [], ◌∷◌, map, inl, inr, get_or, refl, sym, subst}
use Rattle.wy_text.specs.Members.{In, Within}
use Rattle.wy_effects.specs.EffSet.{IsSet, AreSets, replace}
use Rattle.wy_text.proofs.Lists.{In-unmap}
use Rattle.wy_effects.proofs.SetLaws.{IsSetFrom-union, In-union-left, In-union-right, union-cases, sets_equal}

pub IsSet-get : (n : ℕ) (by : List (List ℕ)) (k : ℕ) → AreSets n by → IsSet n (get_or by k [])
IsSet-get n [] k h = tt
IsSet-get n (s ∷ by) zero h = h s (inl refl)
IsSet-get n (s ∷ by) (suc k) h = IsSet-get n by k (λ t i. h t (inr i))

pub IsSet-replace : (n : ℕ) (by : List (List ℕ)) (atoms : List ℕ) → AreSets n by → IsSet n (replace by atoms)
IsSet-replace n by [] h = tt
IsSet-replace n by (a ∷ atoms) h = IsSetFrom-union 0 n (get_or by a []) (replace by atoms) (IsSet-get n by a h) (IsSet-replace n by atoms h)

pub AreSets-map : (n : ℕ) (by sets : List (List ℕ)) → AreSets n by → AreSets n (map (replace by) sets)
AreSets-map n by sets h s i = let r = In-unmap (replace by) s sets i in let P : List ℕ → Type 0 = λ v. IsSet n v in subst P r.2 (IsSet-replace n by r.0 h)

-- an atom is in a replacement exactly where it is in the set of some atom
abbrev pub IsInSome : ℕ → List (List ℕ) → List ℕ → Type 0
IsInSome a by atoms = (k : ℕ) × In k atoms × In a (get_or by k [])

pub replace-from : (a : ℕ) (by : List (List ℕ)) (atoms : List ℕ) → In a (replace by atoms) → IsInSome a by atoms
replace-from a by [] h = absurd h
replace-from a by (k ∷ atoms) h =
    elim (union-cases a (get_or by k []) (replace by atoms) h) [
      | inl i ↦ (k, inl refl, i)
      | inr i ↦ (let r = replace-from a by atoms i in (r.0, inr r.1, r.2))
    ]

pub replace-some : (a : ℕ) (by : List (List ℕ)) (atoms : List ℕ) → IsInSome a by atoms → In a (replace by atoms)
replace-some a by [] h = absurd h.1
replace-some a by (k ∷ atoms) h =
    elim h.1 [
      | inl e ↦ (let P : ℕ → Type 0 = λ j. In a (get_or by j []) in In-union-left a (get_or by k []) (replace by atoms) (subst P (sym e) h.2))
      | inr i ↦ In-union-right a (get_or by k []) (replace by atoms) (replace-some a by atoms (h.0, i, h.2))
    ]

pub Within-replace : (by : List (List ℕ)) (xs ys : List ℕ) → Within xs ys → Within (replace by xs) (replace by ys)
Within-replace by xs ys w a h = let r = replace-from a by xs h in replace-some a by ys (r.0, w r.0 r.1, r.2)

pub get-map-replace : (by sets : List (List ℕ)) (k : ℕ) → get_or (map (replace by) sets) k [] ≡ replace by (get_or sets k [])
get-map-replace by [] k = refl
get-map-replace by (s ∷ sets) zero = refl
get-map-replace by (s ∷ sets) (suc k) = get-map-replace by sets k

pub replace-replace : (n : ℕ) (by sets : List (List ℕ)) (atoms : List ℕ) → AreSets n by → replace by (replace sets atoms) ≡ replace (map (replace by) sets) atoms
replace-replace n by sets atoms h =
    sets_equal 0 n (replace by (replace sets atoms)) (replace (map (replace by) sets) atoms) (IsSet-replace n by (replace sets atoms) h) (IsSet-replace n (map (replace by) sets) atoms (AreSets-map n by sets h))
    (λ a i.
    let r = replace-from a by (replace sets atoms) i in
    let q = replace-from r.0 sets atoms r.1 in
    let P : List ℕ → Type 0 = λ l. In a l in
    replace-some a (map (replace by) sets) atoms (q.0, q.1, subst P (sym (get-map-replace by sets q.0)) (replace-some a by (get_or sets q.0 []) (r.0, q.2, r.2))))
    (λ a i.
    let r = replace-from a (map (replace by) sets) atoms i in
    let P : List ℕ → Type 0 = λ l. In a l in
    let q = replace-from a by (get_or sets r.0 []) (subst P (get-map-replace by sets r.0) r.2) in
    replace-some a by (replace sets atoms) (q.0, replace-some q.0 sets atoms (r.0, r.1, q.1), q.2))
