-- The bodies of an owner, one after another.
use Rattle.std.proofs.Common.{◌≡◌, ℕ, ◌+◌, ◌<◌, List, [], ◌∷◌, ◌++◌, map, length, get_or, drop, true, false, refl, sym, ap, ◌∙◌, arith, append_assoc}
use Rattle.std.specs.Prelude.{nat_eq, if◌then◌else◌}
use Rattle.std.proofs.lemmas.Bool.Decides.{nat_tests}
use Rattle.wy_effects.proofs.Walks.{drop_at}
use Rattle.wy_types.specs.declared.resolved.Body.{Body}
use Rattle.wy_types.specs.Program.{body_of}
use Rattle.wy_types.specs.Types.{signature, methods_of_owner}

same_owner : (m l : ℕ) → m ≡ l → nat_eq m l ≡ true
same_owner m l e = grind (arith, nat_tests)

other_owner : (m l : ℕ) → (m ≡ l → ⊥) → nat_eq m l ≡ false
other_owner m l n = grind (arith, nat_tests)

module _ (l : ℕ) (bs : List Body) (i : ℕ) (b : Body) (h : i < length bs) (e : b ≡ get_or bs i b) where
  from_here : methods_of_owner l (map body_of (drop i bs)) ≡ methods_of_owner l (map body_of (b ∷ drop (i + 1) bs))
  from_here = ap (λ x. methods_of_owner l (map body_of x)) (drop_at bs i b h ∙ ap (λ v. v ∷ drop (i + 1) bs) (sym e))

  pub methods_of_owner-this : b.owner ≡ l → methods_of_owner l (map body_of (drop i bs)) ≡ signature b.signature ∷ methods_of_owner l (map body_of (drop (i + 1) bs))
  methods_of_owner-this o =
      from_here ∙ ap (λ t. if t then (signature b.signature ∷ methods_of_owner l (map body_of (drop (i + 1) bs))) else methods_of_owner l (map body_of (drop (i + 1) bs))) (same_owner b.owner l o)

  pub methods_of_owner-other : (b.owner ≡ l → ⊥) → methods_of_owner l (map body_of (drop i bs)) ≡ methods_of_owner l (map body_of (drop (i + 1) bs))
  methods_of_owner-other o =
      from_here ∙ ap (λ t. if t then (signature b.signature ∷ methods_of_owner l (map body_of (drop (i + 1) bs))) else methods_of_owner l (map body_of (drop (i + 1) bs))) (other_owner b.owner l o)

pub map-push : {X Y : Type 0} (f : X → Y) (xs : List X) (x : X) → map f (xs ++ x ∷ []) ≡ map f xs ++ f x ∷ []
map-push f [] x = refl
map-push f (y ∷ xs) x = ap (λ l. f y ∷ l) (map-push f xs x)

-- a turn that gives one element
pub given : {X : Type 0} (out new rest rest' whole : List X) (a : X) → rest ≡ a ∷ rest' → new ≡ out ++ a ∷ [] → out ++ rest ≡ whole → new ++ rest' ≡ whole
given out new rest rest' whole a e n h = ap (λ l. l ++ rest') n ∙ append_assoc out (a ∷ []) rest' ∙ ap (λ l. out ++ l) (sym e) ∙ h
