-- The scopes of a program put together: modules first, each under its own name, and then the program.
use Rattle.std.proofs.Common.{◌≡◌, List, [], ◌∷◌, ◌++◌, map, inl, inr, refl, ap}
use Rattle.wy_text.specs.Members.{In, Apart}
use Rattle.wy_text.proofs.Lists.{In-cases}
use Rattle.wy_types.specs.declared.resolved.ScopeKind.TheVariants.{Program as Main}
use Rattle.wy_types.specs.Program.{Scope}
use Rattle.wy_types.specs.Core.{ProgramIsLast, module_names}

module _ {X : Type 0} (f : X → Scope) (last : Scope) where
  pub program_is_last : (xs : List X) → ((x : X) → In x xs → (f x).kind ≡ Main → ⊥) → last.kind ≡ Main → ProgramIsLast (map f xs ++ last ∷ [])
  program_is_last [] h e = e
  program_is_last (x ∷ []) h e = (h x (inl refl), e)
  program_is_last (x ∷ y ∷ xs) h e = (h x (inl refl), program_is_last (y ∷ xs) (λ z i. h z (inr i)) e)

  pub module_names_are : (xs : List X) → module_names (map f xs ++ last ∷ []) ≡ map (λ x. (f x).name) xs
  module_names_are [] = refl
  module_names_are (x ∷ []) = refl
  module_names_are (x ∷ y ∷ xs) = ap (λ l. (f x).name ∷ l) (module_names_are (y ∷ xs))

-- lists without repeats that have nothing in common
pub Apart-append : {X : Type 0} (xs ys : List X) → Apart xs → Apart ys → ((x : X) → In x xs → In x ys → ⊥) → Apart (xs ++ ys)
Apart-append [] ys d c n = c
Apart-append (x ∷ xs) ys d c n = (
  λ i. elim (In-cases x xs ys i) [ inl j ↦ d.0 j | inr j ↦ n x (inl refl) j ],
  Apart-append xs ys d.1 c (λ y i j. n y (inr i) j),
)

-- a list in which nothing is
pub nothing_in : {X : Type 0} (xs : List X) → ((x : X) → In x xs → ⊥) → xs ≡ []
nothing_in [] h = refl
nothing_in (x ∷ xs) h = absurd (h x (inl refl))
