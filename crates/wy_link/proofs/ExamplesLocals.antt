-- The lists of the types of `val`s, one for each scope: a program without scopes has the list of none; where there is a scope, no list is not enough;
-- and a scope has one type for each of its `val`s, so none with a type more.
use Rattle.std.proofs.Common.{◌≡◌, ℕ, List, [], ◌∷◌, ◌++◌, length, refl, sym, ap, ◌∙◌, arith}
use Rattle.std.proofs.lemmas.List.{length-append}
use Rattle.wy_types.specs.declared.types.TypeRef.{TypeRef}
use Rattle.wy_types.specs.Program.{Program, Scope}
use Rattle.wy_judge.specs.Checking.{AreLocalsOf}
use Rattle.wy_judge.specs.Walking.{PassesOver}

empty : Program
empty = record { declarations = []; scopes = [] }

none_for_none : AreLocalsOf empty []
unfolding empty
none_for_none = record { size = refl; each = λ k s there. (let none = there in cc) }

list_for_each_scope : (p : Program) (s : Scope) → p.scopes ≡ s ∷ [] → AreLocalsOf p [] → ⊥
list_for_each_scope p s one h = let size : length p.scopes ≡ 1 = ap length one in omega (arith, h.size, size)

one_type_for_each_val : (p : Program) (k : ℕ) (s : Scope) (types : List TypeRef) (t : TypeRef) → PassesOver p k s types → PassesOver p k s (types ++ t ∷ []) → ⊥
one_type_for_each_val p k s types t h g = let longer = sym (length-append types (t ∷ [])) ∙ g.size in omega (arith, h.size, longer)
