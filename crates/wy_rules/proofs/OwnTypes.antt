-- Which own types a scope has: those of its literals, and in a module its own.
use Rattle.std.proofs.Common.{◌≡◌, ℕ, zero, suc, ◌+◌, ◌-◌, ◌<◌, ◌≤◌, List, [], ◌∷◌, map, length, inl, inr, refl, subst, true, false, arith}
use Rattle.std.specs.Prelude.{nat_eq, if◌then◌else◌}
use Rattle.std.specs.List.{range_with_len}
use Rattle.wy_text.specs.Members.{In}
use Rattle.wy_text.proofs.Lists.{In-map, In-unmap}
use Rattle.wy_types.specs.declared.types.TypeRef.{TypeRef}
use Rattle.wy_types.specs.declared.types.TypeRef.TheVariants.{Own}
use Rattle.wy_types.specs.declared.resolved.ScopeKind.{ScopeKind}
use Rattle.wy_types.specs.declared.resolved.ScopeKind.TheVariants.{Pure, Resource, Plain, Program as Main}
use Rattle.wy_types.specs.Program.{Program, Scope, Body}
use Rattle.wy_types.specs.Types.{signature, methods_of_owner}
use Rattle.wy_types.specs.Core.{ScopeFits}
use Rattle.wy_types.specs.Reached.{own_types}

in_range : (n a i : ℕ) → i < n → In (a + i) (range_with_len a n)
in_range zero a i h = absurd (omega (arith, h))
in_range (suc n) a zero h = inl (omega arith)
in_range (suc n) a (suc i) h = inr (let same : a + 1 + i ≡ a + suc i = omega arith in subst (λ v. In v (range_with_len (a + 1) n)) same (in_range n (a + 1) i (omega (arith, h))))

in_module : (n l : ℕ) → l < n → In (Own l) (map (λ i. Own i) (range_with_len 0 n))
in_module n l h = In-map (λ i. Own i) l (range_with_len 0 n) (let same : 0 + l ≡ l = omega arith in subst (λ v. In v (range_with_len 0 n)) same (in_range n 0 l h))

in_program : (n l : ℕ) → 0 < l → l < n → In (Own l) (map (λ i. Own i) (range_with_len 1 (n - 1)))
in_program n zero h k = absurd (omega (arith, h))
in_program n (suc l) h k =
    In-map (λ i. Own i) (suc l) (range_with_len 1 (n - 1)) (let same : 1 + l ≡ suc l = omega arith in subst (λ v. In v (range_with_len 1 (n - 1))) same (in_range (n - 1) 1 l (omega (arith, k))))

-- the type of each literal in range is one, but in the program not that of its own object
pub own_in : (kind : ScopeKind) (n l : ℕ) → (kind ≡ Main → 0 < l) → l < n → In (Own l) (own_types kind n)
own_in Pure n l h k = in_module n l k
own_in Resource n l h k = in_module n l k
own_in Plain n l h k = in_module n l k
own_in Main n l h k = in_program n l (h refl) k

pub in_below : (n a l : ℕ) → In l (range_with_len a n) → l < a + n
in_below zero a l i = absurd i
in_below (suc n) a l (inl e) = omega (arith, e)
in_below (suc n) a l (inr i) = (let h = in_below n (a + 1) l i in omega (arith, h))

of_range : (n a m : ℕ) (t : TypeRef) → a + m ≤ n → In t (map (λ l. Own l) (range_with_len a m)) → (l : ℕ) × (l < n) × (Own l ≡ t)
of_range n a m t h i = (let r = In-unmap (λ l. Own l) t (range_with_len a m) i in let b = in_below m a r.0 r.1 in (r.0, omega (arith, b, h), r.2))

-- each of them is an own type in range
pub own_is : (kind : ScopeKind) (n : ℕ) (t : TypeRef) → In t (own_types kind n) → (l : ℕ) × (l < n) × (Own l ≡ t)
own_is Pure n t i = of_range n 0 n t (omega arith) i
own_is Resource n t i = of_range n 0 n t (omega arith) i
own_is Plain n t i = of_range n 0 n t (omega arith) i
own_is Main zero t i = absurd i
own_is Main (suc n) t i = (let e : suc n - 1 ≡ n = omega arith in of_range (suc n) 1 n t (omega arith) (subst (λ v. In t (map (λ l. Own l) (range_with_len 1 v))) e i))

positive : (n : ℕ) → nat_eq n 0 ≡ false → 0 < n
positive zero e = absurd (cc)
positive (suc n) e = omega arith

none_owned : (bs : List Body) → methods_of_owner 0 bs ≡ [] → (b : Body) → In b bs → 0 < b.owner
none_owned [] e b i = absurd i
none_owned (a ∷ bs) e b i =
    elim (nat_eq a.owner 0) as (λ v. nat_eq a.owner 0 ≡ v → (if v then signature a.signature ∷ methods_of_owner 0 bs else methods_of_owner 0 bs) ≡ [] → 0 < b.owner) [
      | true ↦ λ t h. absurd (cc)
      | false ↦ λ t h. elim i [
        | inl q ↦ subst (λ (v : Body). 0 < v.owner) q (positive a.owner t)
        | inr r ↦ none_owned bs h b r
      ]
    ] refl e

-- the current object's type is one, for each body of a scope
pub owner_in : (p : Program) (s : Scope) → ScopeFits p s → (b : Body) → In b s.bodies → b.owner < length s.literals → In (Own b.owner) (own_types s.kind (length s.literals))
owner_in p s fits b i h = own_in s.kind (length s.literals) b.owner (λ e. none_owned s.bodies (fits.no_own_body e) b i) h
