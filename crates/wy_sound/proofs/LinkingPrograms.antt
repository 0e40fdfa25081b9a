-- The scopes of a program: the program's own is the last, modules are told by their names, and instances by theirs.
use Rattle.std.proofs.Common.{◌≡◌, ℕ, zero, suc, ◌+◌, ◌-◌, List, [], ◌∷◌, ◌++◌, inl, inr, length, refl, sym, ap, ◌∙◌, subst, arith, Option, Some, true, false}
use Rattle.std.specs.Prelude.{codes, slice_get, bytes_eq, if◌then◌else◌}
use Rattle.std.proofs.lemmas.Slice.Eq.{bytes_eq-Decides}
use Rattle.wy_text.specs.Members.{In, Apart}
use Rattle.wy_text.proofs.Lists.{In-slice_get, In-cases}
use Rattle.wy_types.specs.declared.linked.Instance.{Instance}
use Rattle.wy_types.specs.declared.resolved.ScopeKind.TheVariants.{Program as Main}
use Rattle.wy_types.specs.Program.{Scope}
use Rattle.wy_types.specs.Core.{ProgramIsLast, module_names}
use Rattle.wy_types.specs.Ground.{number_from}
use Rattle.wy_sound.proofs.Lists.{some_same}

pub one_scope : (o : Option Scope) (s z : Scope) → o ≡ Some s → o ≡ Some z → s ≡ z
one_scope o s z e f = some_same (sym e ∙ f)

------------------------------------------------------------
-- The program's own scope

pub last_scope : (ss : List Scope) → ProgramIsLast ss → (s : Scope) × (slice_get ss (length ss - 1) ≡ Some s) × (s.kind ≡ Main)
last_scope [] h = absurd h
last_scope (s ∷ []) h = (s, refl, h)
last_scope (s ∷ t ∷ rest) h =
    let r = last_scope (t ∷ rest) h.1 in
    let at : suc (suc (length rest)) - 1 ≡ suc (suc (length rest) - 1) = omega arith in
    (r.0, ap (λ k. slice_get (s ∷ t ∷ rest) k) at ∙ r.1, r.2)

pub main_is_last : (ss : List Scope) → ProgramIsLast ss → (k : ℕ) (s : Scope) → slice_get ss k ≡ Some s → s.kind ≡ Main → k ≡ length ss - 1
main_is_last [] h k s e main = absurd h
main_is_last (t ∷ []) h zero s e main = omega arith
main_is_last (t ∷ []) h (suc k) s e main = absurd (cc)
main_is_last (t ∷ u ∷ rest) h zero s e main = absurd (h.0 (ap (λ (v : Scope). v.kind) (some_same e) ∙ main))
main_is_last (t ∷ u ∷ rest) h (suc k) s e main = let r = main_is_last (u ∷ rest) h.1 k s e main in omega (arith, r)

------------------------------------------------------------
-- Modules by their names

module_name : (ss : List Scope) → ProgramIsLast ss → (k : ℕ) (s : Scope) → slice_get ss k ≡ Some s → (s.kind ≡ Main → ⊥) →
    slice_get (module_names ss) k ≡ Some s.name
module_name [] h k s e is_module = absurd h
module_name (t ∷ []) h zero s e is_module = absurd (is_module (ap (λ (v : Scope). v.kind) (sym (some_same e)) ∙ h))
module_name (t ∷ []) h (suc k) s e is_module = absurd (cc)
module_name (t ∷ u ∷ rest) h zero s e is_module = ap (λ (v : Scope). Some v.name) (some_same e)
module_name (t ∷ u ∷ rest) h (suc k) s e is_module = module_name (u ∷ rest) h.1 k s e is_module

once : {X : Type 0} (xs : List X) (j k : ℕ) (x : X) → Apart xs → slice_get xs j ≡ Some x → slice_get xs k ≡ Some x → j ≡ k
once [] j k x d e f = absurd (cc)
once (y ∷ xs) zero zero x d e f = refl
once {X} (y ∷ xs) zero (suc k) x d e f = absurd (d.0 (let P : X → Type 0 = λ v. In v xs in subst P (sym (some_same e)) (In-slice_get xs k x f)))
once {X} (y ∷ xs) (suc j) zero x d e f = absurd (d.0 (let P : X → Type 0 = λ v. In v xs in subst P (sym (some_same f)) (In-slice_get xs j x e)))
once (y ∷ xs) (suc j) (suc k) x d e f = ap suc (once xs j k x d.1 e f)

pub one_module : (ss : List Scope) → ProgramIsLast ss → Apart (module_names ss) → (j k : ℕ) (s z : Scope) → slice_get ss j ≡ Some s →
    slice_get ss k ≡ Some z →
    (s.kind ≡ Main → ⊥) → (z.kind ≡ Main → ⊥) → s.name ≡ z.name → j ≡ k
one_module ss h d j k s z e f a b same =
    once (module_names ss) j k z.name d (module_name ss h j s e a ∙ ap (λ n. Some n) same) (module_name ss h k z f b)

------------------------------------------------------------
-- Instances by their names

-- the instance that is found has the name, and stands at the number
pub number_found : (k : ℕ) (name : List ℕ) (xs : List Instance) (y : ℕ) → number_from k name xs ≡ Some y → (j : ℕ) × (i : Instance) × (y ≡ k + j) ×
    (slice_get xs j ≡ Some i) × (i.name ≡ name)
number_found k name [] y e = absurd (cc)
number_found k name (i ∷ xs) y e =
    elim (bytes_eq i.name name) as (λ b. bytes_eq i.name name ≡ b → (if b then Some k else number_from (k + 1) name xs) ≡ Some y →
    (j : ℕ) × (i' : Instance) × (y ≡ k + j) × (slice_get (i ∷ xs) j ≡ Some i') × (i'.name ≡ name)) [
      | true ↦ λ t f. (0, i, (let same = some_same f in omega (arith, same)), refl, (bytes_eq-Decides i.name name).0 t)
      | false ↦ λ t f. (let r = number_found (k + 1) name xs y f in (suc r.0, r.1, omega (arith, r.2), r.3, r.4))
    ] refl e

-- names without a space; those of pure modules' instances have one
abbrev pub NoSpace : List ℕ → Type 0
NoSpace name = In 32 name → ⊥

pub no_space_both : (a b : List ℕ) → NoSpace a → NoSpace b → NoSpace (a ++ b)
no_space_both a b h g i = elim (In-cases 32 a b i) [ inl j ↦ h j | inr j ↦ g j ]

pub no_space_dot : NoSpace (codes ".")
no_space_dot i = elim i [ inl e ↦ absurd (cc) | inr j ↦ absurd j ]

pub not_pure : (name word : List ℕ) → NoSpace name → name ≡ codes "pure " ++ word → ⊥
not_pure name word h e = h (subst (λ v. In 32 v) (sym e) (inr (inr (inr (inr (inl refl))))))

after_five : List ℕ → List ℕ
after_five (a ∷ b ∷ c ∷ d ∷ e ∷ rest) = rest
after_five rest = rest

pub pure_word : (a b : List ℕ) → codes "pure " ++ a ≡ codes "pure " ++ b → a ≡ b
unfolding after_five
pure_word a b e = ap after_five e
