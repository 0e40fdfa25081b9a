-- Tables of the owners of bodies.
use Rattle.std.proofs.Common.{◌≡◌, ℕ, zero, suc, ◌+◌, ◌<◌, ◌≤◌, Bool, false, ◌&&◌, List, [], ◌∷◌, ◌++◌, length, map, drop, refl, sym, ap, ◌∙◌, subst, Option, Some, None, nat_eq, arith, if◌then◌else◌}
use Rattle.std.specs.Prelude.{slice_get}
use Rattle.std.proofs.lemmas.Bool.{eq-eqb, ne_eqb}
use Rattle.indexmap.specs.IndexMap.{IndexMap}
use Rattle.wy_code.specs.declared.code.Literal.{Literal}
use Rattle.wy_code.specs.declared.code.Method.{Method}
use Rattle.wy_code.specs.declared.code.Scope.{Scope}
use Rattle.wy_image.specs.declared.file.Scope as file_scope
use Rattle.wy_verified.specs.CodeOf.{scope_of}
use Rattle.wy_verified.specs.Ranges.{Role, entry_roles, literal_roles}
use Rattle.wy_verified.specs.Rules.{Owner}
use Rattle.wy_verified.specs.Verifying.{owner_in, owner_of}
use Rattle.wy_verified.proofs.Lists.{none_some}
use Rattle.wy_verify.specs.Tables.{same_pair, first_noted, Adds, Adding, OwnerNote, role_notes, code_roles, owners_notes, owner_by}
use Rattle.wy_verify.proofs.Noting.{or_else, first_both, adding_more, adding_all}
use Rattle.wy_verify.proofs.Walks.{drop_read, drop_past}

next_place : (n : ℕ) → suc n ≡ n + 1
next_place n = omega arith

notes_both : (s : ℕ) (xs ys : List Role) → role_notes s (xs ++ ys) ≡ role_notes s xs ++ role_notes s ys
notes_both s [] ys = refl
notes_both s (x ∷ xs) ys = ap (λ (l : List OwnerNote). ((s, x.1), x.0) ∷ l) (notes_both s xs ys)

------------------------------------------------------------
-- Loops

module _ {S : Type 0} (old m new : IndexMap (ℕ × ℕ) Owner S) where
  -- a method more
  pub methods_step : (s l at : ℕ) (xs : List Method) (x : Method) → slice_get xs at ≡ Some x →
      Adding same_pair old m (role_notes s (entry_roles l (drop at xs))) (role_notes s (entry_roles l xs)) →
      Adds same_pair m new (role_notes s ((Some l, x.body) ∷ [])) →
      Adding same_pair old new (role_notes s (entry_roles l (drop (at + 1) xs))) (role_notes s (entry_roles l xs))
  methods_step s l at xs x e a b =
      let P : List Method → Type 0 = λ ms.
      Adding same_pair old m (role_notes s (entry_roles l ms)) (role_notes s (entry_roles l xs)) in
      adding_more same_pair old m new (role_notes s ((Some l, x.body) ∷ [])) (role_notes s (entry_roles l (drop (at + 1) xs)))
      (role_notes s (entry_roles l xs)) (subst P (drop_read xs at x e) a) b

  -- a literal more
  pub literals_step : (s at l : ℕ) (xs : List Literal) (x : Literal) → slice_get xs at ≡ Some x → l ≡ at →
      Adding same_pair old m (role_notes s (literal_roles at (drop at xs))) (role_notes s (literal_roles 0 xs)) →
      Adds same_pair m new (role_notes s (entry_roles l x.methods)) →
      Adding same_pair old new (role_notes s (literal_roles (at + 1) (drop (at + 1) xs))) (role_notes s (literal_roles 0 xs))
  literals_step s at l xs x e p a b =
      let whole = role_notes s (literal_roles 0 xs) in
      let rest = literal_roles (suc at) (drop (at + 1) xs) in
      let P : List Literal → Type 0 = λ ls. Adding same_pair old m (role_notes s (literal_roles at ls)) whole in
      let N : List OwnerNote → Type 0 = λ ns. Adding same_pair old m ns whole in
      let Q : ℕ → Type 0 = λ n. Adding same_pair old new (role_notes s (literal_roles n (drop (at + 1) xs))) whole in
      let R : ℕ → Type 0 = λ n. Adds same_pair m new (role_notes s (entry_roles n x.methods)) in
      subst Q (next_place at) (
      adding_more same_pair old m new (role_notes s (entry_roles at x.methods)) (role_notes s rest) whole
      (subst N (notes_both s (entry_roles at x.methods) rest) (subst P (drop_read xs at x e) a)) (subst R p b))

  -- a scope more
  pub scopes_step : (at s : ℕ) (xs : List Scope) (x : Scope) → slice_get xs at ≡ Some x → s ≡ at →
      Adding same_pair old m (owners_notes at (drop at xs)) (owners_notes 0 xs) →
      Adds same_pair m new (role_notes s (code_roles x)) →
      Adding same_pair old new (owners_notes (at + 1) (drop (at + 1) xs)) (owners_notes 0 xs)
  scopes_step at s xs x e p a b =
      let whole = owners_notes 0 xs in
      let P : List Scope → Type 0 = λ l. Adding same_pair old m (owners_notes at l) whole in
      let Q : ℕ → Type 0 = λ n. Adding same_pair old new (owners_notes n (drop (at + 1) xs)) whole in
      let R : ℕ → Type 0 = λ n. Adds same_pair m new (role_notes n (code_roles x)) in
      subst Q (next_place at) (
      adding_more same_pair old m new (role_notes at (code_roles x)) (owners_notes (suc at) (drop (at + 1) xs)) whole
      (subst P (drop_read xs at x e) a) (subst R p b))

  -- none is left
  pub methods_end : (s l at : ℕ) (xs : List Method) → length xs ≤ at →
      Adding same_pair old new (role_notes s (entry_roles l (drop at xs))) (role_notes s (entry_roles l xs)) →
      Adds same_pair old new (role_notes s (entry_roles l xs))
  methods_end s l at xs le a =
      adding_all same_pair old new (role_notes s (entry_roles l (drop at xs))) (role_notes s (entry_roles l xs))
      (ap (λ (ms : List Method). role_notes s (entry_roles l ms)) (drop_past xs at le)) a

  pub literals_end : (s at : ℕ) (xs : List Literal) → length xs ≤ at →
      Adding same_pair old new (role_notes s (literal_roles at (drop at xs))) (role_notes s (literal_roles 0 xs)) →
      Adds same_pair old new (role_notes s (literal_roles 0 xs))
  literals_end s at xs le a =
      adding_all same_pair old new (role_notes s (literal_roles at (drop at xs))) (role_notes s (literal_roles 0 xs))
      (ap (λ (ls : List Literal). role_notes s (literal_roles at ls)) (drop_past xs at le)) a

  pub scopes_end : (at : ℕ) (xs : List Scope) → length xs ≤ at →
      Adding same_pair old new (owners_notes at (drop at xs)) (owners_notes 0 xs) →
      Adds same_pair old new (owners_notes 0 xs)
  scopes_end at xs le a =
      adding_all same_pair old new (owners_notes at (drop at xs)) (owners_notes 0 xs)
      (ap (owners_notes at) (drop_past xs at le)) a

------------------------------------------------------------
-- Looking up

none_both : {V : Type 0} (a b : Option V) → a ≡ None → b ≡ None → or_else a b ≡ None
unfolding or_else
none_both None b e f = f
none_both (Some v) b e f = e

none_first : {V : Type 0} (a b : Option V) → a ≡ None → or_else a b ≡ b
unfolding or_else
none_first None b e = refl
none_first (Some v) b e = absurd (none_some (sym e))

none_last : {V : Type 0} (a b : Option V) → b ≡ None → or_else a b ≡ a
unfolding or_else
none_last None b e = e
none_last (Some v) b e = refl

-- the notes of a scope tell whose its bodies are
roles_here : (s b : ℕ) (rs : List Role) → first_noted same_pair (role_notes s rs) (s, b) ≡ owner_in rs b
roles_here s b [] = refl
roles_here s b (r ∷ rs) =
    let rest : Option Owner = first_noted same_pair (role_notes s rs) (s, b) in
    ap (λ (c : Bool). if (c && nat_eq r.1 b) then Some r.0 else rest) (eq-eqb s s refl) ∙
    ap (λ (o : Option Owner). if nat_eq r.1 b then Some r.0 else o) (roles_here s b rs)

-- .. and not those of other scopes
roles_other : (s t b : ℕ) (rs : List Role) → nat_eq s t ≡ false → first_noted same_pair (role_notes s rs) (t, b) ≡ None
roles_other s t b [] e = refl
roles_other s t b (r ∷ rs) e =
    let rest : Option Owner = first_noted same_pair (role_notes s rs) (t, b) in
    ap (λ (c : Bool). if (c && nat_eq r.1 b) then Some r.0 else rest) e ∙ roles_other s t b rs e

scopes_below : (s t b : ℕ) (xs : List Scope) → t < s → first_noted same_pair (owners_notes s xs) (t, b) ≡ None
scopes_below s t b [] lt = refl
scopes_below s t b (x ∷ xs) lt =
    first_both same_pair (role_notes s (code_roles x)) (owners_notes (suc s) xs) (t, b) ∙
    none_both (first_noted same_pair (role_notes s (code_roles x)) (t, b)) (first_noted same_pair (owners_notes (suc s) xs) (t, b))
    (roles_other s t b (code_roles x) (ne_eqb s t (λ e. omega (arith, e, lt)))) (scopes_below (suc s) t b xs (omega (arith, lt)))

scopes_here : (s t j b : ℕ) (xs : List Scope) → t ≡ s + j →
    first_noted same_pair (owners_notes s xs) (t, b) ≡ owner_by (slice_get xs j) b
scopes_here s t j b [] e = refl
scopes_here s t zero b (x ∷ xs) e =
    let same : t ≡ s = omega (arith, e) in
    first_both same_pair (role_notes s (code_roles x)) (owners_notes (suc s) xs) (t, b) ∙
    none_last (first_noted same_pair (role_notes s (code_roles x)) (t, b)) (first_noted same_pair (owners_notes (suc s) xs) (t, b))
    (scopes_below (suc s) t b xs (omega (arith, same))) ∙
    ap (λ (n : ℕ). first_noted same_pair (role_notes s (code_roles x)) (n, b)) same ∙ roles_here s b (code_roles x)
scopes_here s t (suc j) b (x ∷ xs) e =
    first_both same_pair (role_notes s (code_roles x)) (owners_notes (suc s) xs) (t, b) ∙
    none_first (first_noted same_pair (role_notes s (code_roles x)) (t, b)) (first_noted same_pair (owners_notes (suc s) xs) (t, b))
    (roles_other s t b (code_roles x) (ne_eqb s t (λ f. omega (arith, e, f)))) ∙
    scopes_here (suc s) t j b xs (omega (arith, e))

-- the table of scopes tells whose a body is
pub owner_here : (scopes : List Scope) (s b : ℕ) →
    first_noted same_pair (owners_notes 0 scopes) (s, b) ≡ owner_by (slice_get scopes s) b
owner_here scopes s b = scopes_here 0 s s b scopes (omega arith)

-- .. which the file's scope says
pub owner_of_file : (scopes : List file_scope.Scope) (s b : ℕ) →
    owner_by (slice_get (map scope_of scopes) s) b ≡ owner_of (slice_get scopes s) b
owner_of_file [] s b = refl
owner_of_file (x ∷ xs) zero b = refl
owner_of_file (x ∷ xs) (suc s) b = owner_of_file xs s b
