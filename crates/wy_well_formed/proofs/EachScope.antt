-- The scopes of a program whose names resolve are those of its modules and that of its program block, which is the last.
use Rattle.std.proofs.Common.{◌≡◌, ℕ, zero, suc, ◌-◌, List, [], ◌∷◌, ◌++◌, map, length, inl, inr, Some, refl, ap, ◌∙◌, subst, arith}
use Rattle.std.specs.Prelude.{slice_get}
use Rattle.std.proofs.lemmas.List.{length-append}
use Rattle.wy_syntax.specs.Trees.{ItemTree}
use Rattle.wy_text.specs.Members.{In}
use Rattle.wy_text.proofs.Lists.{In-cases, In-unmap}
use Rattle.wy_types.specs.Program.{Program, Scope}
use Rattle.wy_types.specs.Ground.{program_number}
use Rattle.wy_symbols.specs.Declarations.{ModuleTree, types_of, modules_of}
use Rattle.wy_symbols.specs.Atoms.{heads_of}
use Rattle.wy_names.specs.Scopes.{scope_of_module, scope_of_program}
use Rattle.wy_names.specs.Names.{Resolves}

last_at : {X : Type 0} (xs : List X) (x : X) → slice_get (xs ++ x ∷ []) (length xs) ≡ Some x
last_at [] x = refl
last_at (y ∷ xs) x = last_at xs x

first_at : {X Y : Type 0} (f : X → Y) (xs : List X) (y : Y) (k : ℕ) (x : X) → slice_get xs k ≡ Some x → slice_get (map f xs ++ y ∷ []) k ≡ Some (f x)
first_at f [] y k x e = absurd (cc)
first_at f (z ∷ xs) y zero x e = (let same : z ≡ x = cc in ap (λ v. Some (f v)) same)
first_at f (z ∷ xs) y (suc k) x e = first_at f xs y k x e

module _ (items : List ItemTree) (p : Program) (r : Resolves items p) where
  abbrev pub of_module : ModuleTree → Scope
  of_module = scope_of_module (heads_of (types_of items)) (modules_of items)

  abbrev pub of_program : Scope
  of_program = scope_of_program (heads_of (types_of items)) (modules_of items) r.program

  scopes_are : p.scopes ≡ map of_module (modules_of items) ++ of_program ∷ []
  scopes_are = ap (λ (v : Program). v.scopes) r.bound

  -- what holds of both holds of each scope
  pub each_scope : (P : Scope → Type 0) → ((m : ModuleTree) → In m (modules_of items) → P (of_module m)) → P of_program →
      (s : Scope) → In s p.scopes → P s
  each_scope P modules program s i =
      let among : In s (map of_module (modules_of items) ++ of_program ∷ []) = subst (λ l. In s l) scopes_are i in
      elim (In-cases s (map of_module (modules_of items)) (of_program ∷ []) among) [
        | inl j ↦ (let m = In-unmap of_module s (modules_of items) j in subst P m.2 (modules m.0 m.1))
        | inr j ↦ elim j [ inl e ↦ subst P e program | inr l ↦ absurd l ]
      ]

  pub module_scope_is : (k : ℕ) (m : ModuleTree) → slice_get (modules_of items) k ≡ Some m → slice_get p.scopes k ≡ Some (of_module m)
  module_scope_is k m e = ap (λ l. slice_get l k) scopes_are ∙ first_at of_module (modules_of items) of_program k m e

  pub program_scope_is : slice_get p.scopes (program_number p) ≡ Some of_program
  program_scope_is =
      let front = map of_module (modules_of items) in
      let l = length-append front (of_program ∷ []) in
      let number : length (front ++ of_program ∷ []) - 1 ≡ length front = omega (arith, l) in
      ap (λ (l : List Scope). slice_get l (length l - 1)) scopes_are ∙ ap (λ k. slice_get (front ++ of_program ∷ []) k) number ∙ last_at front of_program
