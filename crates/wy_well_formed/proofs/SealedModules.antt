-- The module that a word names: its scope stands at its number, and the type that it is sealed at is declared.
use Rattle.std.proofs.Common.{◌≡◌, ℕ, zero, suc, ◌+◌, List, [], ◌∷◌, ◌++◌, map, Bool, true, false, Option, Some, None, refl, sym, ap, ◌∙◌, subst, arith}
use Rattle.std.specs.Prelude.{slice_get, if◌then◌else◌}
use Rattle.wy_text.specs.Members.{In}
use Rattle.wy_text.proofs.Lists.{In-slice_get}
use Rattle.wy_types.specs.Program.{Program, Scope}
use Rattle.wy_rules.specs.OwnNames.{sealed_of, name_of}
use Rattle.wy_symbols.specs.declared.scoping.Head.{Head}
use Rattle.wy_symbols.specs.Declarations.{ModuleTree, same_name, first_from, module_number, module_names, texts}
use Rattle.wy_symbols.specs.Atoms.{head_names, type_number, opened, sealed_opening, module_at}
use Rattle.wy_heads.specs.Lines.{number_or_zero}
use Rattle.wy_names.specs.Scopes.{scope_of_module}
use Rattle.wy_heads.specs.ScopeHeads.{sealed_refusals}
use Rattle.wy_symbols.proofs.Firsts.{same_exact}
use Rattle.wy_well_formed.proofs.ModuleScopes.{NotRefused}
use Rattle.wy_well_formed.proofs.OwnTyped.{IsSealedAs, AreSealed}

-- a module of a name, at a number
record IsAt (ms : List ModuleTree) (x : List ℕ) (k : ℕ) : Type 0 where
  tree : ModuleTree
  at : slice_get ms k ≡ Some tree
  name : x ≡ tree.name.text

-- the first of a name is one of it
found_from : (k : ℕ) (ms : List ModuleTree) (x : List ℕ) (j : ℕ) → first_from k (texts (module_names ms)) x ≡ Some j →
    (i : ℕ) × (j ≡ k + i) × IsAt ms x i
found_from k [] x j e = cc
found_from k (m ∷ ms) x j e =
    let after = first_from (k + 1) (texts (module_names ms)) x in
    let P : Bool → Type 0 = λ b. same_name m.name.text x ≡ b → (if b then Some k else after) ≡ Some j → (i : ℕ) × (j ≡ k + i) × IsAt (m ∷ ms) x i in
    (elim (same_name m.name.text x) as P [
      | true ↦ λ t f. (let same : k ≡ j = cc in (0, omega (arith, same), record { tree = m; at = refl; name = same_exact m.name.text x t }))
      | false ↦ λ t f. (
          let r = found_from (k + 1) ms x j f in
          let is = r.2 in
          (suc r.0, omega (arith, r.1), record { tree = is.tree; at = is.at; name = is.name }))
    ]) refl e

found_module : (ms : List ModuleTree) (x : List ℕ) (j : ℕ) → module_number ms x ≡ Some j → IsAt ms x j
found_module ms x j e =
    let r = found_from 0 ms x j e in
    let same : r.0 ≡ j = (let s = r.1 in omega (arith, s)) in
    subst (λ v. IsAt ms x v) same r.2

get_mapped : {X : Type 0} (f : X → Scope) (xs : List X) (rest : List Scope) (k : ℕ) (x : X) → slice_get xs k ≡ Some x →
    slice_get (map f xs ++ rest) k ≡ Some (f x)
get_mapped f [] rest k x e = cc
get_mapped f (y ∷ xs) rest zero x e = (let same : y ≡ x = cc in ap (λ v. Some (f v)) same)
get_mapped f (y ∷ xs) rest (suc k) x e = get_mapped f xs rest k x e

sealed_number : (heads : List Head) (modules : List ModuleTree) (m : ModuleTree) (o : Option ℕ) → sealed_refusals heads modules m o ≡ [] →
    (d : ℕ) × (o ≡ Some d)
sealed_number heads modules m None e = cc
sealed_number heads modules m (Some d) e = (d, refl)

-- of a program each module that a word names is sealed at a declared type
pub modules_sealed : (p : Program) (heads : List Head) (modules : List ModuleTree) (last : Scope) →
    p.scopes ≡ map (scope_of_module heads modules) modules ++ last ∷ [] →
    ((m : ModuleTree) → In m modules → NotRefused heads modules m) → AreSealed p heads modules
modules_sealed p heads modules last scopes sound = record { sealed_as = of_word }
  where
    of_word : (word : List ℕ) (k : ℕ) → module_number modules word ≡ Some k → IsSealedAs p heads modules word
    of_word word k e =
        let names = head_names heads in
        let is = found_module modules word k e in
        let m = is.tree in
        let d = sealed_number heads modules m (type_number names m.sealed.text) ((sound m (In-slice_get modules k m is.at)).sealed) in
        let scope : slice_get p.scopes k ≡ Some (scope_of_module heads modules m) =
        ap (λ l. slice_get l k) scopes ∙ get_mapped (scope_of_module heads modules) modules (last ∷ []) k m is.at in
        record {
          decl = d.0;
          opening = ap (λ o. sealed_opening names (module_at modules o)) e ∙ ap (λ o. sealed_opening names o) is.at ∙ ap (λ o. opened o) d.1;
          sealed = ap (λ o. sealed_of (slice_get p.scopes (number_or_zero o))) e ∙ ap (λ o. sealed_of o) scope ∙ d.1;
          named = is.name ∙ sym (ap (λ o. name_of (slice_get p.scopes (number_or_zero o))) e ∙ ap (λ o. name_of o) scope);
        }
