-- What whole programs have of what lowering asks for. These programs leave their declared types out, so that they are
-- cores is a premise here.
use Rattle.std.proofs.Common.{codes, ◌≡◌, ℕ, zero, suc, List, [], ◌∷◌, map, Some, inl, inr, refl, subst}
use Rattle.std.specs.Prelude.{slice_get}
use Rattle.wy_text.specs.Members.{In, Apart}
use Rattle.wy_types.specs.declared.resolved.OwnName.{OwnName}
use Rattle.wy_types.specs.declared.resolved.Origin.TheVariants as origin
use Rattle.wy_types.specs.Core.{IsCore}
use Rattle.wy_types.specs.Vals.{literal_captures}
use Rattle.wy_types.specs.Program.{Scope}
use Rattle.wy_meaning.specs.Starts.{Started, starts_of, scope_names, last_scope}
use Rattle.wy_meaning.proofs.Programs.{grant, used, line, imported}
use Rattle.wy_meaning.proofs.Rows.{nested, kept_callback, three_files, three_files_started}
use Rattle.wy_lower.specs.Lowerable.{literals_made, GrantsStandFirst, IsModuleStarted, Lowerable}
use Rattle.wy_lower.proofs.Looking.{some_is}

-- the literals that are made, scope by scope
literals_are : map literals_made nested.scopes ∷ map literals_made kept_callback.scopes ∷ map literals_made three_files.scopes ∷ []
    ≡ ((1 ∷ 2 ∷ []) ∷ [] ∷ []) ∷ ([] ∷ [] ∷ (1 ∷ []) ∷ []) ∷ ([] ∷ [] ∷ [] ∷ (1 ∷ []) ∷ []) ∷ []
literals_are = refl

-- a grant behind a used module does not stand first
grants_first : GrantsStandFirst (used [] 0 ∷ grant [] 1 ∷ []) → ⊥
grants_first h = let z : origin.Use 0 ≡ origin.Grant = h.0 (grant [] 1) (inl refl) refl in absurd cc

three_files_made : (k : ℕ) (scope : Scope) → slice_get three_files.scopes k ≡ Some scope → Apart (literals_made scope)
three_files_made zero scope e = subst (λ (c : Scope). Apart (literals_made c)) (some_is e) tt
three_files_made (suc zero) scope e = subst (λ (c : Scope). Apart (literals_made c)) (some_is e) tt
three_files_made (suc (suc zero)) scope e = subst (λ (c : Scope). Apart (literals_made c)) (some_is e) tt
three_files_made (suc (suc (suc zero))) scope e = subst (λ (c : Scope). Apart (literals_made c)) (some_is e) ((λ j. j), tt)
three_files_made (suc (suc (suc (suc k)))) scope e = absurd cc

three_files_bare : (k : ℕ) (scope : Scope) → slice_get three_files.scopes k ≡ Some scope → literal_captures (slice_get scope.literals 0) ≡ []
three_files_bare zero scope e = subst (λ (c : Scope). literal_captures (slice_get c.literals 0) ≡ []) (some_is e) refl
three_files_bare (suc zero) scope e = subst (λ (c : Scope). literal_captures (slice_get c.literals 0) ≡ []) (some_is e) refl
three_files_bare (suc (suc zero)) scope e = subst (λ (c : Scope). literal_captures (slice_get c.literals 0) ≡ []) (some_is e) refl
three_files_bare (suc (suc (suc zero))) scope e = subst (λ (c : Scope). literal_captures (slice_get c.literals 0) ≡ []) (some_is e) refl
three_files_bare (suc (suc (suc (suc k)))) scope e = absurd cc

three_files_instances : (x : ℕ) (i : Started) → slice_get three_files_started x ≡ Some i → IsModuleStarted three_files i
three_files_instances zero i e = subst (λ (c : Started). IsModuleStarted three_files c) (some_is e) (record { scope = _; stands = refl; is_module = refl; handed = refl })
three_files_instances (suc zero) i e = subst (λ (c : Started). IsModuleStarted three_files c) (some_is e) (record { scope = _; stands = refl; is_module = refl; handed = refl })
three_files_instances (suc (suc zero)) i e = subst (λ (c : Started). IsModuleStarted three_files c) (some_is e) (record { scope = _; stands = refl; is_module = refl; handed = refl })
three_files_instances (suc (suc (suc x))) i e = absurd cc

-- behind the grants there are no more
abbrev lines : List OwnName
lines = line (codes "lg") 1 (2 ∷ []) ∷ imported (codes "rep") 2 (4 ∷ 1 ∷ []) ∷ []

no_grant : (m : OwnName) → In m lines → m.origin ≡ origin.Grant → ⊥
no_grant m (inl e) = subst (λ (y : OwnName). y.origin ≡ origin.Grant → ⊥) e (λ h. cc)
no_grant m (inr (inl e)) = subst (λ (y : OwnName). y.origin ≡ origin.Grant → ⊥) e (λ h. cc)
no_grant m (inr (inr j)) = absurd j

three_files_grants : GrantsStandFirst (scope_names (slice_get three_files.scopes (last_scope three_files.scopes)))
three_files_grants = (
  (λ m j e. refl),
  (
    (λ m j e. refl),
    (
      (λ m j e. refl),
      (
        (λ m j e. absurd (no_grant m j e)),
        (
          (λ m j e. absurd (no_grant m (inr j) e)),
          ((λ m j e. absurd j), tt),
        ),
      ),
    ),
  ),
)

three_files_lowerable : IsCore three_files → Lowerable three_files (starts_of three_files three_files_started)
three_files_lowerable core = record {
  core = core;
  edition = refl;
  made = three_files_made;
  bare = three_files_bare;
  instances = three_files_instances;
  main = refl;
  grants = three_files_grants;
}
