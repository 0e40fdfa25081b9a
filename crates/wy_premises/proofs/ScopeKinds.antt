-- Kinds of scopes as code compares them, and the kind of the scope of a number.
use Rattle.std.proofs.Common.{◌≡◌, ◌↔◌, ℕ, refl, sym, ap, subst, ◌∙◌, Option, Some, None, Bool, true, false, rules}
use Rattle.std.specs.Prelude.{slice_get}
use Rattle.std.specs.Option.{option_map}
use Rattle.std.proofs.lemmas.Option.{slice_get-map}
use denote.Enum.Bare.{sameb, same_true}
use Rattle.wy_types.specs.contracts.resolved.ScopeKind.{the_type}
use Rattle.wy_types.specs.declared.resolved.ScopeKind.{ScopeKind}
use Rattle.wy_types.specs.declared.resolved.ScopeKind.TheVariants.{Pure, Resource, Plain, Program as Main}
use Rattle.wy_types.specs.declared.resolved.Scope as sc
use Rattle.wy_types.specs.declared.resolved.Core.{Core}
use Rattle.wy_types.specs.Program.{Scope, scope_of, program_of}
use Rattle.wy_rules.specs.Acceptance.{IsOfKind}

same_kind : (a : ScopeKind) → sameb the_type a a ≡ true
same_kind Pure = refl
same_kind Resource = refl
same_kind Plain = refl
same_kind Main = refl

module _ (core : Core) (kind : ScopeKind) (m : ℕ) where
  scope_at : (o : Option sc.Scope) → slice_get core.scopes m ≡ o → slice_get (program_of core).scopes m ≡ option_map scope_of o
  scope_at o e = slice_get-map scope_of core.scopes m ∙ ap (option_map scope_of) e

  pub kind_there : (x : sc.Scope) (b : Bool) → slice_get core.scopes m ≡ Some x → b ≡ sameb the_type x.kind kind → (b ≡ true) ↔ IsOfKind (program_of core) kind m
  kind_there x b e is = (
    λ t. (scope_of x, scope_at (Some x) e, same_true the_type (search rules) _ _ (sym is ∙ t)),
    λ k.
        let one : Some k.0 ≡ Some (scope_of x) = sym k.1 ∙ scope_at (Some x) e in
        let same : k.0 ≡ scope_of x = cc in
        is ∙ subst (λ v. sameb the_type x.kind v ≡ true) (ap (λ (v : Scope). v.kind) (sym same) ∙ k.2) (same_kind x.kind),
  )

  pub kind_nowhere : slice_get core.scopes m ≡ None → ◌≡◌ {A = Bool} false true ↔ IsOfKind (program_of core) kind m
  kind_nowhere e = (
    λ t. absurd (cc),
    λ k. absurd (let one : Some k.0 ≡ None = sym k.1 ∙ scope_at None e in cc),
  )
