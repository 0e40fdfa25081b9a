-- What a pure module may not have, by what its fields and its own names were found to be.
use Rattle.std.proofs.Common.{◌≡◌, ◌↔◌, List, sym, subst, Bool as Truth, true, false}
use Rattle.wy_text.specs.Members.{In}
use Rattle.wy_types.specs.declared.resolved.Field.{Field}
use Rattle.wy_types.specs.declared.resolved.OwnName.{OwnName}
use Rattle.wy_types.specs.declared.resolved.ScopeKind.{ScopeKind}
use Rattle.wy_types.specs.declared.resolved.ScopeKind.TheVariants.{Pure}
use Rattle.wy_types.specs.Program.{Scope}
use Rattle.wy_rules.specs.Typing.{fields_of}
use Rattle.wy_rules.specs.Acceptance.{IsLine, PureHolds}

pub true_not_false : (b : Truth) → b ≡ true → b ≡ false → ⊥
true_not_false b e f = absurd (cc)

abbrev NoVar : List Field → Type 0
NoVar fields = (f : Field) → In f fields → f.mutable ≡ false

abbrev NoLine : List OwnName → Type 0
NoLine names = (n : OwnName) → In n names → IsLine n.origin → ⊥

module _ (s : Scope) (kind : ScopeKind) (is : kind ≡ Pure) (fields : List Field) (same : fields ≡ fields_of s 0) (a : Truth) (var : (a ≡ true) ↔ NoVar fields) where
  -- no field is a `var`, so that the own names tell
  pub names_tell : (names : List OwnName) → names ≡ s.names → (b : Truth) → (b ≡ true) ↔ NoLine names → a ≡ true → (b ≡ true) ↔ PureHolds kind s
  names_tell names e b line h = subst (λ k. (b ≡ true) ↔ PureHolds k s) (sym is) (
    λ t. record { no_var = subst NoVar same (var.0 h); no_line = subst NoLine e (line.0 t) },
    λ p. line.1 (subst NoLine (sym e) p.no_line),
  )

  -- one is
  pub var_tells : a ≡ false → (a ≡ true) ↔ PureHolds kind s
  var_tells h = subst (λ k. (a ≡ true) ↔ PureHolds k s) (sym is) (
    λ t. absurd (true_not_false a t h),
    λ p. var.1 (subst NoVar (sym same) p.no_var),
  )
