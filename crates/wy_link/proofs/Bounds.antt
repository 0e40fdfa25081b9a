-- The effects of an argument's type against a bound, the bound against the methods that the type reaches negatively, and an argument's
-- members against their bounds.
use Rattle.std.proofs.Common.{◌≡◌, ◌↔◌, ℕ, List, ap, subst, ◌∙◌, Option, Some, None, Result, Ok, Err, true, false}
use Rattle.std.specs.Prelude.{slice_get, IfOk, IfSome, IfNone}
use Rattle.wy_text.specs.declared.text.Memory.{Memory}
use Rattle.wy_text.specs.Members.{In, Within}
use Rattle.wy_effects.specs.declared.atom.Atom.{Atom}
use Rattle.wy_effects.specs.Bounds.{IsOneOf, IsLeastMissing, IsWidened}
use Rattle.wy_types.specs.declared.types.TypeRef.{TypeRef}
use Rattle.wy_types.specs.declared.path.Step.{Step}
use Rattle.wy_types.specs.declared.resolved.OwnName.{OwnName}
use Rattle.wy_types.specs.Program.{Program}
use Rattle.wy_types.specs.Types.{methods_of}
use Rattle.wy_types.specs.Bounds.{bounds_of}
use Rattle.wy_types.specs.Paths.{IsEffect}
use Rattle.wy_types.specs.Ground.{type_of}
use Rattle.wy_bounds.specs.declared.safety.Safety.{Safety}
use Rattle.wy_bounds.specs.declared.safety.Safety.TheVariants.{Yes, No}
use Rattle.wy_bounds.specs.Safety.{IsAnswer}
use Rattle.wy_premises.specs.Tried.{OrLacks, missing_atom}
use Rattle.wy_link.specs.Tried.{BoundedAt, ExceedsAt, SafeAt, UnsafeAt, Bounded, Exceeds, Safe, Unsafe}

module _ (p : Program) (k : ℕ) (bound : List ℕ) where
  ------------------------------------------------------------
  -- Effects

  -- .. against the widened bound
  module _ (wide : List ℕ) (under : IsWidened (bounds_of p k) bound wide) where
    pub excess_at : (t : TypeRef) (found : List ℕ) (o : Option Atom) → ((a : ℕ) → In a found ↔ IsEffect TypeRef (methods_of p k) t true a) → IfNone o (Within found wide) → IfSome o (λ a. IsLeastMissing IsOneOf a.0 found wide) →
        OrLacks (BoundedAt p k bound t) (ExceedsAt p k bound t) (missing_atom o)
    excess_at t found None effect within least = λ a e. (under a).0 (within a ((effect a).1 e))
    excess_at t found (Some a) effect within least = (
      λ all. least.1 ((under a.0).1 (all a.0 ((effect a.0).0 least.0))),
      ((effect a.0).0 least.0, λ h. least.1 ((under a.0).1 h), λ b e n. least.2 b ((effect b).1 e) (λ i. n ((under b).0 i))),
    )

  ------------------------------------------------------------
  -- Higher-order safety

  safety_at : (t : TypeRef) (v : Safety) → v ≡ Yes → IsAnswer p k t false bound v → SafeAt p k bound t
  safety_at t v e h = subst (IsAnswer p k t false bound) e h

  lack_at : (t : TypeRef) (v : Safety) (path : List Step) (a : Atom) → v ≡ No path a → IsAnswer p k t false bound v → OrLacks (SafeAt p k bound t) (UnsafeAt p k bound t) (Some a.0)
  lack_at t v path a e h =
      let r = subst (IsAnswer p k t false bound) e h in (
        λ safe. r.lacks.2 (safe r.at (path, r.walks, r.polarity) r.lacks.0 r.lacks.1 a.0 r.among),
        ((r.among, (r.at, (path, r.walks, r.polarity), r.lacks)), r.least),
      )

  ------------------------------------------------------------
  -- .. of an argument's type, as code has it

  module _ (names outer : List OwnName) (a : ℕ) (t : TypeRef) (e : outer ≡ names) (is : t ≡ type_of (slice_get outer a)) where
    type_as : t ≡ type_of (slice_get names a)
    type_as = is ∙ ap (λ (l : List OwnName). type_of (slice_get l a)) e

    pub excess_as : (wide found : List ℕ) (r : Result (Option Atom) Memory) → IsWidened (bounds_of p k) bound wide → ((x : ℕ) → In x found ↔ IsEffect TypeRef (methods_of p k) t true x) →
        IfOk r (λ o. IfNone o (Within found wide)) → IfOk r (λ o. IfSome o (λ x. IsLeastMissing IsOneOf x.0 found wide)) →
        IfOk r (λ o. OrLacks (Bounded p k names bound a) (Exceeds p k names bound a) (missing_atom o))
    excess_as wide found (Ok o) under effect within least =
        subst (λ v. OrLacks (BoundedAt p k bound v) (ExceedsAt p k bound v) (missing_atom o)) type_as (excess_at wide under t found o effect within least)
    excess_as wide found (Err m) under effect within least = tt

    pub safety_as : (v : Safety) → v ≡ Yes → IsAnswer p k t false bound v → Safe p k names bound a
    safety_as v safe h = subst (SafeAt p k bound) type_as (safety_at t v safe h)

    pub lack_as : (v : Safety) (path : List Step) (x : Atom) → v ≡ No path x → IsAnswer p k t false bound v → OrLacks (Safe p k names bound a) (Unsafe p k names bound a) (Some x.0)
    lack_as v path x n h = subst (λ u. OrLacks (SafeAt p k bound u) (UnsafeAt p k bound u) (Some x.0)) type_as (lack_at t v path x n h)
