-- The canonical derivation of an instance's scope is a derivation over the types of a run, as it is over those of a scope.
use Rattle.std.proofs.Common.{ℕ, List, Option, Some, None}
use Rattle.wy_text.specs.Members.{Within}
use Rattle.wy_text.proofs.Lists.{In-slice_get}
use Rattle.wy_effects.proofs.SetLaws.{Within-unions}
use Rattle.wy_types.specs.declared.types.TypeRef.TheVariants as of
use Rattle.wy_types.specs.declared.linked.Instance.{Instance}
use Rattle.wy_types.specs.Core.{ScopeFits}
use Rattle.wy_types.specs.Program.{Program, Scope}
use Rattle.wy_types.proofs.Composing.{transitive}
use Rattle.wy_rules.specs.Canonical.{canonical_locals, canonical_scope}
use Rattle.wy_rules.specs.GroundTypes.{GroundType, IsGroundObject, type_at, read_by, ground_methods, ground_reading}
use Rattle.wy_rules.specs.Typing.{DerivesScope, ScopeHolds}
use Rattle.wy_rules.proofs.Forms.{Lawful}
use Rattle.wy_rules.proofs.Grounding.{ground_typing}
use Rattle.wy_rules.proofs.RunReadings.{decide_ground}
use Rattle.wy_rules.proofs.Writing.{Exact}
use Rattle.wy_rules.proofs.WritingScopes.{scope_settled, settled_ready, scope_written}
use Rattle.wy_sound.specs.GroundReached.{same_ground, GroundDerivationHolds}
use Rattle.wy_sound.proofs.GroundLists.{ground_exact, ground_itself}

module _ (p : Program) (x : ℕ) (i : Instance) where
  pub ground_lawful : Lawful (ground_reading p x i)
  ground_lawful = record {
    same = λ e a j. j;
    within = λ e f g v w a j. w a (v a j);
    unions = λ e f g h j k. Within-unions e f g h j k;
    allows = λ e f h. h;
    onward = λ e f g v w a j. w a (v a j);
    unite = λ e f g h j k. Within-unions e f g h j k;
    below = transitive GroundType decide_ground (ground_methods p) IsGroundObject Within (λ e f g v w a j. w a (v a j));
  }

  no_object : (o : Option (List ℕ)) (sets : List (List ℕ)) →
      (IsGroundObject (type_at x (read_by o sets of.Int)) → ⊥) × (IsGroundObject (type_at x (read_by o sets of.Bool)) → ⊥) ×
      (IsGroundObject (type_at x (read_by o sets of.Text)) → ⊥)
  no_object None sets = ((λ h. h), (λ h. h), (λ h. h))
  no_object (Some b) sets = ((λ h. h), (λ h. h), (λ h. h))

  pub ground_exactly : Exact (ground_reading p x i) same_ground
  ground_exactly =
      let none = no_object i.bound i.ground in
      record { exact = ground_exact; itself = ground_itself; no_int = none.0; no_bool = none.1; no_text = none.2 }

  pub ground_canonical : (s : Scope) → ScopeFits p s → ScopeHolds (ground_reading p x i) s →
      DerivesScope (ground_reading p x i) s (canonical_scope (ground_reading p x i) same_ground s (canonical_locals (ground_reading p x i) same_ground s))
  ground_canonical s fits h =
      let y = ground_reading p x i in
      let d = h.derivation in
      let locals = canonical_locals y same_ground s in
      let settled = scope_settled y same_ground p s fits in
      (scope_written y ground_lawful same_ground ground_exactly p s locals d.locals fits d.start d.bodies h.derives.0 h.derives.1
      (settled_ready y ground_lawful same_ground ground_exactly p s locals d.locals settled)).derives

pub ground_derivation_holds : GroundDerivationHolds
ground_derivation_holds p r a x i s is =
    ground_canonical p x i s (r.keeps.core.scopes s (In-slice_get p.scopes i.scope s is.scope))
    (ground_typing p r.keeps.core x i s is (a.scopes i.scope s is.scope).bodies)
