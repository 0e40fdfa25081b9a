-- The law of ground typing: an instance's reading of its scope's types agrees with the table of the run.
use Rattle.std.proofs.Common.{◌≡◌, ℕ, List, [], map, refl, ap, Option, Some, None, Bool as Truth, true, false}
use Rattle.std.specs.Prelude.{slice_get}
use Rattle.wy_text.specs.Members.{Within}
use Rattle.wy_effects.specs.EffSet.{AreSets, union, replace}
use Rattle.wy_effects.specs.Bounds.{Respects, IsOneOf}
use Rattle.wy_effects.proofs.Replacing.{Within-replace}
use Rattle.wy_effects.proofs.SetLaws.{Within-union, Within-unions, In-union-left, In-union-right}
use Rattle.wy_effects.proofs.Ordering.{replaced_within, none_within}
use Rattle.wy_types.specs.declared.types.TypeRef.TheVariants as of
use Rattle.wy_types.specs.Program.{Program}
use Rattle.wy_types.specs.Signature.{mapped_signature}
use Rattle.wy_types.specs.Types.{IsObject, substituted, annotated, scope_is_plain, is_plain, methods_of}
use Rattle.wy_types.specs.Bounds.{bounds_of}
use Rattle.wy_types.specs.Core.{IsCore}
use Rattle.wy_types.proofs.Composing.{transitive}
use Rattle.wy_rules.specs.Readings.{Reading}
use Rattle.wy_rules.specs.Acceptance.{reading_of, scope_reading}
use Rattle.wy_rules.specs.GroundTypes.{GroundType, Own, IsGroundObject, type_at, read_by, effect_by, own_methods, ground_methods, ground_reading}
use Rattle.wy_rules.specs.GroundTyping.{BoundFits, GroundTyping}
use Rattle.wy_rules.proofs.Forms.{Lawful}
use Rattle.wy_rules.proofs.Carrying.{ReadsOn, scope_carried}
use Rattle.wy_rules.proofs.RunReadings.{decide_ground, object-at, at-object, annotated_agrees, bounded_agrees}

-- The table of the run agrees with an instance's reading of its scope

-- typing of an instance's bodies, by its bound and its ground sets
abbrev reading_by : Program → ℕ → Option (List ℕ) → List (List ℕ) → Reading
reading_by p x o sets = record {
  Kind = GroundType;
  read = λ t. type_at x (read_by o sets t);
  effect = effect_by o sets;
  methods = ground_methods p;
  IsObject = IsGroundObject;
  Includes = Within;
  Allows = Within;
  Under = IsOneOf;
}

module _ (p : Program) (w : IsCore p) (x k : ℕ) (sets : List (List ℕ)) (are_sets : AreSets 512 sets) where
  abbrev OwnAgrees : Option (List ℕ) → Type 0
  OwnAgrees o = (l : ℕ) → ground_methods p (Own x l) ≡ map (mapped_signature (λ t. type_at x (read_by o sets t)) (effect_by o sets)) (methods_of p k (of.Own l))

  by_lawful : (o : Option (List ℕ)) → Lawful (reading_by p x o sets)
  by_lawful o = record {
    same = λ e a j. j;
    within = λ e f g v u a j. u a (v a j);
    unions = λ e f g h i j. Within-unions e f g h i j;
    allows = λ e f h. h;
    onward = λ e f g v u a j. u a (v a j);
    unite = λ e f g h i j. Within-unions e f g h i j;
    below = transitive GroundType decide_ground (ground_methods p) IsGroundObject Within (λ e f g v u a j. u a (v a j));
  }

  reads_by : (plain : Truth) → (plain ≡ false → Respects (bounds_of p k) [] sets) → (o : Option (List ℕ)) → scope_is_plain (slice_get p.scopes k) ≡ plain → BoundFits plain o → OwnAgrees o → ReadsOn (reading_of p k plain) (reading_by p x o sets)
  reads_by true resp None e b own = absurd b
  reads_by false resp (Some bound) e b own = absurd b
  reads_by false resp None e b own = record {
    kind = λ t. type_at x (substituted sets t);
    effect = replace sets;
    read = λ t. refl;
    methods = λ t. annotated_agrees p w x k sets are_sets e true (λ _. own) t tt;
    object = object-at x None sets;
    object_before = at-object x None sets;
    includes = Within-replace sets;
    allows = λ e f h. none_within (replace sets e) (replace sets f) (replaced_within (bounds_of p k) [] sets (resp refl) e f h);
    nothing = λ f a i. absurd i;
    unions = λ f g. Within-union (replace sets f) (replace sets g) (replace sets (union f g))
        (Within-replace sets f (union f g) (λ a i. In-union-left a f g i)) (Within-replace sets g (union f g) (λ a i. In-union-right a f g i));
    declared = λ f a i. i;
    lawful = by_lawful None;
  }
  reads_by true resp (Some bound) e b own = record {
    kind = λ t. type_at x (annotated bound t);
    effect = λ f. bound;
    read = λ t. refl;
    methods = λ t. bounded_agrees p w x k sets are_sets bound true (λ _. own) t tt;
    object = object-at x (Some bound) sets;
    object_before = at-object x (Some bound) sets;
    includes = λ f g h a i. i;
    allows = λ f g h a i. i;
    nothing = λ f a i. absurd i;
    unions = λ f g. Within-union bound bound bound (λ a i. i) (λ a i. i);
    declared = λ f a i. i;
    lawful = by_lawful (Some bound);
  }

pub ground_typing : GroundTyping
ground_typing p w x i s h d =
    let own : (l : ℕ) → ground_methods p (Own x l) ≡ map (mapped_signature (λ t. type_at x (read_by i.bound i.ground t)) (effect_by i.bound i.ground)) (methods_of p i.scope (of.Own l)) = λ l. ap (own_methods p x l) h.there in
    scope_carried (scope_reading p i.scope s) (ground_reading p x i) (reads_by p w x i.scope i.ground h.sets (is_plain s.kind) h.respects i.bound (ap scope_is_plain h.scope) h.bound own) s d
