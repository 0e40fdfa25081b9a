-- Subtyping is carried from an instance's scope to the types of the run, for all types or for those that are no own types.
use Rattle.std.proofs.Common.{◌≡◌, ℕ, List, [], map, inl, inr, Some, None, Bool as Truth, true, false}
use Rattle.std.specs.Prelude.{slice_get, IsTrue}
use Rattle.wy_text.specs.Members.{In, Within}
use Rattle.wy_effects.specs.EffSet.{AreSets, replace}
use Rattle.wy_effects.specs.Bounds.{IsWithin, Respects}
use Rattle.wy_effects.proofs.Closure.{Decided}
use Rattle.wy_text.proofs.Lists.{In-unmap}
use Rattle.wy_effects.proofs.Ordering.{replaced_within, none_within}
use Rattle.wy_types.specs.declared.types.TypeRef.{TypeRef}
use Rattle.wy_types.specs.declared.types.TypeRef.TheVariants as of
use Rattle.wy_types.specs.Program.{Program}
use Rattle.wy_types.specs.Signature.{Signature, mapped_signature}
use Rattle.wy_types.specs.Types.{IsObject, substituted, annotated, erased, declared_methods, named_methods, scope_is_plain, methods_of}
use Rattle.wy_types.specs.Bounds.{bounds_of}
use Rattle.wy_types.specs.Subtyping.{IsSubtype, IsAnnotatedSubtype}
use Rattle.wy_types.specs.Core.{IsCore}
use Rattle.wy_types.proofs.Composing.{transitive}
use Rattle.wy_rules.specs.GroundTypes.{GroundType, Int, Bool, Text, Named, At, Own, IsGroundObject, type_at, ground_methods}
use Rattle.wy_rules.proofs.RunReadings.{decide_ground, NoOwn, AllNoOwn, no_own_of, no_own_read, no_own_erased, object-at, at-object, Agrees, Counts, annotated_agrees, bounded_agrees}
use Rattle.wy_sound.specs.Arguments.{ground_below}
use Rattle.wy_sound.proofs.LinkingReads.{subtype_kept}

------------------------------------------------------------
-- A subtype of a subtype is one, over the types of a run

abbrev pub IsBelow : Program → GroundType → GroundType → Type 0
IsBelow p s t = IsSubtype GroundType (ground_methods p) IsGroundObject Within s t

pub below_below : (p : Program) (s t u : GroundType) → IsBelow p s t → IsBelow p t u → IsBelow p s u
below_below p = transitive GroundType decide_ground (ground_methods p) IsGroundObject Within (λ e f g v u a j. u a (v a j))

pub same_or_below : (p : Program) (s t u : GroundType) → ground_below p s t → IsBelow p t u → ground_below p s u
same_or_below p s t u (inl e) h = inr (rw e h)
same_or_below p s t u (inr b) h = inr (below_below p s t u b h)

------------------------------------------------------------
-- What the methods of types that are no own types name

module _ (p : Program) (c : IsCore p) (x k : ℕ) (sets : List (List ℕ)) (are_sets : AreSets 512 sets) where
  decide_counts : (owns : Truth) (t : TypeRef) → Decided (Counts owns t)
  decide_counts true t = inl tt
  decide_counts false of.Int = inl tt
  decide_counts false of.Bool = inl tt
  decide_counts false of.Text = inl tt
  decide_counts false of.Unit = inl tt
  decide_counts false (of.Named d ms) = inl tt
  decide_counts false (of.At d b) = inl tt
  decide_counts false (of.Own l) = inr (λ h. h)

  AllNoOwn-mapped : (kind : TypeRef → TypeRef) (effect : List ℕ → List ℕ) → ((t : TypeRef) → NoOwn t → NoOwn (kind t)) →
      (ms : List (Signature TypeRef)) → AllNoOwn ms → AllNoOwn (map (mapped_signature kind effect) ms)
  AllNoOwn-mapped kind effect keeps ms h m i =
      let r = In-unmap (mapped_signature kind effect) m ms i in
      rw (← r.2) (
        λ t j. (let s = In-unmap kind t r.0.params j in rw (← s.2) (keeps s.0 ((h r.0 r.1).0 s.0 s.1))),
        keeps r.0.result (h r.0 r.1).1,
      )

  named_no_own : (plain : Truth) (ms : List (List ℕ)) (ds : List (Signature TypeRef)) → AllNoOwn ds → AllNoOwn (named_methods plain ms ds)
  named_no_own true ms ds h = AllNoOwn-mapped erased (λ e. []) no_own_erased ds h
  named_no_own false ms ds h = AllNoOwn-mapped (substituted ms) (replace ms) (no_own_read None ms) ds h

  methods_no_own : (t : TypeRef) → NoOwn t → AllNoOwn (methods_of p k t)
  methods_no_own of.Int h m i = absurd i
  methods_no_own of.Bool h m i = absurd i
  methods_no_own of.Text h m i = absurd i
  methods_no_own of.Unit h m i = absurd i
  methods_no_own (of.Named d ms) h m i =
      named_no_own (scope_is_plain (slice_get p.scopes k)) ms (declared_methods (slice_get p.declarations d)) (no_own_of p c d) m i
  methods_no_own (of.At d b) h m i =
      AllNoOwn-mapped (annotated b) (λ f. b) (no_own_read (Some b) []) (declared_methods (slice_get p.declarations d)) (no_own_of p c d) m i
  methods_no_own (of.Own l) h m i = absurd h

  parts_count : (owns : Truth) (t : TypeRef) → Counts owns t → (m : Signature TypeRef) → In m (methods_of p k t) →
      ((u : TypeRef) → In u m.params → Counts owns u) × Counts owns m.result
  parts_count true t h m i = (λ u j. tt, tt)
  parts_count false t h m i = methods_no_own t h m i

  -- subtyping of an annotated scope, with ground sets put in that respect the bounds of its atoms
  pub carried : Respects (bounds_of p k) [] sets → scope_is_plain (slice_get p.scopes k) ≡ false → (owns : Truth) →
      (IsTrue owns → (l : ℕ) → Agrees p x k sets None (of.Own l)) → (s t : TypeRef) → Counts owns s → Counts owns t →
      IsAnnotatedSubtype p k s t → IsBelow p (type_at x (substituted sets s)) (type_at x (substituted sets t))
  carried respects e owns own =
      subtype_kept TypeRef GroundType (methods_of p k) (ground_methods p) IsObject IsGroundObject (IsWithin (bounds_of p k)) Within
      (λ t. type_at x (substituted sets t)) (replace sets) (Counts owns) (decide_counts owns)
      (annotated_agrees p c x k sets are_sets e owns own) (parts_count owns) (object-at x None sets) (at-object x None sets)
      (λ f g h. none_within (replace sets f) (replace sets g) (replaced_within (bounds_of p k) [] sets respects f g h))

  -- subtyping without effects, at a bound
  pub bounded : (Includes : List ℕ → List ℕ → Type 0) (bound : List ℕ) (owns : Truth) → (IsTrue owns → (l : ℕ) → Agrees p x k sets (Some bound) (of.Own l)) →
      (s t : TypeRef) → Counts owns s → Counts owns t →
      IsSubtype TypeRef (methods_of p k) IsObject Includes s t → IsBelow p (type_at x (annotated bound s)) (type_at x (annotated bound t))
  bounded Includes bound owns own =
      subtype_kept TypeRef GroundType (methods_of p k) (ground_methods p) IsObject IsGroundObject Includes Within (λ t. type_at x (annotated bound t))
      (λ f. bound) (Counts owns) (decide_counts owns)
      (bounded_agrees p c x k sets are_sets bound owns own) (parts_count owns) (object-at x (Some bound) sets) (at-object x (Some bound) sets) (λ e f h a i. i)
