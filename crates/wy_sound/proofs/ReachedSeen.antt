-- The types that an instance's scope reaches, and their methods, have atoms of grants, and the own types among them are of the instance.
use Rattle.std.proofs.Common.{◌≡◌, ℕ, List, [], map, refl, subst, Option, Some, None}
use Rattle.std.specs.Prelude.{slice_get}
use Rattle.wy_text.specs.Members.{In}
use Rattle.wy_text.proofs.Lists.{In-unmap, In-slice_get}
use Rattle.wy_effects.specs.EffSet.{IsSet, AreSets, replace}
use Rattle.wy_effects.proofs.Replacing.{IsSet-replace, AreSets-map}
use Rattle.wy_types.specs.declared.types.TypeRef.{TypeRef}
use Rattle.wy_types.specs.declared.types.TypeRef.TheVariants as of
use Rattle.wy_types.specs.declared.linked.Instance.{Instance}
use Rattle.wy_types.specs.Core.{IsCore}
use Rattle.wy_types.specs.Program.{Program, Scope}
use Rattle.wy_types.specs.Signature.{Signature, mapped_signature}
use Rattle.wy_types.specs.Types.{declared_methods, methods_of_owner, scope_bodies}
use Rattle.wy_rules.specs.GroundTypes.{GroundType, Int, Bool, Text, Nothing, Named, At, Own, type_at, read_by, effect_by, run_instances, own_methods, ground_methods, ground_reading}
use Rattle.wy_rules.specs.Reached.{IsReached, of_number, of_truth, of_text, of_nothing, of_own, of_field, of_parameter, of_answer, of_name, of_start, of_body, of_argument, of_result}
use Rattle.wy_rules.proofs.RunReadings.{NoOwn, AllNoOwn, no_own_of}
use Rattle.wy_sound.specs.Granted.{granted_count, IsSeenIn, SignatureSeenIn, ReachedTypesAreSeen}
use Rattle.wy_sound.proofs.LinkingAtoms.{atoms_granted}

module _ (x n : ℕ) where
  -- sets and a bound of atoms below the number
  record Few (o : Option (List ℕ)) (ground : List (List ℕ)) : Type 0 where
    sets : AreSets n ground
    bound : (set : List ℕ) → o ≡ Some set → IsSet n set

  -- a type that is read with these, where its own types are the instance's
  seen : (z : ℕ) (o : Option (List ℕ)) (sets : List (List ℕ)) (t : TypeRef) → Few o sets → ((l : ℕ) → t ≡ of.Own l → z ≡ x) →
      IsSeenIn x n (type_at z (read_by o sets t))
  seen z None sets of.Int few own = tt
  seen z None sets of.Bool few own = tt
  seen z None sets of.Text few own = tt
  seen z None sets of.Unit few own = tt
  seen z None sets (of.Named d members) few own = AreSets-map n sets members few.sets
  seen z None sets (of.At d bound) few own = IsSet-replace n sets bound few.sets
  seen z None sets (of.Own l) few own = own l refl
  seen z (Some b) sets of.Int few own = tt
  seen z (Some b) sets of.Bool few own = tt
  seen z (Some b) sets of.Text few own = tt
  seen z (Some b) sets of.Unit few own = tt
  seen z (Some b) sets (of.Named d members) few own = few.bound b refl
  seen z (Some b) sets (of.At d bound) few own = few.bound b refl
  seen z (Some b) sets (of.Own l) few own = own l refl

  no_own_seen : (t : TypeRef) → NoOwn t → (l : ℕ) → t ≡ of.Own l → 0 ≡ x
  no_own_seen t h l e = absurd (subst NoOwn e h)

  -- methods of a declared type, which name no own type
  declared_seen : (o : Option (List ℕ)) (sets : List (List ℕ)) → Few o sets → (e : List ℕ → List ℕ) → ((s : List ℕ) → IsSet n (e s)) →
      (ms : List (Signature TypeRef)) → AllNoOwn ms → (m : Signature GroundType) → In m (map (mapped_signature (type_at 0) (λ e. e)) (map (mapped_signature (read_by o sets) e) ms)) →
      SignatureSeenIn x n m
  declared_seen o sets few e are ms none m i =
      let outer = In-unmap (mapped_signature (type_at 0) (λ e. e)) m (map (mapped_signature (read_by o sets) e) ms) i in
      let inner = In-unmap (mapped_signature (read_by o sets) e) outer.0 ms outer.1 in
      let w = inner.0 in
      subst (SignatureSeenIn x n) outer.2
      (subst (λ (v : Signature TypeRef). SignatureSeenIn x n (mapped_signature (type_at 0) (λ e. e) v)) inner.2 (record {
        params = λ t j. (
            let q = In-unmap (type_at 0) t (map (read_by o sets) w.params) j in
            let r = In-unmap (read_by o sets) q.0 w.params q.1 in
            subst (IsSeenIn x n) q.2 (subst (λ v. IsSeenIn x n (type_at 0 v)) r.2
            (seen 0 o sets r.0 few (no_own_seen r.0 ((none w inner.1).0 r.0 r.1)))));
        effect = are w.effect;
        result = seen 0 o sets w.result few (no_own_seen w.result (none w inner.1).1);
      }))

  -- methods of the instance's own types
  effect_seen : (o : Option (List ℕ)) (sets : List (List ℕ)) → Few o sets → (e : List ℕ) → IsSet n (effect_by o sets e)
  effect_seen None sets few e = IsSet-replace n sets e few.sets
  effect_seen (Some b) sets few e = few.bound b refl

  own_seen : (o : Option (List ℕ)) (sets : List (List ℕ)) → Few o sets → (ms : List (Signature TypeRef)) (m : Signature GroundType) →
      In m (map (mapped_signature (λ t. type_at x (read_by o sets t)) (effect_by o sets)) ms) → SignatureSeenIn x n m
  own_seen o sets few ms m i =
      let r = In-unmap (mapped_signature (λ t. type_at x (read_by o sets t)) (effect_by o sets)) m ms i in
      subst (SignatureSeenIn x n) r.2 (record {
        params = λ t j. (
            let q = In-unmap (λ t. type_at x (read_by o sets t)) t (r.0).params j in
            subst (IsSeenIn x n) q.2 (seen x o sets q.0 few (λ l e. refl)));
        effect = effect_seen o sets few (r.0).effect;
        result = seen x o sets (r.0).result few (λ l e. refl);
      })

  module _ (p : Program) (c : IsCore p) (i : Instance) (there : slice_get (run_instances p) x ≡ Some i) (few : Few i.bound i.ground) where
    methods_seen : (t : GroundType) → IsSeenIn x n t → (m : Signature GroundType) → In m (ground_methods p t) → SignatureSeenIn x n m
    methods_seen Int h m j = absurd j
    methods_seen Bool h m j = absurd j
    methods_seen Text h m j = absurd j
    methods_seen Nothing h m j = absurd j
    methods_seen (Named d sets) h m j =
        declared_seen None sets (record { sets = h; bound = λ s e. absurd (cc) }) (replace sets) (λ s. IsSet-replace n sets s h)
        (declared_methods (slice_get p.declarations d)) (no_own_of p c d) m j
    methods_seen (At d b) h m j =
        declared_seen (Some b) [] (record { sets = λ s k. absurd k; bound = λ s e. (let same : b ≡ s = cc in subst (IsSet n) same h) }) (λ e. b) (λ s. h)
        (declared_methods (slice_get p.declarations d)) (no_own_of p c d) m j
    methods_seen (Own z l) h m j =
        let at : In m (own_methods p x l (slice_get (run_instances p) x)) = subst (λ y. In m (own_methods p y l (slice_get (run_instances p) y))) h j in
        own_seen i.bound i.ground few (methods_of_owner l (scope_bodies (slice_get p.scopes i.scope))) m (subst (λ o. In m (own_methods p x l o)) there at)

    here : (t : TypeRef) → IsSeenIn x n (type_at x (read_by i.bound i.ground t))
    here t = seen x i.bound i.ground t few (λ l e. refl)

    reached_seen : (s : Scope) (t : GroundType) → IsReached (ground_reading p x i) s t → IsSeenIn x n t
    reached_seen s t of_number = here of.Int
    reached_seen s t of_truth = here of.Bool
    reached_seen s t of_text = here of.Text
    reached_seen s t of_nothing = here of.Unit
    reached_seen s t (of_own u j) = here u
    reached_seen s t (of_field l u j) = here u
    reached_seen s t (of_parameter b j u k) = here u
    reached_seen s t (of_answer b j) = here b.signature.result
    reached_seen s t (of_name v j) = here v.typ
    reached_seen s t (of_start u j) = here u
    reached_seen s t (of_body b j u k) = here u
    reached_seen s t (of_argument k h m j u l) = (methods_seen k (reached_seen s k h) m j).params u l
    reached_seen s t (of_result k h m j) = (methods_seen k (reached_seen s k h) m j).result

pub reached_types_are_seen : ReachedTypesAreSeen
reached_types_are_seen p keeps x i s there t h =
    let g = atoms_granted p keeps i (In-slice_get (run_instances p) x i there) in
    let few : Few x (granted_count p) i.bound i.ground = record { sets = g.ground; bound = g.bound } in
    let is = reached_seen x (granted_count p) p keeps.core i there few s t h in
    (is, methods_seen x (granted_count p) p keeps.core i there few t is)
