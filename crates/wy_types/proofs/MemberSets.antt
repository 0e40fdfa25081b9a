-- The sets of the members of types in range are sets, and so are those that a line hands on.
use Rattle.std.proofs.Common.{◌≡◌, ℕ, List, [], ◌∷◌, map, inl, inr, refl, subst, ◌∙◌, Option, Some, None, true, false}
use Rattle.std.specs.Prelude.{slice_get, bytes_eq, if◌then◌else◌}
use Rattle.wy_text.specs.Members.{In}
use Rattle.wy_effects.specs.EffSet.{IsSet, AreSets, replace}
use Rattle.wy_text.proofs.Lists.{In-unmap, In-cases}
use Rattle.wy_effects.proofs.Replacing.{IsSet-replace}
use Rattle.wy_types.specs.declared.types.TypeRef.{TypeRef}
use Rattle.wy_types.specs.declared.types.TypeRef.TheVariants.{Int, Bool as Truth, Text, Unit as Nothing, Named, At, Own}
use Rattle.wy_types.specs.declared.resolved.OwnName.{OwnName}
use Rattle.wy_types.specs.declared.resolved.TypeDecl.{TypeDecl}
use Rattle.wy_types.specs.declared.resolved.DefinedMember.{DefinedMember}
use Rattle.wy_types.specs.declared.resolved.Origin.{Origin}
use Rattle.wy_types.specs.declared.resolved.Origin.TheVariants.{Parameter, Grant, Use, Instance, Import}
use Rattle.wy_types.specs.Program.{Program}
use Rattle.wy_types.specs.Fitting.{FitsType}
use Rattle.wy_types.specs.Ground.{type_of, set_or, set_or_empty, abstract_set, defined_set, declared_set, member_set, members_of, argument_sets, arguments_sets}

module _ (p : Program) (n : ℕ) where
  abstract_is_set : (name : List ℕ) (ms sets : List (List ℕ)) (s : List ℕ) → AreSets n sets → abstract_set name ms sets ≡ Some s → IsSet n s
  abstract_is_set name [] sets s h e = absurd (cc)
  abstract_is_set name (m ∷ ms) [] s h e = absurd (cc)
  abstract_is_set name (m ∷ ms) (t ∷ sets) s h e =
      elim (bytes_eq m name) as (λ b. (if b then Some t else abstract_set name ms sets) ≡ Some s → IsSet n s) [
        | true ↦ λ q. (let same : t ≡ s = cc in subst (IsSet n) same (h t (inl refl)))
        | false ↦ λ q. abstract_is_set name ms sets s (λ u i. h u (inr i)) q
      ] e

  defined_is_set : (name : List ℕ) (ms : List DefinedMember) (sets : List (List ℕ)) (s : List ℕ) → AreSets n sets → defined_set name ms sets ≡ Some s → IsSet n s
  defined_is_set name [] sets s h e = absurd (cc)
  defined_is_set name (m ∷ ms) sets s h e =
      elim (bytes_eq m.name name) as (λ b. (if b then Some (replace sets m.effects) else defined_set name ms sets) ≡ Some s → IsSet n s) [
        | true ↦ λ q. (let same : replace sets m.effects ≡ s = cc in subst (IsSet n) same (IsSet-replace n sets m.effects h))
        | false ↦ λ q. defined_is_set name ms sets s h q
      ] e

  declared_is_set : (name : List ℕ) (d : Option TypeDecl) (sets : List (List ℕ)) (s : List ℕ) → AreSets n sets → declared_set name d sets ≡ Some s → IsSet n s
  declared_is_set name None sets s h e = absurd (cc)
  declared_is_set name (Some d) sets s h e = cases (abstract_set name d.members sets) refl e
    where
      cases : (o : Option (List ℕ)) → abstract_set name d.members sets ≡ o → set_or o (defined_set name d.defined sets) ≡ Some s → IsSet n s
      cases None is q = defined_is_set name d.defined sets s h q
      cases (Some t) is q = abstract_is_set name d.members sets s h (is ∙ q)

  member_is_set : (owns : ℕ) (t : TypeRef) (name s : List ℕ) → FitsType p n owns t → member_set p t name ≡ Some s → IsSet n s
  member_is_set owns Int name s f e = absurd (cc)
  member_is_set owns Truth name s f e = absurd (cc)
  member_is_set owns Text name s f e = absurd (cc)
  member_is_set owns Nothing name s f e = absurd (cc)
  member_is_set owns (Named d sets) name s f e = declared_is_set name (slice_get p.declarations d) sets s f.2 e
  member_is_set owns (At d bound) name s f e = let same : bound ≡ s = cc in subst (IsSet n) same f.1
  member_is_set owns (Own l) name s f e = absurd (cc)

  or_empty_is_set : (o : Option (List ℕ)) → ((s : List ℕ) → o ≡ Some s → IsSet n s) → IsSet n (set_or_empty o)
  or_empty_is_set None h = tt
  or_empty_is_set (Some s) h = h s refl

  members_are_sets : (owns : ℕ) (t : TypeRef) (members : List (List ℕ)) → FitsType p n owns t → AreSets n (map (λ member. set_or_empty (member_set p t member)) members)
  members_are_sets owns t members f s i =
      let r = In-unmap (λ member. set_or_empty (member_set p t member)) s members i in
      subst (IsSet n) r.2 (or_empty_is_set (member_set p t r.0) (λ u e. member_is_set owns t r.0 u f e))

  module _ (owns : ℕ) (outer : List OwnName) where
    argument_are_sets : (o : Origin) (m : OwnName) (a : ℕ) → FitsType p n owns (type_of (slice_get outer a)) → AreSets n (argument_sets p outer o m a)
    argument_are_sets (Parameter true) m a f = members_are_sets owns (type_of (slice_get outer a)) (members_of p m.typ) f
    argument_are_sets (Parameter false) m a f = λ u i. absurd i
    argument_are_sets Grant m a f = λ u i. absurd i
    argument_are_sets (Use j) m a f = λ u i. absurd i
    argument_are_sets (Instance j arguments) m a f = λ u i. absurd i
    argument_are_sets (Import j arguments bound) m a f = λ u i. absurd i

    -- .. where the arguments' types are in range
    pub arguments_are_sets : (ms : List OwnName) (arguments : List ℕ) → ((a : ℕ) → In a arguments → FitsType p n owns (type_of (slice_get outer a))) →
        AreSets n (arguments_sets p outer ms arguments)
    arguments_are_sets [] arguments fits u i = absurd i
    arguments_are_sets (m ∷ ms) [] fits u i = absurd i
    arguments_are_sets (m ∷ ms) (a ∷ arguments) fits u i =
        elim (In-cases u (argument_sets p outer m.origin m a) (arguments_sets p outer ms arguments) i) [
          | inl j ↦ argument_are_sets m.origin m a (fits a (inl refl)) u j
          | inr j ↦ arguments_are_sets ms arguments (λ x k. fits x (inr k)) u j
        ]
