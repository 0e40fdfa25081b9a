-- The seal of a module: what judging it comes to is the node of M-Ascribe, and what gives it, premise by premise.
use Rattle.std.proofs.Common.{◌≡◌, ◌↔◌, ℕ, List, ◌∷◌, [], inl, inr, refl, sym, subst, Option, Some, None, Bool as Truth, true, false}
use Rattle.std.specs.Option.{IfSome, IfNone, option_map}
use Rattle.wy_text.specs.declared.fault.Fault.{Fault}
use Rattle.wy_text.specs.declared.fault.RuleName.TheVariants.{MAscribe}
use Rattle.wy_effects.specs.declared.atom.Atom.{Atom}
use Rattle.wy_effects.specs.Bounds.{Bounds, Respects}
use Rattle.wy_types.specs.declared.types.TypeRef.TheVariants.{Named, Own}
use Rattle.wy_types.specs.Program.{Program, Scope}
use Rattle.wy_types.specs.Types.{is_plain}
use Rattle.wy_types.specs.Bounds.{bounds_of, declared_bounds}
use Rattle.wy_rules.specs.Acceptance.{scope_reading, SealHolds, DefinitionsRespect, MembersHold, AscriptionHolds}
use Rattle.wy_rules.specs.Nodes.{nothing, seal, node, seal_nodes}
use Rattle.wy_rules.specs.Failing.{FirstOutside, MembersFail, SealFails, FirstFailing, named_atom}
use Rattle.wy_rules.proofs.Outside.{outside_disrespects}
use Rattle.wy_subtype.specs.declared.verdict.Mode.TheVariants.{Annotated, Plain}
use Rattle.wy_subtype.specs.Verdict.{IsSubtypeIn}
use Rattle.wy_subtype.specs.Decided.{About}
use Rattle.wy_judge.specs.Outcomes.{fault_at, lack_fault, seal_fault}
use Rattle.wy_judge.specs.Judged.{NodesJudged}
use Rattle.wy_judge.specs.Tables.{IsScopeOf}
use Rattle.wy_judge.specs.Targets.{mode_of, about_of}
use Rattle.wy_judge.specs.Walking.{IsSealFault, IsMembersFault}
use Rattle.wy_judge.proofs.Contexts.{below_in_mode}

-- the mode tells whether the scope is plain
pub plain_mode : (plain : Truth) → mode_of plain ≡ Plain → plain ≡ true
plain_mode true e = refl
plain_mode false e = absurd (cc)

pub annotated_mode : (plain : Truth) → mode_of plain ≡ Annotated → plain ≡ false
annotated_mode true e = absurd (cc)
annotated_mode false e = refl

module _ (p : Program) (k : ℕ) (s : Scope) where
  ------------------------------------------------------------
  -- What fails of M-Ascribe

  members_disrespect : (q : Option ℕ) (atom : Option ℕ) → MembersFail p k s q atom → DefinitionsRespect p k s q → ⊥
  members_disrespect None atom f r = f
  members_disrespect (Some d) None f r = f
  members_disrespect (Some d) (Some a) f r = outside_disrespects (declared_bounds p d) (bounds_of p k) s.definitions a f r

  failing_seal_holds_not : (n : ℕ) (atom : Option ℕ) → SealFails p k s n atom → AscriptionHolds p k s → ⊥
  failing_seal_holds_not n atom (inl f) h = f.0 h.0
  failing_seal_holds_not n atom (inr f) h = members_disrespect s.ascribed atom f.3 (subst (MembersHold p k s) f.1 h.1)

  -- what is sealed at no type cannot fail
  unsealed_fails_not : None ≡ s.ascribed → (n : ℕ) (atom : Option ℕ) → SealFails p k s n atom → ⊥
  unsealed_fails_not e n atom (inl f) = f.0 (subst (SealHolds (scope_reading p k s) s) e tt)
  unsealed_fails_not e n atom (inr f) = subst (λ q. MembersFail p k s q atom) (sym e) f.3

  -- the node
  module _ (locals : List (scope_reading p k s).Kind) where
    fails_as : (n : ℕ) (atom : Option ℕ) → SealFails p k s n atom → FirstFailing p k s locals (node s.place MAscribe None nothing seal ∷ []) (seal_fault s.place n (named_atom s atom))
    fails_as n atom f = inl (record {
      expected = None;
      atom = atom;
      spot = refl;
      stands_not = failing_seal_holds_not n atom f;
      premise = f;
      place = refl;
      rule = refl;
      lacks = refl;
    })

    sealed_at : (q : Option ℕ) → q ≡ s.ascribed → (o : Option Fault) → IsSealFault p k s o → NodesJudged p k s locals (seal_nodes s q) o
    sealed_at None e None h = tt
    sealed_at None e (Some fault) h = unsealed_fails_not e h.0 h.1 h.2
    sealed_at (Some d) e None h = (record { expected = None; spot = refl; stands = h; settles = tt }, tt)
    sealed_at (Some d) e (Some fault) h = subst (FirstFailing p k s locals (seal_nodes s (Some d))) (sym h.3) (fails_as h.0 h.1 h.2)

    pub seal_judged : (o : Option Fault) → IsSealFault p k s o → NodesJudged p k s locals (seal_nodes s s.ascribed) o
    seal_judged o h = sealed_at s.ascribed refl o h

  ------------------------------------------------------------
  -- What is sealed at no type

  no_members : (plain : Truth) → None ≡ s.ascribed → MembersHold p k s plain
  no_members true e = tt
  no_members false e = subst (DefinitionsRespect p k s) e tt

  pub not_sealed : s.ascribed ≡ None → IsSealFault p k s None
  not_sealed e = (subst (SealHolds (scope_reading p k s) s) (sym e) tt, no_members (is_plain s.kind) (sym e))

  pub never_sealed : ((d : ℕ) → s.ascribed ≡ Some d → ⊥) → IsSealFault p k s None
  never_sealed never = not_sealed (none_left s.ascribed never)
    where
      none_left : (o : Option ℕ) → ((d : ℕ) → o ≡ Some d → ⊥) → o ≡ None
      none_left None h = refl
      none_left (Some d) h = absurd (h d refl)

  ------------------------------------------------------------
  -- What is sealed at a declared type

  module _ (d : ℕ) (e : s.ascribed ≡ Some d) where
    pub plain_members : is_plain s.kind ≡ true → IsMembersFault p k s None
    plain_members plain = subst (MembersHold p k s) (sym plain) tt

    pub members_respect : is_plain s.kind ≡ false → Respects (declared_bounds p d) (bounds_of p k) s.definitions → IsMembersFault p k s None
    members_respect plain r = subst (MembersHold p k s) (sym plain) (subst (DefinitionsRespect p k s) (sym e) r)

    pub member_outside : is_plain s.kind ≡ false → (a : ℕ) → FirstOutside (declared_bounds p d) (bounds_of p k) s.definitions a → IsMembersFault p k s (lack_fault s.place MAscribe s.atoms (Some a))
    member_outside plain a f = (a, plain, subst (λ q. MembersFail p k s q (Some a)) (sym e) f, refl)

    -- .. as the code finds the first atom that is outside
    pub members_found : is_plain s.kind ≡ false → (bounds : Bounds) (sets : List (List ℕ)) → bounds ≡ declared_bounds p d → sets ≡ s.definitions → (o : Option Atom) → IfNone o (Respects bounds (bounds_of p k) sets) →
        IfSome o (λ a. FirstOutside bounds (bounds_of p k) sets a.0) → IsMembersFault p k s (lack_fault s.place MAscribe s.atoms (option_map (λ a. a.0) o))
    members_found plain bounds sets same these None r f = members_respect plain (subst (λ v. Respects v (bounds_of p k) s.definitions) same (subst (λ v. Respects bounds (bounds_of p k) v) these r))
    members_found plain bounds sets same these (Some a) r f =
        member_outside plain a.0 (subst (λ v. FirstOutside v (bounds_of p k) s.definitions a.0) same (subst (λ v. FirstOutside bounds (bounds_of p k) v a.0) these f))

    -- .. as pairs of types are asked about, with copies of what is defined
    pub sealed_below : (about : About) (sets : List (List ℕ)) (below : Truth) → about ≡ about_of p k s → sets ≡ s.definitions →
        (below ≡ true) ↔ IsSubtypeIn about.program about.scope about.mode (Own 0) (Named d sets) → (below ≡ true) ↔ IsSubtypeIn p k (mode_of (is_plain s.kind)) (Own 0) (Named d s.definitions)
    sealed_below about sets below asks these h =
        subst (λ v. (below ≡ true) ↔ IsSubtypeIn p k (mode_of (is_plain s.kind)) (Own 0) (Named d v)) these
        (subst (λ (a : About). (below ≡ true) ↔ IsSubtypeIn a.program a.scope a.mode (Own 0) (Named d sets)) asks h)

    module _ (c : IsScopeOf p k s) where
      seal_holds : IsSubtypeIn p k (mode_of (is_plain s.kind)) (Own 0) (Named d s.definitions) → SealHolds (scope_reading p k s) s s.ascribed
      seal_holds below = subst (SealHolds (scope_reading p k s) s) (sym e) ((below_in_mode p k s c (Own 0) (Named d s.definitions)).1 below)

      pub seal_fails : (IsSubtypeIn p k (mode_of (is_plain s.kind)) (Own 0) (Named d s.definitions) → ⊥) → IsSealFault p k s (Some (fault_at s.place MAscribe 1))
      seal_fails not = (
        1,
        None,
        inl (λ h. not ((below_in_mode p k s c (Own 0) (Named d s.definitions)).0 (subst (SealHolds (scope_reading p k s) s) e h)), refl, refl),
        refl,
      )

      pub seal_by_members : IsSubtypeIn p k (mode_of (is_plain s.kind)) (Own 0) (Named d s.definitions) → (o : Option Fault) → IsMembersFault p k s o → IsSealFault p k s o
      seal_by_members below None h = (seal_holds below, h)
      seal_by_members below (Some fault) h = (2, Some h.0, inr (seal_holds below, h.1, refl, h.2), h.3)
