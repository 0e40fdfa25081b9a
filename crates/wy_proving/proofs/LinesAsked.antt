-- The pairs that the rules for a module and its lines ask: of an accepted program they are subtypings of types that stand, and
-- where they are listed the rules hold.
use Rattle.std.proofs.Common.{◌≡◌, ℕ, ◌<◌, List, [], ◌∷◌, ◌++◌, length, inl, inr, refl, sym, ap, subst, Option, Some, None, Bool as Truth, true, false}
use Rattle.std.specs.Prelude.{slice_get}
use Rattle.wy_text.specs.Members.{In}
use Rattle.wy_effects.specs.EffSet.{IsSet}
use Rattle.wy_effects.specs.Bounds.{IsWithin}
use Rattle.wy_text.proofs.Lists.{In-left, In-right, In-cases, In-map, In-unmap, In-at, In-slice_get}
use Rattle.wy_types.specs.declared.types.TypeRef.{TypeRef}
use Rattle.wy_types.specs.declared.types.TypeRef.TheVariants.{Int, Bool, Text, Unit as Nothing, Named, At, Own}
use Rattle.wy_types.specs.declared.resolved.ScopeKind.{ScopeKind}
use Rattle.wy_types.specs.declared.resolved.ScopeKind.TheVariants.{Pure, Resource, Plain, Program as Main}
use Rattle.wy_types.specs.declared.resolved.Origin.{Origin}
use Rattle.wy_types.specs.declared.resolved.Origin.TheVariants.{Parameter, Grant, Use, Instance, Import}
use Rattle.wy_types.specs.declared.resolved.OwnName.{OwnName}
use Rattle.wy_types.specs.Program.{Program, Scope}
use Rattle.wy_types.specs.Types.{is_plain, substituted, annotated, erased, methods_of}
use Rattle.wy_types.specs.Bounds.{bounds_of}
use Rattle.wy_types.specs.Subtyping.{AnyEffect, IsPlainSubtype}
use Rattle.wy_types.specs.Fitting.{FitsType}
use Rattle.wy_types.specs.Core.{IsCore, ScopeFits, IsAscribed, IsWritten, HasSets, OriginFits}
use Rattle.wy_types.specs.Ground.{type_of, names_of}
use Rattle.wy_types.proofs.Kept.{Fits-wider}
use Rattle.wy_types.proofs.MemberSets.{arguments_are_sets}
use Rattle.wy_rules.specs.PlainMethods.{erased_methods}
use Rattle.wy_rules.specs.Acceptance.{Handed, reading_of, scope_reading, PureHolds, SealHolds, IsOfKind, ImportFits, InstanceHolds, ImportHolds, LineHolds, argument_type, parameters_of, ScopeAccepted}
use Rattle.wy_rules.proofs.Agreeing.{annotation_of_erasure}
use Rattle.wy_cert.specs.declared.certificate.CertScope.{CertScope}
use Rattle.wy_proving.specs.Certified.{Pair, bare, annotated_pairs, plain_pairs}
use Rattle.wy_proving.specs.Proving.{TypeStands, sets_of, IsOwn, LineRule, purity, ascription, use_of, instance_of, import_of, bound_of, kind_rules, ascription_rules, line_rules, names_rules, scope_rules, IsListedIn, RuleStands}
use Rattle.wy_proving.specs.Written.{asked_by_all, unless_plain, where_plain, all_handed, seal, sets_for, argument_pair, bound_pair, plain_pair, asked_by, asked_plainly}
use Rattle.wy_proving.proofs.Erasing.{erased_erased}
use Rattle.wy_proving.proofs.ProvedAccepted.{among, handed}
use Rattle.wy_proving.proofs.ReachedStand.{written_stands, put_stands, any_bound}
use Rattle.wy_proving.proofs.ClosedPairs.{IsAsked}
use Rattle.wy_proving.proofs.BareStand.{BareStands, bare_of_standing, bare_of_fitting, erased_subtype}

------------------------------------------------------------
-- Pairs that are asked by each of some rules

-- what holds of each rule's holds of all
pub asked_by_each : (f : LineRule → List Pair) (A : Pair → Type 0) (rs : List LineRule) → ((r : LineRule) → In r rs → (q : Pair) → In {X = Pair} q (f r) → A q) → (q : Pair) → In {X = Pair} q (asked_by_all f rs) → A q
asked_by_each f A [] h q i = absurd i
asked_by_each f A (r ∷ rs) h q i = elim (In-cases {X = Pair} q (f r) (asked_by_all f rs) i) [
  | inl j ↦ h r (inl refl) q j
  | inr j ↦ asked_by_each f A rs (λ v l. h v (inr l)) q j
]

-- one rule's are among them
pub asked_by_one : (f : LineRule → List Pair) (rs : List LineRule) (r : LineRule) → In r rs → (q : Pair) → In {X = Pair} q (f r) → In {X = Pair} q (asked_by_all f rs)
asked_by_one f [] r i q j = absurd i
asked_by_one f (a ∷ rs) r (inl e) q j = In-left {X = Pair} q (f a) (asked_by_all f rs) (subst (λ v. In {X = Pair} q (f v)) (sym e) j)
asked_by_one f (a ∷ rs) r (inr i) q j = In-right {X = Pair} q (f a) (asked_by_all f rs) (asked_by_one f rs r i q j)

module _ (p : Program) (core : IsCore p) (k : ℕ) (s : Scope) (at : slice_get p.scopes k ≡ Some s) (fits : ScopeFits p s) where
  ------------------------------------------------------------
  -- Types of arguments and parameters

  found_fits : (o : Option OwnName) (b : ℕ) → slice_get s.names b ≡ o → FitsType p (length s.atoms) 0 (type_of o)
  found_fits None b e = tt
  found_fits (Some n) b e = (fits.names b n e).0.0

  argument_fits : (b : ℕ) → FitsType p (length s.atoms) 0 (type_of (slice_get s.names b))
  argument_fits b = found_fits (slice_get s.names b) b refl

  found_stands : (o : Option OwnName) (b : ℕ) → slice_get s.names b ≡ o → TypeStands p s (type_of o)
  found_stands None b e = tt
  found_stands (Some n) b e = written_stands p core k s at fits n.typ (fits.names b n e).0

  argument_stands : (h : Handed) → TypeStands p s (argument_type p k s.names h)
  argument_stands h = found_stands (slice_get s.names h.argument) h.argument refl

  -- a parameter's type is written in its module
  written_there : (m : ℕ) (arguments : List ℕ) (h : Handed) → In h (all_handed p k s m arguments) → (o : Option Scope) → slice_get p.scopes m ≡ o → (t : Scope) × (slice_get p.scopes m ≡ Some t) × IsWritten p t h.parameter.typ
  written_there m arguments h i None e = absurd (subst (λ o. In h.parameter (names_of o)) e (among (names_of (slice_get p.scopes m)) h.parameter (handed (parameters_of p m) arguments h i)))
  written_there m arguments h i (Some t) e =
      let j = subst (λ o. In h.parameter (names_of o)) e (among (names_of (slice_get p.scopes m)) h.parameter (handed (parameters_of p m) arguments h i)) in
      let n = In-at h.parameter t.names j in
      (t, e, ((core.scopes t (In-slice_get p.scopes m t e)).names n.0 h.parameter n.2).0)

  parameter_written : (m : ℕ) (arguments : List ℕ) (h : Handed) → In h (all_handed p k s m arguments) → (t : Scope) × (slice_get p.scopes m ≡ Some t) × IsWritten p t h.parameter.typ
  parameter_written m arguments h i = written_there m arguments h i (slice_get p.scopes m) refl

  same_kind : (kind : ScopeKind) (m : ℕ) (t : Scope) → IsOfKind p kind m → slice_get p.scopes m ≡ Some t → t.kind ≡ kind
  same_kind kind m t r e = (let f = r.1 in let same : r.0 ≡ t = cc in subst (λ (v : Scope). v.kind ≡ kind) same r.2)

  put_there : is_plain s.kind ≡ false → (m : ℕ) (arguments : List ℕ) → IsOfKind p Resource m → (h : Handed) → In h (all_handed p k s m arguments) → TypeStands p s (substituted (sets_for p k s m arguments) h.parameter.typ)
  put_there f m arguments r h i =
      let w = parameter_written m arguments h i in
      let kind = ap is_plain (same_kind Resource m w.0 r w.1) in
      let sets = arguments_are_sets p (length s.atoms) 0 s.names (names_of (slice_get p.scopes m)) arguments (λ a j. argument_fits a) in
      put_stands p core k s at fits f (length w.0.atoms) (sets_for p k s m arguments) sets h.parameter.typ (w.2.0, subst (λ b. HasSets p b h.parameter.typ) kind w.2.1)

  at_bound : is_plain s.kind ≡ false → (e : List ℕ) → IsSet (length s.atoms) e → (t : TypeRef) → TypeStands p s t → TypeStands p s (annotated e (erased t))
  at_bound f e w Int h = tt
  at_bound f e w Bool h = tt
  at_bound f e w Text h = tt
  at_bound f e w Nothing h = tt
  at_bound f e w (Named d es) h = (h.0, w, any_bound p core k s at fits s.kind f e)
  at_bound f e w (At d b) h = (h.0, w, any_bound p core k s at fits s.kind f e)
  at_bound f e w (Own l) h = h

  ------------------------------------------------------------
  -- The module's own type, and the one that it is sealed at

  own_first : (kind : ScopeKind) (d : ℕ) → IsAscribed p s kind (Some d) → IsOwn kind 0
  own_first Pure d h = tt
  own_first Resource d h = tt
  own_first Plain d h = tt
  own_first Main d h = absurd h

  sealed_sets : (kind : ScopeKind) (d : ℕ) → IsAscribed p s kind (Some d) → (d < length p.declarations) × (length s.definitions ≡ sets_of p kind d)
  sealed_sets Pure d h = h
  sealed_sets Resource d h = h
  sealed_sets Plain d h = (h.0, ap (λ (v : List (List ℕ)). length v) h.1)
  sealed_sets Main d h = absurd h

  seal_stands : (d : ℕ) → s.ascribed ≡ Some d → TypeStands p s (Own 0) × TypeStands p s (Named d s.definitions)
  seal_stands d e =
      let a = subst (λ o. IsAscribed p s s.kind o) e fits.ascribed in
      let r = sealed_sets s.kind d a in
      ((fits.own_literal, own_first s.kind d a), (r.0, r.1, fits.definitions))

  ------------------------------------------------------------
  -- What acceptance says of each rule

  -- what acceptance, and a core, say of the rule
  abbrev pub RuleHolds : LineRule → Type 0
  RuleHolds purity = PureHolds s.kind s
  RuleHolds (ascription d) = (s.ascribed ≡ Some d) × SealHolds (scope_reading p k s) s (Some d)
  RuleHolds (use_of m) = IsOfKind p Pure m
  RuleHolds (instance_of m arguments) = (is_plain s.kind ≡ false) × InstanceHolds p k s.names m arguments
  RuleHolds (import_of m arguments) = ImportFits p k s.names m arguments
  RuleHolds (bound_of m arguments bound) = (is_plain s.kind ≡ false) × IsSet (length s.atoms) bound × ImportHolds p k s.names m arguments bound

  pure_rule : (kind : ScopeKind) (r : LineRule) → PureHolds s.kind s → In r (kind_rules kind) → RuleHolds r
  pure_rule Pure r h (inl e) = subst RuleHolds e h
  pure_rule Pure r h (inr i) = absurd i
  pure_rule Resource r h i = absurd i
  pure_rule Plain r h i = absurd i
  pure_rule Main r h i = absurd i

  seal_rule : (o : Option ℕ) (r : LineRule) → s.ascribed ≡ o → SealHolds (scope_reading p k s) s o → In r (ascription_rules o) → RuleHolds r
  seal_rule None r e h i = absurd i
  seal_rule (Some d) r e h (inl f) = subst RuleHolds f (e, h)
  seal_rule (Some d) r e h (inr i) = absurd i

  line_rule : (n : ℕ) (a : OwnName) (o : Origin) (r : LineRule) → OriginFits p s n a o → LineHolds p k s.names o → In r (line_rules o) → RuleHolds r
  line_rule n a (Parameter bare) r f h i = absurd i
  line_rule n a Grant r f h i = absurd i
  line_rule n a (Use m) r f h (inl e) = subst RuleHolds e h
  line_rule n a (Use m) r f h (inr i) = absurd i
  line_rule n a (Instance m arguments) r f h (inl e) = subst RuleHolds e (f.0, h)
  line_rule n a (Instance m arguments) r f h (inr i) = absurd i
  line_rule n a (Import m arguments bound) r f h (inl e) = subst RuleHolds e h.0
  line_rule n a (Import m arguments bound) r f h (inr (inl e)) = subst RuleHolds e (f.0, f.3, h.1)
  line_rule n a (Import m arguments bound) r f h (inr (inr i)) = absurd i

  name_rule : (ns : List OwnName) (r : LineRule) → ((a : OwnName) → In a ns → In a s.names × LineHolds p k s.names a.origin) → In r (names_rules ns) → RuleHolds r
  name_rule [] r h i = absurd i
  name_rule (a ∷ ns) r h i = elim (In-cases r (line_rules a.origin) (names_rules ns) i) [
    | inl j ↦ (let w = h a (inl refl) in let n = In-at a s.names w.0 in line_rule n.0 a a.origin r (fits.names n.0 a n.2).1 w.1 j)
    | inr j ↦ name_rule ns r (λ v l. h v (inr l)) j
  ]

  -- they hold of each rule of an accepted scope
  pub rules_hold : ScopeAccepted p k s → (r : LineRule) → In r (scope_rules s) → RuleHolds r
  rules_hold h r i =
      let rest = ascription_rules s.ascribed ++ names_rules s.names in
      elim (In-cases r (kind_rules s.kind) rest i) [
        | inl j ↦ pure_rule s.kind r h.pure j
        | inr j ↦ elim (In-cases r (ascription_rules s.ascribed) (names_rules s.names) j) [
          | inl l ↦ seal_rule s.ascribed r refl h.seal.0 l
          | inr l ↦ name_rule s.names r (λ a x. (x, h.lines a x)) l
        ]
      ]

  ------------------------------------------------------------
  -- Each pair that a rule asks is a subtyping of types that stand

  -- a pair is a subtyping of types that stand
  abbrev pub Asks : Pair → Type 0
  Asks q = IsAsked (methods_of p k) (IsWithin (bounds_of p k)) (TypeStands p s) q

  -- .. by erasure
  abbrev pub AsksPlainly : Pair → Type 0
  AsksPlainly q = IsAsked (erased_methods p k) AnyEffect (BareStands p s) (bare q)

  seal_asked : (plain : Truth) (d : ℕ) → s.ascribed ≡ Some d → SealHolds (reading_of p k plain) s (Some d) → (q : Pair) → In {X = Pair} q (unless_plain plain (seal p k s d)) → Asks q
  seal_asked true d e h q i = absurd i
  seal_asked false d e h q (inl same) = (let w = seal_stands d e in subst Asks same (h, w.0, w.1))
  seal_asked false d e h q (inr i) = absurd i

  -- so is each pair that a rule asks
  pub each_asked : (r : LineRule) → RuleHolds r → (q : Pair) → In {X = Pair} q (asked_by p k s r) → Asks q
  each_asked purity h q i = absurd i
  each_asked (ascription d) h q i = seal_asked (is_plain s.kind) d h.0 h.1 q i
  each_asked (use_of m) h q i = absurd i
  each_asked (instance_of m arguments) h q i =
      let r = In-unmap (argument_pair p k s (sets_for p k s m arguments)) q (all_handed p k s m arguments) i in
      subst Asks r.2 (h.1.types r.0 r.1, argument_stands r.0, put_there h.0 m arguments h.1.resource r.0 r.1)
  each_asked (import_of m arguments) h q i = absurd i
  each_asked (bound_of m arguments bound) h q i =
      let r = In-unmap (bound_pair p k s bound) q (all_handed p k s m arguments) i in
      let t = argument_type p k s.names r.0 in
      let wide = Fits-wider p (length s.atoms) 0 t fits.atoms (argument_fits r.0.argument) in
      let below = (annotation_of_erasure p core k bound t wide).0 (h.2.effects r.0 r.1, h.2.safe r.0 r.1) in
      subst Asks r.2 (below, argument_stands r.0, at_bound h.0 bound h.1 t (argument_stands r.0))

  seal_asked_plainly : (plain : Truth) (d : ℕ) → s.ascribed ≡ Some d → SealHolds (reading_of p k plain) s (Some d) → (q : Pair) → In {X = Pair} q (where_plain plain (seal p k s d)) → AsksPlainly q
  seal_asked_plainly true d e h q (inl same) =
      let w = seal_stands d e in
      subst AsksPlainly same (erased_subtype p k (Own 0) (Named d s.definitions) h, bare_of_standing p s (Own 0) w.0, bare_of_standing p s (Named d s.definitions) w.1)
  seal_asked_plainly true d e h q (inr i) = absurd i
  seal_asked_plainly false d e h q i = absurd i

  -- an argument without effects
  argument_below : (t u : TypeRef) → IsPlainSubtype p k (erased t) (erased u) → TypeStands p s t → BareStands p s (erased u) → AsksPlainly (t, u)
  argument_below t u h a b =
      let r = erased_subtype p k (erased t) (erased u) h in
      let below : IsAsked (erased_methods p k) AnyEffect (λ v. Unit {0}) (erased (erased t), erased (erased u)) = (r, tt, tt) in
      let left = subst (λ v. IsAsked (erased_methods p k) AnyEffect (λ w. Unit {0}) (v, erased (erased u))) (erased_erased t) below in
      let right = subst (λ v. IsAsked (erased_methods p k) AnyEffect (λ w. Unit {0}) (erased t, v)) (erased_erased u) left in
      (right.0, bare_of_standing p s t a, b)

  -- .. plainly
  pub each_asked_plainly : (r : LineRule) → RuleHolds r → (q : Pair) → In {X = Pair} q (asked_plainly p k s r) → AsksPlainly q
  each_asked_plainly purity h q i = absurd i
  each_asked_plainly (ascription d) h q i = seal_asked_plainly (is_plain s.kind) d h.0 h.1 q i
  each_asked_plainly (use_of m) h q i = absurd i
  each_asked_plainly (instance_of m arguments) h q i = absurd i
  each_asked_plainly (import_of m arguments) h q i = absurd i
  each_asked_plainly (bound_of m arguments bound) h q i =
      let r = In-unmap (plain_pair p k s) q (all_handed p k s m arguments) i in
      let w = parameter_written m arguments r.0 r.1 in
      subst AsksPlainly r.2
      (argument_below (argument_type p k s.names r.0) r.0.parameter.typ (h.2.types r.0 r.1) (argument_stands r.0) (bare_of_fitting p s (length w.0.atoms) r.0.parameter.typ w.2.0))

  ------------------------------------------------------------
  -- Where they are listed the rules hold

  module _ (accepted : ScopeAccepted p k s) (c : CertScope) where
    seal_listed : (plain : Truth) (d : ℕ) → ((q : Pair) → In {X = Pair} q (unless_plain plain (seal p k s d)) → In {X = Pair} q (annotated_pairs c)) →
        ((q : Pair) → In {X = Pair} q (where_plain plain (seal p k s d)) → In {X = Pair} (bare q) (plain_pairs c)) → IsListedIn p k s c plain (Own 0) (Named d s.definitions)
    seal_listed true d f g = g (Own 0, Named d s.definitions) (inl refl)
    seal_listed false d f g = f (Own 0, Named d s.definitions) (inl refl)

    -- a rule stands where the pairs that it asks are listed
    pub rule_stands : (r : LineRule) → RuleHolds r → ((q : Pair) → In {X = Pair} q (asked_by p k s r) → In {X = Pair} q (annotated_pairs c)) →
        ((q : Pair) → In {X = Pair} q (asked_plainly p k s r) → In {X = Pair} (bare q) (plain_pairs c)) → RuleStands p k s c r
    rule_stands purity h f g = h
    rule_stands (ascription d) h f g = (seal_listed (is_plain s.kind) d f g, accepted.seal.1)
    rule_stands (use_of m) h f g = h
    rule_stands (instance_of m arguments) h f g = (
      h.1.resource,
      h.1.numbers,
      h.1.members,
      λ a i. f (argument_pair p k s (sets_for p k s m arguments) a) (In-map (argument_pair p k s (sets_for p k s m arguments)) a (all_handed p k s m arguments) i),
      h.1.bounds,
    )
    rule_stands (import_of m arguments) h f g = h
    rule_stands (bound_of m arguments bound) h f g = (
      λ a i. f (bound_pair p k s bound a) (In-map (bound_pair p k s bound) a (all_handed p k s m arguments) i),
      λ a i. g (plain_pair p k s a) (In-map (plain_pair p k s) a (all_handed p k s m arguments) i),
    )
