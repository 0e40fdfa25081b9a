-- What is proved by a certificate is accepted.
use Rattle.std.proofs.Common.{◌≡◌, ℕ, ◌<◌, zero, suc, List, [], ◌∷◌, ◌++◌, length, inl, inr, refl, sym, ap, subst, Option, Some, None, Bool as Truth, true, false, arith}
use Rattle.std.specs.Prelude.{slice_get}
use Rattle.std.proofs.lemmas.Option.{slice_get_within}
use Rattle.wy_text.specs.Members.{In}
use Rattle.wy_text.proofs.Lists.{In-left, In-right, In-at, In-slice_get}
use Rattle.wy_types.specs.declared.types.TypeRef.{TypeRef}
use Rattle.wy_types.specs.declared.types.TypeRef.TheVariants.{Named, Own}
use Rattle.wy_types.specs.declared.resolved.ScopeKind.{ScopeKind}
use Rattle.wy_types.specs.declared.resolved.ScopeKind.TheVariants.{Pure, Resource, Plain, Program as Main}
use Rattle.wy_types.specs.declared.resolved.Origin.{Origin}
use Rattle.wy_types.specs.declared.resolved.Origin.TheVariants.{Parameter, Grant, Use, Instance, Import}
use Rattle.wy_types.specs.declared.resolved.OwnName.{OwnName}
use Rattle.wy_types.specs.Program.{Program, Scope}
use Rattle.wy_types.specs.Types.{is_plain, erased}
use Rattle.wy_types.specs.Subtyping.{IsPlainSubtype}
use Rattle.wy_types.specs.Fitting.{FitsType, IsTypeOf, scope_literals}
use Rattle.wy_types.specs.Core.{IsCore, ScopeFits, IsAscribed}
use Rattle.wy_types.specs.Ground.{type_of, names_of}
use Rattle.wy_types.proofs.Kept.{Fits-wider}
use Rattle.wy_rules.specs.Typing.{ScopeHolds}
use Rattle.wy_rules.specs.Readings.{plain_reading}
use Rattle.wy_rules.specs.Acceptance.{Handed, reading_of, scope_reading, PureHolds, SealHolds, MembersHold, DefinitionsRespect, LineHolds, argument_type, handed_to, parameters_of, is_parameter, parameters_until, parameters_among, ScopeAccepted}
use Rattle.wy_rules.proofs.Agreeing.{annotation_of_erasure}
use Rattle.wy_cert.specs.declared.certificate.CertScope.{CertScope}
use Rattle.wy_proving.specs.Certified.{Pair, plain_pairs}
use Rattle.wy_proving.specs.Proving.{AllStand, IsListedPlain, IsListedIn, purity, ascription, use_of, instance_of, import_of, bound_of, line_rules, names_rules, kind_rules, ascription_rules, RuleStands, AreDerivedIn, ScopeProof, ProvedIsAccepted}
use Rattle.wy_proving.proofs.Erasing.{erased_erased}
use Rattle.wy_proving.proofs.ClosedTypes.{of_range, erased_fit}
use Rattle.wy_proving.proofs.Listed.{listed, listed_plain}

there : {X : Type 0} (xs : List X) (n : ℕ) → n < length xs → (x : X) × (slice_get xs n ≡ Some x)
there [] n h = absurd (omega arith)
there (v ∷ xs) zero h = (v, refl)
there (v ∷ xs) (suc n) h = there xs n (omega arith)

-- the parameters of a module are among its own names
pub among : (ns : List OwnName) (n : OwnName) → In n (parameters_among ns) → In n ns
among [] n i = absurd i
among (a ∷ ns) n i =
    elim (is_parameter a.origin) as (λ b. In n (parameters_until b a (parameters_among ns)) → In n (a ∷ ns)) [
      | true ↦ λ j. elim j [ inl e ↦ inl e | inr l ↦ inr (among ns n l) ]
      | false ↦ λ j. absurd j
    ] i

-- .. and each that is handed an argument is one of them
pub handed : (ns : List OwnName) (arguments : List ℕ) (h : Handed) → In h (handed_to ns arguments) → In h.parameter ns
handed [] arguments h i = absurd i
handed (n ∷ ns) [] h i = absurd i
handed (n ∷ ns) (a ∷ arguments) h (inl e) = inl (ap (λ (v : Handed). v.parameter) e)
handed (n ∷ ns) (a ∷ arguments) h (inr i) = inr (handed ns arguments h i)

-- each plain module has a plain derivation
abbrev PlainModulesHold : Program → Type 0
PlainModulesHold p = (m : ℕ) (t : Scope) → slice_get p.scopes m ≡ Some t → is_plain t.kind ≡ true → ScopeHolds (plain_reading p m) t

module _ (p : Program) (core : IsCore p) (k : ℕ) (s : Scope) (c : CertScope) (at : slice_get p.scopes k ≡ Some s) (fits : ScopeFits p s) (h : ScopeProof p k s c) where
  argument_fits : (o : Option OwnName) (b : ℕ) → slice_get s.names b ≡ o → FitsType p 512 0 (type_of o)
  argument_fits None b e = tt
  argument_fits (Some n) b e = Fits-wider p (length s.atoms) 0 n.typ fits.atoms (fits.names b n e).0.0

  parameter_fits : (m : ℕ) (arguments : List ℕ) (h : Handed) → In h (handed_to (parameters_of p m) arguments) → (o : Option Scope) → slice_get p.scopes m ≡ o → FitsType p 512 0 h.parameter.typ
  parameter_fits m arguments h i None e = absurd (subst (λ o. In h.parameter (names_of o)) e (among (names_of (slice_get p.scopes m)) h.parameter (handed (parameters_of p m) arguments h i)))
  parameter_fits m arguments h i (Some t) e =
      let j = subst (λ o. In h.parameter (names_of o)) e (among (names_of (slice_get p.scopes m)) h.parameter (handed (parameters_of p m) arguments h i)) in
      let w = core.scopes t (In-slice_get p.scopes m t e) in
      let n = In-at h.parameter t.names j in
      Fits-wider p (length t.atoms) 0 h.parameter.typ w.atoms (w.names n.0 h.parameter n.2).0.0

  own_fits : IsTypeOf p k (Own 0)
  own_fits = subst (λ o. 0 < length (scope_literals o)) (sym at) fits.own_literal

  in_range : (a b : TypeRef) → IsTypeOf p k a → IsTypeOf p k b → IsListedPlain p k s c a b → IsPlainSubtype p k a b
  in_range a b f g i = listed_plain p k s c h.plain a b (of_range p core k a f) (of_range p core k b g) i

  ------------------------------------------------------------
  -- M-Pure and M-Ascribe

  pure_holds : (kind : ScopeKind) → kind ≡ s.kind → AllStand (RuleStands p k s c) (kind_rules kind) → PureHolds s.kind s
  pure_holds Pure e r = r purity (inl refl)
  pure_holds Resource e r = subst (λ v. PureHolds v s) e tt
  pure_holds Plain e r = subst (λ v. PureHolds v s) e tt
  pure_holds Main e r = subst (λ v. PureHolds v s) e tt

  plain_ascribed : (kind : ScopeKind) (d : ℕ) → is_plain kind ≡ true → IsAscribed p s kind (Some d) → (d < length p.declarations) × (s.definitions ≡ [])
  plain_ascribed Pure d e a = absurd (cc)
  plain_ascribed Resource d e a = absurd (cc)
  plain_ascribed Plain d e a = a
  plain_ascribed Main d e a = absurd a

  seal_holds : (plain : Truth) (o : Option ℕ) → plain ≡ is_plain s.kind → IsAscribed p s s.kind o → AllStand (RuleStands p k s c) (ascription_rules o) → SealHolds (reading_of p k plain) s o
  seal_holds true None e f r = tt
  seal_holds false None e f r = tt
  seal_holds true (Some d) e f r =
      let a = plain_ascribed s.kind d (sym e) f in
      let sealed : IsTypeOf p k (Named d s.definitions) = (a.0, inr a.1, λ v j. absurd (subst (λ vs. In v vs) a.1 j)) in
      in_range (Own 0) (Named d s.definitions) own_fits sealed (subst (λ v. IsListedIn p k s c v (Own 0) (Named d s.definitions)) (sym e) (r (ascription d) (inl refl)).0)
  seal_holds false (Some d) e f r = listed p k s c h.pairs (Own 0) (Named d s.definitions) (subst (λ v. IsListedIn p k s c v (Own 0) (Named d s.definitions)) (sym e) (r (ascription d) (inl refl)).0)

  no_members : (plain : Truth) → s.ascribed ≡ None → MembersHold p k s plain
  no_members true e = tt
  no_members false e = subst (λ v. DefinitionsRespect p k s v) (sym e) tt

  members_hold : (o : Option ℕ) → s.ascribed ≡ o → AllStand (RuleStands p k s c) (ascription_rules o) → MembersHold p k s (is_plain s.kind)
  members_hold None e r = no_members (is_plain s.kind) e
  members_hold (Some d) e r = (r (ascription d) (inl refl)).1

  ------------------------------------------------------------
  -- Lines

  -- I-Import, of an argument: its effects and safety are the annotated pair, by the law of annotation
  erasures_hold : (m : ℕ) (arguments : List ℕ) (n : Handed) → In n (handed_to (parameters_of p m) arguments) → IsListedPlain p k s c (argument_type p k s.names n) n.parameter.typ →
      IsPlainSubtype p k (erased (argument_type p k s.names n)) (erased n.parameter.typ)
  erasures_hold m arguments n i l =
      let t = argument_type p k s.names n in
      let u = n.parameter.typ in
      let P : Pair → Type 0 = λ v. In {X = Pair} v (plain_pairs c) in
      let twice : (let a : Pair = (erased t, erased u) in let b : Pair = (erased (erased t), erased (erased u)) in a ≡ b) =
      (let e = sym (erased_erased t) in let f = sym (erased_erased u) in cc) in
      in_range (erased t) (erased u) (erased_fit p core k 512 t (argument_fits (slice_get s.names n.argument) n.argument refl))
      (erased_fit p core k 512 u (parameter_fits m arguments n i (slice_get p.scopes m) refl)) (subst P twice l)

  line_holds : PlainModulesHold p → (o : Origin) → AllStand (RuleStands p k s c) (line_rules o) → LineHolds p k s.names o
  line_holds g (Parameter bare) r = tt
  line_holds g Grant r = tt
  line_holds g (Use m) r = r (use_of m) (inl refl)
  line_holds g (Instance m arguments) r =
      let q = r (instance_of m arguments) (inl refl) in
      record { resource = q.0; numbers = q.1; members = q.2; types = λ n i. listed p k s c h.pairs _ _ (q.3 n i); bounds = q.4 }
  line_holds g (Import m arguments bound) r =
      let a = r (import_of m arguments) (inl refl) in
      let q = r (bound_of m arguments bound) (inr (inl refl)) in
      let one : (n : Handed) → In n (handed_to (parameters_of p m) arguments) → _ = λ n i. (annotation_of_erasure p core k bound (argument_type p k s.names n) (argument_fits (slice_get s.names n.argument) n.argument refl)).1 (listed p k s c h.pairs _ _ (q.0 n i)) in
      let kind : is_plain a.plain.0.kind ≡ true = ap is_plain a.plain.2 in (
        a,
        record {
          effects = λ n i. (one n i).0;
          safe = λ n i. (one n i).1;
          types = λ n i. erasures_hold m arguments n i (q.1 n i);
          module_holds = (a.plain.0, a.plain.1, g m a.plain.0 a.plain.1 kind);
        },
      )

  lines_hold : PlainModulesHold p → (ns : List OwnName) → AllStand (RuleStands p k s c) (names_rules ns) → (n : OwnName) → In n ns → LineHolds p k s.names n.origin
  lines_hold g [] r n i = absurd i
  lines_hold g (a ∷ ns) r n (inl e) = subst (λ (v : OwnName). LineHolds p k s.names v.origin) e (line_holds g a.origin (λ x j. r x (In-left x (line_rules a.origin) (names_rules ns) j)))
  lines_hold g (a ∷ ns) r n (inr i) = lines_hold g ns (λ x j. r x (In-right x (line_rules a.origin) (names_rules ns) j)) n i

  ------------------------------------------------------------
  -- The scope

  bodies_hold : (plain : Truth) (locals : List TypeRef) → AreDerivedIn p k s c plain locals → ScopeHolds (reading_of p k plain) s
  bodies_hold true locals w = record { derivation = w.0; derives = w.2 }
  bodies_hold false locals w = record { derivation = w.0; derives = w.2 }

  scope_holds : ScopeHolds (scope_reading p k s) s
  scope_holds = bodies_hold (is_plain s.kind) h.nodes.locals h.nodes.derived

  scope_accepted : PlainModulesHold p → ScopeAccepted p k s
  scope_accepted g =
      let one = kind_rules s.kind in
      let two = ascription_rules s.ascribed in
      let three = names_rules s.names in
      let seal : AllStand (RuleStands p k s c) two = λ x i. h.lines x (In-right x one (two ++ three) (In-left x two three i)) in
      record {
        pure = pure_holds s.kind refl (λ x i. h.lines x (In-left x one (two ++ three) i));
        bodies = scope_holds;
        seal = (seal_holds (is_plain s.kind) s.ascribed refl fits.ascribed seal, members_hold s.ascribed refl seal);
        lines = lines_hold g s.names (λ x i. h.lines x (In-right x one (two ++ three) (In-right x two three i)));
      }

  plain_holds : is_plain s.kind ≡ true → ScopeHolds (plain_reading p k) s
  plain_holds e = subst (λ v. ScopeHolds (reading_of p k v) s) e scope_holds

pub proved_is_accepted : ProvedIsAccepted
proved_is_accepted p cert core w = record {
  scopes = λ k s e.
      let c = part_at k s e in
      scope_accepted p core k s c.0 e (scope_fits k s e) (w.scopes k s c.0 e c.1)
      (λ m t f g. (let d = part_at m t f in plain_holds p core m t d.0 f (scope_fits m t f) (w.scopes m t d.0 f d.1) g));
}
  where
    scope_fits : (k : ℕ) (s : Scope) → slice_get p.scopes k ≡ Some s → ScopeFits p s
    scope_fits k s e = core.scopes s (In-slice_get p.scopes k s e)

    part_at : (k : ℕ) (s : Scope) → slice_get p.scopes k ≡ Some s → (c : CertScope) × (slice_get cert k ≡ Some c)
    part_at k s e = there cert k (subst (λ n. k < n) (sym w.number) (slice_get_within p.scopes k s e))
