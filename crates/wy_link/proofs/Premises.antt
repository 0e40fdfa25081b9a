-- The premises of M-Inst and of I-Import in their order, by what trying each came to.
use Rattle.std.proofs.Common.{◌≡◌, ◌↔◌, ℕ, List, inl, inr, refl, ap, subst, ◌∙◌, Option, Some, None, Bool, true, false}
use Rattle.std.specs.Option.{is_some}
use Rattle.std.specs.Prelude.{slice_get}
use Rattle.wy_effects.specs.declared.atom.Atom.{Atom}
use Rattle.wy_types.specs.declared.resolved.OwnName.{OwnName}
use Rattle.wy_types.specs.declared.resolved.ScopeKind.TheVariants.{Resource}
use Rattle.wy_types.specs.Program.{Program}
use Rattle.wy_types.specs.Ground.{names_of, arguments_sets}
use Rattle.wy_rules.specs.Acceptance.{Handed, handed_to, parameters_of, IsArgument, IsPlainArgument, RespectsBounds, NumbersAgree, PlainHolds, InstanceHolds, ImportHolds}
use Rattle.wy_rules.specs.Failing.{LacksInMember, InstanceFits}
use Rattle.wy_premises.specs.Tried.{OfEach, HasOpened, OrFails, FirstLack, missing_atom, Agrees, Disagrees}
use Rattle.wy_link.specs.Tried.{Bounded, Exceeds, Safe, Unsafe, InstanceComesTo, BoundComesTo}
use Rattle.wy_premises.proofs.Trying.{handed_first, handed_each, first_breaks, false_tells}

pub agreed : (A : Type 0) (D : ℕ → Type 0) (o : Option ℕ) → OrFails A D o → is_some o ≡ false → A
agreed A D None h e = h
agreed A D (Some n) h e = absurd (cc)

module _ (p : Program) (k : ℕ) (names : List OwnName) (m : ℕ) (arguments : List ℕ) where
  abbrev Handing : List Handed
  Handing = handed_to (parameters_of p m) arguments

  abbrev Sets : List (List ℕ)
  Sets = arguments_sets p names (names_of (slice_get p.scopes m)) arguments

  abbrev Start : Type 0
  Start = Agrees p Resource m arguments

  ------------------------------------------------------------
  -- M-Inst

  pub members_as : (ps outer : List OwnName) (b : Bool) → ps ≡ parameters_of p m → outer ≡ names → (b ≡ true) ↔ OfEach (HasOpened p outer) (handed_to ps arguments) → (b ≡ true) ↔ OfEach (HasOpened p names) Handing
  members_as ps outer b e f tells =
      subst (λ o. (b ≡ true) ↔ OfEach (HasOpened p o) Handing) f (subst (λ l. (b ≡ true) ↔ OfEach (HasOpened p outer) (handed_to l arguments)) e tells)

  pub types_as : (ps : List OwnName) (sets : List (List ℕ)) (b : Bool) → ps ≡ parameters_of p m → sets ≡ Sets → (b ≡ true) ↔ OfEach (IsArgument p k names sets) (handed_to ps arguments) → (b ≡ true) ↔ OfEach (IsArgument p k names Sets) Handing
  types_as ps sets b e f tells =
      subst (λ t. (b ≡ true) ↔ OfEach (IsArgument p k names t) Handing) f (subst (λ l. (b ≡ true) ↔ OfEach (IsArgument p k names sets) (handed_to l arguments)) e tells)

  pub sets_as : (ns outer : List OwnName) (sets slice : List (List ℕ)) → ns ≡ names_of (slice_get p.scopes m) → outer ≡ names → sets ≡ arguments_sets p outer ns arguments → slice ≡ sets → slice ≡ Sets
  sets_as ns outer sets slice e f is same = same ∙ is ∙ ap (λ l. arguments_sets p outer l arguments) e ∙ ap (λ o. arguments_sets p o (names_of (slice_get p.scopes m)) arguments) f

  pub disagrees : (o : Option ℕ) (n : ℕ) → o ≡ Some n → OrFails Start (Disagrees p Resource m arguments) o → InstanceComesTo p k names m arguments (Some (record { premise = n; missing = None }))
  disagrees o n e h =
      let a = subst (OrFails Start (Disagrees p Resource m arguments)) e h in
      ((λ i. a.0 (i.resource, i.numbers)), inl (elim a.1 [ inl kind ↦ inl kind | inr rest ↦ inr (rest.0, elim rest.1 [ inl number ↦ inl number | inr none ↦ absurd none.1 ]) ], refl))

  pub lacks_members : (b : Bool) → Start → (b ≡ true) ↔ OfEach (HasOpened p names) Handing → b ≡ false → InstanceComesTo p k names m arguments (Some (record { premise = 3; missing = None }))
  lacks_members b a tells e =
      let wrong : OfEach (HasOpened p names) Handing → ⊥ = false_tells (OfEach (HasOpened p names) Handing) b tells e in
      ((λ i. wrong i.members), inl (inr (a.0, inr (a.1, inl (wrong, refl))), refl))

  pub other_types : (b c : Bool) → Start → (b ≡ true) ↔ OfEach (HasOpened p names) Handing → b ≡ true → (c ≡ true) ↔ OfEach (IsArgument p k names Sets) Handing → c ≡ false →
      InstanceComesTo p k names m arguments (Some (record { premise = 4; missing = None }))
  other_types b c a tells e tells' e' =
      let wrong : OfEach (IsArgument p k names Sets) Handing → ⊥ = false_tells (OfEach (IsArgument p k names Sets) Handing) c tells' e' in
      ((λ i. wrong i.types), inl (inr (a.0, inr (a.1, inr (tells.0 e, inl (wrong, refl)))), refl))

  pub instance_fits : (b c : Bool) → Start → (b ≡ true) ↔ OfEach (HasOpened p names) Handing → b ≡ true → (c ≡ true) ↔ OfEach (IsArgument p k names Sets) Handing → c ≡ true → InstanceFits p k names m arguments
  instance_fits b c a tells e tells' e' = record { resource = a.0; numbers = a.1; members = tells.0 e; types = tells'.0 e' }

  -- the bounds of members, where the other premises are true
  abbrev OutsideLack : List OwnName → List OwnName → Option ℕ → Type 0
  OutsideLack outer ps o = FirstLack (RespectsBounds p k outer) (LacksInMember p k outer) (handed_to ps arguments) o

  pub outside_as : (ps outer : List OwnName) (o : Option ℕ) → ps ≡ parameters_of p m → outer ≡ names → OutsideLack outer ps o → OutsideLack names (parameters_of p m) o
  outside_as ps outer o e f h = subst (λ l. OutsideLack l (parameters_of p m) o) f (subst (λ l. OutsideLack outer l o) e h)

  pub members_outside : InstanceFits p k names m arguments → (o : Option Atom) → OutsideLack names (parameters_of p m) (missing_atom o) → is_some o ≡ true → InstanceComesTo p k names m arguments (Some (record { premise = 5; missing = o }))
  members_outside fits None f e = absurd (cc)
  members_outside fits (Some a) f e = ((λ i. first_breaks (RespectsBounds p k names) (LacksInMember p k names) Handing (Some a.0) f i.bounds), inr (fits, refl, f))

  pub instance_holds : InstanceFits p k names m arguments → (o : Option Atom) → OutsideLack names (parameters_of p m) (missing_atom o) → is_some o ≡ false → InstanceHolds p k names m arguments
  instance_holds fits None f e = record { resource = fits.resource; numbers = fits.numbers; members = fits.members; types = fits.types; bounds = f }
  instance_holds fits (Some a) f e = absurd (cc)

  ------------------------------------------------------------
  -- I-Import

  module _ (bound : List ℕ) (same : NumbersAgree p k names m arguments) where
    abbrev AllBounded : Type 0
    AllBounded = OfEach (λ (h : Handed). Bounded p k names bound h.argument) Handing

    abbrev AllSafe : Type 0
    AllSafe = OfEach (λ (h : Handed). Safe p k names bound h.argument) Handing

    pub bounded : (o : Option Atom) → FirstLack (Bounded p k names bound) (Exceeds p k names bound) arguments (missing_atom o) → is_some o ≡ false → AllBounded
    bounded None f e = handed_each (Bounded p k names bound) (Exceeds p k names bound) (parameters_of p m) arguments f
    bounded (Some a) f e = absurd (cc)

    pub safe : (o : Option Atom) → FirstLack (Safe p k names bound) (Unsafe p k names bound) arguments (missing_atom o) → is_some o ≡ false → AllSafe
    safe None f e = handed_each (Safe p k names bound) (Unsafe p k names bound) (parameters_of p m) arguments f
    safe (Some a) f e = absurd (cc)

    pub exceeds : (o : Option Atom) → FirstLack (Bounded p k names bound) (Exceeds p k names bound) arguments (missing_atom o) → is_some o ≡ true → BoundComesTo p k names m arguments bound (Some (record { premise = 1; missing = o }))
    exceeds None f e = absurd (cc)
    exceeds (Some a) f e =
        let first = handed_first (Bounded p k names bound) (Exceeds p k names bound) (parameters_of p m) arguments (Some a.0) same f in
        ((λ i. first_breaks (λ (h : Handed). Bounded p k names bound h.argument) (λ (h : Handed). Exceeds p k names bound h.argument) Handing (Some a.0) first i.effects), inl (refl, first))

    pub unsafe : (o : Option Atom) → AllBounded → FirstLack (Safe p k names bound) (Unsafe p k names bound) arguments (missing_atom o) → is_some o ≡ true → BoundComesTo p k names m arguments bound (Some (record { premise = 2; missing = o }))
    unsafe None w f e = absurd (cc)
    unsafe (Some a) w f e =
        let first = handed_first (Safe p k names bound) (Unsafe p k names bound) (parameters_of p m) arguments (Some a.0) same f in
        ((λ i. first_breaks (λ (h : Handed). Safe p k names bound h.argument) (λ (h : Handed). Unsafe p k names bound h.argument) Handing (Some a.0) first i.safe), inr (w, inl (refl, first)))

    pub plain_as : (ps : List OwnName) (b : Bool) → ps ≡ parameters_of p m → (b ≡ true) ↔ OfEach (IsPlainArgument p k names) (handed_to ps arguments) → (b ≡ true) ↔ OfEach (IsPlainArgument p k names) Handing
    plain_as ps b e tells = subst (λ l. (b ≡ true) ↔ OfEach (IsPlainArgument p k names) (handed_to l arguments)) e tells

    pub other_plain_types : (b : Bool) → AllBounded → AllSafe → (b ≡ true) ↔ OfEach (IsPlainArgument p k names) Handing → b ≡ false → BoundComesTo p k names m arguments bound (Some (record { premise = 3; missing = None }))
    other_plain_types b w v tells e =
        let wrong : OfEach (IsPlainArgument p k names) Handing → ⊥ = false_tells (OfEach (IsPlainArgument p k names) Handing) b tells e in
        ((λ i. wrong i.types), inr (w, inr (v, (refl, inl (wrong, refl)))))

    pub import_holds : (b : Bool) → AllBounded → AllSafe → (b ≡ true) ↔ OfEach (IsPlainArgument p k names) Handing → b ≡ true → PlainHolds p k names m → ImportHolds p k names m arguments bound
    import_holds b w v tells e holds = record { effects = w; safe = v; types = tells.0 e; module_holds = holds }
