-- What was found of the premises of a rule tells whether it stands.
use Rattle.std.proofs.Common.{◌≡◌, ◌↔◌, ℕ, List, refl, ap, ◌∙◌, subst, Option, Some, None, Bool as Truth, true, false, not}
use Rattle.std.specs.Option.{is_none, is_some}
use Rattle.std.specs.Prelude.{slice_get}
use Rattle.wy_effects.specs.declared.atom.Atom.{Atom}
use Rattle.wy_types.specs.declared.resolved.OwnName.{OwnName}
use Rattle.wy_types.specs.declared.resolved.ScopeKind.TheVariants.{Resource}
use Rattle.wy_types.specs.Program.{Program, Scope}
use Rattle.wy_types.specs.Types.{substituted}
use Rattle.wy_types.specs.Ground.{type_of, names_of, arguments_sets}
use Rattle.wy_rules.specs.Acceptance.{Handed, handed_to, parameters_of, RespectsBounds}
use Rattle.wy_rules.specs.Failing.{LacksInMember}
use Rattle.wy_cert.specs.declared.certificate.CertScope.{CertScope}
use Rattle.wy_premises.specs.Tried.{OfEach, HasOpened, FirstLack, missing_atom, Agrees, Disagrees, OrFails}
use Rattle.wy_premises.proofs.Trying.{first_breaks}
use Rattle.wy_proving.specs.Proving.{RuleStands, instance_of, IsListed}
use Rattle.wy_recheck.proofs.Purity.{true_not_false}

-- what an answer denies is denied by it
pub not_back : (a b : Truth) → a ≡ not b → not a ≡ b
not_back true true e = absurd (cc)
not_back true false e = refl
not_back false true e = refl
not_back false false e = absurd (cc)

-- the first of two is false
pub first_false : (A B : Type 0) (a : Truth) → (a ≡ true) ↔ A → a ≡ false → ◌≡◌ {A = Truth} false true ↔ (A × B)
first_false A B a tells f = (λ e. absurd (cc), λ h. absurd (true_not_false a (tells.1 h.0) f))

-- the first is true, so that the second tells
pub second_tells : (A B : Type 0) (a b : Truth) → (a ≡ true) ↔ A → a ≡ true → (b ≡ true) ↔ B → (b ≡ true) ↔ (A × B)
second_tells A B a b tells t tells' = (λ e. (tells.0 t, tells'.0 e), λ h. tells'.1 h.1)

-- what was found of the parameters of a module, as code has them
pub of_parameters : (P : Handed → Type 0) (ps qs : List OwnName) (arguments : List ℕ) (b : Truth) → ps ≡ qs → (b ≡ true) ↔ OfEach P (handed_to ps arguments) → (b ≡ true) ↔ OfEach P (handed_to qs arguments)
of_parameters P ps qs arguments b e tells = subst (λ l. (b ≡ true) ↔ OfEach P (handed_to l arguments)) e tells

agreed : (A : Type 0) (D : ℕ → Type 0) (o : Option ℕ) → OrFails A D o → is_some o ≡ false → A
agreed A D None h e = h
agreed A D (Some n) h e = absurd (cc)

module _ (p : Program) (k : ℕ) (s : Scope) (c : CertScope) (m : ℕ) (arguments : List ℕ) where
  abbrev Rule : Type 0
  Rule = RuleStands p k s c (instance_of m arguments)

  abbrev handing : List Handed
  handing = handed_to (parameters_of p m) arguments

  abbrev Opened : Type 0
  Opened = OfEach (HasOpened p s.names) handing

  pub opened_as : (ps outer : List OwnName) (b : Truth) → ps ≡ parameters_of p m → outer ≡ s.names → (b ≡ true) ↔ OfEach (HasOpened p outer) (handed_to ps arguments) → (b ≡ true) ↔ Opened
  opened_as ps outer b e f tells = subst (λ o. (b ≡ true) ↔ OfEach (HasOpened p o) handing) f (subst (λ l. (b ≡ true) ↔ OfEach (HasOpened p outer) (handed_to l arguments)) e tells)

  -- a member is wanting
  pub not_opened : (b : Truth) → (b ≡ true) ↔ Opened → b ≡ false → ◌≡◌ {A = Truth} false true ↔ Rule
  not_opened b tells f = (λ e. absurd (cc), λ r. absurd (true_not_false b (tells.1 r.2) f))

  abbrev Sets : List (List ℕ)
  Sets = arguments_sets p s.names (names_of (slice_get p.scopes m)) arguments

  abbrev IsListedAt : List (List ℕ) → Handed → Type 0
  IsListedAt es h = IsListed p k s c (type_of (slice_get s.names h.argument)) (substituted es h.parameter.typ)

  abbrev Listed : Type 0
  Listed = OfEach (IsListedAt Sets) handing

  pub sets_as : (ns outer : List OwnName) (sets slice : List (List ℕ)) → ns ≡ names_of (slice_get p.scopes m) → outer ≡ s.names → sets ≡ arguments_sets p outer ns arguments → slice ≡ sets → slice ≡ Sets
  sets_as ns outer sets slice e f is same = same ∙ is ∙ ap (λ l. arguments_sets p outer l arguments) e ∙ ap (λ o. arguments_sets p o (names_of (slice_get p.scopes m)) arguments) f

  -- the pair of an argument is not listed
  pub not_listed : (b : Truth) → (b ≡ true) ↔ Listed → b ≡ false → ◌≡◌ {A = Truth} false true ↔ Rule
  not_listed b tells f = (λ e. absurd (cc), λ r. absurd (true_not_false b (tells.1 r.3) f))

  -- .. else the bounds of members tell
  abbrev Outside : List OwnName → List OwnName → Option ℕ → Type 0
  Outside outer ps o = FirstLack (RespectsBounds p k outer) (LacksInMember p k outer) (handed_to ps arguments) o

  pub outside_as : (ps outer : List OwnName) (o : Option ℕ) → ps ≡ parameters_of p m → outer ≡ s.names → Outside outer ps o → Outside s.names (parameters_of p m) o
  outside_as ps outer o e f h = subst (λ l. Outside l (parameters_of p m) o) f (subst (λ l. Outside outer l o) e h)

  pub rule_told : (d : Option ℕ) → OrFails (Agrees p Resource m arguments) (Disagrees p Resource m arguments) d → is_some d ≡ false → (a b : Truth) → (a ≡ true) ↔ Opened → a ≡ true → (b ≡ true) ↔ Listed → b ≡ true →
      (o : Option Atom) → Outside s.names (parameters_of p m) (missing_atom o) → (is_none o ≡ true) ↔ Rule
  rule_told d agrees none a b opened t listed t' None lack =
      let start = agreed (Agrees p Resource m arguments) (Disagrees p Resource m arguments) d agrees none in
      (λ e. (start.0, start.1, opened.0 t, listed.0 t', lack), λ r. refl)
  rule_told d agrees none a b opened t listed t' (Some x) lack =
      (λ e. absurd (cc), λ r. absurd (first_breaks (RespectsBounds p k s.names) (LacksInMember p k s.names) handing (Some x.0) lack r.4))
