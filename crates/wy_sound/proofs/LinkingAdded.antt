-- What the instances are named that a visit adds: those that a line brings have a full stop in their names, those of used modules a space, which no
-- own name has; and a use adds instances of modules that its own leads to, hence none of its own.
use Rattle.std.proofs.Common.{◌≡◌, ℕ, zero, suc, ◌+◌, ◌<◌, List, [], ◌∷◌, ◌++◌, ◌⊎◌, inl, inr, length, refl, sym, ap, ◌∙◌, subst, arith, Option, Some, None, true, false, append_assoc, append-nil}
use Rattle.std.specs.Prelude.{codes, slice_get, bytes_eq, if◌then◌else◌}
use Rattle.std.proofs.lemmas.Slice.Eq.{bytes_eq-Decides}
use Rattle.wy_text.specs.Members.{In}
use Rattle.wy_text.proofs.Lists.{In-slice_get, In-at, In-left, In-right, In-cases}
use Rattle.wy_types.specs.declared.linked.Instance.{Instance as Started}
use Rattle.wy_types.specs.declared.resolved.Origin.{Origin}
use Rattle.wy_types.specs.declared.resolved.Origin.TheVariants.{Parameter, Grant, Use, Instance, Import}
use Rattle.wy_types.specs.declared.resolved.OwnName.{OwnName}
use Rattle.wy_types.specs.declared.resolved.ScopeKind.TheVariants.{Program as Main}
use Rattle.wy_types.specs.Program.{Program, Scope}
use Rattle.wy_types.specs.Core.{OriginFits, origin_modules, LeadsTo, LeadsBy, IsCore}
use Rattle.wy_types.specs.Ground.{Visited, Visit, names_of, is_use, uses_among, handed, number_from, used, visit_name, visit_names, visit}
use Rattle.wy_rules.specs.Acceptance.{is_parameter, parameters_among}
use Rattle.wy_rules.specs.OwnNames.{opens, opened_count, after_parameters, name_of, HasItsType, HaveTheirTypes, LinesAreTyped}
use Rattle.wy_sound.proofs.LinkingLists.{read_there}
use Rattle.wy_sound.proofs.LinkingPrograms.{main_is_last, one_module, pure_word}
use Rattle.wy_sound.proofs.LinkingVisits.{parameters_are, first_and_after}
use Rattle.wy_sound.proofs.LinkingWays.{names_lead}

-- instances are added behind, each of such a name
pub record Adds (Named : List ℕ → Type 0) (before after : List Started) : Type 0 where
  pub more : List Started
  pub behind : after ≡ before ++ more
  pub named : (i : Started) → In i more → Named i.name

module _ (Named : List ℕ → Type 0) where
  pub adds_none : (xs : List Started) → Adds Named xs xs
  adds_none xs = record { more = []; behind = sym (append-nil xs); named = λ i j. absurd j }

  pub adds_further : (xs ys zs : List Started) → Adds Named xs ys → Adds Named ys zs → Adds Named xs zs
  adds_further xs ys zs a b = record {
    more = a.more ++ b.more;
    behind = b.behind ∙ ap (λ l. l ++ b.more) a.behind ∙ append_assoc xs a.more b.more;
    named = λ i j. elim (In-cases i a.more b.more j) [ inl h ↦ a.named i h | inr h ↦ b.named i h ];
  }

  -- one more
  pub adds_one : (xs ys : List Started) (i : Started) → Adds Named xs ys → Named i.name → Adds Named xs (ys ++ i ∷ [])
  adds_one xs ys i a h =
      adds_further xs ys (ys ++ i ∷ []) a
      (record { more = i ∷ []; behind = refl; named = λ j k. elim k [ inl e ↦ subst (λ (v : Started). Named v.name) e h | inr n ↦ absurd n ] })

  pub adds_wider : (Wider : List ℕ → Type 0) → ((name : List ℕ) → Named name → Wider name) → (xs ys : List Started) → Adds Named xs ys → Adds Wider xs ys
  adds_wider Wider wider xs ys a = record { more = a.more; behind = a.behind; named = λ i j. wider i.name (a.named i j) }

------------------------------------------------------------
-- Names that no instance has

-- no instance has the name
abbrev pub IsFree : List ℕ → List Started → Type 0
IsFree name xs = (i : Started) → In i xs → i.name ≡ name → ⊥

pub none_free : (k : ℕ) (name : List ℕ) (xs : List Started) → number_from k name xs ≡ None → IsFree name xs
none_free k name [] e i j same = absurd j
none_free k name (x ∷ xs) e i j same =
    elim (bytes_eq x.name name) as (λ b. bytes_eq x.name name ≡ b → (if b then Some k else number_from (k + 1) name xs) ≡ None → ⊥) [
      | true ↦ λ t f. absurd (cc)
      | false ↦ λ t f. elim j [
        | inl g ↦ (let s = (bytes_eq-Decides x.name name).1 (ap (λ (v : Started). v.name) g ∙ same) in let u : true ≡ false = sym s ∙ t in cc)
        | inr m ↦ none_free (k + 1) name xs f i m same
      ]
    ] refl e

-- .. of those that are there and those that are added
pub free_after : (Named : List ℕ → Type 0) (name : List ℕ) (xs ys : List Started) → IsFree name xs → Adds Named xs ys →
    ((other : List ℕ) → Named other → other ≡ name → ⊥) → IsFree name ys
free_after Named name xs ys free a not i j e =
    elim (In-cases i xs a.more (subst (λ l. In i l) a.behind j)) [ inl h ↦ free i h e | inr h ↦ not i.name (a.named i h) e ]

------------------------------------------------------------
-- Hidden names

-- a name with a space or with a full stop
abbrev pub IsHidden : List ℕ → Type 0
IsHidden name = In 32 name ⊎ In 46 name

abbrev pub AllUses : List OwnName → Type 0
AllUses ns = (n : OwnName) → In n ns → is_use n.origin ≡ true

pub uses_are_uses : (ns : List OwnName) → AllUses (uses_among ns)
uses_are_uses [] n = λ i. absurd i
uses_are_uses (m ∷ ns) n =
    elim (is_use m.origin) as (λ b. is_use m.origin ≡ b → In n (if b then m ∷ uses_among ns else uses_among ns) → is_use n.origin ≡ true) [
      | true ↦ λ e i. elim i [ inl f ↦ subst (λ (v : OwnName). is_use v.origin ≡ true) f e | inr j ↦ uses_are_uses ns n j ]
      | false ↦ λ e i. uses_are_uses ns n i
    ] refl

pub uses_are_names : (ns : List OwnName) (n : OwnName) → In n (uses_among ns) → In n ns
uses_are_names [] n = λ i. absurd i
uses_are_names (m ∷ ns) n =
    elim (is_use m.origin) as (λ b. In n (if b then m ∷ uses_among ns else uses_among ns) → In n (m ∷ ns)) [
      | true ↦ λ i. elim i [ inl e ↦ inl e | inr j ↦ inr (uses_are_names ns n j) ]
      | false ↦ λ i. inr (uses_are_names ns n i)
    ]

pure_hidden : (word : List ℕ) → IsHidden (codes "pure " ++ word)
pure_hidden word = inl (inr (inr (inr (inr (inl refl)))))

dotted : (prefix name : List ℕ) → In 46 (prefix ++ (name ++ codes "."))
dotted prefix name = In-right 46 prefix (name ++ codes ".") (In-right 46 name (codes ".") (inl refl))

module _ (p : Program) (inside : Visit)
    (adds : (outer : List OwnName) (prefix : List ℕ) (names : List OwnName) (v : Visited) → In 46 prefix ⊎ AllUses names →
    Adds IsHidden v.started (inside outer prefix names v).started) where
  used_adds : (v : Visited) (word : List ℕ) (m : ℕ) (there : Option ℕ) → Adds IsHidden v.started (used p inside v (codes "pure " ++ word) m there).started
  used_adds v word m (Some i) = adds_none IsHidden v.started
  used_adds v word m None =
      let names = names_of (slice_get p.scopes m) in
      let inner = inside names [] (uses_among names) (record { started = v.started; actuals = []; sets = [] }) in
      adds_one IsHidden v.started inner.started _ (adds names [] (uses_among names) _ (inr (uses_are_uses names))) (pure_hidden word)

  -- what a line brings, before its own instance
  lined_adds : (outer : List OwnName) (prefix name : List ℕ) (m : ℕ) (arguments : List ℕ) (v : Visited) →
      Adds IsHidden v.started (inside (names_of (slice_get p.scopes m)) (prefix ++ (name ++ codes ".")) (names_of (slice_get p.scopes m)) (handed p outer v m arguments)).started
  lined_adds outer prefix name m arguments v =
      let names = names_of (slice_get p.scopes m) in
      adds names (prefix ++ (name ++ codes ".")) names (handed p outer v m arguments) (inl (dotted prefix name))

  line_hidden : (prefix name : List ℕ) (o : Origin) → is_use o ≡ false → In 46 prefix ⊎ (is_use o ≡ true) → IsHidden (prefix ++ name)
  line_hidden prefix name o e (inl dot) = inr (In-left 46 prefix name dot)
  line_hidden prefix name o e (inr f) = absurd (let same : false ≡ true = sym e ∙ f in cc)

  name_adds : (outer : List OwnName) (prefix : List ℕ) (n : OwnName) (o : Origin) (v : Visited) → In 46 prefix ⊎ (is_use o ≡ true) →
      Adds IsHidden v.started (visit_name p inside outer prefix n o v).started
  name_adds outer prefix n (Parameter bare) v h = adds_none IsHidden v.started
  name_adds outer prefix n Grant v h = adds_none IsHidden v.started
  name_adds outer prefix n (Use m) v h = used_adds v n.name m (number_from 0 (codes "pure " ++ n.name) v.started)
  name_adds outer prefix n (Instance m arguments) v h =
      adds_one IsHidden v.started _ _ (lined_adds outer prefix n.name m arguments v) (line_hidden prefix n.name (Instance m arguments) refl h)
  name_adds outer prefix n (Import m arguments bound) v h =
      adds_one IsHidden v.started _ _ (lined_adds outer prefix n.name m arguments v) (line_hidden prefix n.name (Import m arguments bound) refl h)

  names_add : (outer : List OwnName) (prefix : List ℕ) (names : List OwnName) (v : Visited) → In 46 prefix ⊎ AllUses names →
      Adds IsHidden v.started (visit_names p inside outer prefix names v).started
  names_add outer prefix [] v h = adds_none IsHidden v.started
  names_add outer prefix (n ∷ names) v h =
      let w = visit_name p inside outer prefix n n.origin v in
      adds_further IsHidden v.started w.started _
      (name_adds outer prefix n n.origin v (elim h [ inl dot ↦ inl dot | inr uses ↦ inr (uses n (inl refl)) ]))
      (names_add outer prefix names w (elim h [ inl dot ↦ inl dot | inr uses ↦ inr (λ m i. uses m (inr i)) ]))

pub visit_adds : (p : Program) (k : ℕ) (outer : List OwnName) (prefix : List ℕ) (names : List OwnName) (v : Visited) → In 46 prefix ⊎ AllUses names →
    Adds IsHidden v.started (visit p k outer prefix names v).started
visit_adds p zero outer prefix names v h = adds_none IsHidden v.started
visit_adds p (suc k) outer prefix names v h = names_add p (visit p k) (visit_adds p k) outer prefix names v h

-- an own name of the program adds hidden names and, where it is a line, its own
pub own_name_adds : (p : Program) (k : ℕ) (outer : List OwnName) (n : OwnName) (o : Origin) (v : Visited) →
    Adds (λ name. IsHidden name ⊎ (n.name ≡ name)) v.started (visit_name p (visit p k) outer [] n o v).started
own_name_adds p k outer n (Parameter bare) v = adds_none _ v.started
own_name_adds p k outer n Grant v = adds_none _ v.started
own_name_adds p k outer n (Use m) v =
    adds_wider IsHidden _ (λ name h. inl h) v.started _
    (used_adds p (visit p k) (visit_adds p k) v n.name m (number_from 0 (codes "pure " ++ n.name) v.started))
own_name_adds p k outer n (Instance m arguments) v =
    adds_one _ v.started _ _ (adds_wider IsHidden _ (λ name h. inl h) v.started _ (lined_adds p (visit p k) (visit_adds p k) outer [] n.name m arguments v))
    (inr refl)
own_name_adds p k outer n (Import m arguments bound) v =
    adds_one _ v.started _ _ (adds_wider IsHidden _ (λ name h. inl h) v.started _ (lined_adds p (visit p k) (visit_adds p k) outer [] n.name m arguments v))
    (inr refl)

-- what a line of the program brings before its own instance
pub line_adds : (p : Program) (k : ℕ) (outer : List OwnName) (name : List ℕ) (m : ℕ) (arguments : List ℕ) (v : Visited) →
    Adds IsHidden v.started (visit p k (names_of (slice_get p.scopes m)) (name ++ codes ".") (names_of (slice_get p.scopes m)) (handed p outer v m arguments)).started
line_adds p k outer name m arguments v = lined_adds p (visit p k) (visit_adds p k) outer [] name m arguments v

------------------------------------------------------------
-- What a use leads to

-- a used module: the scope of this number leads to it, and the name is its own
pub record IsUseOf (p : Program) (m : ℕ) (n : OwnName) (j : ℕ) : Type 0 where
  pub leads : LeadsTo p m j
  pub module_there : j + 1 < length p.scopes
  pub word : n.name ≡ name_of (slice_get p.scopes j)

typed_among : (p : Program) (k : ℕ) (ns : List OwnName) → HaveTheirTypes p k ns → (n : OwnName) → In n ns → (opened : ℕ) × HasItsType p opened n n.origin
typed_among p k [] h n i = absurd i
typed_among p k (m ∷ ns) h n (inl e) = subst (λ (v : OwnName). (opened : ℕ) × HasItsType p opened v v.origin) e (k, h.0)
typed_among p k (m ∷ ns) h n (inr i) = typed_among p (k + length (opens p m m.origin)) ns h.1 n i

module _ (p : Program) (c : IsCore p) (t : LinesAreTyped p) where
  pub use_of : (m : ℕ) (s : Scope) → slice_get p.scopes m ≡ Some s → (n : OwnName) → In n s.names → (j : ℕ) → n.origin ≡ Use j → IsUseOf p m n j
  use_of m s e n i j o =
      let among = In-slice_get p.scopes m s e in
      let place = In-at n s.names i in
      let fits = subst (OriginFits p s place.0 n) o ((c.scopes s among).names place.0 n place.2).1 in
      let after : In n (after_parameters s.names) =
      elim (In-cases n (parameters_among s.names) (after_parameters s.names) (subst (λ l. In n l) (first_and_after s.names) i)) [
        | inl h ↦ absurd (let same : true ≡ false = sym (parameters_are s.names n h) ∙ ap is_parameter o in cc)
        | inr h ↦ h
      ] in
      let typed = typed_among p (opened_count p (parameters_among s.names)) (after_parameters s.names) (t s among).others n after in
      record {
        leads = (s, e, names_lead s.names n j i (subst (λ x. In j (origin_modules x)) (sym o) (inl refl)));
        module_there = fits.1;
        word = (subst (HasItsType p typed.0 n) o typed.1).0;
      }

  -- the name of the instance of a module to which the scope of a number leads
  pub record IsPureFrom (m : ℕ) (name : List ℕ) : Type 0 where
    pub number : ℕ
    pub path : List ℕ
    pub leads : LeadsBy p m path number
    pub module_there : number + 1 < length p.scopes
    pub called : name ≡ codes "pure " ++ name_of (slice_get p.scopes number)

  -- the own names of a scope that are uses
  abbrev pub UsesOf : ℕ → List OwnName → Type 0
  UsesOf m ns = (n : OwnName) → In n ns → (j : ℕ) × (n.origin ≡ Use j) × IsUseOf p m n j

  use_number : (n : OwnName) (o : Origin) → is_use o ≡ true → n.origin ≡ o → (j : ℕ) × (n.origin ≡ Use j)
  use_number n (Parameter bare) e f = absurd (cc)
  use_number n Grant e f = absurd (cc)
  use_number n (Use j) e f = (j, f)
  use_number n (Instance j arguments) e f = absurd (cc)
  use_number n (Import j arguments bound) e f = absurd (cc)

  pub uses_of : (m : ℕ) → m + 1 < length p.scopes → UsesOf m (uses_among (names_of (slice_get p.scopes m)))
  uses_of m lt n i =
      let r = read_there p.scopes m (omega (arith, lt)) in
      let among : In n r.0.names = subst (λ o. In n (names_of o)) r.1 (uses_are_names (names_of (slice_get p.scopes m)) n i) in
      let number = use_number n n.origin (uses_are_uses (names_of (slice_get p.scopes m)) n i) refl in
      (number.0, number.1, use_of m r.0 r.1 n among number.0 number.1)

  module _ (inside : Visit)
      (adds : (m : ℕ) (outer ns : List OwnName) (v : Visited) → UsesOf m ns → Adds (IsPureFrom m) v.started (inside outer [] ns v).started) where
    from_use : (v : Visited) (m : ℕ) (n : OwnName) (j : ℕ) → IsUseOf p m n j → (there : Option ℕ) →
        Adds (IsPureFrom m) v.started (used p inside v (codes "pure " ++ n.name) j there).started
    from_use v m n j u (Some i) = adds_none (IsPureFrom m) v.started
    from_use v m n j u None =
        let names = names_of (slice_get p.scopes j) in
        adds_one (IsPureFrom m) v.started _ _
        (adds_wider (IsPureFrom j) (IsPureFrom m)
        (λ name f. record { number = f.number; path = j ∷ f.path; leads = (u.leads, f.leads); module_there = f.module_there; called = f.called })
        v.started _ (adds j names (uses_among names) (record { started = v.started; actuals = []; sets = [] }) (uses_of j u.module_there)))
        (record { number = j; path = []; leads = u.leads; module_there = u.module_there; called = ap (λ w. codes "pure " ++ w) u.word })

    from_name : (outer : List OwnName) (m : ℕ) (n : OwnName) (v : Visited) → (j : ℕ) × (n.origin ≡ Use j) × IsUseOf p m n j →
        Adds (IsPureFrom m) v.started (visit_name p inside outer [] n n.origin v).started
    from_name outer m n v h =
        subst (λ o. Adds (IsPureFrom m) v.started (visit_name p inside outer [] n o v).started) (sym h.1)
        (from_use v m n h.0 h.2 (number_from 0 (codes "pure " ++ n.name) v.started))

    from_names : (outer : List OwnName) (m : ℕ) (ns : List OwnName) (v : Visited) → UsesOf m ns →
        Adds (IsPureFrom m) v.started (visit_names p inside outer [] ns v).started
    from_names outer m [] v h = adds_none (IsPureFrom m) v.started
    from_names outer m (n ∷ ns) v h =
        adds_further (IsPureFrom m) v.started (visit_name p inside outer [] n n.origin v).started _ (from_name outer m n v (h n (inl refl)))
        (from_names outer m ns _ (λ x i. h x (inr i)))

  uses_add : (k : ℕ) (m : ℕ) (outer ns : List OwnName) (v : Visited) → UsesOf m ns → Adds (IsPureFrom m) v.started (visit p k outer [] ns v).started
  uses_add zero m outer ns v h = adds_none (IsPureFrom m) v.started
  uses_add (suc k) m outer ns v h = from_names (visit p k) (uses_add k) outer m ns v h

  -- what a use adds before its own instance is of the modules that its own leads to
  pub module_adds : (k m : ℕ) (v : Visited) → m + 1 < length p.scopes →
      let names = names_of (slice_get p.scopes m) in
      Adds (IsPureFrom m) v.started (visit p k names [] (uses_among names) (record { started = v.started; actuals = []; sets = [] })).started
  module_adds k m v lt =
      let names = names_of (slice_get p.scopes m) in
      uses_add k m names (uses_among names) (record { started = v.started; actuals = []; sets = [] }) (uses_of m lt)

  not_main : (j : ℕ) (z : Scope) → slice_get p.scopes j ≡ Some z → j + 1 < length p.scopes → z.kind ≡ Main → ⊥
  not_main j z e lt main = let last = main_is_last p.scopes c.program j z e main in absurd (omega (arith, lt, last))

  -- a module leads to no instance of its own name
  not_again : (m j : ℕ) (n : OwnName) → IsUseOf p m n j → (other : List ℕ) → IsPureFrom j other → other ≡ codes "pure " ++ n.name → ⊥
  not_again m j n u other f e =
      let a = read_there p.scopes j (omega (arith, u.module_there)) in
      let b = read_there p.scopes f.number (omega (arith, f.module_there)) in
      let words : name_of (slice_get p.scopes f.number) ≡ name_of (slice_get p.scopes j) = pure_word _ _ (sym f.called ∙ e) ∙ u.word in
      let names : b.0.name ≡ a.0.name = ap name_of (sym b.1) ∙ words ∙ ap name_of a.1 in
      let same = one_module p.scopes c.program c.modules f.number j b.0 a.0 b.1 a.1 (not_main f.number b.0 b.1 f.module_there)
      (not_main j a.0 a.1 u.module_there) names in
      c.no_cycle j f.path (subst (LeadsBy p j f.path) same f.leads)

  -- so that of a used module is free until its own instance is added
  pub use_free : (k m : ℕ) (v : Visited) (n : OwnName) (j : ℕ) → IsUseOf p m n j → number_from 0 (codes "pure " ++ n.name) v.started ≡ None →
      let names = names_of (slice_get p.scopes j) in
      IsFree (codes "pure " ++ n.name) (visit p k names [] (uses_among names) (record { started = v.started; actuals = []; sets = [] })).started
  use_free k m v n j u e =
      free_after (IsPureFrom j) (codes "pure " ++ n.name) v.started _ (none_free 0 (codes "pure " ++ n.name) v.started e)
      (module_adds k j v u.module_there) (not_again m j n u)
