-- What stands while a scope is visited: what is handed on has the types of the own names so far, the sets so far respect the bounds of their atoms where
-- the scope is annotated, and each instance so far is one of its scope.
use Rattle.std.proofs.Common.{◌≡◌, ℕ, zero, suc, ◌+◌, ◌≤◌, List, [], ◌∷◌, ◌++◌, inl, inr, length, refl, sym, ap, ◌∙◌, subst, arith, Option, Some, true, false, length-append}
use Rattle.std.specs.Prelude.{codes, slice_get, slice_index_or}
use Rattle.wy_text.specs.Members.{In}
use Rattle.wy_effects.specs.EffSet.{IsSet, AreSets}
use Rattle.wy_effects.specs.Bounds.{Respects}
use Rattle.wy_text.proofs.Lists.{In-cases, In-slice_get}
use Rattle.wy_types.specs.declared.types.TypeRef.{TypeRef}
use Rattle.wy_types.specs.declared.linked.Actual.{Actual}
use Rattle.wy_types.specs.declared.linked.Actual.TheVariants as actual
use Rattle.wy_types.specs.declared.linked.Instance.{Instance as Started}
use Rattle.wy_types.specs.declared.resolved.Origin.{Origin}
use Rattle.wy_types.specs.declared.resolved.Origin.TheVariants.{Parameter, Grant, Use, Instance, Import}
use Rattle.wy_types.specs.declared.resolved.OwnName.{OwnName}
use Rattle.wy_types.specs.declared.resolved.ScopeKind.TheVariants.{Program as Main}
use Rattle.wy_types.specs.Program.{Program, Scope}
use Rattle.wy_types.specs.Types.{scope_is_plain, is_plain}
use Rattle.wy_types.specs.Bounds.{bounds_of}
use Rattle.wy_types.specs.Fitting.{FitsType}
use Rattle.wy_types.specs.Ground.{Visited, names_of, settled, type_of}
use Rattle.wy_rules.specs.Acceptance.{is_parameter}
use Rattle.wy_rules.specs.GroundTypes.{GroundType, type_at, read_by}
use Rattle.wy_rules.specs.GroundTyping.{BoundFits}
use Rattle.wy_sound.specs.Arguments.{ground_below, actual_type, IsThere}
use Rattle.wy_rules.specs.OwnNames.{opens, opened_bounds, opened_count}
use Rattle.wy_sound.specs.Grounds.{IsGround}
use Rattle.wy_sound.proofs.LinkingLists.{read_first, read_last}
use Rattle.wy_sound.proofs.LinkingSets.{AreSets-both, Fits-wider}
use Rattle.wy_sound.proofs.LinkingBounds.{NameBounds, respects_name}

-- a name's type as it is read; it names no own type, so it is the same for every instance
abbrev pub read_type : Option (List ℕ) → List (List ℕ) → TypeRef → GroundType
read_type o sets t = type_at 0 (read_by o sets t)

-- own names with one more open the atoms of that one besides
pub count_more : (p : Program) (ns : List OwnName) (n : OwnName) → opened_count p (ns ++ n ∷ []) ≡ opened_count p ns + length (opens p n n.origin)
count_more p [] n = omega arith
count_more p (m ∷ ns) n = let h = count_more p ns n in omega (arith, h)

module _ (p : Program) where
  -- it is there before a number of instances, and of the type or below
  pub record IsActual (limit : ℕ) (t : GroundType) (a : Actual) : Type 0 where
    pub there : IsThere p limit a
    pub below : ground_below p (actual_type p a) t

  -- for own names one after the other
  abbrev pub AreActuals : ℕ → Option (List ℕ) → List (List ℕ) → List OwnName → List Actual → Type 0
  AreActuals limit o sets [] [] = Unit {0}
  AreActuals limit o sets (n ∷ ns) (a ∷ rest) = IsActual limit (read_type o sets n.typ) a × AreActuals limit o sets ns rest
  AreActuals limit o sets ns rest = ⊥

  there_later : (limit later : ℕ) (a : Actual) → limit ≤ later → IsThere p limit a → IsThere p later a
  there_later limit later (actual.Instance y) le h = omega arith
  there_later limit later (actual.Grant g) le h = h

  pub actual_later : (limit later : ℕ) (t : GroundType) (a : Actual) → limit ≤ later → IsActual limit t a → IsActual later t a
  actual_later limit later t a le h = record { there = there_later limit later a le h.there; below = h.below }

  pub actuals_later : (limit later : ℕ) (o : Option (List ℕ)) (sets : List (List ℕ)) (ns : List OwnName) (xs : List Actual) → limit ≤ later →
      AreActuals limit o sets ns xs → AreActuals later o sets ns xs
  actuals_later limit later o sets [] [] le h = tt
  actuals_later limit later o sets [] (a ∷ xs) le h = absurd h
  actuals_later limit later o sets (n ∷ ns) [] le h = absurd h
  actuals_later limit later o sets (n ∷ ns) (a ∷ xs) le h =
      (actual_later limit later (read_type o sets n.typ) a le h.0, actuals_later limit later o sets ns xs le h.1)

  pub actuals_more : (limit : ℕ) (o : Option (List ℕ)) (sets : List (List ℕ)) (ns : List OwnName) (xs : List Actual) (n : OwnName) (a : Actual) →
      AreActuals limit o sets ns xs →
      IsActual limit (read_type o sets n.typ) a → AreActuals limit o sets (ns ++ n ∷ []) (xs ++ a ∷ [])
  actuals_more limit o sets [] [] n a h g = (g, tt)
  actuals_more limit o sets [] (b ∷ xs) n a h g = absurd h
  actuals_more limit o sets (m ∷ ns) [] n a h g = absurd h
  actuals_more limit o sets (m ∷ ns) (b ∷ xs) n a h g = (h.0, actuals_more limit o sets ns xs n a h.1 g)

  pub actuals_length : (limit : ℕ) (o : Option (List ℕ)) (sets : List (List ℕ)) (ns : List OwnName) (xs : List Actual) →
      AreActuals limit o sets ns xs → length xs ≡ length ns
  actuals_length limit o sets [] [] h = refl
  actuals_length limit o sets [] (a ∷ xs) h = absurd h
  actuals_length limit o sets (n ∷ ns) [] h = absurd h
  actuals_length limit o sets (n ∷ ns) (a ∷ xs) h = ap suc (actuals_length limit o sets ns xs h.1)

  -- what is handed for the name at a place
  pub actual_at : (limit : ℕ) (o : Option (List ℕ)) (sets : List (List ℕ)) (ns : List OwnName) (xs : List Actual) (k : ℕ) (n : OwnName) →
      AreActuals limit o sets ns xs → slice_get ns k ≡ Some n →
      (a : Actual) × (slice_get xs k ≡ Some a) × IsActual limit (read_type o sets n.typ) a
  actual_at limit o sets [] xs k n h e = absurd (cc)
  actual_at limit o sets (m ∷ ns) [] k n h e = absurd h
  actual_at limit o sets (m ∷ ns) (a ∷ xs) zero n h e =
      (a, refl, (let same : m ≡ n = cc in subst (λ (v : OwnName). IsActual limit (read_type o sets v.typ) a) same h.0))
  actual_at limit o sets (m ∷ ns) (a ∷ xs) (suc k) n h e = actual_at limit o sets ns xs k n h.1 e

  -- own names one after the other, and what stands for them; their atoms stand for the ground of that
  abbrev pub AreGround : List (List ℕ) → List OwnName → List OwnName → List Actual → Type 0
  AreGround ground outer [] [] = Unit {0}
  AreGround ground outer (n ∷ ns) (a ∷ rest) = IsGround p ground outer n n.origin a × AreGround ground outer ns rest
  AreGround ground outer ns rest = ⊥

  ground_more : (ground : List (List ℕ)) (outer ns : List OwnName) (xs : List Actual) (n : OwnName) (a : Actual) → AreGround ground outer ns xs →
      IsGround p ground outer n n.origin a → AreGround ground outer (ns ++ n ∷ []) (xs ++ a ∷ [])
  ground_more ground outer [] [] n a h g = (g, tt)
  ground_more ground outer [] (b ∷ xs) n a h g = absurd h
  ground_more ground outer (m ∷ ns) [] n a h g = absurd h
  ground_more ground outer (m ∷ ns) (b ∷ xs) n a h g = (h.0, ground_more ground outer ns xs n a h.1 g)

  pub ground_at : (ground : List (List ℕ)) (outer ns : List OwnName) (xs : List Actual) (k : ℕ) (n : OwnName) → AreGround ground outer ns xs →
      slice_get ns k ≡ Some n → (a : Actual) × (slice_get xs k ≡ Some a) × IsGround p ground outer n n.origin a
  ground_at ground outer [] xs k n h e = absurd (cc)
  ground_at ground outer (m ∷ ns) [] k n h e = absurd h
  ground_at ground outer (m ∷ ns) (a ∷ xs) zero n h e =
      (a, refl, (let same : m ≡ n = cc in subst (λ (v : OwnName). IsGround p ground outer v v.origin a) same h.0))
  ground_at ground outer (m ∷ ns) (a ∷ xs) (suc k) n h e = ground_at ground outer ns xs k n h.1 e

  -- of parameters nothing is said
  parameter_ground : (ground : List (List ℕ)) (outer : List OwnName) (n : OwnName) (o : Origin) (a : Actual) → is_parameter o ≡ true → IsGround p ground outer n o a
  parameter_ground ground outer n (Parameter bare) a e = tt
  parameter_ground ground outer n Grant a e = absurd (cc)
  parameter_ground ground outer n (Use m) a e = absurd (cc)
  parameter_ground ground outer n (Instance m arguments) a e = absurd (cc)
  parameter_ground ground outer n (Import m arguments bound) a e = absurd (cc)

  pub parameters_ground : (ground : List (List ℕ)) (outer ns : List OwnName) (xs : List Actual) → length xs ≡ length ns →
      ((n : OwnName) → In n ns → is_parameter n.origin ≡ true) → AreGround ground outer ns xs
  parameters_ground ground outer [] [] e h = tt
  parameters_ground ground outer [] (a ∷ xs) e h = absurd (omega arith)
  parameters_ground ground outer (n ∷ ns) [] e h = absurd (omega arith)
  parameters_ground ground outer (n ∷ ns) (a ∷ xs) e h =
      (parameter_ground ground outer n n.origin a (h n (inl refl)), parameters_ground ground outer ns xs (omega (arith, e)) (λ m i. h m (inr i)))

  -- an instance is one of its scope, a module, and is handed what the scope's own names ask for; by its name it is one of a pure module only where it is
  pub record Fits (y : ℕ) (i : Started) : Type 0 where
    pub scope : Scope
    pub there : slice_get p.scopes i.scope ≡ Some scope
    pub is_module : scope.kind ≡ Main → ⊥
    pub bound : BoundFits (is_plain scope.kind) i.bound
    pub bound_set : (bound : List ℕ) → i.bound ≡ Some bound → IsSet 512 bound
    pub sets : AreSets 512 i.ground
    pub respects : is_plain scope.kind ≡ false → Respects (bounds_of p i.scope) [] i.ground
    pub actuals : AreActuals y i.bound i.ground scope.names i.arguments
    pub grounds : AreGround i.ground scope.names scope.names i.arguments
    pub called : (word : List ℕ) → i.name ≡ codes "pure " ++ word → scope.name ≡ word

  abbrev pub AllFit : List Started → Type 0
  AllFit xs = (y : ℕ) (i : Started) → slice_get xs y ≡ Some i → Fits y i

  pub all_more : (xs : List Started) (i : Started) → AllFit xs → Fits (length xs) i → AllFit (xs ++ i ∷ [])
  all_more xs i h f y j e =
      elim (read_last xs i y j e) [
        | inl g ↦ h y j g
        | inr g ↦ subst (λ z. Fits z j) (sym g.0) (subst (Fits (length xs)) g.1 f)
      ]

  -- so far in a visit of the scope of this number, of whose own names these are done; the last sets are those at its end
  pub record Stands (m : ℕ) (o : Option (List ℕ)) (top : List (List ℕ)) (done : List OwnName) (v : Visited) : Type 0 where
    pub actuals : AreActuals (length v.started) o top done v.actuals
    pub grounds : AreGround top (names_of (slice_get p.scopes m)) done v.actuals
    pub count : length v.sets ≡ opened_count p done
    pub types : (n : OwnName) → In n done → FitsType p (length v.sets) 0 n.typ
    pub sets : AreSets 512 v.sets
    pub respects : scope_is_plain (slice_get p.scopes m) ≡ false → Respects (bounds_of p m) [] v.sets
    pub started : AllFit v.started

  -- one more own name
  pub stands_more : (m : ℕ) (o : Option (List ℕ)) (top : List (List ℕ)) (done : List OwnName) (v : Visited) (n : OwnName) (started : List Started) (a : Actual) (sets : List (List ℕ)) →
      Stands m o top done v →
      length v.started ≤ length started → AllFit started → IsActual (length started) (read_type o top n.typ) a →
      IsGround p top (names_of (slice_get p.scopes m)) n n.origin a →
      length sets ≡ length (opens p n n.origin) →
      FitsType p (length v.sets + length sets) 0 n.typ → AreSets 512 sets → NameBounds p m done n → Respects (opened_bounds p n n.origin) [] sets →
      Stands m o top (done ++ n ∷ []) (settled v started a sets)
  stands_more m o top done v n started a sets s le all is ground many fits are bounds respects =
      let long : length (v.sets ++ sets) ≡ length v.sets + length sets = length-append v.sets sets in
      record {
        actuals =
            actuals_more (length started) o top done v.actuals n a
            (actuals_later (length v.started) (length started) o top done v.actuals le s.actuals) is;
        grounds = ground_more top (names_of (slice_get p.scopes m)) done v.actuals n a s.grounds ground;
        count = omega (arith, long, many, s.count, count_more p done n);
        types = λ x i. elim (In-cases x done (n ∷ []) i) [
          | inl j ↦ Fits-wider p (length v.sets) (length (v.sets ++ sets)) x.typ (omega (arith, long)) (s.types x j)
          | inr j ↦ elim j [
            | inl e ↦ subst (λ (w : OwnName). FitsType p (length (v.sets ++ sets)) 0 w.typ) e (subst (λ k. FitsType p k 0 n.typ) (sym long) fits)
            | inr f ↦ absurd f
          ]
        ];
        sets = AreSets-both 512 v.sets sets s.sets are;
        respects = λ e. respects_name p m done n bounds v.sets sets s.count many (s.respects e) respects;
        started = all;
      }

  -- an own name among those that are done, by its place among all
  pub record Given (o : Option (List ℕ)) (top : List (List ℕ)) (outer : List OwnName) (v : Visited) (a : ℕ) : Type 0 where
    pub fits : FitsType p (length v.sets) 0 (type_of (slice_get outer a))
    pub is : IsActual (length v.started) (read_type o top (type_of (slice_get outer a))) (slice_index_or v.actuals a (actual.Grant 0))

  or_read : (xs : List Actual) (k : ℕ) (a d : Actual) → slice_get xs k ≡ Some a → slice_index_or xs k d ≡ a
  or_read [] k a d e = absurd (cc)
  or_read (x ∷ xs) zero a d e = cc
  or_read (x ∷ xs) (suc k) a d e = or_read xs k a d e

  pub given : (m : ℕ) (o : Option (List ℕ)) (top : List (List ℕ)) (done rest : List OwnName) (v : Visited) (a : ℕ) (n : OwnName) →
      names_of (slice_get p.scopes m) ≡ done ++ rest → Stands m o top done v → slice_get done a ≡ Some n → Given o top (names_of (slice_get p.scopes m)) v a
  given m o top done rest v a n e s at =
      let outer = names_of (slice_get p.scopes m) in
      let r = actual_at (length v.started) o top done v.actuals a n s.actuals at in
      let typ : type_of (slice_get outer a) ≡ n.typ = ap type_of (ap (λ l. slice_get l a) e ∙ read_first done rest a n at) in
      record {
        fits = subst (FitsType p (length v.sets) 0) (sym typ) (s.types n (In-slice_get done a n at));
        is = subst (λ t. IsActual (length v.started) (read_type o top t) (slice_index_or v.actuals a (actual.Grant 0))) (sym typ)
            (subst (IsActual (length v.started) (read_type o top n.typ)) (sym (or_read v.actuals a r.0 (actual.Grant 0) r.1)) r.2);
      }
