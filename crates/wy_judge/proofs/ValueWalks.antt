-- Several values judged one after the other, each at its type, and where no types are expected: the start, one more, a value in
-- which a node fails, and the end.
use Rattle.std.proofs.Common.{◌≡◌, ℕ, zero, suc, ◌+◌, ◌≤◌, List, [], ◌∷◌, refl, subst, Option, Some, None, take, drop, length, arith}
use Rattle.std.specs.Prelude.{slice_get}
use Rattle.std.proofs.lemmas.List.{take_all}
use Rattle.wy_text.specs.declared.fault.Fault.{Fault}
use Rattle.wy_effects.specs.EffSet.{IsSet, union}
use Rattle.wy_text.proofs.Lists.{In-slice_get}
use Rattle.wy_effects.proofs.SetLaws.{IsSetFrom-union}
use Rattle.wy_types.specs.declared.types.TypeRef.{TypeRef}
use Rattle.wy_types.specs.declared.code.Value as v
use Rattle.wy_types.specs.Code.{Value, Values, more}
use Rattle.wy_types.specs.Program.{Program, Scope}
use Rattle.wy_types.specs.Fitting.{IsTypeOf}
use Rattle.wy_types.specs.View.{value_of, values_of}
use Rattle.wy_types.specs.Vals.{value_vals, values_vals}
use Rattle.wy_rules.specs.Acceptance.{scope_reading}
use Rattle.wy_judge.specs.Fit.{Fit}
use Rattle.wy_judge.specs.Fit as fit
use Rattle.wy_judge.specs.Fits.{Fits}
use Rattle.wy_judge.specs.Fits as fits
use Rattle.wy_judge.specs.Outcomes.{push_fit, NoneFails}
use Rattle.wy_judge.specs.Tables.{Table, IsScopeOf, Moves, ValueReady, ValuesReady}
use Rattle.wy_judge.specs.Judging.{FitStands, NoFault, TypesInRange, FitsTo, AllFitTo, ProbesTo, AllProbeTo, Fitting, Probing}
use Rattle.wy_judge.proofs.Carrying.{pushed_none_fails, carry_start, carry_more, carry_fails, carry_end, probe_start, probe_more, probe_fails, probe_end}
use Rattle.wy_judge.proofs.Dropping.{drop_there}
use Rattle.wy_judge.proofs.Moving.{agrees_before, moves_none, moves_under, moves_both, ready_left, ready_right}
use Rattle.wy_judge.proofs.PartVals.{values_vals_there, values_vals_within}
use Rattle.wy_judge.proofs.Putting.{moves_among}
use Rattle.wy_judge.proofs.ValueParts.{lawful}

-- of two lists of one length the one has an element wherever the other has one
pub partner : {X Y : Type 0} (xs : List X) (ys : List Y) (i : ℕ) (y : Y) → length xs ≡ length ys → slice_get ys i ≡ Some y → (x : X) × (slice_get xs i ≡ Some x)
partner [] [] i y n e = absurd (cc)
partner [] (z ∷ ys) i y n e = absurd (omega arith)
partner (x ∷ xs) [] i y n e = absurd (cc)
partner (x ∷ xs) (z ∷ ys) zero y n e = (x, refl)
partner (x ∷ xs) (z ∷ ys) (suc i) y n e = partner xs ys i y (omega arith) e

-- the effect of the values so far is a set
start_set : (e : List ℕ) → fits.Have [] ≡ fits.Have e → IsSet 512 e
start_set e same = let one : ◌≡◌ {A = List ℕ} [] e = cc in subst (λ f. IsSet 512 f) one tt

pushed_set : (sofar : Fits) (i : ℕ) (u : Fit) → ((e : List ℕ) → sofar ≡ fits.Have e → IsSet 512 e) → ((f : List ℕ) → u ≡ fit.Has f → IsSet 512 f) → (e : List ℕ) → push_fit sofar i u ≡ fits.Have e → IsSet 512 e
pushed_set (fits.Have a) i (fit.Has f) g h e same = let one : union a f ≡ e = cc in subst (λ z. IsSet 512 z) one (IsSetFrom-union 0 512 a f (g a refl) (h f refl))
pushed_set (fits.Have a) i fit.Misfit g h e same = absurd (cc)
pushed_set (fits.Have a) i (fit.Fails fault) g h e same = absurd (cc)
pushed_set (fits.Misfit m) i (fit.Has f) g h e same = absurd (cc)
pushed_set (fits.Misfit m) i fit.Misfit g h e same = absurd (cc)
pushed_set (fits.Misfit m) i (fit.Fails fault) g h e same = absurd (cc)
pushed_set (fits.Fails fault) i u g h e same = absurd (cc)

module _ (p : Program) (k : ℕ) (s : Scope) (c : IsScopeOf p k s) (owner : Option ℕ) where
  pub type_at : (ts : List TypeRef) (i : ℕ) (t : TypeRef) → TypesInRange p k s owner ts → slice_get ts i ≡ Some t → IsTypeOf p k t
  type_at ts i t range e = range t (In-slice_get ts i t e)

  ------------------------------------------------------------
  -- The first value is ready, and so are the others after it

  first_ready : (table : Table) (x : Value) (xs : Values) → ValuesReady p k s owner table (more x xs) → ValueReady p k s owner table x
  first_ready table x xs r = (r.0, r.1.0, ready_left p k s table r.0 (value_vals x) (values_vals xs) r.2)

  others_ready : (old new : Table) (x : Value) (xs : Values) (P : Type 0) → ValuesReady p k s owner old (more x xs) → Moves p k s old new (value_vals x) P → ValuesReady p k s owner new xs
  others_ready old new x xs P r m = (r.0, r.1.1, ready_right p k s old new r.0 (value_vals x) (values_vals xs) P r.2 m)

  module _ (xs : List v.Value) where
    from_here : (table : Table) (i : ℕ) (x : v.Value) → slice_get xs i ≡ Some x → ValuesReady p k s owner table (values_of (drop i xs)) → ValuesReady p k s owner table (more (value_of x) (values_of (drop (i + 1) xs)))
    from_here table i x e r = subst (λ l. ValuesReady p k s owner table (values_of l)) (drop_there xs i x e) r

    next_ready : (table : Table) (i : ℕ) (x : v.Value) → slice_get xs i ≡ Some x → ValuesReady p k s owner table (values_of (drop i xs)) → ValueReady p k s owner table (value_of x)
    next_ready table i x e r = first_ready table (value_of x) (values_of (drop (i + 1) xs)) (from_here table i x e r)

    rest_ready : (old new : Table) (i : ℕ) (x : v.Value) (P : Type 0) → slice_get xs i ≡ Some x → ValuesReady p k s owner old (values_of (drop i xs)) → Moves p k s old new (value_vals (value_of x)) P →
        ValuesReady p k s owner new (values_of (drop (i + 1) xs))
    rest_ready old new i x P e r m = others_ready old new (value_of x) (values_of (drop (i + 1) xs)) P (from_here old i x e r) m

    ------------------------------------------------------------
    -- What becomes known by one more, by one that fails, and by all

    more_moves : (old mid new : Table) (i : ℕ) (x : v.Value) (P : Type 0) → slice_get xs i ≡ Some x → Moves p k s old mid (values_vals (values_of (take i xs))) (Unit {0}) → Moves p k s mid new (value_vals (value_of x)) P → P →
        Moves p k s old new (values_vals (values_of (take (i + 1) xs))) (Unit {0})
    more_moves old mid new i x P e m n h =
        subst (λ l. Moves p k s old new l (Unit {0})) (values_vals_there xs i x e)
        (moves_both p k s old mid new (values_vals (values_of (take i xs))) (value_vals (value_of x)) (Unit {0}) P (Unit {0}) m n (λ z. z) (λ z. h))

    failing_moves : (old mid new : Table) (i : ℕ) (x : v.Value) (P : Type 0) → slice_get xs i ≡ Some x → Moves p k s old mid (values_vals (values_of (take i xs))) (Unit {0}) → Moves p k s mid new (value_vals (value_of x)) P →
        Moves p k s old new (values_vals (values_of xs)) ⊥
    failing_moves old mid new i x P e m n =
        moves_among p k s old new (values_vals (values_of (take (i + 1) xs))) (values_vals (values_of xs)) ⊥ ⊥
        (subst (λ l. Moves p k s old new l ⊥) (values_vals_there xs i x e)
        (moves_both p k s old mid new (values_vals (values_of (take i xs))) (value_vals (value_of x)) (Unit {0}) P ⊥ m n (λ z. tt) (λ z. absurd z)))
        (λ j among. values_vals_within xs (i + 1) j among) (λ z. z)

    all_moves : (old new : Table) (i : ℕ) (P : Type 0) → length xs ≤ i → Moves p k s old new (values_vals (values_of (take i xs))) (Unit {0}) → Moves p k s old new (values_vals (values_of xs)) P
    all_moves old new i P short m =
        subst (λ l. Moves p k s old new (values_vals (values_of l)) P) (take_all i xs short) (moves_under p k s old new (values_vals (values_of (take i xs))) (Unit {0}) P m (λ z. tt))

    ------------------------------------------------------------
    -- Each at its type

    module _ (ts : List TypeRef) where
      pub fitting_start : (table : Table) → length xs ≡ length ts → ValuesReady p k s owner table (values_of xs) → Fitting p k s owner table table xs ts 0 (fits.Have [])
      fitting_start table n r = record {
        as_many = n;
        none_fails = tt;
        set = start_set;
        moves = moves_none p k s table (Unit {0}) r.2.range;
        ready = r;
        judged = λ locals a spots i. carry_start p k s (lawful p k s c owner) locals owner spots xs ts;
      }

      pub fitting_ready : (old new : Table) (i : ℕ) (sofar : Fits) (x : v.Value) → Fitting p k s owner old new xs ts i sofar → slice_get xs i ≡ Some x → ValueReady p k s owner new (value_of x)
      fitting_ready old new i sofar x l e = next_ready new i x e l.ready

      pub fitting_more : (old mid new : Table) (i : ℕ) (sofar : Fits) (x : v.Value) (t : TypeRef) (u : Fit) → Fitting p k s owner old mid xs ts i sofar → slice_get xs i ≡ Some x → slice_get ts i ≡ Some t →
          FitsTo p k s owner mid new (value_of x) t u → FitStands u → ((f : List ℕ) → u ≡ fit.Has f → IsSet 512 f) → Fitting p k s owner old new xs ts (i + 1) (push_fit sofar i u)
      fitting_more old mid new i sofar x t u l e g h stands set = record {
        as_many = l.as_many;
        none_fails = pushed_none_fails sofar i u l.none_fails (λ fault same. subst (λ z. FitStands z) same stands);
        set = pushed_set sofar i u l.set set;
        moves = more_moves old mid new i x (FitStands u) e l.moves h.moves stands;
        ready = rest_ready mid new i x (FitStands u) e l.ready h.moves;
        judged = λ locals a spots n. (
            let here = partner spots ts i t n.as_many g in
            let before = agrees_before p k s (scope_reading p k s) locals mid new (value_vals (value_of x)) (FitStands u) h.moves a in
            carry_more p k s (lawful p k s c owner) locals owner spots xs ts i sofar x here.0 t u e here.1 g (h.judged locals a here.0 (n.each i here.0 t here.1 g)) (l.judged locals before spots n)
            );
      }

      -- .. which has its type, or has it not
      pub fitting_has : (old mid new : Table) (i : ℕ) (sofar : Fits) (x : v.Value) (t : TypeRef) (f : List ℕ) → Fitting p k s owner old mid xs ts i sofar → slice_get xs i ≡ Some x → slice_get ts i ≡ Some t →
          FitsTo p k s owner mid new (value_of x) t (fit.Has f) → IsSet 512 f → Fitting p k s owner old new xs ts (i + 1) (push_fit sofar i (fit.Has f))
      fitting_has old mid new i sofar x t f l e g h set = fitting_more old mid new i sofar x t (fit.Has f) l e g h tt (λ a same. (let one : f ≡ a = cc in subst (λ z. IsSet 512 z) one set))

      pub fitting_misfits : (old mid new : Table) (i : ℕ) (sofar : Fits) (x : v.Value) (t : TypeRef) → Fitting p k s owner old mid xs ts i sofar → slice_get xs i ≡ Some x → slice_get ts i ≡ Some t →
          FitsTo p k s owner mid new (value_of x) t fit.Misfit → Fitting p k s owner old new xs ts (i + 1) (push_fit sofar i fit.Misfit)
      fitting_misfits old mid new i sofar x t l e g h = fitting_more old mid new i sofar x t fit.Misfit l e g h tt (λ a same. absurd (cc))

      -- .. in which a node fails
      pub fitting_fails : (old mid new : Table) (i : ℕ) (sofar : Fits) (x : v.Value) (t : TypeRef) (fault : Fault) → Fitting p k s owner old mid xs ts i sofar → slice_get xs i ≡ Some x → slice_get ts i ≡ Some t →
          FitsTo p k s owner mid new (value_of x) t (fit.Fails fault) → AllFitTo p k s owner old new xs ts (fits.Fails fault)
      fitting_fails old mid new i sofar x t fault l e g h = record {
        moves = failing_moves old mid new i x ⊥ e l.moves h.moves;
        judged = λ locals a spots n. (
            let here = partner spots ts i t n.as_many g in
            let before = agrees_before p k s (scope_reading p k s) locals mid new (value_vals (value_of x)) ⊥ h.moves a in
            carry_fails p k s (lawful p k s c owner) locals owner spots xs ts i sofar x here.0 t fault e here.1 g l.none_fails (h.judged locals a here.0 (n.each i here.0 t here.1 g)) (l.judged locals before spots n)
            );
      }

      pub fitting_end : (old new : Table) (i : ℕ) (sofar : Fits) → length xs ≤ i → Fitting p k s owner old new xs ts i sofar → AllFitTo p k s owner old new xs ts sofar
      fitting_end old new i sofar short l = record {
        moves = all_moves old new i (NoneFails sofar) short l.moves;
        judged = λ locals a spots n. (
            let many = l.as_many in
            let enough : length ts ≤ i = omega arith in
            carry_end p k s (lawful p k s c owner) locals owner spots xs ts i 512 sofar short enough l.set (l.judged locals a spots n)
            );
      }

    ------------------------------------------------------------
    -- Where no types are expected

    pub probing_start : (table : Table) → ValuesReady p k s owner table (values_of xs) → Probing p k s owner table table xs 0
    probing_start table r = record {
      moves = moves_none p k s table (Unit {0}) r.2.range;
      ready = r;
      judged = λ locals a spots i. probe_start p k s (lawful p k s c owner) locals owner spots xs;
    }

    pub probing_ready : (old new : Table) (i : ℕ) (x : v.Value) → Probing p k s owner old new xs i → slice_get xs i ≡ Some x → ValueReady p k s owner new (value_of x)
    probing_ready old new i x l e = next_ready new i x e l.ready

    pub probing_more : (old mid new : Table) (i : ℕ) (x : v.Value) → Probing p k s owner old mid xs i → slice_get xs i ≡ Some x → ProbesTo p k s owner mid new (value_of x) None → Probing p k s owner old new xs (i + 1)
    probing_more old mid new i x l e h = record {
      moves = more_moves old mid new i x (NoFault None) e l.moves h.moves tt;
      ready = rest_ready mid new i x (NoFault None) e l.ready h.moves;
      judged = λ locals a spots n. (
          let here = partner spots xs i x n.as_many e in
          let before = agrees_before p k s (scope_reading p k s) locals mid new (value_vals (value_of x)) (NoFault None) h.moves a in
          probe_more p k s (lawful p k s c owner) locals owner spots xs i x here.0 e here.1 (h.judged locals a here.0 (n.each i here.0 here.1)) (l.judged locals before spots n)
          );
    }

    pub probing_fails : (old mid new : Table) (i : ℕ) (x : v.Value) (fault : Fault) → Probing p k s owner old mid xs i → slice_get xs i ≡ Some x → ProbesTo p k s owner mid new (value_of x) (Some fault) →
        AllProbeTo p k s owner old new xs (Some fault)
    probing_fails old mid new i x fault l e h = record {
      moves = failing_moves old mid new i x (NoFault (Some fault)) e l.moves h.moves;
      judged = λ locals a spots n. (
          let here = partner spots xs i x n.as_many e in
          let before = agrees_before p k s (scope_reading p k s) locals mid new (value_vals (value_of x)) (NoFault (Some fault)) h.moves a in
          probe_fails p k s (lawful p k s c owner) locals owner spots xs i x here.0 fault e here.1 (h.judged locals a here.0 (n.each i here.0 here.1)) (l.judged locals before spots n)
          );
    }

    pub probing_end : (old new : Table) (i : ℕ) → length xs ≤ i → Probing p k s owner old new xs i → AllProbeTo p k s owner old new xs None
    probing_end old new i short l = record {
      moves = all_moves old new i (NoFault None) short l.moves;
      judged = λ locals a spots n. probe_end p k s (lawful p k s c owner) locals owner spots xs i short (l.judged locals a spots n);
    }
