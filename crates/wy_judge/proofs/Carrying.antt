-- Several values, as the code judges them one after the other: what those before a number came to is carried on.
use Rattle.std.proofs.Common.{◌≡◌, ℕ, ◌+◌, ◌≤◌, List, [], ◌∷◌, refl, sym, subst, Option, Some, None, drop, length, arith}
use Rattle.std.specs.Prelude.{slice_get}
use Rattle.wy_text.specs.declared.fault.Fault.{Fault}
use Rattle.wy_effects.specs.EffSet.{IsSet, union}
use Rattle.wy_types.specs.declared.types.TypeRef.{TypeRef}
use Rattle.wy_types.specs.declared.code.Value as v
use Rattle.wy_types.specs.Code.{more}
use Rattle.wy_types.specs.Program.{Program, Scope}
use Rattle.wy_types.specs.View.{value_of, values_of}
use Rattle.wy_rules.specs.Acceptance.{scope_reading}
use Rattle.wy_rules.specs.Nodes.{Spot}
use Rattle.wy_rules.proofs.Forms.{Lawful}
use Rattle.wy_judge.specs.Fit.{Fit}
use Rattle.wy_judge.specs.Fit as fit
use Rattle.wy_judge.specs.Fits.{Fits}
use Rattle.wy_judge.specs.Fits as fits
use Rattle.wy_judge.specs.Outcomes.{more_fits, then_fits, push_fit, NoneFails}
use Rattle.wy_judge.specs.Judged.{Fitted, Probed, AllFitted, AllProbed, Carries, CarriesProbed}
use Rattle.wy_judge.proofs.Dropping.{drop_there, drop_past}
use Rattle.wy_judge.proofs.FirstAndOthers.{none_fitted, more_fitted, first_value_fails, none_probed, more_probed, first_probe_fails}
use Rattle.wy_judge.proofs.Unions.{union_grouped, union_nothing}

-- no node fails where none has failed so far and none does in the next value
pub pushed_none_fails : (sofar : Fits) (i : ℕ) (u : Fit) → NoneFails sofar → ((fault : Fault) → u ≡ fit.Fails fault → ⊥) → NoneFails (push_fit sofar i u)
pushed_none_fails (fits.Have e) i (fit.Has f) n h = tt
pushed_none_fails (fits.Have e) i fit.Misfit n h = tt
pushed_none_fails (fits.Have e) i (fit.Fails fault) n h = absurd (h fault refl)
pushed_none_fails (fits.Misfit m) i (fit.Has f) n h = tt
pushed_none_fails (fits.Misfit m) i fit.Misfit n h = tt
pushed_none_fails (fits.Misfit m) i (fit.Fails fault) n h = absurd (h fault refl)
pushed_none_fails (fits.Fails other) i u n h = absurd n

module _ (p : Program) (k : ℕ) (s : Scope) (w : Lawful (scope_reading p k s)) (locals : List (scope_reading p k s).Kind) (owner : Option ℕ) where
  module _ (spots : List Spot) (xs : List v.Value) (ts : List TypeRef) where
    -- the first misfit, by its number in another form
    renumbered : (n m : ℕ) → n ≡ m → AllFitted p k s locals owner spots (values_of xs) ts (fits.Misfit n) → AllFitted p k s locals owner spots (values_of xs) ts (fits.Misfit m)
    renumbered n m e h = subst (λ i. AllFitted p k s locals owner spots (values_of xs) ts (fits.Misfit i)) e h

    regrouped : (e f : List ℕ) → e ≡ f → AllFitted p k s locals owner spots (values_of xs) ts (fits.Have e) → AllFitted p k s locals owner spots (values_of xs) ts (fits.Have f)
    regrouped e f same h = subst (λ g. AllFitted p k s locals owner spots (values_of xs) ts (fits.Have g)) same h

    from_start : (rest : Fits) → AllFitted p k s locals owner spots (values_of xs) ts rest → AllFitted p k s locals owner spots (values_of xs) ts (then_fits 0 (fits.Have []) rest)
    from_start (fits.Have f) h = h
    from_start (fits.Misfit n) h = renumbered n (0 + n) (omega arith) h
    from_start (fits.Fails fault) h = h

    pub carry_start : Carries p k s locals owner spots xs ts 0 (fits.Have [])
    carry_start = record { carries = from_start }

    -- one value, and then the rest, after those before
    moved : (i : ℕ) (sofar : Fits) (u : Fit) (rest : Fits) → AllFitted p k s locals owner spots (values_of xs) ts (then_fits i sofar (more_fits u rest)) →
        AllFitted p k s locals owner spots (values_of xs) ts (then_fits (i + 1) (push_fit sofar i u) rest)
    moved i (fits.Have e) (fit.Has f) (fits.Have g) h = regrouped (union e (union f g)) (union (union e f) g) (union_grouped e f g) h
    moved i (fits.Have e) (fit.Has f) (fits.Misfit n) h = renumbered (i + (n + 1)) (i + 1 + n) (omega arith) h
    moved i (fits.Have e) (fit.Has f) (fits.Fails fault) h = h
    moved i (fits.Have e) fit.Misfit (fits.Have g) h = renumbered (i + 0) i (omega arith) h
    moved i (fits.Have e) fit.Misfit (fits.Misfit n) h = renumbered (i + 0) i (omega arith) h
    moved i (fits.Have e) fit.Misfit (fits.Fails fault) h = h
    moved i (fits.Have e) (fit.Fails fault) rest h = h
    moved i (fits.Misfit m) (fit.Has f) (fits.Have g) h = h
    moved i (fits.Misfit m) (fit.Has f) (fits.Misfit n) h = h
    moved i (fits.Misfit m) (fit.Has f) (fits.Fails fault) h = h
    moved i (fits.Misfit m) fit.Misfit (fits.Have g) h = h
    moved i (fits.Misfit m) fit.Misfit (fits.Misfit n) h = h
    moved i (fits.Misfit m) fit.Misfit (fits.Fails fault) h = h
    moved i (fits.Misfit m) (fit.Fails fault) rest h = h
    moved i (fits.Fails fault) u rest h = h

    -- the values from a number on are the one of that number and the rest
    from_here : (i : ℕ) (x : v.Value) (spot : Spot) (t : TypeRef) (v : Fits) → slice_get xs i ≡ Some x → slice_get spots i ≡ Some spot → slice_get ts i ≡ Some t →
        AllFitted p k s locals owner (spot ∷ drop (i + 1) spots) (more (value_of x) (values_of (drop (i + 1) xs))) (t ∷ drop (i + 1) ts) v → AllFitted p k s locals owner (drop i spots) (values_of (drop i xs)) (drop i ts) v
    from_here i x spot t v e f g h =
        subst (λ z. AllFitted p k s locals owner (drop i spots) (values_of (drop i xs)) z v) (sym (drop_there ts i t g))
        (subst (λ z. AllFitted p k s locals owner (drop i spots) (values_of z) (t ∷ drop (i + 1) ts) v) (sym (drop_there xs i x e))
        (subst (λ z. AllFitted p k s locals owner z (values_of (x ∷ drop (i + 1) xs)) (t ∷ drop (i + 1) ts) v) (sym (drop_there spots i spot f)) h))

    pub carry_more : (i : ℕ) (sofar : Fits) (x : v.Value) (spot : Spot) (t : TypeRef) (u : Fit) → slice_get xs i ≡ Some x → slice_get spots i ≡ Some spot → slice_get ts i ≡ Some t →
        Fitted p k s locals owner spot (value_of x) t u → Carries p k s locals owner spots xs ts i sofar → Carries p k s locals owner spots xs ts (i + 1) (push_fit sofar i u)
    carry_more i sofar x spot t u e f g h c = record {
      carries = λ rest r.
          moved i sofar u rest
          (c.carries (more_fits u rest)
          (from_here i x spot t (more_fits u rest) e f g
          (more_fitted p k s w locals owner spot (drop (i + 1) spots) (value_of x) (values_of (drop (i + 1) xs)) t (drop (i + 1) ts) u rest h r)));
    }

    -- the next value fails: so do all
    failed : (i : ℕ) (sofar : Fits) (fault : Fault) → NoneFails sofar → AllFitted p k s locals owner spots (values_of xs) ts (then_fits i sofar (fits.Fails fault)) → AllFitted p k s locals owner spots (values_of xs) ts (fits.Fails fault)
    failed i (fits.Have e) fault n h = h
    failed i (fits.Misfit m) fault n h = h
    failed i (fits.Fails other) fault n h = absurd n

    pub carry_fails : (i : ℕ) (sofar : Fits) (x : v.Value) (spot : Spot) (t : TypeRef) (fault : Fault) → slice_get xs i ≡ Some x → slice_get spots i ≡ Some spot → slice_get ts i ≡ Some t → NoneFails sofar →
        Fitted p k s locals owner spot (value_of x) t (fit.Fails fault) → Carries p k s locals owner spots xs ts i sofar → AllFitted p k s locals owner spots (values_of xs) ts (fits.Fails fault)
    carry_fails i sofar x spot t fault e f g n h c =
        failed i sofar fault n
        (c.carries (fits.Fails fault)
        (from_here i x spot t (fits.Fails fault) e f g
        (first_value_fails p k s w locals owner spot (drop (i + 1) spots) (value_of x) (values_of (drop (i + 1) xs)) t (drop (i + 1) ts) fault h)))

    -- no value is left
    ended : (i n : ℕ) (sofar : Fits) → ((e : List ℕ) → sofar ≡ fits.Have e → IsSet n e) → AllFitted p k s locals owner spots (values_of xs) ts (then_fits i sofar (fits.Have [])) → AllFitted p k s locals owner spots (values_of xs) ts sofar
    ended i n (fits.Have e) set h = regrouped (union e []) e (union_nothing n e (set e refl)) h
    ended i n (fits.Misfit m) set h = h
    ended i n (fits.Fails fault) set h = h

    pub carry_end : (i n : ℕ) (sofar : Fits) → length xs ≤ i → length ts ≤ i → ((e : List ℕ) → sofar ≡ fits.Have e → IsSet n e) →
        Carries p k s locals owner spots xs ts i sofar → AllFitted p k s locals owner spots (values_of xs) ts sofar
    carry_end i n sofar short enough set c =
        ended i n sofar set
        (c.carries (fits.Have [])
        (subst (λ z. AllFitted p k s locals owner (drop i spots) (values_of (drop i xs)) z (fits.Have [])) (sym (drop_past ts i enough))
        (subst (λ z. AllFitted p k s locals owner (drop i spots) (values_of z) [] (fits.Have [])) (sym (drop_past xs i short)) (none_fitted p k s w locals owner (drop i spots)))))

  ------------------------------------------------------------
  -- Where no types are expected

  module _ (spots : List Spot) (xs : List v.Value) where
    pub probe_start : CarriesProbed p k s locals owner spots xs 0
    probe_start = record { carries = λ rest h. h }

    probed_here : (i : ℕ) (x : v.Value) (spot : Spot) (o : Option Fault) → slice_get xs i ≡ Some x → slice_get spots i ≡ Some spot →
        AllProbed p k s locals owner (spot ∷ drop (i + 1) spots) (more (value_of x) (values_of (drop (i + 1) xs))) o → AllProbed p k s locals owner (drop i spots) (values_of (drop i xs)) o
    probed_here i x spot o e f h =
        subst (λ z. AllProbed p k s locals owner (drop i spots) (values_of z) o) (sym (drop_there xs i x e))
        (subst (λ z. AllProbed p k s locals owner z (values_of (x ∷ drop (i + 1) xs)) o) (sym (drop_there spots i spot f)) h)

    pub probe_more : (i : ℕ) (x : v.Value) (spot : Spot) → slice_get xs i ≡ Some x → slice_get spots i ≡ Some spot → Probed p k s locals owner spot (value_of x) None →
        CarriesProbed p k s locals owner spots xs i → CarriesProbed p k s locals owner spots xs (i + 1)
    probe_more i x spot e f h c = record {
      carries = λ rest r. c.carries rest (probed_here i x spot rest e f (more_probed p k s w locals owner spot (drop (i + 1) spots) (value_of x) (values_of (drop (i + 1) xs)) None rest h r));
    }

    pub probe_fails : (i : ℕ) (x : v.Value) (spot : Spot) (fault : Fault) → slice_get xs i ≡ Some x → slice_get spots i ≡ Some spot → Probed p k s locals owner spot (value_of x) (Some fault) →
        CarriesProbed p k s locals owner spots xs i → AllProbed p k s locals owner spots (values_of xs) (Some fault)
    probe_fails i x spot fault e f h c = c.carries (Some fault) (probed_here i x spot (Some fault) e f (first_probe_fails p k s w locals owner spot (drop (i + 1) spots) (value_of x) (values_of (drop (i + 1) xs)) fault h))

    pub probe_end : (i : ℕ) → length xs ≤ i → CarriesProbed p k s locals owner spots xs i → AllProbed p k s locals owner spots (values_of xs) None
    probe_end i short c = c.carries None (subst (λ z. AllProbed p k s locals owner (drop i spots) (values_of z) None) (sym (drop_past xs i short)) (none_probed p k s w locals owner (drop i spots)))
