-- Several values, each at its type, from the first and the others; and where no type is expected.
use Rattle.std.proofs.Common.{◌≡◌, ℕ, suc, ◌+◌, List, [], ◌∷◌, map, take, refl, sym, subst, Option, Some, None, arith}
use Rattle.wy_text.specs.declared.fault.Fault.{Fault}
use Rattle.wy_effects.specs.EffSet.{union}
use Rattle.wy_types.specs.declared.types.TypeRef.{TypeRef}
use Rattle.wy_types.specs.Code.{Value, Values, none, more}
use Rattle.wy_types.specs.Program.{Program, Scope}
use Rattle.wy_rules.specs.Derivations.{none as no_derivations}
use Rattle.wy_rules.specs.Typing.{HasAt, AllHaveAt}
use Rattle.wy_rules.specs.Acceptance.{scope_reading}
use Rattle.wy_rules.specs.Nodes.{Spot, value_nodes, values_nodes}
use Rattle.wy_rules.specs.Failing.{AllPass, FirstFailing, first_values}
use Rattle.wy_rules.proofs.Forms.{Lawful}
use Rattle.wy_rules.proofs.Least.{no_values, more_values, split, joined}
use Rattle.wy_judge.specs.Fit.{Fit}
use Rattle.wy_judge.specs.Fit as fit
use Rattle.wy_judge.specs.Fits.{Fits}
use Rattle.wy_judge.specs.Fits as fits
use Rattle.wy_judge.specs.Outcomes.{more_fits, fault_or}
use Rattle.wy_judge.specs.Judged.{Fitted, Probed, HaveFirst, AllFitted, AllProbed}
use Rattle.wy_judge.proofs.Fitting.{least_at}
use Rattle.wy_judge.proofs.Lists.{pass_both, fail_left, fail_right}

module _ (p : Program) (k : ℕ) (s : Scope) (w : Lawful (scope_reading p k s)) (locals : List (scope_reading p k s).Kind) (owner : Option ℕ) where
  pub none_fitted : (spots : List Spot) → AllFitted p k s locals owner spots none [] (fits.Have [])
  none_fitted spots = (no_values (scope_reading p k s) w s locals owner, tt)

  pub none_probed : (spots : List Spot) → AllProbed p k s locals owner spots none None
  none_probed spots = tt

  none_have : AllHaveAt (scope_reading p k s) s locals owner none []
  none_have = record { effect = []; have = record { derivations = no_derivations; derives = tt; effects = refl } }

  module _ (spot : Spot) (spots : List Spot) (x : Value) (xs : Values) where
    ------------------------------------------------------------
    -- The first value's type, and how many have theirs

    first_at : (t : TypeRef) (ts : List TypeRef) (n : ℕ) → HaveFirst p k s locals owner (more x xs) (t ∷ ts) (suc n) → HasAt (scope_reading p k s) s locals owner x ((scope_reading p k s).read t)
    first_at t ts n h =
        let c = split (scope_reading p k s) w s locals owner x (first_values (scope_reading p k s) s locals owner n xs) ((scope_reading p k s).read t) (map (scope_reading p k s).read (take n ts)) h.effect h.have in
        record { effect = c.effect; has = c.first }

    others_at : (t : TypeRef) (ts : List TypeRef) (n : ℕ) → HaveFirst p k s locals owner (more x xs) (t ∷ ts) (suc n) → HaveFirst p k s locals owner xs ts n
    others_at t ts n h =
        let c = split (scope_reading p k s) w s locals owner x (first_values (scope_reading p k s) s locals owner n xs) ((scope_reading p k s).read t) (map (scope_reading p k s).read (take n ts)) h.effect h.have in
        record { effect = c.effects; have = c.others }

    both_at : (t : TypeRef) (ts : List TypeRef) (n : ℕ) → HasAt (scope_reading p k s) s locals owner x ((scope_reading p k s).read t) → HaveFirst p k s locals owner xs ts n → HaveFirst p k s locals owner (more x xs) (t ∷ ts) (suc n)
    both_at t ts n h g = record {
      effect = union h.effect g.effect;
      have = joined (scope_reading p k s) w s locals owner x (first_values (scope_reading p k s) s locals owner n xs) ((scope_reading p k s).read t) (map (scope_reading p k s).read (take n ts)) h.effect g.effect h.has g.have;
    }

    ------------------------------------------------------------
    -- At their types

    -- the first value fails: whatever the others
    pub first_value_fails : (t : TypeRef) (ts : List TypeRef) (fault : Fault) → Fitted p k s locals owner spot x t (fit.Fails fault) → AllFitted p k s locals owner (spot ∷ spots) (more x xs) (t ∷ ts) (fits.Fails fault)
    first_value_fails t ts fault f = fail_left p k s locals (value_nodes s owner spot x) (values_nodes s owner spots xs) fault f

    other_fails : (fault : Fault) → AllPass p k s locals (value_nodes s owner spot x) → FirstFailing p k s locals (values_nodes s owner spots xs) fault → FirstFailing p k s locals (values_nodes s owner (spot ∷ spots) (more x xs)) fault
    other_fails fault a f = fail_right p k s locals (value_nodes s owner spot x) (values_nodes s owner spots xs) fault a f

    both_pass : AllPass p k s locals (value_nodes s owner spot x) → AllPass p k s locals (values_nodes s owner spots xs) → AllPass p k s locals (values_nodes s owner (spot ∷ spots) (more x xs))
    both_pass a b = pass_both p k s locals (value_nodes s owner spot x) (values_nodes s owner spots xs) a b

    first_misfit : (t : TypeRef) (ts : List TypeRef) → Fitted p k s locals owner spot x t fit.Misfit → AllPass p k s locals (values_nodes s owner spots xs) → AllFitted p k s locals owner (spot ∷ spots) (more x xs) (t ∷ ts) (fits.Misfit 0)
    first_misfit t ts h a = (none_have, λ g. h.0 (first_at t ts 0 g), both_pass h.1 a)

    pub more_fitted : (t : TypeRef) (ts : List TypeRef) (u : Fit) (v : Fits) → Fitted p k s locals owner spot x t u → AllFitted p k s locals owner spots xs ts v →
        AllFitted p k s locals owner (spot ∷ spots) (more x xs) (t ∷ ts) (more_fits u v)
    more_fitted t ts (fit.Fails fault) v h g = first_value_fails t ts fault h
    more_fitted t ts fit.Misfit (fits.Have f) h g = first_misfit t ts h g.1
    more_fitted t ts fit.Misfit (fits.Misfit n) h g = first_misfit t ts h g.2
    more_fitted t ts fit.Misfit (fits.Fails fault) h g = other_fails fault h.1 g
    more_fitted t ts (fit.Has e) (fits.Have f) h g = (
      more_values (scope_reading p k s) w s locals owner x xs ((scope_reading p k s).read t) (map (scope_reading p k s).read ts) e f (least_at p k s w locals owner x ((scope_reading p k s).read t) e h.0) g.0,
      both_pass h.1 g.1,
    )
    more_fitted t ts (fit.Has e) (fits.Misfit n) h g =
        let same : suc n ≡ n + 1 = omega arith in
        let next : suc (n + 1) ≡ n + 1 + 1 = omega arith in (
          subst (λ m. HaveFirst p k s locals owner (more x xs) (t ∷ ts) m) same (both_at t ts n (record { effect = e; has = h.0.has }) g.0),
          λ i. g.1 (others_at t ts (n + 1) (subst (λ m. HaveFirst p k s locals owner (more x xs) (t ∷ ts) m) (sym next) i)),
          both_pass h.1 g.2,
        )
    more_fitted t ts (fit.Has e) (fits.Fails fault) h g = other_fails fault h.1 g

    ------------------------------------------------------------
    -- Where no types are expected

    pub first_probe_fails : (fault : Fault) → Probed p k s locals owner spot x (Some fault) → AllProbed p k s locals owner (spot ∷ spots) (more x xs) (Some fault)
    first_probe_fails fault f = fail_left p k s locals (value_nodes s owner spot x) (values_nodes s owner spots xs) fault f

    pub more_probed : (o q : Option Fault) → Probed p k s locals owner spot x o → AllProbed p k s locals owner spots xs q → AllProbed p k s locals owner (spot ∷ spots) (more x xs) (fault_or o q)
    more_probed (Some fault) q h g = first_probe_fails fault h
    more_probed None (Some fault) h g = other_fails fault h g
    more_probed None None h g = both_pass h g
