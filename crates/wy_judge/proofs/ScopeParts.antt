-- The parts of a scope as the code judges them: its start, a body, its bodies one after the other, and the whole.
use Rattle.std.proofs.Common.{◌≡◌, ℕ, ◌<◌, List, [], length, refl, sym, ap, subst, ◌∙◌, Option, Some, None, Bool as Truth, true, false, map}
use Rattle.std.specs.Prelude.{slice_get}
use Rattle.std.specs.Option.{option_map}
use Rattle.std.proofs.lemmas.Option.{slice_get-map}
use Rattle.wy_text.specs.declared.fault.Place.{Place}
use Rattle.wy_text.specs.declared.fault.Fault.{Fault}
use Rattle.wy_text.specs.Members.{In}
use Rattle.wy_effects.specs.Bounds.{IsWidened}
use Rattle.wy_effects.specs.Widened.{widened_set}
use Rattle.wy_text.proofs.Lists.{In-slice_get, In-at}
use Rattle.wy_effects.proofs.Widening.{widened_is}
use Rattle.wy_types.specs.declared.types.TypeRef.TheVariants.{Unit as Nothing}
use Rattle.wy_types.specs.declared.code.Value as v
use Rattle.wy_types.specs.declared.resolved.Body as b
use Rattle.wy_types.specs.declared.resolved.Scope as sc
use Rattle.wy_types.specs.Code.{Block}
use Rattle.wy_types.specs.View.{values_of}
use Rattle.wy_types.specs.Program.{Program, Scope, Body, Init, Run, body_of, scope_of, program_of}
use Rattle.wy_types.specs.declared.resolved.Core.{Core}
use Rattle.wy_types.specs.Core.{IsCore}
use Rattle.wy_types.specs.Types.{is_plain}
use Rattle.wy_types.specs.Bounds.{bounds_of}
use Rattle.wy_types.proofs.Bounding.{go_down}
use Rattle.wy_rules.specs.Typing.{fields_of, field_types}
use Rattle.wy_judge.specs.Fit.{Fit}
use Rattle.wy_judge.specs.Fit as fit
use Rattle.wy_judge.specs.Fits.{Fits}
use Rattle.wy_judge.specs.Fits as fits
use Rattle.wy_judge.specs.declared.scopes.Judged.TheVariants.{Passes, Fails}
use Rattle.wy_judge.specs.Outcomes.{pure_fault}
use Rattle.wy_judge.specs.Judged.{IsLack, FitLacks, FitsLack}
use Rattle.wy_judge.specs.Judging.{AllFitTo, BlockFitsTo}
use Rattle.wy_judge.specs.Lacks.{LacksIn, FitLacksIn, FitsLackIn, IsBodyFaultOf, IsInitFaultOf}
use Rattle.wy_judge.specs.Results.{as_fit}
use Rattle.wy_judge.specs.Tables.{Table, IsScopeOf}
use Rattle.wy_judge.specs.Targets.{mode_of}
use Rattle.wy_judge.specs.Walking.{StartsTo, BodyTo, BodiesTo, IsSealFault, SealAfter, settled_types, judged_of, IsJudged}
use Rattle.wy_judge.proofs.Contexts.{in_range, scope_fits}
use Rattle.wy_judge.proofs.Judgings.{judged_passes, judged_body, judged_seal}
use Rattle.wy_judge.proofs.Lacking.{plain_lacks_none, within_lacks_none, lacks_atom}
use Rattle.wy_judge.proofs.Starting.{init_to, run_to, body_to}

module _ (p : Program) (k : ℕ) (s : Scope) where
  ------------------------------------------------------------
  -- Effects that are lacking, as the scope's mode asks for them

  -- the declared effect as the code widens it
  pub wide_is : IsScopeOf p k s → (declared : List ℕ) → IsWidened (bounds_of p k) declared (widened_set (bounds_of p k) declared)
  wide_is c declared = widened_is (bounds_of p k) (go_down p (in_range p k s c) k) declared

  module _ (declared wide : List ℕ) (is : IsWidened (bounds_of p k) declared wide) where
    lacks_as : (plain : Truth) (f : List ℕ) (lack : Option ℕ) → is_plain s.kind ≡ plain → LacksIn (mode_of plain) f wide lack → IsLack p k s f declared lack
    lacks_as true f lack e h = subst (IsLack p k s f declared) (sym h) (plain_lacks_none p k s f declared e)
    lacks_as false f None e h = within_lacks_none p k s declared wide is f h
    lacks_as false f (Some a) e h = lacks_atom p k s declared wide is f a e h

    pub fit_lacks : (u : Fit) (lack : Option ℕ) → FitLacksIn (mode_of (is_plain s.kind)) u wide lack → FitLacks p k s u declared lack
    fit_lacks (fit.Has f) lack h = lacks_as (is_plain s.kind) f lack refl h
    fit_lacks fit.Misfit lack h = tt
    fit_lacks (fit.Fails fault) lack h = tt

    pub fits_lack : (u : Fits) (lack : Option ℕ) → FitsLackIn (mode_of (is_plain s.kind)) u wide lack → FitsLack p k s u declared lack
    fits_lack (fits.Have f) lack h = lacks_as (is_plain s.kind) f lack refl h
    fits_lack (fits.Misfit n) lack h = tt
    fits_lack (fits.Fails fault) lack h = tt

  ------------------------------------------------------------
  -- The start and a body

  pub init_as_body : (place : Place) (declared : List ℕ) (u : Fits) (o : Option Fault) → IsBodyFaultOf p k s place declared (as_fit u) o → IsInitFaultOf p k s place declared u o
  init_as_body place declared (fits.Have e) o h = h
  init_as_body place declared (fits.Misfit n) o h = h
  init_as_body place declared (fits.Fails fault) o h = h

  module _ (c : IsScopeOf p k s) where
    pub starts_by_fields : (xs : List v.Value) (old new : Table) (u : Fits) (o : Option Fault) → s.start ≡ Init (values_of xs) → old ≡ [] →
        AllFitTo p k s None old new xs (field_types s 0) u → IsInitFaultOf p k s s.start_place s.start_effect u o → StartsTo p k s [] new o
    starts_by_fields xs old new u o e empty h r =
        let all = subst (λ t. AllFitTo p k s None t new xs (field_types s 0) u) empty h in
        subst (StartsTo p k s [] new) (sym r.2) (init_to p k s xs new u r.0 e all (fits_lack s.start_effect _ (wide_is c s.start_effect) u r.0 r.1))

    pub starts_by_block : (x : Block) (old new : Table) (u : Fit) (o : Option Fault) → s.start ≡ Run x → old ≡ [] →
        BlockFitsTo p k s None old new x Nothing u → IsBodyFaultOf p k s s.start_place s.start_effect u o → StartsTo p k s [] new o
    starts_by_block x old new u o e empty h r =
        let all = subst (λ t. BlockFitsTo p k s None t new x Nothing u) empty h in
        subst (StartsTo p k s [] new) (sym r.2) (run_to p k s x new u r.0 e all (fit_lacks s.start_effect _ (wide_is c s.start_effect) u r.0 r.1))

    pub body_by_block : (x : Body) (old new : Table) (u : Fit) (o : Option Fault) → BlockFitsTo p k s (Some x.owner) old new x.block x.signature.result u →
        IsBodyFaultOf p k s x.place x.signature.effect u o → BodyTo p k s old new x o
    body_by_block x old new u o h r = subst (BodyTo p k s old new x) (sym r.2) (body_to p k s x old new u r.0 h (fit_lacks x.signature.effect _ (wide_is c x.signature.effect) u r.0 r.1))

    -- .. in which a node fails
    pub starts_fail_in_fields : (xs : List v.Value) (old new : Table) (fault : Fault) → s.start ≡ Init (values_of xs) → old ≡ [] → AllFitTo p k s None old new xs (field_types s 0) (fits.Fails fault) → StartsTo p k s [] new (Some fault)
    starts_fail_in_fields xs old new fault e empty h = starts_by_fields xs old new (fits.Fails fault) (Some fault) e empty h (None, tt, refl)

    pub starts_fail_in_block : (x : Block) (old new : Table) (fault : Fault) → s.start ≡ Run x → old ≡ [] → BlockFitsTo p k s None old new x Nothing (fit.Fails fault) → StartsTo p k s [] new (Some fault)
    starts_fail_in_block x old new fault e empty h = starts_by_block x old new (fit.Fails fault) (Some fault) e empty h (None, tt, refl)

    pub body_fails : (x : Body) (old new : Table) (fault : Fault) → BlockFitsTo p k s (Some x.owner) old new x.block x.signature.result (fit.Fails fault) → BodyTo p k s old new x (Some fault)
    body_fails x old new fault h = body_by_block x old new (fit.Fails fault) (Some fault) h (None, tt, refl)

  pub owner_there : IsScopeOf p k s → (x : Body) → In x s.bodies → x.owner < length s.literals
  owner_there c x i = (let at = In-at x s.bodies i in ((scope_fits p k s c).bodies at.0 x at.2).0)

  ------------------------------------------------------------
  -- The bodies

  module _ (c : IsScopeOf p k s) (bodies : List b.Body) (same : s.bodies ≡ map body_of bodies) where
    pub body_in : (i : ℕ) (x : b.Body) → slice_get bodies i ≡ Some x → In (body_of x) s.bodies
    body_in i x e = In-slice_get s.bodies i (body_of x) (ap (λ l. slice_get l i) same ∙ slice_get-map body_of bodies i ∙ ap (option_map body_of) e)

  ------------------------------------------------------------
  -- The whole

  pub fails_after : (a z : Table) (bodies : Option Fault) (fault : Fault) → pure_fault s.kind (fields_of s 0) s.names ≡ None → StartsTo p k s [] a None → BodiesTo p k s a z bodies → SealAfter p k s bodies (Some fault) →
      IsJudged p k s (Fails fault)
  fails_after a z None fault pure starts h seal = judged_seal p k s a z fault pure starts h seal
  fails_after a z (Some g) fault pure starts h seal = (let same : g ≡ fault = cc in judged_body p k s a z fault pure starts (subst (λ (f : Fault). BodiesTo p k s a z (Some f)) same h))

  pub passes_after : (a z : Table) (bodies : Option Fault) → IsScopeOf p k s → pure_fault s.kind (fields_of s 0) s.names ≡ None → StartsTo p k s [] a None → BodiesTo p k s a z bodies → SealAfter p k s bodies None →
      IsJudged p k s (Passes (settled_types z))
  passes_after a z None c pure starts h seal = judged_passes p k s a z (scope_fits p k s c).numbered pure starts h seal
  passes_after a z (Some g) c pure starts h seal = absurd (cc)

  -- .. by the seal, which comes last
  pub judged_at_seal : (a z : Table) (o : Option Fault) → IsScopeOf p k s → pure_fault s.kind (fields_of s 0) s.names ≡ None → StartsTo p k s [] a None → BodiesTo p k s a z None → IsSealFault p k s o → IsJudged p k s (judged_of z o)
  judged_at_seal a z None c pure starts h seal = passes_after a z None c pure starts h seal
  judged_at_seal a z (Some fault) c pure starts h seal = fails_after a z None fault pure starts h seal

-- the scope of a number, as the code has it
pub scope_there : (core : Core) (k : ℕ) (x : sc.Scope) → IsCore (program_of core) → slice_get core.scopes k ≡ Some x → IsScopeOf (program_of core) k (scope_of x)
scope_there core k x c e = record { core = c; there = slice_get-map scope_of core.scopes k ∙ ap (option_map scope_of) e }
