-- The start of a scope: it is judged while no `val` is known, and what it comes to.
use Rattle.std.proofs.Common.{◌≡◌, ℕ, List, [], refl, sym, subst, ◌∙◌, Option, Some, None, length}
use Rattle.std.specs.Prelude.{slice_get}
use Rattle.std.proofs.lemmas.List.{length-map}
use Rattle.wy_text.specs.declared.fault.AtomName.{AtomName}
use Rattle.wy_text.specs.declared.fault.Place.{Place}
use Rattle.wy_text.specs.Members.{Apart}
use Rattle.wy_types.specs.declared.types.TypeRef.{TypeRef}
use Rattle.wy_types.specs.declared.types.TypeRef.TheVariants.{Unit as Nothing}
use Rattle.wy_types.specs.declared.resolved.Field.{Field}
use Rattle.wy_types.specs.declared.code.Value as v
use Rattle.wy_types.specs.Code.{Values, Block}
use Rattle.wy_types.specs.View.{values_of}
use Rattle.wy_types.specs.Program.{Program, Scope, Body, Start, Init, Run}
use Rattle.wy_types.specs.Core.{StartFits}
use Rattle.wy_types.specs.Vals.{value_count, start_vals, bodies_vals, values_vals, block_vals}
use Rattle.wy_rules.specs.Readings.{Reading}
use Rattle.wy_rules.specs.Typing.{fields_of, field_types}
use Rattle.wy_rules.specs.Nodes.{written, written_spots, start_nodes}
use Rattle.wy_judge.specs.Fit.{Fit}
use Rattle.wy_judge.specs.Fit as fit
use Rattle.wy_judge.specs.Fits.{Fits}
use Rattle.wy_judge.specs.Fits as fits
use Rattle.wy_judge.specs.Outcomes.{NoneFails, body_fault, init_fault}
use Rattle.wy_judge.specs.Judged.{FitLacks, FitsLack, NodesJudged}
use Rattle.wy_judge.specs.Judging.{NoFault, FitStands, AllFitTo, BlockFitsTo}
use Rattle.wy_judge.specs.Tables.{Table, IsKnown, Agrees, AllInRange, Moves, IsScopeOf, IsReady, ValuesReady, BlockReady}
use Rattle.wy_judge.specs.Walking.{StartsTo, BodyTo}
use Rattle.wy_judge.proofs.Apart.{Apart-left}
use Rattle.wy_judge.proofs.Bodies.{body_judged, run_judged, init_judged}
use Rattle.wy_judge.proofs.Contexts.{scope_fits, lawful}
use Rattle.wy_judge.proofs.Expecting.{count_values, written_expected}
use Rattle.wy_judge.proofs.Moving.{moves_under}

------------------------------------------------------------
-- The empty table

pub none_known : (n : ℕ) → IsKnown [] n → ⊥
none_known n i = none_there i.0 i.1
  where
    none_there : (t : TypeRef) → slice_get {X = Option TypeRef} [] n ≡ Some (Some t) → ⊥
    none_there t e = absurd (cc)

pub empty_agrees : (y : Reading) (locals : List y.Kind) → Agrees y locals []
empty_agrees y locals n t e = absurd (none_known n (t, e))

pub empty_range : (p : Program) (k : ℕ) (s : Scope) → AllInRange p k s []
empty_range p k s n t e = absurd (none_known n (t, e))

-- where the whole has no fault no part fails
pub init_stands : (place : Place) (atoms : List AtomName) (lack : Option ℕ) (u : Fits) → NoFault (init_fault place atoms lack u) → NoneFails u
init_stands place atoms lack (fits.Have e) h = tt
init_stands place atoms lack (fits.Misfit n) h = tt
init_stands place atoms lack (fits.Fails fault) h = h

pub body_stands : (place : Place) (atoms : List AtomName) (lack : Option ℕ) (u : Fit) → NoFault (body_fault place atoms lack u) → FitStands u
body_stands place atoms lack (fit.Has e) h = tt
body_stands place atoms lack fit.Misfit h = tt
body_stands place atoms lack (fit.Fails fault) h = h

module _ (p : Program) (k : ℕ) (s : Scope) (c : IsScopeOf p k s) where
  ------------------------------------------------------------
  -- The start can be judged

  empty_ready : (vals : List ℕ) → Apart vals → IsReady p k s [] [] vals
  empty_ready vals a = record {
    range = empty_range p k s;
    locals = λ n i. absurd i;
    parameters = λ j i h. absurd h;
    fresh = λ n i known. none_known n known;
    apart = a;
  }

  start_differ : (start : Start) → s.start ≡ start → Apart (start_vals start)
  start_differ start e = subst (λ (v : Start). Apart (start_vals v)) e (Apart-left (start_vals s.start) (bodies_vals s.bodies) (scope_fits p k s c).vals)

  start_fits : (start : Start) → s.start ≡ start → StartFits p s start
  start_fits start e = subst (λ (v : Start). StartFits p s v) e (scope_fits p k s c).starts.1

  pub values_start : (xs : Values) → s.start ≡ Init xs → ValuesReady p k s None [] xs
  values_start xs e = ([], (start_fits (Init xs) e).1, empty_ready (values_vals xs) (start_differ (Init xs) e))

  pub values_as_many : (xs : Values) → s.start ≡ Init xs → value_count xs ≡ length (field_types s 0)
  values_as_many xs e = (start_fits (Init xs) e).0 ∙ sym (length-map (fields_of s 0) (λ (f : Field). f.typ))

  -- .. as the code has them
  pub initialisers_as_many : (xs : List v.Value) → s.start ≡ Init (values_of xs) → length xs ≡ length (field_types s 0)
  initialisers_as_many xs e = sym (count_values xs) ∙ values_as_many (values_of xs) e

  pub block_start : (x : Block) → s.start ≡ Run x → BlockReady p k s None [] x
  block_start x e = ([], start_fits (Run x) e, empty_ready (block_vals x) (start_differ (Run x) e))

module _ (p : Program) (k : ℕ) (s : Scope) where
  ------------------------------------------------------------
  -- What the start comes to, and a body

  pub init_to : (xs : List v.Value) (new : Table) (u : Fits) (lack : Option ℕ) → s.start ≡ Init (values_of xs) → AllFitTo p k s None [] new xs (field_types s 0) u → FitsLack p k s u s.start_effect lack →
      StartsTo p k s [] new (init_fault s.start_place s.atoms lack u)
  init_to xs new u lack e h l = record {
    moves = subst (λ (v : Start). Moves p k s [] new (start_vals v) (NoFault (init_fault s.start_place s.atoms lack u))) (sym e)
        (moves_under p k s [] new (values_vals (values_of xs)) (NoneFails u) (NoFault (init_fault s.start_place s.atoms lack u)) h.moves (init_stands s.start_place s.atoms lack u));
    judged = λ locals agrees.
        subst (λ (v : Start). NodesJudged p k s locals (start_nodes s v) (init_fault s.start_place s.atoms lack u)) (sym e)
        (init_judged p k s (lawful p k s) locals (values_of xs) u lack (h.judged locals agrees (written_spots (field_types s 0)) (written_expected p k s None locals (field_types s 0))) l);
  }

  pub run_to : (x : Block) (new : Table) (u : Fit) (lack : Option ℕ) → s.start ≡ Run x → BlockFitsTo p k s None [] new x Nothing u → FitLacks p k s u s.start_effect lack →
      StartsTo p k s [] new (body_fault s.start_place s.atoms lack u)
  run_to x new u lack e h l = record {
    moves = subst (λ (v : Start). Moves p k s [] new (start_vals v) (NoFault (body_fault s.start_place s.atoms lack u))) (sym e)
        (moves_under p k s [] new (block_vals x) (FitStands u) (NoFault (body_fault s.start_place s.atoms lack u)) h.moves (body_stands s.start_place s.atoms lack u));
    judged = λ locals agrees.
        subst (λ (v : Start). NodesJudged p k s locals (start_nodes s v) (body_fault s.start_place s.atoms lack u)) (sym e)
        (run_judged p k s (lawful p k s) locals x u lack (h.judged locals agrees (written Nothing) refl) l);
  }

  pub body_to : (b : Body) (old new : Table) (u : Fit) (lack : Option ℕ) → BlockFitsTo p k s (Some b.owner) old new b.block b.signature.result u → FitLacks p k s u b.signature.effect lack →
      BodyTo p k s old new b (body_fault b.place s.atoms lack u)
  body_to b old new u lack h l = record {
    moves = moves_under p k s old new (block_vals b.block) (FitStands u) (NoFault (body_fault b.place s.atoms lack u)) h.moves (body_stands b.place s.atoms lack u);
    judged = λ locals agrees. body_judged p k s (lawful p k s) locals b u lack (h.judged locals agrees (written b.signature.result) refl) l;
  }
