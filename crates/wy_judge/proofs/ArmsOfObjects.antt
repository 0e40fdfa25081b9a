-- New objects, ascriptions and assignments as they are judged by themselves.
use Rattle.std.proofs.Common.{◌≡◌, ℕ, ◌<◌, List, refl, sym, ◌∙◌, length, Option, Some, None, true, false}
use Rattle.std.specs.Prelude.{if◌then◌else◌}
use Rattle.std.proofs.lemmas.List.{length-map}
use Rattle.wy_text.specs.declared.fault.Place.{Place}
use Rattle.wy_text.specs.declared.fault.Fault.{Fault}
use Rattle.wy_types.specs.declared.types.TypeRef.{TypeRef}
use Rattle.wy_types.specs.declared.types.TypeRef.TheVariants.{Own}
use Rattle.wy_types.specs.declared.code.Binding.{Binding}
use Rattle.wy_types.specs.declared.code.Binding.TheVariants as to
use Rattle.wy_types.specs.declared.code.Value as v
use Rattle.wy_types.specs.declared.resolved.Field.{Field}
use Rattle.wy_types.specs.Code.{New, Ascribe, Assign, Value, Values}
use Rattle.wy_types.specs.Vals.{value_vals, values_vals}
use Rattle.wy_types.specs.View.{values_of}
use Rattle.wy_types.specs.Program.{Program, Scope}
use Rattle.wy_types.specs.Fitting.{IsTypeOf}
use Rattle.wy_rules.specs.Typing.{fields_of, field_types, field_at, if_mutable, var_field}
use Rattle.wy_rules.specs.Nodes.{written, written_spots, field_spot}
use Rattle.wy_judge.specs.Fit.{Fit}
use Rattle.wy_judge.specs.Fit as fit
use Rattle.wy_judge.specs.Fits.{Fits}
use Rattle.wy_judge.specs.Fits as fits
use Rattle.wy_judge.specs.Outcomes.{new_outcome, ascribed_outcome, assigned_outcome, unassigned_outcome, NoneFails}
use Rattle.wy_judge.specs.Tables.{Table, IsScopeOf, ExprReady, ValueReady, ValuesReady}
use Rattle.wy_judge.specs.Targets.{IsInRangeOf}
use Rattle.wy_judge.specs.Judging.{InferenceStands, FitStands, NoFault, TypesInRange, AllFitTo, FitsTo, ProbesTo, InfersTo}
use Rattle.wy_judge.proofs.Contexts.{lawful, written_in_range, own_in_range, fields_in_range, field_in_range, reflexive}
use Rattle.wy_judge.proofs.Expecting.{count_values, written_expected}
use Rattle.wy_judge.proofs.Making.{new_inferred, ascribed_inferred, assigned_inferred, unassigned_inferred}
use Rattle.wy_judge.proofs.Moving.{moves_under}

no_field : (f : Field) → ◌≡◌ {A = Option Field} None (Some f) → ⊥
no_field f e = cc

-- a `var` field is the field that was looked up
var_is_field : (o : Option Field) (f : Field) → if_mutable o ≡ Some f → o ≡ Some f
var_is_field None f e = absurd (no_field f e)
var_is_field (Some g) f e = elim g.mutable as (λ b. (if b then Some g else None) ≡ Some f → ◌≡◌ {A = Option Field} (Some g) (Some f)) [
  | true ↦ λ h. h
  | false ↦ λ h. absurd (no_field f h)
] e

module _ (p : Program) (k : ℕ) (s : Scope) (c : IsScopeOf p k s) (owner : Option ℕ) where
  ------------------------------------------------------------
  -- New objects

  pub new_values : (table : Table) (q : Place) (l : ℕ) (xs : Values) → ExprReady p k s owner table (New q l xs) → ValuesReady p k s owner table xs
  new_values table q l xs h = (h.0, h.1.4, h.2)

  pub new_types : (l : ℕ) → TypesInRange p k s owner (field_types s l)
  new_types l t i = fields_in_range p k s c l t i

  pub new_count : (table : Table) (q : Place) (l : ℕ) (xs : List v.Value) → ExprReady p k s owner table (New q l (values_of xs)) → length xs ≡ length (field_types s l)
  new_count table q l xs h = sym (count_values xs) ∙ h.1.2 ∙ sym (length-map (fields_of s l) (λ (f : Field). f.typ))

  pub new_stands : (q : Place) (l : ℕ) (u : Fits) → InferenceStands (new_outcome q l u) → NoneFails u
  new_stands q l (fits.Have e) h = tt
  new_stands q l (fits.Misfit n) h = tt
  new_stands q l (fits.Fails fault) h = h

  pub new_in_range : (q : Place) (l : ℕ) (u : Fits) → l < length s.literals → IsInRangeOf p k (new_outcome q l u)
  new_in_range q l (fits.Have e) below = own_in_range p k s c l below
  new_in_range q l (fits.Misfit n) below = tt
  new_in_range q l (fits.Fails fault) below = tt

  pub new_to : (old new : Table) (q : Place) (l : ℕ) (xs : List v.Value) (u : Fits) → ExprReady p k s owner old (New q l (values_of xs)) → AllFitTo p k s owner old new xs (field_types s l) u →
      InfersTo p k s owner old new (New q l (values_of xs)) (new_outcome q l u)
  new_to old new q l xs u h i = record {
    moves = moves_under p k s old new (values_vals (values_of xs)) (NoneFails u) (InferenceStands (new_outcome q l u)) i.moves (new_stands q l u);
    range = new_in_range q l u h.1.1;
    judged = λ locals a.
        new_inferred p k s (lawful p k s) locals owner q l (values_of xs) u (reflexive p k s c (Own l) (own_in_range p k s c l h.1.1))
        (i.judged locals a (written_spots (field_types s l)) (written_expected p k s owner locals (field_types s l)));
  }

  ------------------------------------------------------------
  -- Ascriptions

  pub ascribed_value : (table : Table) (q : Place) (x : Value) (t : TypeRef) → ExprReady p k s owner table (Ascribe q x t) → ValueReady p k s owner table x
  ascribed_value table q x t h = (h.0, h.1.0, h.2)

  pub ascribed_type : (table : Table) (q : Place) (x : Value) (t : TypeRef) → ExprReady p k s owner table (Ascribe q x t) → IsTypeOf p k t
  ascribed_type table q x t h = written_in_range p k s c t h.1.1

  ascribed_stands : (q : Place) (t : TypeRef) (u : Fit) → InferenceStands (ascribed_outcome q t u) → FitStands u
  ascribed_stands q t (fit.Has e) h = tt
  ascribed_stands q t fit.Misfit h = tt
  ascribed_stands q t (fit.Fails fault) h = h

  ascribed_in_range : (q : Place) (t : TypeRef) (u : Fit) → IsTypeOf p k t → IsInRangeOf p k (ascribed_outcome q t u)
  ascribed_in_range q t (fit.Has e) r = r
  ascribed_in_range q t fit.Misfit r = tt
  ascribed_in_range q t (fit.Fails fault) r = tt

  pub ascribed_to : (old new : Table) (q : Place) (x : Value) (t : TypeRef) (u : Fit) → ExprReady p k s owner old (Ascribe q x t) → FitsTo p k s owner old new x t u →
      InfersTo p k s owner old new (Ascribe q x t) (ascribed_outcome q t u)
  ascribed_to old new q x t u h i = record {
    moves = moves_under p k s old new (value_vals x) (FitStands u) (InferenceStands (ascribed_outcome q t u)) i.moves (ascribed_stands q t u);
    range = ascribed_in_range q t u (ascribed_type old q x t h);
    judged = λ locals a. ascribed_inferred p k s (lawful p k s) locals owner q x t u (reflexive p k s c t (ascribed_type old q x t h)) (i.judged locals a (written t) refl);
  }

  ------------------------------------------------------------
  -- Assignments

  pub assigned_value : (table : Table) (q : Place) (name : Binding) (x : Value) → ExprReady p k s owner table (Assign q name x) → ValueReady p k s owner table x
  assigned_value table q name x h = (h.0, h.1.1, h.2)

  -- a `var` field of the current object has a type in range
  pub var_type : (o : Option ℕ) (name : Binding) (f : Field) → var_field s o name ≡ Some f → IsTypeOf p k f.typ
  var_type o (to.Variable x) f e = absurd (no_field f e)
  var_type o (to.Own j) f e = absurd (no_field f e)
  var_type None (to.Field i) f e = absurd (no_field f e)
  var_type (Some l) (to.Field i) f e = field_in_range p k s c l i f (var_is_field (field_at s (Some l) i) f e)

  assigned_stands : (q : Place) (u : Fit) → InferenceStands (assigned_outcome q u) → FitStands u
  assigned_stands q (fit.Has e) h = tt
  assigned_stands q fit.Misfit h = tt
  assigned_stands q (fit.Fails fault) h = h

  assigned_in_range : (q : Place) (u : Fit) → IsInRangeOf p k (assigned_outcome q u)
  assigned_in_range q (fit.Has e) = tt
  assigned_in_range q fit.Misfit = tt
  assigned_in_range q (fit.Fails fault) = tt

  pub assigned_to : (old new : Table) (q : Place) (name : Binding) (x : Value) (f : Field) (u : Fit) → var_field s owner name ≡ Some f → FitsTo p k s owner old new x f.typ u →
      InfersTo p k s owner old new (Assign q name x) (assigned_outcome q u)
  assigned_to old new q name x f u g i = record {
    moves = moves_under p k s old new (value_vals x) (FitStands u) (InferenceStands (assigned_outcome q u)) i.moves (assigned_stands q u);
    range = assigned_in_range q u;
    judged = λ locals a. assigned_inferred p k s (lawful p k s) locals owner q name x f u g (i.judged locals a (field_spot (Some f)) refl);
  }

  -- .. to another name
  unassigned_stands_not : (q : Place) (o : Option Fault) → InferenceStands (unassigned_outcome q o) → ⊥
  unassigned_stands_not q None h = h
  unassigned_stands_not q (Some fault) h = h

  unassigned_in_range : (q : Place) (o : Option Fault) → IsInRangeOf p k (unassigned_outcome q o)
  unassigned_in_range q None = tt
  unassigned_in_range q (Some fault) = tt

  pub unassigned_to : (old new : Table) (q : Place) (name : Binding) (x : Value) (o : Option Fault) → var_field s owner name ≡ None → ProbesTo p k s owner old new x o →
      InfersTo p k s owner old new (Assign q name x) (unassigned_outcome q o)
  unassigned_to old new q name x o g i = record {
    moves = moves_under p k s old new (value_vals x) (NoFault o) (InferenceStands (unassigned_outcome q o)) i.moves (λ z. absurd (unassigned_stands_not q o z));
    range = unassigned_in_range q o;
    judged = λ locals a. unassigned_inferred p k s (lawful p k s) locals owner q name x o g (i.judged locals a (field_spot None) refl);
  }
