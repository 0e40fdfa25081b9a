-- Objects, ascriptions and assignments: what judging one comes to, by what its parts came to.
use Rattle.std.proofs.Common.{◌≡◌, ℕ, ◌+◌, List, inl, inr, refl, sym, subst, Option, Some, None}
use Rattle.wy_text.specs.declared.fault.Place.{Place}
use Rattle.wy_text.specs.declared.fault.Fault.{Fault}
use Rattle.wy_text.specs.declared.fault.RuleName.TheVariants.{TNew, TSet, TAsc}
use Rattle.wy_types.specs.declared.types.TypeRef.{TypeRef}
use Rattle.wy_types.specs.declared.types.TypeRef.TheVariants.{Unit as Nothing, Own}
use Rattle.wy_types.specs.declared.code.Binding.{Binding}
use Rattle.wy_types.specs.declared.resolved.Field.{Field}
use Rattle.wy_types.specs.Code.{New, Ascribe, Assign, Value, Values}
use Rattle.wy_types.specs.Program.{Program, Scope}
use Rattle.wy_types.specs.Types.{is_plain}
use Rattle.wy_rules.specs.Readings.{Reading, IsBelow}
use Rattle.wy_rules.specs.Typing.{field_types, var_field, HasAt}
use Rattle.wy_rules.specs.Acceptance.{scope_reading}
use Rattle.wy_rules.specs.Nodes.{written, written_spots, field_spot, value_nodes, values_nodes}
use Rattle.wy_rules.specs.Failing.{AllPass, FirstFailing}
use Rattle.wy_rules.proofs.Forms.{Lawful}
use Rattle.wy_rules.proofs.Least.{LeastAt, new_least, ascription_least, assignment_least}
use Rattle.wy_rules.proofs.Needs.{new_needs, ascription_needs, assignment_needs}
use Rattle.wy_judge.specs.Fit.{Fit}
use Rattle.wy_judge.specs.Fit as fit
use Rattle.wy_judge.specs.Fits.{Fits}
use Rattle.wy_judge.specs.Fits as fits
use Rattle.wy_judge.specs.Outcomes.{new_outcome, ascribed_outcome, assigned_outcome, unassigned_outcome}
use Rattle.wy_judge.specs.Judged.{IsLeastOf, Inferred, Fitted, Probed, AllFitted}
use Rattle.wy_judge.proofs.Bases.{base_below}
use Rattle.wy_judge.proofs.Lists.{fail_left}
use Rattle.wy_judge.proofs.Ending.{ends_passing, ends_failing}
use Rattle.wy_judge.proofs.Several.{first_have}

-- a least effect at a type, in the rules' words
pub least_at : (y : Reading) (w : Lawful y) (s : Scope) (locals : List y.Kind) (owner : Option ℕ) (x : Value) (t : y.Kind) (f : List ℕ) → IsLeastOf y s locals owner x t f → LeastAt y w s locals owner x t f
least_at y w s locals owner x t f l = record { has = l.has; least = l.least }

module _ (p : Program) (k : ℕ) (s : Scope) (w : Lawful (scope_reading p k s)) (locals : List (scope_reading p k s).Kind) (owner : Option ℕ) where
  ------------------------------------------------------------
  -- Objects

  pub new_inferred : (q : Place) (l : ℕ) (xs : Values) (u : Fits) → IsBelow (scope_reading p k s) ((scope_reading p k s).read (Own l)) ((scope_reading p k s).read (Own l)) →
      AllFitted p k s locals owner (written_spots (field_types s l)) xs (field_types s l) u → Inferred p k s locals owner (New q l xs) (new_outcome q l u)
  new_inferred q l xs (fits.Have e) r h =
      let least = new_least (scope_reading p k s) w s locals owner q l xs e h.0 r in
      (least, ends_passing p k s locals owner (values_nodes s owner (written_spots (field_types s l)) xs) q TNew (New q l xs) ((scope_reading p k s).read (Own l)) e h.1 least.has)
  new_inferred q l xs (fits.Misfit n) r h =
      ends_failing p k s locals owner (values_nodes s owner (written_spots (field_types s l)) xs) q TNew (New q l xs) 1 h.2
      (λ d. h.1 (first_have (scope_reading p k s) w s locals owner (n + 1) xs (field_types s l) (new_needs (scope_reading p k s) w s locals owner q l xs d)))
      (inl (λ d. h.1 (first_have (scope_reading p k s) w s locals owner (n + 1) xs (field_types s l) d), refl))
  new_inferred q l xs (fits.Fails fault) r h = fail_left p k s locals (values_nodes s owner (written_spots (field_types s l)) xs) _ fault h

  ------------------------------------------------------------
  -- Ascriptions

  pub ascribed_inferred : (q : Place) (x : Value) (t : TypeRef) (u : Fit) → IsBelow (scope_reading p k s) ((scope_reading p k s).read t) ((scope_reading p k s).read t) →
      Fitted p k s locals owner (written t) x t u → Inferred p k s locals owner (Ascribe q x t) (ascribed_outcome q t u)
  ascribed_inferred q x t (fit.Has e) r h =
      let least = ascription_least (scope_reading p k s) w s locals owner q x t e (least_at (scope_reading p k s) w s locals owner x ((scope_reading p k s).read t) e h.0) r in
      (least, ends_passing p k s locals owner (value_nodes s owner (written t) x) q TAsc (Ascribe q x t) ((scope_reading p k s).read t) e h.1 least.has)
  ascribed_inferred q x t fit.Misfit r h =
      ends_failing p k s locals owner (value_nodes s owner (written t) x) q TAsc (Ascribe q x t) 1 h.1
      (λ d. h.0 (ascription_needs (scope_reading p k s) w s locals owner q x t d)) (inl (h.0, refl))
  ascribed_inferred q x t (fit.Fails fault) r h = fail_left p k s locals (value_nodes s owner (written t) x) _ fault h

  ------------------------------------------------------------
  -- Assignments

  -- the spot is that of the field that the name means
  spot_passes : (name : Binding) (x : Value) (o : Option Field) → var_field s owner name ≡ o → AllPass p k s locals (value_nodes s owner (field_spot o) x) → AllPass p k s locals (value_nodes s owner (field_spot (var_field s owner name)) x)
  spot_passes name x o e h = subst (λ v. AllPass p k s locals (value_nodes s owner (field_spot v) x)) (sym e) h

  spot_fails : (name : Binding) (x : Value) (o : Option Field) (fault : Fault) → var_field s owner name ≡ o → FirstFailing p k s locals (value_nodes s owner (field_spot o) x) fault →
      FirstFailing p k s locals (value_nodes s owner (field_spot (var_field s owner name)) x) fault
  spot_fails name x o fault e h = subst (λ v. FirstFailing p k s locals (value_nodes s owner (field_spot v) x) fault) (sym e) h

  same_field : (name : Binding) (v z : Field) → var_field s owner name ≡ Some v → var_field s owner name ≡ Some z → z ≡ v
  same_field name v z e f = cc

  -- the value has not the field's type
  not_its_value : (name : Binding) (x : Value) (v : Field) → var_field s owner name ≡ Some v → (HasAt (scope_reading p k s) s locals owner x ((scope_reading p k s).read v.typ) → ⊥) →
      (z : Field) → var_field s owner name ≡ Some z → HasAt (scope_reading p k s) s locals owner x ((scope_reading p k s).read z.typ) → ⊥
  not_its_value name x v e n z f d = n (subst (λ (u : Field). HasAt (scope_reading p k s) s locals owner x ((scope_reading p k s).read u.typ)) (same_field name v z e f) d)

  pub assigned_inferred : (q : Place) (name : Binding) (x : Value) (v : Field) (u : Fit) → var_field s owner name ≡ Some v → Fitted p k s locals owner (field_spot (Some v)) x v.typ u →
      Inferred p k s locals owner (Assign q name x) (assigned_outcome q u)
  assigned_inferred q name x v (fit.Has e) g h =
      let least = assignment_least (scope_reading p k s) w s locals owner q name x v e g
      (least_at (scope_reading p k s) w s locals owner x ((scope_reading p k s).read v.typ) e h.0) (base_below p k (is_plain s.kind) Nothing (λ o. o)) in
      (least, ends_passing p k s locals owner (value_nodes s owner (field_spot (var_field s owner name)) x) q TSet (Assign q name x) ((scope_reading p k s).read Nothing) e (spot_passes name x (Some v) g h.1) least.has)
  assigned_inferred q name x v fit.Misfit g h =
      ends_failing p k s locals owner (value_nodes s owner (field_spot (var_field s owner name)) x) q TSet (Assign q name x) 2 (spot_passes name x (Some v) g h.1)
      (λ d. (let c = assignment_needs (scope_reading p k s) w s locals owner q name x d in not_its_value name x v g h.0 c.0 c.1 c.2))
      (inr ((v, g), inl (λ d. h.0 (d v g), refl)))
  assigned_inferred q name x v (fit.Fails fault) g h =
      fail_left p k s locals (value_nodes s owner (field_spot (var_field s owner name)) x) _ fault (spot_fails name x (Some v) fault g h)

  pub unassigned_inferred : (q : Place) (name : Binding) (x : Value) (o : Option Fault) → var_field s owner name ≡ None → Probed p k s locals owner (field_spot None) x o →
      Inferred p k s locals owner (Assign q name x) (unassigned_outcome q o)
  unassigned_inferred q name x None g h =
      ends_failing p k s locals owner (value_nodes s owner (field_spot (var_field s owner name)) x) q TSet (Assign q name x) 1 (spot_passes name x None g h)
      (λ d. (let c = assignment_needs (scope_reading p k s) w s locals owner q name x d in no_field c.0 c.1))
      (inl (λ c. no_field c.0 c.1, refl))
    where
      no_field : (v : Field) → var_field s owner name ≡ Some v → ⊥
      no_field v e = absurd (cc)
  unassigned_inferred q name x (Some fault) g h =
      fail_left p k s locals (value_nodes s owner (field_spot (var_field s owner name)) x) _ fault (spot_fails name x None fault g h)
