-- Visits add instances behind those that are there, and sets behind those of the scope; a scope's parameters are passed over.
use Rattle.std.proofs.Common.{◌≡◌, ℕ, zero, suc, List, [], ◌∷◌, ◌++◌, inl, inr, Option, Some, None, true, false, refl, sym, ap, ◌∙◌, subst}
use Rattle.std.specs.Prelude.{codes, slice_get, if◌then◌else◌}
use Rattle.wy_text.specs.Members.{In}
use Rattle.wy_types.specs.declared.resolved.Origin.{Origin}
use Rattle.wy_types.specs.declared.resolved.Origin.TheVariants.{Parameter, Grant, Use, Instance, Import}
use Rattle.wy_types.specs.declared.resolved.OwnName.{OwnName}
use Rattle.wy_types.specs.Program.{Program}
use Rattle.wy_types.specs.Ground.{Visited, Visit, names_of, is_use, uses_among, handed, number_from, used, visit_name, visit_names, visit}
use Rattle.wy_rules.specs.Acceptance.{is_parameter, parameters_until, parameters_among}
use Rattle.wy_rules.specs.OwnNames.{after_parameters}
use Rattle.wy_sound.proofs.LinkingLists.{GoesOn, goes_on_same, goes_on_more, goes_on_further}

-- instances and sets are added behind
pub record Grows (v w : Visited) : Type 0 where
  pub started : GoesOn v.started w.started
  pub sets : GoesOn v.sets w.sets

module _ (p : Program) (inside : Visit)
    (grows : (outer : List OwnName) (prefix : List ℕ) (names : List OwnName) (v : Visited) → Grows v (inside outer prefix names v)) where
  used_grows : (v : Visited) (name : List ℕ) (m : ℕ) (there : Option ℕ) → Grows v (used p inside v name m there)
  used_grows v name m (Some i) = record { started = goes_on_same v.started; sets = goes_on_more v.sets _ }
  used_grows v name m None =
      let names = names_of (slice_get p.scopes m) in
      let g = grows names [] (uses_among names) (record { started = v.started; actuals = []; sets = [] }) in
      record { started = goes_on_further v.started _ _ g.started (goes_on_more _ _); sets = goes_on_more v.sets _ }

  name_grows : (outer : List OwnName) (prefix : List ℕ) (n : OwnName) (o : Origin) (v : Visited) → Grows v (visit_name p inside outer prefix n o v)
  name_grows outer prefix n (Parameter bare) v = record { started = goes_on_same v.started; sets = goes_on_same v.sets }
  name_grows outer prefix n Grant v = record { started = goes_on_same v.started; sets = goes_on_more v.sets _ }
  name_grows outer prefix n (Use m) v = used_grows v (codes "pure " ++ n.name) m (number_from 0 (codes "pure " ++ n.name) v.started)
  name_grows outer prefix n (Instance m arguments) v =
      let names = names_of (slice_get p.scopes m) in
      let g = grows names (prefix ++ (n.name ++ codes ".")) names (handed p outer v m arguments) in
      record { started = goes_on_further v.started _ _ g.started (goes_on_more _ _); sets = goes_on_more v.sets _ }
  name_grows outer prefix n (Import m arguments bound) v =
      let names = names_of (slice_get p.scopes m) in
      let g = grows names (prefix ++ (n.name ++ codes ".")) names (handed p outer v m arguments) in
      record { started = goes_on_further v.started _ _ g.started (goes_on_more _ _); sets = goes_on_more v.sets _ }

  names_grow : (outer : List OwnName) (prefix : List ℕ) (names : List OwnName) (v : Visited) → Grows v (visit_names p inside outer prefix names v)
  names_grow outer prefix [] v = record { started = goes_on_same v.started; sets = goes_on_same v.sets }
  names_grow outer prefix (n ∷ names) v =
      let one = name_grows outer prefix n n.origin v in
      let more = names_grow outer prefix names (visit_name p inside outer prefix n n.origin v) in
      record { started = goes_on_further _ _ _ one.started more.started; sets = goes_on_further _ _ _ one.sets more.sets }

pub visit_grows : (p : Program) (k : ℕ) (outer : List OwnName) (prefix : List ℕ) (names : List OwnName) (v : Visited) →
    Grows v (visit p k outer prefix names v)
visit_grows p zero outer prefix names v = record { started = goes_on_same v.started; sets = goes_on_same v.sets }
visit_grows p (suc k) outer prefix names v = names_grow p (visit p k) (visit_grows p k) outer prefix names v

pub later_names_grow : (p : Program) (k : ℕ) (outer : List OwnName) (prefix : List ℕ) (names : List OwnName) (v : Visited) →
    Grows v (visit_names p (visit p k) outer prefix names v)
later_names_grow p k = names_grow p (visit p k) (visit_grows p k)

------------------------------------------------------------
-- Parameters

module _ (p : Program) (inside : Visit) (outer : List OwnName) (prefix : List ℕ) where
  parameter_passed : (n : OwnName) (ns : List OwnName) (v : Visited) (o : Origin) → n.origin ≡ o →
      visit_names p inside outer prefix ns v ≡ visit_names p inside outer prefix (after_parameters ns) v →
      visit_names p inside outer prefix ns (visit_name p inside outer prefix n o v) ≡ visit_names p inside outer prefix (if is_parameter o then after_parameters ns else n ∷ ns) v
  parameter_passed n ns v (Parameter bare) e rest = rest
  parameter_passed n ns v Grant e rest = ap (λ o. visit_names p inside outer prefix ns (visit_name p inside outer prefix n o v)) (sym e)
  parameter_passed n ns v (Use m) e rest = ap (λ o. visit_names p inside outer prefix ns (visit_name p inside outer prefix n o v)) (sym e)
  parameter_passed n ns v (Instance m arguments) e rest = ap (λ o. visit_names p inside outer prefix ns (visit_name p inside outer prefix n o v)) (sym e)
  parameter_passed n ns v (Import m arguments bound) e rest =
      ap (λ o. visit_names p inside outer prefix ns (visit_name p inside outer prefix n o v)) (sym e)

  parameters_passed : (ns : List OwnName) (v : Visited) →
      visit_names p inside outer prefix ns v ≡ visit_names p inside outer prefix (after_parameters ns) v
  parameters_passed [] v = refl
  parameters_passed (n ∷ ns) v = parameter_passed n ns v n.origin refl (parameters_passed ns v)

pub visit_passes : (p : Program) (k : ℕ) (outer : List OwnName) (prefix : List ℕ) (ns : List OwnName) (v : Visited) →
    visit p k outer prefix ns v ≡ visit p k outer prefix (after_parameters ns) v
visit_passes p zero outer prefix ns v = refl
visit_passes p (suc k) outer prefix ns v = parameters_passed p (visit p k) outer prefix ns v

pub parameters_are : (ns : List OwnName) (n : OwnName) → In n (parameters_among ns) → is_parameter n.origin ≡ true
parameters_are [] n = λ i. absurd i
parameters_are (m ∷ ns) n =
    elim (is_parameter m.origin) as (λ b. is_parameter m.origin ≡ b → In n (parameters_until b m (parameters_among ns)) → is_parameter n.origin ≡ true) [
      | true ↦ λ e i. elim i [ inl f ↦ subst (λ (v : OwnName). is_parameter v.origin ≡ true) f e | inr j ↦ parameters_are ns n j ]
      | false ↦ λ e i. absurd i
    ] refl

pub first_and_after : (ns : List OwnName) → ns ≡ parameters_among ns ++ after_parameters ns
first_and_after [] = refl
first_and_after (n ∷ ns) =
    elim (is_parameter n.origin) as (λ b. n ∷ ns ≡ parameters_until b n (parameters_among ns) ++ (if b then after_parameters ns else n ∷ ns)) [
      | true ↦ ap (λ l. n ∷ l) (first_and_after ns)
      | false ↦ refl
    ]

-- where all are uses, none is left out
pub all_uses : (ns : List OwnName) → ((n : OwnName) → In n ns → is_use n.origin ≡ true) → uses_among ns ≡ ns
all_uses [] h = refl
all_uses (n ∷ ns) h = ap (λ b. if b then n ∷ uses_among ns else uses_among ns) (h n (inl refl)) ∙ ap (λ l. n ∷ l) (all_uses ns (λ m i. h m (inr i)))
