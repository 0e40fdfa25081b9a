-- Several values as plain data, from the first and the others, and the expressions that have them: at their types, and where none is
-- expected.
use Rattle.std.proofs.Common.{◌≡◌, ℕ, suc, ◌<◌, List, [], ◌∷◌, length, refl, sym, ◌∙◌, subst, Option, Some, None, arith}
use Rattle.std.specs.Prelude.{slice_get}
use Rattle.std.proofs.lemmas.List.{length-map}
use Rattle.std.proofs.lemmas.Option.{slice_get_within}
use Rattle.wy_text.specs.declared.fault.Place.{Place}
use Rattle.wy_text.specs.declared.fault.Fault.{Fault}
use Rattle.wy_types.specs.declared.types.TypeRef.{TypeRef}
use Rattle.wy_types.specs.declared.types.TypeRef.TheVariants.{Own}
use Rattle.wy_types.specs.declared.types.Method.{Method}
use Rattle.wy_types.specs.declared.code.TextOperator.{TextOperator}
use Rattle.wy_types.specs.declared.resolved.Field.{Field}
use Rattle.wy_types.specs.Code.{Expr, Plain, TextCall, Call, New, Value, Values, none, more}
use Rattle.wy_types.specs.Vals.{expr_vals, value_vals, values_vals, value_count}
use Rattle.wy_types.specs.Program.{Program, Scope}
use Rattle.wy_types.specs.Signature.{Signature, find_method}
use Rattle.wy_types.specs.Types.{IsObject, signature, methods_of}
use Rattle.wy_types.specs.Fitting.{IsTypeOf}
use Rattle.wy_rules.specs.Operators.{text_rows}
use Rattle.wy_rules.specs.Typing.{fields_of, field_types}
use Rattle.wy_rules.specs.Acceptance.{scope_reading}
use Rattle.wy_rules.specs.Nodes.{Spot, nothing, argument, row_types, written_spots, argument_spots}
use Rattle.wy_rules.specs.Failing.{IsLeast, IsExpected}
use Rattle.wy_judge.specs.Inference as inferred
use Rattle.wy_judge.specs.Fit.{Fit}
use Rattle.wy_judge.specs.Fit as fit
use Rattle.wy_judge.specs.Fits.{Fits}
use Rattle.wy_judge.specs.Fits as fits
use Rattle.wy_judge.specs.declared.targets.Target.TheVariants.{Without}
use Rattle.wy_premises.specs.Operators.{text_operands}
use Rattle.wy_judge.specs.Outcomes.{text_outcome, new_outcome, call_outcome, uncalled_outcome, more_fits, fault_or, NoneFails}
use Rattle.wy_judge.specs.Judged.{Fitted, Probed, AllFitted, AllProbed}
use Rattle.wy_judge.specs.Tables.{Table, Agrees, IsScopeOf, Moves, ExprReady, ValuesReady}
use Rattle.wy_judge.specs.Targets.{IsTargetOf}
use Rattle.wy_judge.specs.Judging.{InferenceStands, FitStands, NoFault, AreExpected, InfersTo, FitsTo, ProbesTo}
use Rattle.wy_judge.proofs.ArmsOfCalls.{no_call, uncalled_by, uncalled_in_range, uncalled_stands_not, call_stands, call_in_range}
use Rattle.wy_judge.proofs.ArmsOfObjects.{new_stands, new_in_range}
use Rattle.wy_judge.proofs.ArmsOfTexts.{as_many_types, text_expected, text_stands, text_in_range}
use Rattle.wy_judge.proofs.Calling.{call_inferred, argument_unexpected}
use Rattle.wy_judge.proofs.Contexts.{lawful, own_in_range, method_in_range, reflexive}
use Rattle.wy_judge.proofs.Dropping.{argument_spot_at}
use Rattle.wy_judge.proofs.Expecting.{spot_same, many_arguments, written_expected, arguments_expected}
use Rattle.wy_judge.proofs.FirstAndOthers.{none_fitted, none_probed, more_fitted, more_probed}
use Rattle.wy_judge.proofs.Making.{new_inferred}
use Rattle.wy_judge.proofs.Moving.{agrees_before, moves_none, moves_under, moves_both}
use Rattle.wy_judge.proofs.Texts.{text_inferred}

module _ (p : Program) (k : ℕ) (s : Scope) (owner : Option ℕ) where
  -- no place expects a type
  abbrev pub NoneExpected : List (scope_reading p k s).Kind → List Spot → Type 0
  NoneExpected locals spots = (i : ℕ) (spot : Spot) → slice_get spots i ≡ Some spot → IsExpected (scope_reading p k s) s locals owner spot None

  module _ (old new : Table) where
    pub record ValuesFit (xs : Values) (ts : List TypeRef) (u : Fits) : Type 0 where
      pub moves : Moves p k s old new (values_vals xs) (NoneFails u)
      pub judged : (locals : List (scope_reading p k s).Kind) → Agrees (scope_reading p k s) locals new → (spots : List Spot) → AreExpected p k s owner locals spots ts → AllFitted p k s locals owner spots xs ts u

    pub record ValuesProbe (xs : Values) (o : Option Fault) : Type 0 where
      pub moves : Moves p k s old new (values_vals xs) (NoFault o)
      pub judged : (locals : List (scope_reading p k s).Kind) → Agrees (scope_reading p k s) locals new → (spots : List Spot) → NoneExpected locals spots → AllProbed p k s locals owner spots xs o

------------------------------------------------------------
-- Where no node of the whole fails, none of a part does

more_stand : (u : Fit) (v : Fits) → NoneFails (more_fits u v) → FitStands u × NoneFails v
more_stand (fit.Has e) (fits.Have f) h = (tt, tt)
more_stand (fit.Has e) (fits.Misfit n) h = (tt, tt)
more_stand (fit.Has e) (fits.Fails fault) h = absurd h
more_stand fit.Misfit (fits.Have f) h = (tt, tt)
more_stand fit.Misfit (fits.Misfit n) h = (tt, tt)
more_stand fit.Misfit (fits.Fails fault) h = absurd h
more_stand (fit.Fails fault) v h = absurd h

none_stand : (o q : Option Fault) → NoFault (fault_or o q) → NoFault o × NoFault q
none_stand (Some fault) q h = absurd h
none_stand None (Some fault) h = absurd h
none_stand None None h = (tt, tt)

module _ (p : Program) (k : ℕ) (s : Scope) (owner : Option ℕ) where
  ------------------------------------------------------------
  -- Values

  pub values_none : (table : Table) → ValuesReady p k s owner table none → ValuesFit p k s owner table table none [] (fits.Have [])
  values_none table r = record {
    moves = moves_none p k s table (NoneFails (fits.Have [])) r.2.range;
    judged = λ locals a spots i. none_fitted p k s (lawful p k s) locals owner spots;
  }

  pub values_probe_none : (table : Table) → ValuesReady p k s owner table none → ValuesProbe p k s owner table table none None
  values_probe_none table r = record {
    moves = moves_none p k s table (NoFault None) r.2.range;
    judged = λ locals a spots i. none_probed p k s (lawful p k s) locals owner spots;
  }

  module _ (locals : List (scope_reading p k s).Kind) (x : Value) (xs : Values) where
    more_at : (spots : List Spot) (t : TypeRef) (ts : List TypeRef) (u : Fit) (v : Fits) → AreExpected p k s owner locals spots (t ∷ ts) →
        ((spot : Spot) → IsExpected (scope_reading p k s) s locals owner spot (Some ((scope_reading p k s).read t)) → Fitted p k s locals owner spot x t u) →
        ((rest : List Spot) → AreExpected p k s owner locals rest ts → AllFitted p k s locals owner rest xs ts v) → AllFitted p k s locals owner spots (more x xs) (t ∷ ts) (more_fits u v)
    more_at [] t ts u v i f g = absurd (let many = i.as_many in omega arith)
    more_at (spot ∷ spots) t ts u v i f g =
        more_fitted p k s (lawful p k s) locals owner spot spots x xs t ts u v (f spot (i.each 0 spot t refl refl))
        (g spots (record { as_many = (let many = i.as_many in omega arith); each = λ j z w e d. i.each (suc j) z w e d }))

    bare_probed : (o q : Option Fault) → Probed p k s locals owner nothing x o → AllProbed p k s locals owner [] xs q → AllProbed p k s locals owner [] (more x xs) (fault_or o q)
    bare_probed (Some fault) q h g = more_probed p k s (lawful p k s) locals owner nothing [] x xs (Some fault) q h g
    bare_probed None (Some fault) h g = more_probed p k s (lawful p k s) locals owner nothing [] x xs None (Some fault) h g
    bare_probed None None h g = more_probed p k s (lawful p k s) locals owner nothing [] x xs None None h g

    probed_at : (spots : List Spot) (o q : Option Fault) → NoneExpected p k s owner locals spots →
        ((spot : Spot) → IsExpected (scope_reading p k s) s locals owner spot None → Probed p k s locals owner spot x o) →
        ((rest : List Spot) → NoneExpected p k s owner locals rest → AllProbed p k s locals owner rest xs q) → AllProbed p k s locals owner spots (more x xs) (fault_or o q)
    probed_at [] o q i f g = bare_probed o q (f nothing refl) (g [] (λ j z e. absurd (cc)))
    probed_at (spot ∷ spots) o q i f g = more_probed p k s (lawful p k s) locals owner spot spots x xs o q (f spot (i 0 spot refl)) (g spots (λ j z e. i (suc j) z e))

  pub values_more : (old mid new : Table) (x : Value) (xs : Values) (t : TypeRef) (ts : List TypeRef) (u : Fit) (v : Fits) → FitsTo p k s owner old mid x t u → ValuesFit p k s owner mid new xs ts v →
      ValuesFit p k s owner old new (more x xs) (t ∷ ts) (more_fits u v)
  values_more old mid new x xs t ts u v h g = record {
    moves = moves_both p k s old mid new (value_vals x) (values_vals xs) (FitStands u) (NoneFails v) (NoneFails (more_fits u v)) h.moves g.moves (λ z. (more_stand u v z).0) (λ z. (more_stand u v z).1);
    judged = λ locals a spots i.
        more_at locals x xs spots t ts u v i (h.judged locals (agrees_before p k s (scope_reading p k s) locals mid new (values_vals xs) (NoneFails v) g.moves a)) (g.judged locals a);
  }

  pub values_probe_more : (old mid new : Table) (x : Value) (xs : Values) (o q : Option Fault) → ProbesTo p k s owner old mid x o → ValuesProbe p k s owner mid new xs q →
      ValuesProbe p k s owner old new (more x xs) (fault_or o q)
  values_probe_more old mid new x xs o q h g = record {
    moves = moves_both p k s old mid new (value_vals x) (values_vals xs) (NoFault o) (NoFault q) (NoFault (fault_or o q)) h.moves g.moves (λ z. (none_stand o q z).0) (λ z. (none_stand o q z).1);
    judged = λ locals a spots i.
        probed_at locals x xs spots o q i (h.judged locals (agrees_before p k s (scope_reading p k s) locals mid new (values_vals xs) (NoFault q) g.moves a)) (g.judged locals a);
  }

module _ (p : Program) (k : ℕ) (s : Scope) (c : IsScopeOf p k s) (owner : Option ℕ) where
  ------------------------------------------------------------
  -- Operations on texts, and new objects

  pub text_as_many : (table : Table) (q : Place) (op : TextOperator) (xs : Values) → ExprReady p k s owner table (TextCall q op xs) → value_count xs ≡ length (text_operands op)
  text_as_many table q op xs h = h.1.0 ∙ as_many_types op

  pub text_at : (old new : Table) (q : Place) (op : TextOperator) (xs : Values) (u : Fits) → ValuesFit p k s owner old new xs (text_operands op) u → InfersTo p k s owner old new (TextCall q op xs) (text_outcome q op u)
  text_at old new q op xs u h = record {
    moves = moves_under p k s old new (values_vals xs) (NoneFails u) (InferenceStands (text_outcome q op u)) h.moves (text_stands p k s c owner q op u);
    range = text_in_range p k s c owner q op u;
    judged = λ locals a. text_inferred p k s (lawful p k s) locals owner q op xs u (h.judged locals a (written_spots (row_types (text_rows op))) (text_expected p k s c owner locals op));
  }

  pub new_as_many : (table : Table) (q : Place) (l : ℕ) (xs : Values) → ExprReady p k s owner table (New q l xs) → value_count xs ≡ length (field_types s l)
  new_as_many table q l xs h = h.1.2 ∙ sym (length-map (fields_of s l) (λ (f : Field). f.typ))

  pub new_at : (old new : Table) (q : Place) (l : ℕ) (xs : Values) (u : Fits) → ExprReady p k s owner old (New q l xs) → ValuesFit p k s owner old new xs (field_types s l) u →
      InfersTo p k s owner old new (New q l xs) (new_outcome q l u)
  new_at old new q l xs u h i = record {
    moves = moves_under p k s old new (values_vals xs) (NoneFails u) (InferenceStands (new_outcome q l u)) i.moves (new_stands p k s c owner q l u);
    range = new_in_range p k s c owner q l u h.1.1;
    judged = λ locals a.
        new_inferred p k s (lawful p k s) locals owner q l xs u (reflexive p k s c (Own l) (own_in_range p k s c l h.1.1))
        (i.judged locals a (written_spots (field_types s l)) (written_expected p k s owner locals (field_types s l)));
  }

  ------------------------------------------------------------
  -- Calls

  none_for : (locals : List (scope_reading p k s).Kind) (x : Expr) (name : List ℕ) (arity : ℕ) (t : TypeRef) (e : List ℕ) → IsLeast (scope_reading p k s) s locals owner (Plain x) ((scope_reading p k s).read t) e →
      ((m : Signature TypeRef) → IsObject t → find_method name (methods_of p k t) ≡ Some m → length m.params ≡ arity → ⊥) → NoneExpected p k s owner locals (argument_spots x name arity)
  none_for locals x name arity t e l never i spot h =
      let below : i < arity = subst (λ z. i < z) (many_arguments p k s owner locals x name arity) (slice_get_within (argument_spots x name arity) i spot h) in
      subst (λ (z : Spot). IsExpected (scope_reading p k s) s locals owner z None) (spot_same (argument_spots x name arity) i (argument x name arity i) spot (argument_spot_at x name arity i below) h)
      (argument_unexpected p k s (lawful p k s) locals owner x name arity i t e l never)

  pub uncalled_at : (old mid new : Table) (q : Place) (x : Expr) (name : List ℕ) (xs : Values) (t : TypeRef) (e : List ℕ) (n : ℕ) (o : Option Fault) → InfersTo p k s owner old mid x (inferred.Least t e) →
      IsTargetOf p k (inferred.Least t e) name (value_count xs) (Without n) → ValuesProbe p k s owner mid new xs o → InfersTo p k s owner old new (Call q x name xs) (uncalled_outcome q n o)
  uncalled_at old mid new q x name xs t e n o h target i = record {
    moves = moves_both p k s old mid new (expr_vals x) (values_vals xs) (InferenceStands (inferred.Least t e)) (NoFault o) (InferenceStands (uncalled_outcome q n o)) h.moves i.moves
        (λ z. tt) (λ z. absurd (uncalled_stands_not p k s c owner q n o z));
    range = uncalled_in_range p k s c owner q n o;
    judged = λ locals a.
        let receiver = h.judged locals (agrees_before p k s (scope_reading p k s) locals mid new (values_vals xs) (NoFault o) i.moves a) in
        uncalled_by p k s c owner locals q x name xs t e n o receiver target
        (i.judged locals a (argument_spots x name (value_count xs)) (none_for locals x name (value_count xs) t e receiver.0 (no_call p k s c owner t e name (value_count xs) n target)));
  }

  pub found_at : (old mid new : Table) (q : Place) (x : Expr) (name : List ℕ) (xs : Values) (t : TypeRef) (e : List ℕ) (m : Method) (u : Fits) → InfersTo p k s owner old mid x (inferred.Least t e) → IsObject t →
      find_method name (methods_of p k t) ≡ Some (signature m) → length m.params ≡ value_count xs → ValuesFit p k s owner mid new xs m.params u → InfersTo p k s owner old new (Call q x name xs) (call_outcome q m.result m.effect e u)
  found_at old mid new q x name xs t e m u h o f g i =
      let result : IsTypeOf p k m.result = (method_in_range p k s c t name (signature m) h.range f).result in
      record {
        moves = moves_both p k s old mid new (expr_vals x) (values_vals xs) (InferenceStands (inferred.Least t e)) (NoneFails u) (InferenceStands (call_outcome q m.result m.effect e u)) h.moves i.moves
            (λ z. tt) (call_stands p k s c owner q m.result m.effect e u);
        range = call_in_range p k s c owner q m.result m.effect e u result;
        judged = λ locals a.
            let receiver = h.judged locals (agrees_before p k s (scope_reading p k s) locals mid new (values_vals xs) (NoneFails u) i.moves a) in
            call_inferred p k s (lawful p k s) locals owner q x name xs t e (signature m) u receiver o f g (reflexive p k s c m.result result)
            (i.judged locals a (argument_spots x name (value_count xs)) (arguments_expected p k s owner locals x name (value_count xs) t e m receiver.0 o f g));
      }
