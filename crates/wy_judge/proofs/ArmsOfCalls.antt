-- Calls as they are judged by themselves: the receiver, and then the arguments at the types of the method's parameters, or where no
-- types are expected.
use Rattle.std.proofs.Common.{◌≡◌, ℕ, List, inl, inr, sym, ◌∙◌, subst, length, Option, Some, None}
use Rattle.wy_text.specs.declared.fault.Place.{Place}
use Rattle.wy_text.specs.declared.fault.Fault.{Fault}
use Rattle.wy_types.specs.declared.types.TypeRef.{TypeRef}
use Rattle.wy_types.specs.declared.types.Method.{Method}
use Rattle.wy_types.specs.declared.code.Value as v
use Rattle.wy_types.specs.Code.{Expr, Call, Values}
use Rattle.wy_types.specs.Vals.{expr_vals, values_vals, value_count}
use Rattle.wy_types.specs.View.{values_of}
use Rattle.wy_types.specs.Program.{Program, Scope}
use Rattle.wy_types.specs.Signature.{Signature, find_method}
use Rattle.wy_types.specs.Types.{IsObject, signature, methods_of}
use Rattle.wy_types.specs.Fitting.{IsTypeOf}
use Rattle.wy_rules.specs.Acceptance.{scope_reading}
use Rattle.wy_rules.specs.Nodes.{argument_spots}
use Rattle.wy_judge.specs.Inference.{Inference}
use Rattle.wy_judge.specs.Inference as inferred
use Rattle.wy_judge.specs.Fits.{Fits}
use Rattle.wy_judge.specs.Fits as fits
use Rattle.wy_judge.specs.declared.targets.Target.TheVariants.{Without, Found}
use Rattle.wy_judge.specs.Outcomes.{call_outcome, uncalled_outcome, NoneFails}
use Rattle.wy_judge.specs.Judged.{Inferred, AllFitted, AllProbed}
use Rattle.wy_judge.specs.Tables.{Table, IsScopeOf, ExprReady, ValuesReady}
use Rattle.wy_judge.specs.Targets.{IsTargetOf, IsInRangeOf}
use Rattle.wy_judge.specs.Judging.{InferenceStands, NoFault, TypesInRange, AllFitTo, AllProbeTo, InfersTo}
use Rattle.wy_judge.proofs.Calling.{call_failed, call_inferred, no_object, no_method, no_number}
use Rattle.wy_judge.proofs.Contexts.{lawful, method_in_range, reflexive}
use Rattle.wy_judge.proofs.Expecting.{count_values, arguments_expected, arguments_unexpected}
use Rattle.wy_judge.proofs.Moving.{agrees_before, moves_both, moves_first, ready_left, ready_right}

module _ (p : Program) (k : ℕ) (s : Scope) (c : IsScopeOf p k s) (owner : Option ℕ) where
  ------------------------------------------------------------
  -- The parts

  pub call_receiver : (table : Table) (q : Place) (x : Expr) (name : List ℕ) (xs : Values) → ExprReady p k s owner table (Call q x name xs) → ExprReady p k s owner table x
  call_receiver table q x name xs h = (h.0, h.1.0, ready_left p k s table h.0 (expr_vals x) (values_vals xs) h.2)

  pub call_arguments : (old mid : Table) (q : Place) (x : Expr) (name : List ℕ) (xs : Values) (u : Inference) → ExprReady p k s owner old (Call q x name xs) → InfersTo p k s owner old mid x u →
      ValuesReady p k s owner mid xs
  call_arguments old mid q x name xs u h i = (h.0, h.1.1, ready_right p k s old mid h.0 (expr_vals x) (values_vals xs) (InferenceStands u) h.2 i.moves)

  ------------------------------------------------------------
  -- The receiver fails

  pub call_fails : (old new : Table) (q : Place) (x : Expr) (name : List ℕ) (xs : Values) (fault : Fault) → InfersTo p k s owner old new x (inferred.Fails fault) → InfersTo p k s owner old new (Call q x name xs) (inferred.Fails fault)
  call_fails old new q x name xs fault h = record {
    moves = moves_first p k s old new (expr_vals x) (values_vals xs) (InferenceStands (inferred.Fails fault)) (InferenceStands (inferred.Fails fault)) h.moves (λ z. z);
    range = tt;
    judged = λ locals a. call_failed p k s (lawful p k s) locals owner q x name xs fault (h.judged locals a);
  }

  ------------------------------------------------------------
  -- There is no method for so many arguments

  -- one of the first three premises is false
  pub no_call : (t : TypeRef) (e : List ℕ) (name : List ℕ) (arity n : ℕ) → IsTargetOf p k (inferred.Least t e) name arity (Without n) → (m : Signature TypeRef) → IsObject t →
      find_method name (methods_of p k t) ≡ Some m → length m.params ≡ arity → ⊥
  no_call t e name arity n target m o f g = elim target [
    | inl a ↦ a.1 o
    | inr b ↦ elim b [
      | inl a ↦ none_some m (sym a.2 ∙ f)
      | inr a ↦ a.2.2 (subst (λ (z : Signature TypeRef). length z.params ≡ arity) (same_found m (signature a.2.0) f a.2.1) g)
    ]
  ]
    where
      none_some : (a : Signature TypeRef) → ◌≡◌ {A = Option (Signature TypeRef)} None (Some a) → ⊥
      none_some a z = cc

      same_found : (a b : Signature TypeRef) → find_method name (methods_of p k t) ≡ Some a → find_method name (methods_of p k t) ≡ Some b → a ≡ b
      same_found a b f h = cc

  -- .. which one, by its number
  pub uncalled_by : (locals : List (scope_reading p k s).Kind) (q : Place) (x : Expr) (name : List ℕ) (xs : Values) (t : TypeRef) (e : List ℕ) (n : ℕ) (o : Option Fault) →
      Inferred p k s locals owner x (inferred.Least t e) → IsTargetOf p k (inferred.Least t e) name (value_count xs) (Without n) →
      AllProbed p k s locals owner (argument_spots x name (value_count xs)) xs o → Inferred p k s locals owner (Call q x name xs) (uncalled_outcome q n o)
  uncalled_by locals q x name xs t e n o h target a = elim target [
    | inl i ↦ subst (λ z. Inferred p k s locals owner (Call q x name xs) (uncalled_outcome q z o)) (sym i.0) (no_object p k s (lawful p k s) locals owner q x name xs t e o h i.1 a)
    | inr j ↦ elim j [
      | inl i ↦ subst (λ z. Inferred p k s locals owner (Call q x name xs) (uncalled_outcome q z o)) (sym i.0) (no_method p k s (lawful p k s) locals owner q x name xs t e o h i.1 i.2 a)
      | inr i ↦ subst (λ z. Inferred p k s locals owner (Call q x name xs) (uncalled_outcome q z o)) (sym i.0)
          (no_number p k s (lawful p k s) locals owner q x name xs t e (signature i.2.0) o h i.1 i.2.1 i.2.2 a)
    ]
  ]

  -- the arguments are judged where no types are expected
  uncalled_judged : (locals : List (scope_reading p k s).Kind) (q : Place) (x : Expr) (name : List ℕ) (xs : List v.Value) (t : TypeRef) (e : List ℕ) (n : ℕ) (o : Option Fault) →
      Inferred p k s locals owner x (inferred.Least t e) → IsTargetOf p k (inferred.Least t e) name (length xs) (Without n) →
      AllProbed p k s locals owner (argument_spots x name (length xs)) (values_of xs) o → Inferred p k s locals owner (Call q x name (values_of xs)) (uncalled_outcome q n o)
  uncalled_judged locals q x name xs t e n o h target a =
      uncalled_by locals q x name (values_of xs) t e n o h (subst (λ z. IsTargetOf p k (inferred.Least t e) name z (Without n)) (sym (count_values xs)) target)
      (subst (λ z. AllProbed p k s locals owner (argument_spots x name z) (values_of xs) o) (sym (count_values xs)) a)

  pub uncalled_in_range : (q : Place) (n : ℕ) (o : Option Fault) → IsInRangeOf p k (uncalled_outcome q n o)
  uncalled_in_range q n None = tt
  uncalled_in_range q n (Some fault) = tt

  pub uncalled_stands_not : (q : Place) (n : ℕ) (o : Option Fault) → InferenceStands (uncalled_outcome q n o) → ⊥
  uncalled_stands_not q n None h = h
  uncalled_stands_not q n (Some fault) h = h

  uncalled_least : (old mid new : Table) (q : Place) (x : Expr) (name : List ℕ) (xs : List v.Value) (t : TypeRef) (e : List ℕ) (n : ℕ) (o : Option Fault) →
      InfersTo p k s owner old mid x (inferred.Least t e) → IsTargetOf p k (inferred.Least t e) name (length xs) (Without n) → AllProbeTo p k s owner mid new xs o →
      InfersTo p k s owner old new (Call q x name (values_of xs)) (uncalled_outcome q n o)
  uncalled_least old mid new q x name xs t e n o h target i = record {
    moves = moves_both p k s old mid new (expr_vals x) (values_vals (values_of xs)) (InferenceStands (inferred.Least t e)) (NoFault o) (InferenceStands (uncalled_outcome q n o)) h.moves i.moves
        (λ z. tt) (λ z. absurd (uncalled_stands_not q n o z));
    range = uncalled_in_range q n o;
    judged = λ locals a.
        let receiver = h.judged locals (agrees_before p k s (scope_reading p k s) locals mid new (values_vals (values_of xs)) (NoFault o) i.moves a) in
        uncalled_judged locals q x name xs t e n o receiver target
        (i.judged locals a (argument_spots x name (length xs)) (arguments_unexpected p k s owner locals x name xs t e receiver.0 (no_call t e name (length xs) n target)));
  }

  pub without_to : (old mid new : Table) (q : Place) (x : Expr) (name : List ℕ) (xs : List v.Value) (receiver : Inference) (n : ℕ) (o : Option Fault) → InfersTo p k s owner old mid x receiver →
      IsTargetOf p k receiver name (length xs) (Without n) → AllProbeTo p k s owner mid new xs o → InfersTo p k s owner old new (Call q x name (values_of xs)) (uncalled_outcome q n o)
  without_to old mid new q x name xs (inferred.Least t e) n o h target i = uncalled_least old mid new q x name xs t e n o h target i
  without_to old mid new q x name xs (inferred.Fails fault) n o h target i = absurd target

  ------------------------------------------------------------
  -- The method is found

  pub found_types : (receiver : Inference) (name : List ℕ) (arity : ℕ) (e : List ℕ) (m : Method) → IsInRangeOf p k receiver → IsTargetOf p k receiver name arity (Found e m) → TypesInRange p k s owner m.params
  found_types (inferred.Least t f) name arity e m r target = (method_in_range p k s c t name (signature m) r target.2).params
  found_types (inferred.Fails fault) name arity e m r target = absurd target

  pub found_count : (receiver : Inference) (name : List ℕ) (arity : ℕ) (e : List ℕ) (m : Method) → IsTargetOf p k receiver name arity (Found e m) → arity ≡ length m.params
  found_count (inferred.Least t f) name arity e m target = sym target.3
  found_count (inferred.Fails fault) name arity e m target = absurd target

  pub call_stands : (q : Place) (result : TypeRef) (effect e : List ℕ) (u : Fits) → InferenceStands (call_outcome q result effect e u) → NoneFails u
  call_stands q result effect e (fits.Have f) h = tt
  call_stands q result effect e (fits.Misfit n) h = tt
  call_stands q result effect e (fits.Fails fault) h = h

  pub call_in_range : (q : Place) (result : TypeRef) (effect e : List ℕ) (u : Fits) → IsTypeOf p k result → IsInRangeOf p k (call_outcome q result effect e u)
  call_in_range q result effect e (fits.Have f) r = r
  call_in_range q result effect e (fits.Misfit n) r = tt
  call_in_range q result effect e (fits.Fails fault) r = tt

  call_least_to : (old mid new : Table) (q : Place) (x : Expr) (name : List ℕ) (xs : List v.Value) (t : TypeRef) (e : List ℕ) (m : Method) (u : Fits) →
      InfersTo p k s owner old mid x (inferred.Least t e) → IsObject t → find_method name (methods_of p k t) ≡ Some (signature m) → length m.params ≡ length xs →
      AllFitTo p k s owner mid new xs m.params u → InfersTo p k s owner old new (Call q x name (values_of xs)) (call_outcome q m.result m.effect e u)
  call_least_to old mid new q x name xs t e m u h o f g i =
      let result : IsTypeOf p k m.result = (method_in_range p k s c t name (signature m) h.range f).result in
      record {
        moves = moves_both p k s old mid new (expr_vals x) (values_vals (values_of xs)) (InferenceStands (inferred.Least t e)) (NoneFails u) (InferenceStands (call_outcome q m.result m.effect e u)) h.moves i.moves
            (λ z. tt) (call_stands q m.result m.effect e u);
        range = call_in_range q m.result m.effect e u result;
        judged = λ locals a.
            let receiver = h.judged locals (agrees_before p k s (scope_reading p k s) locals mid new (values_vals (values_of xs)) (NoneFails u) i.moves a) in
            call_inferred p k s (lawful p k s) locals owner q x name (values_of xs) t e (signature m) u receiver o f (g ∙ sym (count_values xs)) (reflexive p k s c m.result result)
            (subst (λ z. AllFitted p k s locals owner (argument_spots x name z) (values_of xs) m.params u) (sym (count_values xs))
            (i.judged locals a (argument_spots x name (length xs)) (arguments_expected p k s owner locals x name (length xs) t e m receiver.0 o f g)));
      }

  pub found_to : (old mid new : Table) (q : Place) (x : Expr) (name : List ℕ) (xs : List v.Value) (receiver : Inference) (e : List ℕ) (m : Method) (u : Fits) → InfersTo p k s owner old mid x receiver →
      IsTargetOf p k receiver name (length xs) (Found e m) → AllFitTo p k s owner mid new xs m.params u → InfersTo p k s owner old new (Call q x name (values_of xs)) (call_outcome q m.result m.effect e u)
  found_to old mid new q x name xs (inferred.Least t f) e m u h target i =
      subst (λ z. InfersTo p k s owner old new (Call q x name (values_of xs)) (call_outcome q m.result m.effect z u)) (sym target.0)
      (call_least_to old mid new q x name xs t f m u h target.1 target.2 target.3 i)
  found_to old mid new q x name xs (inferred.Fails fault) e m u h target i = absurd target
