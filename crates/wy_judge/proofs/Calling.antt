-- Calls: what judging one comes to, by what its receiver and its arguments came to; and what the place of an argument expects.
use Rattle.std.proofs.Common.{◌≡◌, ℕ, ◌+◌, List, inl, inr, refl, sym, ◌∙◌, ap, subst, length, Option, Some, None}
use Rattle.std.specs.Prelude.{slice_get}
use Rattle.std.specs.Option.{option_map}
use Rattle.std.proofs.lemmas.List.{length-map}
use Rattle.std.proofs.lemmas.Option.{slice_get-map}
use Rattle.wy_text.specs.declared.fault.Place.{Place}
use Rattle.wy_text.specs.declared.fault.Fault.{Fault}
use Rattle.wy_text.specs.declared.fault.RuleName.TheVariants.{TCall}
use Rattle.wy_effects.specs.EffSet.{union}
use Rattle.wy_types.specs.declared.types.TypeRef.{TypeRef}
use Rattle.wy_types.specs.Code.{Expr, Call, Plain, Values}
use Rattle.wy_types.specs.Vals.{value_count}
use Rattle.wy_types.specs.Program.{Program, Scope}
use Rattle.wy_types.specs.Signature.{Signature, find_method}
use Rattle.wy_types.specs.Types.{IsObject, is_plain, methods_of}
use Rattle.wy_rules.specs.Readings.{IsBelow}
use Rattle.wy_rules.specs.Typing.{HasSome, AllHaveAt}
use Rattle.wy_rules.specs.Acceptance.{scope_reading}
use Rattle.wy_rules.specs.Nodes.{argument, argument_spots, expr_nodes, values_nodes}
use Rattle.wy_rules.specs.Failing.{IsLeast, IsTarget, IsExpected, CallFails, HasArguments}
use Rattle.wy_rules.proofs.Forms.{Lawful}
use Rattle.wy_rules.proofs.Least.{call_least}
use Rattle.wy_rules.proofs.Needs.{call_needs}
use Rattle.wy_judge.specs.Inference as inferred
use Rattle.wy_judge.specs.Fits.{Fits}
use Rattle.wy_judge.specs.Fits as fits
use Rattle.wy_judge.specs.Outcomes.{fault_at, call_outcome, uncalled_outcome}
use Rattle.wy_judge.specs.Judged.{Inferred, AllFitted, AllProbed}
use Rattle.wy_judge.proofs.ReadTypes.{read_signature, object_read, read_object, find_read}
use Rattle.wy_judge.proofs.Lists.{pass_both, fail_left, fail_right}
use Rattle.wy_judge.proofs.Ending.{ends_passing, ends_failing}
use Rattle.wy_judge.proofs.Several.{as_many, first_have}

module _ (p : Program) (k : ℕ) (s : Scope) where
  ------------------------------------------------------------
  -- Methods as they are read

  some_same : (a b : Signature (scope_reading p k s).Kind) → ◌≡◌ {A = Option (Signature (scope_reading p k s).Kind)} (Some a) (Some b) → a ≡ b
  some_same a b e = cc

  none_some : (a : Signature (scope_reading p k s).Kind) → ◌≡◌ {A = Option (Signature (scope_reading p k s).Kind)} None (Some a) → ⊥
  none_some a e = cc

  -- a method that is there is read
  found_read : (t : TypeRef) (name : List ℕ) (m : Signature TypeRef) → find_method name (methods_of p k t) ≡ Some m →
      find_method name ((scope_reading p k s).methods ((scope_reading p k s).read t)) ≡ Some (read_signature p k (is_plain s.kind) m)
  found_read t name m e = find_read p k (is_plain s.kind) name t ∙ ap (option_map (read_signature p k (is_plain s.kind))) e

  -- .. and is the only one of its name
  only_found : (t : TypeRef) (name : List ℕ) (m : Signature TypeRef) (n : Signature (scope_reading p k s).Kind) → find_method name (methods_of p k t) ≡ Some m →
      find_method name ((scope_reading p k s).methods ((scope_reading p k s).read t)) ≡ Some n → read_signature p k (is_plain s.kind) m ≡ n
  only_found t name m n e f = some_same (read_signature p k (is_plain s.kind) m) n (sym (found_read t name m e) ∙ f)

  -- one that is not there is not read
  not_found : (t : TypeRef) (name : List ℕ) (n : Signature (scope_reading p k s).Kind) → find_method name (methods_of p k t) ≡ None →
      find_method name ((scope_reading p k s).methods ((scope_reading p k s).read t)) ≡ Some n → ⊥
  not_found t name n e f = none_some n (sym (find_read p k (is_plain s.kind) name t ∙ ap (option_map (read_signature p k (is_plain s.kind))) e) ∙ f)

  same_number : (m : Signature TypeRef) → length (read_signature p k (is_plain s.kind) m).params ≡ length m.params
  same_number m = length-map m.params (scope_reading p k s).read

  number_of : (t : TypeRef) (name : List ℕ) (m : Signature TypeRef) (n : Signature (scope_reading p k s).Kind) → find_method name (methods_of p k t) ≡ Some m →
      find_method name ((scope_reading p k s).methods ((scope_reading p k s).read t)) ≡ Some n → length n.params ≡ length m.params
  number_of t name m n e f = ap (λ (v : Signature (scope_reading p k s).Kind). length v.params) (sym (only_found t name m n e f)) ∙ same_number m

module _ (p : Program) (k : ℕ) (s : Scope) (w : Lawful (scope_reading p k s)) (locals : List (scope_reading p k s).Kind) (owner : Option ℕ) where
  ------------------------------------------------------------
  -- Calls

  pub call_failed : (q : Place) (x : Expr) (name : List ℕ) (xs : Values) (fault : Fault) → Inferred p k s locals owner x (inferred.Fails fault) → Inferred p k s locals owner (Call q x name xs) (inferred.Fails fault)
  call_failed q x name xs fault h = fail_left p k s locals (expr_nodes s owner x) _ fault h

  -- the receiver and the arguments pass, and a premise is false
  call_fails : (q : Place) (x : Expr) (name : List ℕ) (xs : Values) (t : TypeRef) (e : List ℕ) (n : ℕ) → Inferred p k s locals owner x (inferred.Least t e) →
      AllProbed p k s locals owner (argument_spots x name (value_count xs)) xs None →
      (HasSome (scope_reading p k s) s locals owner (Plain (Call q x name xs)) → ⊥) → CallFails (scope_reading p k s) s locals owner ((scope_reading p k s).read t) name xs n →
      Inferred p k s locals owner (Call q x name xs) (inferred.Fails (fault_at q TCall n))
  call_fails q x name xs t e n h a d f =
      fail_right p k s locals (expr_nodes s owner x) _ (fault_at q TCall n) h.1
      (ends_failing p k s locals owner (values_nodes s owner (argument_spots x name (value_count xs)) xs) q TCall (Call q x name xs) n a d ((scope_reading p k s).read t, e, h.0, f))

  pub call_inferred : (q : Place) (x : Expr) (name : List ℕ) (xs : Values) (t : TypeRef) (e : List ℕ) (m : Signature TypeRef) (u : Fits) →
      Inferred p k s locals owner x (inferred.Least t e) → IsObject t → find_method name (methods_of p k t) ≡ Some m → length m.params ≡ value_count xs →
      IsBelow (scope_reading p k s) ((scope_reading p k s).read m.result) ((scope_reading p k s).read m.result) →
      AllFitted p k s locals owner (argument_spots x name (value_count xs)) xs m.params u → Inferred p k s locals owner (Call q x name xs) (call_outcome q m.result m.effect e u)
  call_inferred q x name xs t e m (fits.Have f) h o g c r a =
      let l = call_least (scope_reading p k s) w s locals owner q x name xs ((scope_reading p k s).read t) e (read_signature p k (is_plain s.kind) m) f h.0
      (object_read p k (is_plain s.kind) t o) (found_read p k s t name m g) a.0 r in (
        l,
        pass_both p k s locals (expr_nodes s owner x) _ h.1
            (ends_passing p k s locals owner (values_nodes s owner (argument_spots x name (value_count xs)) xs) q TCall (Call q x name xs) ((scope_reading p k s).read m.result) (union e (union f m.effect)) a.1 l.has),
      )
  call_inferred q x name xs t e m (fits.Misfit n) h o g c r a =
      let misfits : HasArguments (scope_reading p k s) s locals owner ((scope_reading p k s).read t) name xs → ⊥ =
      λ d. a.1 (first_have (scope_reading p k s) w s locals owner (n + 1) xs m.params (d (read_signature p k (is_plain s.kind) m) (found_read p k s t name m g))) in
      call_fails q x name xs t e 4 h a.2
      (λ d. (let b = call_needs (scope_reading p k s) w s locals owner q x name xs ((scope_reading p k s).read t) e h.0 d in
      misfits (λ v i. subst (λ (z : Signature (scope_reading p k s).Kind). AllHaveAt (scope_reading p k s) s locals owner xs z.params) (some_same p k s b.method v (sym b.found ∙ i)) b.arguments)))
      (inr (object_read p k (is_plain s.kind) t o, inr ((read_signature p k (is_plain s.kind) m, found_read p k s t name m g), inr (λ v i. number_of p k s t name m v g i ∙ c, inl (misfits, refl)))))
  call_inferred q x name xs t e m (fits.Fails fault) h o g c r a = fail_right p k s locals (expr_nodes s owner x) _ fault h.1 (fail_left p k s locals (values_nodes s owner (argument_spots x name (value_count xs)) xs) _ fault a)

  ------------------------------------------------------------
  -- Calls of no method

  uncalled : (q : Place) (x : Expr) (name : List ℕ) (xs : Values) (t : TypeRef) (e : List ℕ) (n : ℕ) (o : Option Fault) → Inferred p k s locals owner x (inferred.Least t e) →
      (HasSome (scope_reading p k s) s locals owner (Plain (Call q x name xs)) → ⊥) → CallFails (scope_reading p k s) s locals owner ((scope_reading p k s).read t) name xs n →
      AllProbed p k s locals owner (argument_spots x name (value_count xs)) xs o → Inferred p k s locals owner (Call q x name xs) (uncalled_outcome q n o)
  uncalled q x name xs t e n None h d f a = call_fails q x name xs t e n h a d f
  uncalled q x name xs t e n (Some fault) h d f a = fail_right p k s locals (expr_nodes s owner x) _ fault h.1 (fail_left p k s locals (values_nodes s owner (argument_spots x name (value_count xs)) xs) _ fault a)

  -- the receiver is no object
  pub no_object : (q : Place) (x : Expr) (name : List ℕ) (xs : Values) (t : TypeRef) (e : List ℕ) (o : Option Fault) → Inferred p k s locals owner x (inferred.Least t e) → (IsObject t → ⊥) →
      AllProbed p k s locals owner (argument_spots x name (value_count xs)) xs o → Inferred p k s locals owner (Call q x name xs) (uncalled_outcome q 1 o)
  no_object q x name xs t e o h n a =
      let base : (scope_reading p k s).IsObject ((scope_reading p k s).read t) → ⊥ = λ b. n (read_object p k (is_plain s.kind) t b) in
      uncalled q x name xs t e 1 o h (λ d. base (call_needs (scope_reading p k s) w s locals owner q x name xs ((scope_reading p k s).read t) e h.0 d).object) (inl (base, refl)) a

  -- it has no method of the name
  pub no_method : (q : Place) (x : Expr) (name : List ℕ) (xs : Values) (t : TypeRef) (e : List ℕ) (o : Option Fault) → Inferred p k s locals owner x (inferred.Least t e) → IsObject t →
      find_method name (methods_of p k t) ≡ None → AllProbed p k s locals owner (argument_spots x name (value_count xs)) xs o → Inferred p k s locals owner (Call q x name xs) (uncalled_outcome q 2 o)
  no_method q x name xs t e o h i n a =
      uncalled q x name xs t e 2 o h
      (λ d. (let b = call_needs (scope_reading p k s) w s locals owner q x name xs ((scope_reading p k s).read t) e h.0 d in not_found p k s t name b.method n b.found))
      (inr (object_read p k (is_plain s.kind) t i, inl (λ d. not_found p k s t name d.0 n d.1, refl))) a

  -- the method has another number of parameters
  pub no_number : (q : Place) (x : Expr) (name : List ℕ) (xs : Values) (t : TypeRef) (e : List ℕ) (m : Signature TypeRef) (o : Option Fault) → Inferred p k s locals owner x (inferred.Least t e) → IsObject t →
      find_method name (methods_of p k t) ≡ Some m → (length m.params ≡ value_count xs → ⊥) → AllProbed p k s locals owner (argument_spots x name (value_count xs)) xs o →
      Inferred p k s locals owner (Call q x name xs) (uncalled_outcome q 3 o)
  no_number q x name xs t e m o h i g n a =
      uncalled q x name xs t e 3 o h
      (λ d. (let b = call_needs (scope_reading p k s) w s locals owner q x name xs ((scope_reading p k s).read t) e h.0 d in
      n (sym (number_of p k s t name m b.method g b.found) ∙ as_many (scope_reading p k s) w s locals owner xs b.method.params b.arguments)))
      (inr (
        object_read p k (is_plain s.kind) t i,
        inr ((read_signature p k (is_plain s.kind) m, found_read p k s t name m g), inl (λ d. n (sym (same_number p k s m) ∙ d (read_signature p k (is_plain s.kind) m) (found_read p k s t name m g)), refl)),
      )) a

  ------------------------------------------------------------
  -- What the place of an argument expects

  pub argument_expected : (x : Expr) (name : List ℕ) (arity i : ℕ) (t : TypeRef) (e : List ℕ) (m : Signature TypeRef) (u : TypeRef) →
      IsLeast (scope_reading p k s) s locals owner (Plain x) ((scope_reading p k s).read t) e → IsObject t → find_method name (methods_of p k t) ≡ Some m → length m.params ≡ arity →
      slice_get m.params i ≡ Some u → IsExpected (scope_reading p k s) s locals owner (argument x name arity i) (Some ((scope_reading p k s).read u))
  argument_expected x name arity i t e m u l o g c v = (
    (scope_reading p k s).read t,
    e,
    l,
    (
      read_signature p k (is_plain s.kind) m,
      record { object = object_read p k (is_plain s.kind) t o; found = found_read p k s t name m g; number = same_number p k s m ∙ c },
      slice_get-map (scope_reading p k s).read m.params i ∙ ap (option_map (scope_reading p k s).read) v,
    ),
  )

  -- one of the first three premises is false
  no_target : (name : List ℕ) (arity : ℕ) (t : TypeRef) (o : Option (Signature TypeRef)) → find_method name (methods_of p k t) ≡ o →
      ((m : Signature TypeRef) → IsObject t → find_method name (methods_of p k t) ≡ Some m → length m.params ≡ arity → ⊥) →
      (v : Signature (scope_reading p k s).Kind) → IsTarget (scope_reading p k s) s locals owner ((scope_reading p k s).read t) name arity v → ⊥
  no_target name arity t None e n v target = not_found p k s t name v e target.found
  no_target name arity t (Some m) e n v target = n m (read_object p k (is_plain s.kind) t target.object) e (sym (number_of p k s t name m v e target.found) ∙ target.number)

  pub argument_unexpected : (x : Expr) (name : List ℕ) (arity i : ℕ) (t : TypeRef) (e : List ℕ) → IsLeast (scope_reading p k s) s locals owner (Plain x) ((scope_reading p k s).read t) e →
      ((m : Signature TypeRef) → IsObject t → find_method name (methods_of p k t) ≡ Some m → length m.params ≡ arity → ⊥) →
      IsExpected (scope_reading p k s) s locals owner (argument x name arity i) None
  argument_unexpected x name arity i t e l n = ((scope_reading p k s).read t, e, l, no_target name arity t (find_method name (methods_of p k t)) refl n)

  -- .. the first, the second or the third
  pub no_object_expects : (x : Expr) (name : List ℕ) (arity i : ℕ) (t : TypeRef) (e : List ℕ) → IsLeast (scope_reading p k s) s locals owner (Plain x) ((scope_reading p k s).read t) e →
      (IsObject t → ⊥) → IsExpected (scope_reading p k s) s locals owner (argument x name arity i) None
  no_object_expects x name arity i t e l n = argument_unexpected x name arity i t e l (λ m o f c. n o)

  pub no_method_expects : (x : Expr) (name : List ℕ) (arity i : ℕ) (t : TypeRef) (e : List ℕ) → IsLeast (scope_reading p k s) s locals owner (Plain x) ((scope_reading p k s).read t) e →
      find_method name (methods_of p k t) ≡ None → IsExpected (scope_reading p k s) s locals owner (argument x name arity i) None
  no_method_expects x name arity i t e l n = argument_unexpected x name arity i t e l (λ m o f c. absurd (cc))

  pub no_number_expects : (x : Expr) (name : List ℕ) (arity i : ℕ) (t : TypeRef) (e : List ℕ) (m : Signature TypeRef) → IsLeast (scope_reading p k s) s locals owner (Plain x) ((scope_reading p k s).read t) e →
      find_method name (methods_of p k t) ≡ Some m → (length m.params ≡ arity → ⊥) → IsExpected (scope_reading p k s) s locals owner (argument x name arity i) None
  no_number_expects x name arity i t e m l g n =
      argument_unexpected x name arity i t e l (λ v o f c. (let same : v ≡ m = cc in n (subst (λ (z : Signature TypeRef). length z.params ≡ arity) same c)))
