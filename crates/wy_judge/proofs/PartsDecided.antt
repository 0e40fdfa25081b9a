-- What judging each part of a body comes to, with no table that may want memory: form by form, from what its parts come to.
use Rattle.std.proofs.Common.{◌≡◌, ℕ, zero, suc, ◌+◌, ◌-◌, List, [], ◌∷◌, ◌++◌, inl, inr, length, refl, subst, Option, Some, None, Bool as Truth, true, false, arith, length-append}
use Rattle.std.specs.Prelude.{slice_set}
use Rattle.std.proofs.lemmas.Bool.{cases_lt}
use Rattle.wy_text.specs.declared.fault.Place.{Place}
use Rattle.wy_text.specs.declared.fault.Fault.{Fault}
use Rattle.wy_text.specs.declared.fault.RuleName.TheVariants.{TSeq, TVal}
use Rattle.wy_text.proofs.Lists.{In-left}
use Rattle.wy_effects.proofs.SetLaws.{cases_equal}
use Rattle.wy_types.specs.declared.types.TypeRef.{TypeRef}
use Rattle.wy_types.specs.declared.types.TypeRef.TheVariants.{Int, Bool, Text, Unit as Nothing, Own}
use Rattle.wy_types.specs.declared.types.Method.{Method}
use Rattle.wy_types.specs.declared.code.UnaryOperator.{UnaryOperator}
use Rattle.wy_types.specs.declared.code.BinaryOperator.{BinaryOperator}
use Rattle.wy_types.specs.declared.code.TextOperator.{TextOperator}
use Rattle.wy_types.specs.declared.code.Binding.{Binding}
use Rattle.wy_types.specs.declared.code.Variable.TheVariants.{Local}
use Rattle.wy_types.specs.declared.resolved.Field.{Field}
use Rattle.wy_types.specs.Code.{Expr, Number, Quoted, Truth as TruthOf, Nothing as NothingOf, This, Name, Unary, Binary, TextCall, Call, New, Ascribe, Assign, Value, Plain, If, Values, none, more, Block, Last, Then, Val}
use Rattle.wy_types.specs.Vals.{expr_vals, value_vals, values_vals, block_vals, value_count}
use Rattle.wy_types.specs.Program.{Program, Scope}
use Rattle.wy_types.specs.Signature.{Signature, find_method}
use Rattle.wy_types.specs.Types.{IsObject, is_plain, methods_of}
use Rattle.wy_types.specs.Fitting.{IsTypeOf}
use Rattle.wy_types.proofs.Deciding.{decide_type}
use Rattle.wy_rules.specs.Derivations.{mark}
use Rattle.wy_rules.specs.Typing.{field_types, var_field}
use Rattle.wy_rules.specs.Nodes.{nothing, written}
use Rattle.wy_judge.specs.Inference.{Inference}
use Rattle.wy_judge.specs.Inference as inferred
use Rattle.wy_judge.specs.Fit.{Fit}
use Rattle.wy_judge.specs.Fit as fit
use Rattle.wy_judge.specs.Fits.{Fits}
use Rattle.wy_judge.specs.Fits as fits
use Rattle.wy_judge.specs.Step.{Step}
use Rattle.wy_judge.specs.Step as step
use Rattle.wy_judge.specs.declared.targets.Target.TheVariants.{Without}
use Rattle.wy_premises.specs.Operators.{text_operands}
use Rattle.wy_judge.specs.Outcomes.{fault_at, IsSame, unary_outcome, both_outcome, text_outcome, new_outcome, call_outcome, uncalled_outcome, ascribed_outcome, assigned_outcome, unassigned_outcome, fitted_outcome, probed_outcome, chosen_fit, chosen_fault, more_fits, fault_or, followed_fit, stated_step, untyped_fault}
use Rattle.wy_judge.specs.Tables.{Table, IsKnown, IsScopeOf, HasOwner, IsKept, IsPut, Moves, ExprReady, ValueReady, ValuesReady, BlockReady}
use Rattle.wy_judge.specs.Targets.{mode_of, IsTargetOf, IsInRangeOf, IsFittedIn}
use Rattle.wy_judge.specs.Judging.{NoFault, FitStands, StepStands, TypesInRange, InfersTo, FitsTo, ProbesTo, BlockFitsTo, BlockProbesTo}
use Rattle.wy_judge.proofs.ArmsOfCalls.{call_receiver, call_arguments, call_fails}
use Rattle.wy_judge.proofs.ArmsOfNames.{number_to, quoted_to, truth_to, nothing_to, this_owned, this_to, name_to}
use Rattle.wy_judge.proofs.ArmsOfObjects.{new_values, new_types, ascribed_value, ascribed_type, ascribed_to, assigned_value, var_type, assigned_to, unassigned_to}
use Rattle.wy_judge.proofs.ArmsOfOperators.{unary_to, binary_first, binary_second, binary_to}
use Rattle.wy_judge.proofs.ArmsOfTexts.{text_values, text_types}
use Rattle.wy_judge.proofs.AtOnce.{ValuesFit, ValuesProbe, values_none, values_probe_none, values_more, values_probe_more, text_as_many, text_at, new_as_many, new_at, uncalled_at, found_at}
use Rattle.wy_judge.proofs.Blocks.{typed_stated, typed_misfit, typed_fails, untyped_stated, untyped_fails, untyped_choice}
use Rattle.wy_judge.proofs.BlocksAtOnce.{StatementTo, last_fits, last_probes, goes_on_fits, goes_on_probes, stops_fits, stops_probes, do_at, val_at, val_fails_at}
use Rattle.wy_judge.proofs.Contexts.{lawful, in_range, written_in_range, method_in_range}
use Rattle.wy_judge.proofs.Moving.{ready_left, ready_other, ready_right}
use Rattle.wy_judge.proofs.Naming.{name_known}
use Rattle.wy_judge.proofs.Putting.{put_moves, sees_known}
use Rattle.wy_judge.proofs.ReachDecided.{object_or_not}
use Rattle.wy_judge.proofs.SubtypesDecided.{subtype_decided}
use Rattle.wy_judge.proofs.Tabled.{kept_more, put_in}
use Rattle.wy_judge.proofs.ValueParts.{test_ready, first_ready, second_ready, second_probe_ready, plain_fits, plain_probes, if_fits, if_probes}

------------------------------------------------------------
-- Tables, and types that are the same

room_by : (m : ℕ) (table : Table) → (new : Table) × IsKept table new × (length new ≡ length table + m)
room_by zero table = (table, λ n t. (λ e. e, λ e. e), omega arith)
room_by (suc m) table =
    let r = room_by m table in
    let size : length r.0 ≡ length table + m = r.2 in
    let longer : length (r.0 ++ None ∷ []) ≡ length r.0 + 1 = length-append r.0 (None ∷ []) in
    (r.0 ++ None ∷ [], kept_more table r.0 r.1, omega arith)

pub put_anywhere : (table : Table) (n : ℕ) (t : TypeRef) → (new : Table) × IsPut table new n t
put_anywhere table n t = elim (cases_lt n (length table)) [
  | inl below ↦ (slice_set table n (Some t), put_in table table n t (λ m u. (λ e. e, λ e. e)) below (omega arith))
  | inr short ↦
      let r = room_by (n + 1 - length table) table in
      let size : length r.0 ≡ length table + (n + 1 - length table) = r.2 in
      (slice_set r.0 n (Some t), put_in table r.0 n t r.1 (omega arith) (omega arith))
]

same_decided : (u v : Inference) → (same : Truth) × IsSame u v same
same_decided (inferred.Least t e) (inferred.Least w f) = elim (decide_type t w) [
  | inl same ↦ (true, (λ q. same, λ q. refl))
  | inr other ↦ (false, (λ q. absurd (cc), λ q. absurd (other q)))
]
same_decided (inferred.Least t e) (inferred.Fails fault) = (true, tt)
same_decided (inferred.Fails fault) v = (true, tt)

abbrev method_of : Signature TypeRef → Method
method_of m = record { name = m.name; params = m.params; effect = m.effect; result = m.result }

module _ (p : Program) (k : ℕ) (s : Scope) (c : IsScopeOf p k s) where
  pub fitted_decided : (v : Inference) (t : TypeRef) → IsInRangeOf p k v → IsTypeOf p k t → (u : Fit) × IsFittedIn p k (mode_of (is_plain s.kind)) v t u
  fitted_decided (inferred.Least w e) t f g = elim (subtype_decided p (in_range p k s c) k (mode_of (is_plain s.kind)) w t f g) [
    | inl below ↦ (fitted_outcome true (inferred.Least w e), (true, (λ q. below, λ q. refl), refl))
    | inr not ↦ (fitted_outcome false (inferred.Least w e), (false, (λ q. absurd (cc), λ q. absurd (not q)), refl))
  ]
  fitted_decided (inferred.Fails fault) t f g = (fitted_outcome true (inferred.Fails fault), (true, tt, refl))

module _ (p : Program) (k : ℕ) (s : Scope) (owner : Option ℕ) where
  abbrev Infers : Table → Expr → Type 0
  Infers old x = (new : Table) × (u : Inference) × InfersTo p k s owner old new x u

  abbrev Fitting : Table → Value → TypeRef → Type 0
  Fitting old x t = (new : Table) × (u : Fit) × FitsTo p k s owner old new x t u

  abbrev Probing : Table → Value → Type 0
  Probing old x = (new : Table) × (o : Option Fault) × ProbesTo p k s owner old new x o

  abbrev AllFitting : Table → Values → List TypeRef → Type 0
  AllFitting old xs ts = (new : Table) × (u : Fits) × ValuesFit p k s owner old new xs ts u

  abbrev AllProbing : Table → Values → Type 0
  AllProbing old xs = (new : Table) × (o : Option Fault) × ValuesProbe p k s owner old new xs o

  abbrev BlockFitting : Table → Block → TypeRef → Type 0
  BlockFitting old b t = (new : Table) × (u : Fit) × BlockFitsTo p k s owner old new b t u

  abbrev BlockProbing : Table → Block → Type 0
  BlockProbing old b = (new : Table) × (o : Option Fault) × BlockProbesTo p k s owner old new b o

  pub record ExprDecided (x : Expr) : Type 0 where
    pub infers : (old : Table) → ExprReady p k s owner old x → Infers old x

  pub record ValueDecided (x : Value) : Type 0 where
    pub by_itself : (y : Expr) → x ≡ Plain y → ExprDecided y
    pub fits_at : (old : Table) (t : TypeRef) → IsTypeOf p k t → ValueReady p k s owner old x → Fitting old x t
    pub probes : (old : Table) → ValueReady p k s owner old x → Probing old x

  pub record ValuesDecided (xs : Values) : Type 0 where
    pub fit_at : (old : Table) (ts : List TypeRef) → TypesInRange p k s owner ts → value_count xs ≡ length ts → ValuesReady p k s owner old xs → AllFitting old xs ts
    pub probe : (old : Table) → ValuesReady p k s owner old xs → AllProbing old xs

  pub record BlockDecided (b : Block) : Type 0 where
    pub fits_at : (old : Table) (t : TypeRef) → IsTypeOf p k t → BlockReady p k s owner old b → BlockFitting old b t
    pub probes : (old : Table) → BlockReady p k s owner old b → BlockProbing old b

  -- a statement before the rest of a block, which can then be judged
  abbrev Stating : Table → (Block → Block) → List ℕ → Block → Type 0
  Stating old before vals rest = (new : Table) × (u : Step) × StatementTo p k s owner old new before vals u × (StepStands u → BlockReady p k s owner new rest)

module _ (p : Program) (k : ℕ) (s : Scope) (c : IsScopeOf p k s) (owner : Option ℕ) (there : HasOwner s owner) where
  ------------------------------------------------------------
  -- Expressions

  this_decided : (q : Place) → ExprDecided p k s owner (This q)
  this_decided q = record {
    infers = λ old r. (let l = this_owned p k s c owner old q r in (old, inferred.Least (Own l.0) [], this_to p k s c owner old q l.0 l.1 there r));
  }

  name_decided : (q : Place) (name : Binding) → ExprDecided p k s owner (Name q name)
  name_decided q name = record { infers = λ old r. (let n = name_known p k s c old owner q name r in (old, inferred.Least n.0 [], name_to p k s c owner old q name n.0 r n.1)) }

  unary_decided : (q : Place) (op : UnaryOperator) (x : Expr) → ExprDecided p k s owner x → ExprDecided p k s owner (Unary q op x)
  unary_decided q op x d = record { infers = λ old r. (let a = d.infers old r in (a.0, unary_outcome q op a.1, unary_to p k s c owner old a.0 q op x a.1 a.2)) }

  binary_decided : (q : Place) (op : BinaryOperator) (x z : Expr) → ExprDecided p k s owner x → ExprDecided p k s owner z → ExprDecided p k s owner (Binary q op x z)
  binary_decided q op x z d e = record {
    infers = λ old r. (
        let a = d.infers old (binary_first p k s c owner old q op x z r) in
        let b = e.infers a.0 (binary_second p k s c owner old a.0 q op x z a.1 r a.2) in
        let same = same_decided a.1 b.1 in
        let u : Inference = both_outcome q op same.0 a.1 b.1 in
        (b.0, u, binary_to p k s c owner old a.0 b.0 q op x z a.1 b.1 u a.2 b.2 (same.0, same.1, refl))
        );
  }

  text_decided : (q : Place) (op : TextOperator) (xs : Values) → ValuesDecided p k s owner xs → ExprDecided p k s owner (TextCall q op xs)
  text_decided q op xs d = record {
    infers = λ old r. (
        let a = d.fit_at old (text_operands op) (text_types p k s c owner op) (text_as_many p k s c owner old q op xs r) (text_values p k s c owner old q op xs r) in
        (a.0, text_outcome q op a.1, text_at p k s c owner old a.0 q op xs a.1 a.2)
        );
  }

  new_decided : (q : Place) (l : ℕ) (xs : Values) → ValuesDecided p k s owner xs → ExprDecided p k s owner (New q l xs)
  new_decided q l xs d = record {
    infers = λ old r. (
        let a = d.fit_at old (field_types s l) (new_types p k s c owner l) (new_as_many p k s c owner old q l xs r) (new_values p k s c owner old q l xs r) in
        (a.0, new_outcome q l a.1, new_at p k s c owner old a.0 q l xs a.1 r a.2)
        );
  }

  ascribed_decided : (q : Place) (x : Value) (t : TypeRef) → ValueDecided p k s owner x → ExprDecided p k s owner (Ascribe q x t)
  ascribed_decided q x t d = record {
    infers = λ old r. (
        let a = d.fits_at old t (ascribed_type p k s c owner old q x t r) (ascribed_value p k s c owner old q x t r) in
        (a.0, ascribed_outcome q t a.1, ascribed_to p k s c owner old a.0 q x t a.1 r a.2)
        );
  }

  assigned_by : (q : Place) (name : Binding) (x : Value) → ValueDecided p k s owner x → (o : Option Field) → var_field s owner name ≡ o → (old : Table) → ExprReady p k s owner old (Assign q name x) → Infers p k s owner old (Assign q name x)
  assigned_by q name x d None e old r =
      let a = d.probes old (assigned_value p k s c owner old q name x r) in
      (a.0, unassigned_outcome q a.1, unassigned_to p k s c owner old a.0 q name x a.1 e a.2)
  assigned_by q name x d (Some f) e old r =
      let a = d.fits_at old f.typ (var_type p k s c owner owner name f e) (assigned_value p k s c owner old q name x r) in
      (a.0, assigned_outcome q a.1, assigned_to p k s c owner old a.0 q name x f a.1 e a.2)

  assigned_decided : (q : Place) (name : Binding) (x : Value) → ValueDecided p k s owner x → ExprDecided p k s owner (Assign q name x)
  assigned_decided q name x d = record { infers = λ old r. assigned_by q name x d (var_field s owner name) refl old r }

  ------------------------------------------------------------
  -- Calls, by what the receiver offers

  module _ (q : Place) (x : Expr) (name : List ℕ) (xs : Values) (d : ValuesDecided p k s owner xs) where
    uncalled_by_probe : (old mid : Table) (t : TypeRef) (e : List ℕ) (n : ℕ) → InfersTo p k s owner old mid x (inferred.Least t e) → IsTargetOf p k (inferred.Least t e) name (value_count xs) (Without n) →
        ValuesReady p k s owner mid xs → Infers p k s owner old (Call q x name xs)
    uncalled_by_probe old mid t e n h target r =
        let a = d.probe mid r in
        (a.0, uncalled_outcome q n a.1, uncalled_at p k s c owner old mid a.0 q x name xs t e n a.1 h target a.2)

    called_by : (old mid : Table) (t : TypeRef) (e : List ℕ) → InfersTo p k s owner old mid x (inferred.Least t e) → IsObject t → ValuesReady p k s owner mid xs →
        (o : Option (Signature TypeRef)) → find_method name (methods_of p k t) ≡ o → Infers p k s owner old (Call q x name xs)
    called_by old mid t e h object r None found = uncalled_by_probe old mid t e 2 h (inr (inl (refl, object, found))) r
    called_by old mid t e h object r (Some m) found = elim (cases_equal (length m.params) (value_count xs)) [
      | inr other ↦ uncalled_by_probe old mid t e 3 h (inr (inr (refl, object, (method_of m, found, other)))) r
      | inl same ↦
          let fits_in : TypesInRange p k s owner m.params = (method_in_range p k s c t name m h.range found).params in
          let many : value_count xs ≡ length m.params = omega arith in
          let a = d.fit_at mid m.params fits_in many r in
          (a.0, call_outcome q m.result m.effect e a.1, found_at p k s c owner old mid a.0 q x name xs t e (method_of m) a.1 h object found same a.2)
    ]

    called_at : (old mid : Table) (u : Inference) → InfersTo p k s owner old mid x u → ValuesReady p k s owner mid xs → Infers p k s owner old (Call q x name xs)
    called_at old mid (inferred.Fails fault) h r = (mid, inferred.Fails fault, call_fails p k s c owner old mid q x name xs fault h)
    called_at old mid (inferred.Least t e) h r = elim (object_or_not t) [
      | inr base ↦ uncalled_by_probe old mid t e 1 h (inl (refl, base)) r
      | inl object ↦ called_by old mid t e h object r (find_method name (methods_of p k t)) refl
    ]

    call_decided : ExprDecided p k s owner x → ExprDecided p k s owner (Call q x name xs)
    call_decided f = record {
      infers = λ old r. (
          let a = f.infers old (call_receiver p k s c owner old q x name xs r) in
          called_at old a.0 a.1 a.2 (call_arguments p k s c owner old a.0 q x name xs a.1 r a.2)
          );
    }

  ------------------------------------------------------------
  -- Values

  plain_decided : (x : Expr) → ExprDecided p k s owner x → ValueDecided p k s owner (Plain x)
  plain_decided x d = record {
    by_itself = λ y e. (let same : x ≡ y = cc in subst (λ z. ExprDecided p k s owner z) same d);
    fits_at = λ old t f r. (
        let a = d.infers old r in
        let u = fitted_decided p k s c a.1 t a.2.range f in
        (a.0, u.0, plain_fits p k s c owner old a.0 x a.1 t u.0 a.2 u.1)
        );
    probes = λ old r. (let a = d.infers old r in (a.0, probed_outcome a.1, plain_probes p k s c owner old a.0 x a.1 a.2));
  }

  choice_decided : (q : Place) (test : Expr) (first second : Block) → ExprDecided p k s owner test → BlockDecided p k s owner first → BlockDecided p k s owner second → ValueDecided p k s owner (If q test first second)
  choice_decided q test first second d e f = record {
    by_itself = λ y z. absurd (cc);
    fits_at = λ old t g r. (
        let a = d.infers old (test_ready p k s c owner q test first second old r) in
        let u = fitted_decided p k s c a.1 Bool a.2.range tt in
        let m = e.fits_at a.0 t g (first_ready p k s c owner q test first second old a.0 a.1 r a.2) in
        let n = f.fits_at m.0 t g (second_ready p k s c owner q test first second old a.0 m.0 a.1 t m.1 r a.2 m.2) in
        (n.0, chosen_fit q u.0 m.1 n.1, if_fits p k s c owner q test first second old a.0 m.0 n.0 a.1 t u.0 m.1 n.1 a.2 u.1 m.2 n.2)
        );
    probes = λ old r. (
        let a = d.infers old (test_ready p k s c owner q test first second old r) in
        let m = e.probes a.0 (first_ready p k s c owner q test first second old a.0 a.1 r a.2) in
        let n = f.probes m.0 (second_probe_ready p k s c owner q test first second old a.0 m.0 a.1 m.1 r a.2 m.2) in
        (n.0, chosen_fault a.1 m.1 n.1, if_probes p k s c owner q test first second old a.0 m.0 n.0 a.1 m.1 n.1 a.2 m.2 n.2)
        );
  }

  none_decided : ValuesDecided p k s owner none
  none_decided = record {
    fit_at = λ old ts f many r. empty old ts many r;
    probe = λ old r. (old, None, values_probe_none p k s owner old r);
  }
    where
      empty : (old : Table) (ts : List TypeRef) → value_count none ≡ length ts → ValuesReady p k s owner old none → AllFitting p k s owner old none ts
      empty old [] many r = (old, fits.Have [], values_none p k s owner old r)
      empty old (t ∷ ts) many r = absurd (omega arith)

  module _ (x : Value) (xs : Values) (d : ValueDecided p k s owner x) (e : ValuesDecided p k s owner xs) where
    first_of_values : (old : Table) → ValuesReady p k s owner old (more x xs) → ValueReady p k s owner old x
    first_of_values old r = (r.0, r.1.0, ready_left p k s old r.0 (value_vals x) (values_vals xs) r.2)

    others_of_values : (old mid : Table) (P : Type 0) → ValuesReady p k s owner old (more x xs) → Moves p k s old mid (value_vals x) P → ValuesReady p k s owner mid xs
    others_of_values old mid P r m = (r.0, r.1.1, ready_right p k s old mid r.0 (value_vals x) (values_vals xs) P r.2 m)

    more_by : (old : Table) (ts : List TypeRef) → TypesInRange p k s owner ts → value_count (more x xs) ≡ length ts → ValuesReady p k s owner old (more x xs) → AllFitting p k s owner old (more x xs) ts
    more_by old [] f many r = absurd (omega arith)
    more_by old (t ∷ ts) f many r =
        let a = d.fits_at old t (f t (inl refl)) (first_of_values old r) in
        let fewer : value_count xs ≡ length ts = omega arith in
        let b = e.fit_at a.0 ts (λ u i. f u (inr i)) fewer (others_of_values old a.0 (FitStands a.1) r a.2.moves) in
        (b.0, more_fits a.1 b.1, values_more p k s owner old a.0 b.0 x xs t ts a.1 b.1 a.2 b.2)

    more_decided : ValuesDecided p k s owner (more x xs)
    more_decided = record {
      fit_at = λ old ts f many r. more_by old ts f many r;
      probe = λ old r. (
          let a = d.probes old (first_of_values old r) in
          let b = e.probe a.0 (others_of_values old a.0 (NoFault a.1) r a.2.moves) in
          (b.0, fault_or a.1 b.1, values_probe_more p k s owner old a.0 b.0 x xs a.1 b.1 a.2 b.2)
          );
    }

  ------------------------------------------------------------
  -- Blocks

  last_decided : (x : Value) → ValueDecided p k s owner x → BlockDecided p k s owner (Last x)
  last_decided x d = record {
    fits_at = λ old t f r. (let a = d.fits_at old t f r in (a.0, a.1, last_fits p k s owner old a.0 x t a.1 a.2));
    probes = λ old r. (let a = d.probes old r in (a.0, a.1, last_probes p k s owner old a.0 x a.1 a.2));
  }

  module _ (before : Block → Block) (vals : List ℕ) (rest : Block) (same : block_vals (before rest) ≡ vals ++ block_vals rest) (e : BlockDecided p k s owner rest) where
    followed_by : (old mid : Table) (u : Step) (t : TypeRef) → IsTypeOf p k t → StatementTo p k s owner old mid before vals u → (StepStands u → BlockReady p k s owner mid rest) → BlockFitting p k s owner old (before rest) t
    followed_by old mid (step.Done f) t g h ready =
        let a = e.fits_at mid t g (ready tt) in
        (a.0, followed_fit f a.1, goes_on_fits p k s owner before vals rest same old mid a.0 f t a.1 h a.2)
    followed_by old mid (step.Fails fault) t g h ready = (mid, fit.Fails fault, stops_fits p k s owner before vals rest same old mid fault t h)

    probed_by : (old mid : Table) (u : Step) → StatementTo p k s owner old mid before vals u → (StepStands u → BlockReady p k s owner mid rest) → BlockProbing p k s owner old (before rest)
    probed_by old mid (step.Done f) h ready =
        let a = e.probes mid (ready tt) in
        (a.0, a.1, goes_on_probes p k s owner before vals rest same old mid a.0 f a.1 h a.2)
    probed_by old mid (step.Fails fault) h ready = (mid, Some fault, stops_probes p k s owner before vals rest same old mid fault h)

    block_by : ((old : Table) → BlockReady p k s owner old (before rest) → Stating p k s owner old before vals rest) → BlockDecided p k s owner (before rest)
    block_by states = record {
      fits_at = λ old t f r. (let a = states old r in followed_by old a.0 a.1 t f a.2 a.3);
      probes = λ old r. (let a = states old r in probed_by old a.0 a.1 a.2 a.3);
    }

  do_decided : (x : Value) (rest : Block) → ValueDecided p k s owner x → BlockDecided p k s owner rest → BlockDecided p k s owner (Then x rest)
  do_decided x rest d e = block_by (Then x) (value_vals x) rest refl e (λ old r.
      let a = d.fits_at old Nothing tt (r.0, r.1.0, ready_left p k s old r.0 (value_vals x) (block_vals rest) r.2) in (
        a.0,
        stated_step (mark x) TSeq a.1,
        do_at p k s owner old a.0 x a.1 a.2,
        λ stands. (r.0, r.1.1, ready_right p k s old a.0 r.0 (value_vals x) (block_vals rest) (FitStands a.1) r.2 a.2.moves),
      ))

  module _ (q : Place) (n : ℕ) (typ : Option TypeRef) (x : Value) (rest : Block) where
    initialiser_ready : (old : Table) → BlockReady p k s owner old (Val q n typ x rest) → ValueReady p k s owner old x
    initialiser_ready old r =
        (r.0, r.1.1, ready_left p k s old r.0 (value_vals x) (block_vals rest) (ready_other p k s old r.0 (n ∷ []) (value_vals x ++ block_vals rest) r.2))

    still_fresh : (old mid : Table) (P : Type 0) → BlockReady p k s owner old (Val q n typ x rest) → Moves p k s old mid (value_vals x) P → IsKnown mid n → ⊥
    still_fresh old mid P r m known = elim (m.only n known) [
      | inl before ↦ r.2.fresh n (inl refl) before
      | inr among ↦ r.2.apart.0 (In-left n (value_vals x) (block_vals rest) among)
    ]

    -- the type is put in, and the rest is ready
    val_put : (old mid : Table) (t : TypeRef) (e : List ℕ) → BlockReady p k s owner old (Val q n typ x rest) → IsTypeOf p k t → Moves p k s old mid (value_vals x) (Unit {0}) →
        ((new : Table) → IsPut mid new n t → StatementTo p k s owner old new (Val q n typ x) (n ∷ value_vals x) (step.Done e)) → Stating p k s owner old (Val q n typ x) (n ∷ value_vals x) rest
    val_put old mid t e r f m states =
        let put = put_anywhere mid n t in
        let moves = put_moves p k s old mid put.0 n t (value_vals x) (Unit {0}) (Unit {0}) (λ z. z) f (still_fresh old mid (Unit {0}) r m) put.1 m in (
          put.0,
          step.Done e,
          states put.0 put.1,
          λ stands. (Local n ∷ r.0, r.1.2, sees_known p k s put.0 r.0 (block_vals rest) n (t, put.1.here) (ready_right p k s old put.0 r.0 (n ∷ value_vals x) (block_vals rest) (Unit {0}) r.2 moves)),
        )

  module _ (q : Place) (n : ℕ) (t : TypeRef) (x : Value) (rest : Block) where
    typed_by : (old mid : Table) (u : Fit) → BlockReady p k s owner old (Val q n (Some t) x rest) → IsTypeOf p k t → FitsTo p k s owner old mid x t u → Stating p k s owner old (Val q n (Some t) x) (n ∷ value_vals x) rest
    typed_by old mid (fit.Has e) r f h =
        val_put q n (Some t) x rest old mid t e r f h.moves
        (λ new put. val_at p k s owner q n (Some t) x old mid new t e (still_fresh q n (Some t) x rest old mid (Unit {0}) r h.moves) f h.moves put
        (λ locals a i. typed_stated p k s (lawful p k s) locals owner q n t x (fit.Has e) i (h.judged locals a (written t) refl)))
    typed_by old mid fit.Misfit r f h = (
      mid,
      step.Fails (fault_at q TVal 1),
      val_fails_at p k s owner q n (Some t) x old mid (fault_at q TVal 1) (FitStands fit.Misfit) h.moves (λ locals a. typed_misfit p k s (lawful p k s) locals owner q n t x (h.judged locals a (written t) refl)),
      λ stands. absurd stands,
    )
    typed_by old mid (fit.Fails fault) r f h = (
      mid,
      step.Fails fault,
      val_fails_at p k s owner q n (Some t) x old mid fault (FitStands (fit.Fails fault)) h.moves (λ locals a. typed_fails p k s (lawful p k s) locals owner q n t x fault (h.judged locals a (written t) refl)),
      λ stands. absurd stands,
    )

    typed_decided : ValueDecided p k s owner x → BlockDecided p k s owner rest → BlockDecided p k s owner (Val q n (Some t) x rest)
    typed_decided d e = block_by (Val q n (Some t) x) (n ∷ value_vals x) rest refl e (λ old r.
        let f = written_in_range p k s c t (r.1.0 t refl) in
        let a = d.fits_at old t f (initialiser_ready q n (Some t) x rest old r) in
        typed_by old a.0 a.1 r f a.2)

  module _ (q : Place) (n : ℕ) (x : Expr) (rest : Block) where
    untyped_by : (old mid : Table) (u : Inference) → BlockReady p k s owner old (Val q n None (Plain x) rest) → InfersTo p k s owner old mid x u → Stating p k s owner old (Val q n None (Plain x)) (n ∷ expr_vals x) rest
    untyped_by old mid (inferred.Least t e) r h =
        val_put q n None (Plain x) rest old mid t e r h.range h.moves
        (λ new put. val_at p k s owner q n None (Plain x) old mid new t e (still_fresh q n None (Plain x) rest old mid (Unit {0}) r h.moves) h.range h.moves put
        (λ locals a i. untyped_stated p k s (lawful p k s) locals owner q n x t e i (h.judged locals a)))
    untyped_by old mid (inferred.Fails fault) r h = (
      mid,
      step.Fails fault,
      val_fails_at p k s owner q n None (Plain x) old mid fault ⊥ h.moves (λ locals a. untyped_fails p k s (lawful p k s) locals owner q n x fault (h.judged locals a)),
      λ stands. absurd stands,
    )

    untyped_decided : ExprDecided p k s owner x → BlockDecided p k s owner rest → BlockDecided p k s owner (Val q n None (Plain x) rest)
    untyped_decided d e = block_by (Val q n None (Plain x)) (n ∷ expr_vals x) rest refl e (λ old r.
        let a = d.infers old (initialiser_ready q n None (Plain x) rest old r) in
        untyped_by old a.0 a.1 r a.2)

  unchosen_decided : (q : Place) (n : ℕ) (place : Place) (test : Expr) (first second rest : Block) → ValueDecided p k s owner (If place test first second) → BlockDecided p k s owner rest →
      BlockDecided p k s owner (Val q n None (If place test first second) rest)
  unchosen_decided q n place test first second rest d e =
      let x : Value = If place test first second in
      block_by (Val q n None x) (n ∷ value_vals x) rest refl e (λ old r.
      let a = d.probes old (initialiser_ready q n None x rest old r) in (
        a.0,
        step.Fails (untyped_fault q a.1),
        val_fails_at p k s owner q n None x old a.0 (untyped_fault q a.1) (NoFault a.1) a.2.moves
            (λ locals g. untyped_choice p k s (lawful p k s) locals owner q n place test first second a.1 (a.2.judged locals g nothing refl)),
        λ stands. absurd stands,
      ))

  ------------------------------------------------------------
  -- All of them

  val_decided : (q : Place) (n : ℕ) (typ : Option TypeRef) (x : Value) (rest : Block) → ValueDecided p k s owner x → BlockDecided p k s owner rest → BlockDecided p k s owner (Val q n typ x rest)
  val_decided q n (Some t) x rest d e = typed_decided q n t x rest d e
  val_decided q n None (Plain y) rest d e = untyped_decided q n y rest (d.by_itself y refl) e
  val_decided q n None (If place test first second) rest d e = unchosen_decided q n place test first second rest d e

  mutual
    pub expr_decided : (x : Expr) → ExprDecided p k s owner x
    expr_decided (Number q n) = record { infers = λ old r. (old, inferred.Least Int [], number_to p k s c owner old q n r) }
    expr_decided (Quoted q bytes) = record { infers = λ old r. (old, inferred.Least Text [], quoted_to p k s c owner old q bytes r) }
    expr_decided (TruthOf q b) = record { infers = λ old r. (old, inferred.Least Bool [], truth_to p k s c owner old q b r) }
    expr_decided (NothingOf q) = record { infers = λ old r. (old, inferred.Least Nothing [], nothing_to p k s c owner old q r) }
    expr_decided (This q) = this_decided q
    expr_decided (Name q name) = name_decided q name
    expr_decided (Unary q op x) = unary_decided q op x (expr_decided x)
    expr_decided (Binary q op x z) = binary_decided q op x z (expr_decided x) (expr_decided z)
    expr_decided (TextCall q op xs) = text_decided q op xs (values_decided xs)
    expr_decided (Call q x name xs) = call_decided q x name xs (values_decided xs) (expr_decided x)
    expr_decided (New q l xs) = new_decided q l xs (values_decided xs)
    expr_decided (Ascribe q x t) = ascribed_decided q x t (value_decided x)
    expr_decided (Assign q name x) = assigned_decided q name x (value_decided x)

    pub value_decided : (x : Value) → ValueDecided p k s owner x
    value_decided (Plain x) = plain_decided x (expr_decided x)
    value_decided (If q test first second) = choice_decided q test first second (expr_decided test) (block_decided first) (block_decided second)

    pub values_decided : (xs : Values) → ValuesDecided p k s owner xs
    values_decided none = none_decided
    values_decided (more x xs) = more_decided x xs (value_decided x) (values_decided xs)

    pub block_decided : (b : Block) → BlockDecided p k s owner b
    block_decided (Last x) = last_decided x (value_decided x)
    block_decided (Then x b) = do_decided x b (value_decided x) (block_decided b)
    block_decided (Val q n typ x b) = val_decided q n typ x b (value_decided x) (block_decided b)
