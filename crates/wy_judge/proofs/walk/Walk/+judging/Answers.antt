use Rattle.std.proofs.Common.{◌≡◌, ◌+◌, ◌<◌, ◌≤◌, Err, Option, Some, None, drop, length, refl, arith, rules, subst, sym, ap, ◌∙◌, true}
use Rattle.std.specs.Prelude.{slice_get}
use Rattle.std.proofs.lemmas.Option.{slice_get_read}
use Rattle.wy_types.specs.declared.types.TypeRef.{TypeRef}
use Rattle.wy_types.specs.declared.types.TypeRef.TheVariants.{Bool}
use Rattle.wy_types.specs.declared.code.Expr.TheViews.{the_lemmas}
use Rattle.wy_types.specs.Code.{Unary, Ascribe, Assign, If, Last}
use Rattle.wy_types.specs.Program.{program_of, scope_of}
use Rattle.wy_types.specs.View.{expr_of, value_of, values_of, block_of, stmts_block}
use Rattle.wy_types.proofs.Rows.{expr_text_call, expr_call, expr_new, value_if}
use Rattle.wy_judge.specs.declared.targets.Target.TheVariants.{Without, Found}
use Rattle.wy_judge.specs.Inference as inferred
use Rattle.wy_judge.specs.Fit as fit
use Rattle.wy_judge.specs.Fits as fits
use Rattle.wy_judge.specs.Results.{fit_of, fits_of}
use Rattle.wy_judge.specs.Tables.{ExprReady, ValueReady, IsPut}
use Rattle.wy_judge.specs.Targets.{IsTargetOf, type_of_binding}
use Rattle.wy_judge.specs.Walk.{Here}
use Rattle.wy_judge.specs.Judging.{TypesInRange, StmtReady, ArgumentsTo, SecondTo, InfersTo, FitsTo, AllFitTo, BlockFitsTo, Fitting, Stepping}
use Rattle.wy_judge.proofs.Asked.{asked_type, fitted_in}
use Rattle.wy_judge.proofs.ArmsOfNames.{number_to, quoted_to, truth_to, nothing_to, this_to, name_to}
use Rattle.wy_judge.proofs.ArmsOfOperators.{unary_to, unary_by, binary_first, binary_second, binary_fails, binary_to}
use Rattle.wy_judge.proofs.ArmsOfTexts.{text_values, text_types, text_count, text_few, text_to}
use Rattle.wy_judge.proofs.ArmsOfCalls.{call_receiver, call_arguments, call_fails}
use Rattle.wy_judge.proofs.ArmsOfObjects.{new_values, new_types, new_count, new_to, ascribed_value, ascribed_type, ascribed_to, assigned_value, var_type, assigned_to, unassigned_to}
use Rattle.wy_judge.proofs.ArmOfCalls.{callable, called_to}
use Rattle.wy_judge.proofs.BlockWalks.{stepping_start, stepping_ready, stepping_more, stepping_fails, stepping_end, block_fits, block_fails, block_probes, block_probe_fails}
use Rattle.wy_judge.proofs.Naming.{name_known}
use Rattle.wy_judge.proofs.Results.{handed_on, fault_weaker, inferred_weaker, fit_weaker, passed_weaker}
use Rattle.wy_judge.proofs.Statements.{do_ready, do_states, val_ready, typed_in_range, typed_done, typed_misfits, typed_failing, untyped_done, untyped_failing, choice_states}
use Rattle.wy_judge.proofs.Telling.{least_as, infers_as, inferred_as, arguments_as, fits_as, probes_as, all_fit_as, states_as}
use Rattle.wy_judge.proofs.Turns.{values_go_on}
use Rattle.wy_judge.proofs.ValueParts.{second_fails_last, plain_ready, test_ready, first_ready, second_ready, second_probe_ready, plain_fits, plain_probes, if_fails_at_test, if_fails_at_first, if_probe_fails_at_test, if_probe_fails_at_first, if_fits, if_probes}
use Rattle.wy_judge.proofs.ValueWalks.{type_at, fitting_start, fitting_ready, fitting_fails, fitting_end, probing_start, probing_ready, probing_more, probing_fails, probing_end}
use Rattle.wy_judge.proofs.walk.Walk.+judging.Goals as goal

none_some : (t : TypeRef) → ◌≡◌ {A = Option TypeRef} None (Some t) → ⊥
none_some t e = cc

pub infer-returns-in-Int-clause-outcome : goal.infer-returns-in-Int-clause-outcome
infer-returns-in-Int-clause-outcome t c =
    let form = ap expr_of c.in-Int.is in
    least_as form c.least.ensures (number_to _ _ _ c.requires.walk.context _ _ c.in-Int.field-0 c.in-Int.field-1 (subst (ExprReady _ _ _ _ _) form c.requires.ready))

pub infer-returns-in-Text-clause-outcome : goal.infer-returns-in-Text-clause-outcome
infer-returns-in-Text-clause-outcome t c =
    let form = ap expr_of c.in-Text.is in
    least_as form c.least-in-Text.ensures (quoted_to _ _ _ c.requires.walk.context _ _ c.in-Text.field-0 c.in-Text.field-1 (subst (ExprReady _ _ _ _ _) form c.requires.ready))

pub infer-returns-in-Bool-clause-outcome : goal.infer-returns-in-Bool-clause-outcome
infer-returns-in-Bool-clause-outcome t c =
    let form = ap expr_of c.in-Bool.is in
    least_as form c.least-in-Bool.ensures (truth_to _ _ _ c.requires.walk.context _ _ c.in-Bool.field-0 c.in-Bool.field-1 (subst (ExprReady _ _ _ _ _) form c.requires.ready))

pub infer-returns-in-Unit-clause-outcome : goal.infer-returns-in-Unit-clause-outcome
infer-returns-in-Unit-clause-outcome t c =
    let form = ap expr_of c.in-Unit.is in
    least_as form c.least-in-Unit.ensures (nothing_to _ _ _ c.requires.walk.context _ _ c.in-Unit.field-0 (subst (ExprReady _ _ _ _ _) form c.requires.ready))

pub infer-returns-in-Some-clause-outcome : goal.infer-returns-in-Some-clause-outcome
infer-returns-in-Some-clause-outcome t c =
    let form = ap expr_of c.in-This.is in
    let l = c.in-Some.literal in
    least_as form c.least-in-Some.ensures (this_to _ _ _ c.requires.walk.context _ _ c.in-This.field-0 l c.in-Some.is c.requires.walk.owner (subst (ExprReady _ _ _ _ _) form c.requires.ready))

pub infer_unary-returns-in_err-operand-clause-outcome : goal.infer_unary-returns-in_err-operand-clause-outcome
infer_unary-returns-in_err-operand-clause-outcome t c =
    let e : c.from_residual.result ≡ Err c.in_err-operand.field-0.0 = handed_on c.from_residual.result c.in_err-operand.field-0.0 c.from_residual.ensures.1 in
    rw e (fault_weaker _ _ _ (λ f g. unary_to _ _ _ c.requires.walk.context _ _ _ c.args.place c.args.operator (expr_of c.args.x.now) (inferred.Fails f) g) c.in_err-operand.ensures.outcome)

pub infer_unary-returns-in-Some-clause-outcome : goal.infer_unary-returns-in-Some-clause-outcome
infer_unary-returns-in-Some-clause-outcome t c =
    unary_by _ _ _ c.requires.walk.context _ _ c.infer.new.known.vals.items c.args.place c.args.operator (expr_of c.args.x.now) c.in_ok-operand.operand.typ c.in_ok-operand.operand.effect (Some c.in-Some.typ) c.in_ok-operand.ensures.outcome (sym c.in-Some.ensures)

pub infer_unary-returns-clause-outcome : goal.infer_unary-returns-clause-outcome
infer_unary-returns-clause-outcome t c =
    rw c.fails.ensures (unary_by _ _ _ c.requires.walk.context _ _ c.infer.new.known.vals.items c.args.place c.args.operator (expr_of c.args.x.now) c.in_ok-operand.operand.typ c.in_ok-operand.operand.effect None c.in_ok-operand.ensures.outcome (sym c.in-None.ensures))

pub infer-infer-requires : goal.infer-infer-requires
infer-infer-requires t c =
    let form = ap expr_of c.in-Binary.is in
    (search (rules, the_lemmas), (c.requires.walk, (c.requires.asks, subst (ExprReady _ _ _ _ _) (ap expr_of (sym c.deref-in-Binary.ensures)) (binary_first _ _ _ c.requires.walk.context _ _ c.in-Binary.place c.in-Binary.operator (expr_of c.in-Binary.x.value) (expr_of c.in-Binary.y.value) (subst (ExprReady _ _ _ _ _) form c.requires.ready)))))

pub infer-returns-in_err-first-in-Binary-clause-outcome : goal.infer-returns-in_err-first-in-Binary-clause-outcome
infer-returns-in_err-first-in-Binary-clause-outcome t c =
    let form = ap expr_of c.in-Binary.is in
    let e : c.from_residual-in_err-first-in-Binary.result ≡ Err c.in_err-first-in-Binary.field-0.0 = handed_on c.from_residual-in_err-first-in-Binary.result c.in_err-first-in-Binary.field-0.0 c.from_residual-in_err-first-in-Binary.ensures.1 in
    rw e (fault_weaker _ _ _ (λ f g. infers_as form (binary_fails _ _ _ c.requires.walk.context _ _ _ c.in-Binary.place c.in-Binary.operator (expr_of c.in-Binary.x.value) (expr_of c.in-Binary.y.value) f (infers_as (ap expr_of (sym c.deref-in-Binary.ensures)) g))) c.in_err-first-in-Binary.ensures.outcome)

pub infer-infer_second-requires : goal.infer-infer_second-requires
infer-infer_second-requires t c =
    let form = ap expr_of c.in-Binary.is in
    let u = inferred.Least c.in_ok-first-in-Binary.first.typ c.in_ok-first-in-Binary.first.effect in
    let first = infers_as (ap expr_of (sym c.deref-in-Binary.ensures)) c.in_ok-first-in-Binary.ensures.outcome in
    (search (rules, the_lemmas), (c.requires.walk, (c.infer.ensures.asks, subst (ExprReady _ _ _ _ _) (ap expr_of (sym c.deref-in-Binary-2.ensures)) (binary_second _ _ _ c.requires.walk.context _ _ _ c.in-Binary.place c.in-Binary.operator (expr_of c.in-Binary.x.value) (expr_of c.in-Binary.y.value) u (subst (ExprReady _ _ _ _ _) form c.requires.ready) first))))

pub infer-returns-in_ok-first-in-Binary-clause-outcome : goal.infer-returns-in_ok-first-in-Binary-clause-outcome
infer-returns-in_ok-first-in-Binary-clause-outcome t c =
    let form = ap expr_of c.in-Binary.is in
    let u = inferred.Least c.in_ok-first-in-Binary.first.typ c.in_ok-first-in-Binary.first.effect in
    let first = infers_as (ap expr_of (sym c.deref-in-Binary.ensures)) c.in_ok-first-in-Binary.ensures.outcome in
    inferred_weaker c.infer_second.result _ _ (λ r e. infers_as form (binary_to _ _ _ c.requires.walk.context _ _ _ _ c.in-Binary.place c.in-Binary.operator (expr_of c.in-Binary.x.value) (expr_of c.in-Binary.y.value) u e.0 r first (infers_as (ap expr_of (sym c.deref-in-Binary-2.ensures)) e.1) e.2)) c.infer_second.ensures.outcome

pub infer_second-returns-in_err-second-clause-outcome : goal.infer_second-returns-in_err-second-clause-outcome
infer_second-returns-in_err-second-clause-outcome t c =
    let e : c.from_residual.result ≡ Err c.in_err-second.field-0.0 = handed_on c.from_residual.result c.in_err-second.field-0.0 c.from_residual.ensures.1 in
    let u = inferred.Least c.args.first.typ c.args.first.effect in
    rw e (fault_weaker _ _ (λ f. SecondTo _ _ _ _ _ _ c.args.place c.args.operator u (expr_of c.args.y.now) (inferred.Fails f)) (λ f g. (inferred.Fails f, g, (true, tt, refl))) c.in_err-second.ensures.outcome)

pub infer_second-returns-clause-outcome : goal.infer_second-returns-clause-outcome
infer_second-returns-clause-outcome t c =
    inferred_weaker c.operation.result _ _ (λ r e. (inferred.Least c.in_ok-second.second.typ c.in_ok-second.second.effect, c.in_ok-second.ensures.outcome, e)) c.operation.ensures

pub infer_text_call-fit_all-requires : goal.infer_text_call-fit_all-requires
infer_text_call-fit_all-requires t c =
    let types = c.as_slice.ensures ∙ c.in_ok-types.ensures in
    (search (rules, the_lemmas), (c.requires.walk, (c.requires.asks, (subst (Here c.args.self.now TypesInRange c.args.self.now.owner) (sym types) (text_types _ _ _ c.requires.walk.context c.args.self.now.owner c.args.operator), (text_count _ _ _ c.requires.walk.context _ _ c.args.place c.args.operator c.args.values.now.items c.requires.ready ∙ ap length (sym types), text_values _ _ _ c.requires.walk.context _ _ c.args.place c.args.operator (values_of c.args.values.now.items) c.requires.ready)))))

pub infer_text_call-returns-in_err-effect-clause-outcome : goal.infer_text_call-returns-in_err-effect-clause-outcome
infer_text_call-returns-in_err-effect-clause-outcome t c =
    let types = c.as_slice.ensures ∙ c.in_ok-types.ensures in
    let e : c.from_residual-in_err-effect.result ≡ Err c.in_err-effect.field-0.0 = handed_on c.from_residual-in_err-effect.result c.in_err-effect.field-0.0 c.from_residual-in_err-effect.ensures.1 in
    rw e (fault_weaker _ _ _ (λ f g. text_to _ _ _ c.requires.walk.context _ _ _ c.args.place c.args.operator c.args.values.now.items (fits.Fails f) (all_fit_as (sym types) g)) c.in_err-effect.ensures.outcome)

pub infer_text_call-returns-in-Have-clause-outcome : goal.infer_text_call-returns-in-Have-clause-outcome
infer_text_call-returns-in-Have-clause-outcome t c =
    let types = c.as_slice.ensures ∙ c.in_ok-types.ensures in
    subst (InfersTo _ _ _ _ _ _ _) (ap (λ t. inferred.Least t c.in-Have.effect) (sym c.text_result.ensures)) (text_to _ _ _ c.requires.walk.context _ _ _ c.args.place c.args.operator c.args.values.now.items (fits.Have c.in-Have.effect) (all_fit_as (sym types) (subst (AllFitTo _ _ _ _ _ _ _ _) (ap fits_of c.in-Have.is) c.in_ok-effect.ensures.outcome)))

pub infer_text_call-returns-clause-outcome : goal.infer_text_call-returns-clause-outcome
infer_text_call-returns-clause-outcome t c =
    let types = c.as_slice.ensures ∙ c.in_ok-types.ensures in
    rw c.fails.ensures (text_to _ _ _ c.requires.walk.context _ _ _ c.args.place c.args.operator c.args.values.now.items (fits.Misfit c.in-Misfit.number) (all_fit_as (sym types) (subst (AllFitTo _ _ _ _ _ _ _ _) (ap fits_of c.in-Misfit.is) c.in_ok-effect.ensures.outcome)))

pub infer_text_call-overflow_cast-number : goal.infer_text_call-overflow_cast-number
infer_text_call-overflow_cast-number t c =
    let types = c.as_slice.ensures ∙ c.in_ok-types.ensures in
    (let few : c.in-Misfit.number < 3 = text_few _ _ _ c.requires.walk.context _ _ _ c.args.place c.args.operator c.args.values.now.items (fits.Misfit c.in-Misfit.number) c.requires.ready (all_fit_as (sym types) (subst (AllFitTo _ _ _ _ _ _ _ _) (ap fits_of c.in-Misfit.is) c.in_ok-effect.ensures.outcome)) in omega (arith, few))

pub infer_text_call-overflow_add-number : goal.infer_text_call-overflow_add-number
infer_text_call-overflow_add-number t c =
    let types = c.as_slice.ensures ∙ c.in_ok-types.ensures in
    (let few : c.in-Misfit.number < 3 = text_few _ _ _ c.requires.walk.context _ _ _ c.args.place c.args.operator c.args.values.now.items (fits.Misfit c.in-Misfit.number) c.requires.ready (all_fit_as (sym types) (subst (AllFitTo _ _ _ _ _ _ _ _) (ap fits_of c.in-Misfit.is) c.in_ok-effect.ensures.outcome)) in omega (arith, few))

pub infer_arguments-returns-in-Without-clause-outcome : goal.infer_arguments-returns-in-Without-clause-outcome
infer_arguments-returns-in-Without-clause-outcome t c =
    arguments_as _ _ _ _ _ _ c.probe_arguments.result _ _ _ _ c.in-Without.is c.probe_arguments.ensures.outcome

pub infer_arguments-returns-in-Found-clause-outcome : goal.infer_arguments-returns-in-Found-clause-outcome
infer_arguments-returns-in-Found-clause-outcome t c =
    arguments_as _ _ _ _ _ _ c.fit_arguments.result _ _ _ _ c.in-Found.is c.fit_arguments.ensures.outcome

pub probe_arguments-returns-in_err-probe_all-clause-outcome : goal.probe_arguments-returns-in_err-probe_all-clause-outcome
probe_arguments-returns-in_err-probe_all-clause-outcome t c =
    let e : c.from_residual.result ≡ Err c.in_err-probe_all.field-0.0 = handed_on c.from_residual.result c.in_err-probe_all.field-0.0 c.from_residual.ensures.1 in
    rw e (fault_weaker _ _ (λ f. ArgumentsTo _ _ _ _ _ _ c.args.place (Without c.args.premise) c.args.values.now.items (inferred.Fails f)) (λ f g. (Some f, g, refl)) c.in_err-probe_all.ensures.outcome)

pub probe_arguments-returns-clause-outcome : goal.probe_arguments-returns-clause-outcome
probe_arguments-returns-clause-outcome t c = rw c.fails.ensures (None, c.in_ok-probe_all.ensures.outcome, refl)

pub fit_arguments-returns-in_err-arguments-clause-outcome : goal.fit_arguments-returns-in_err-arguments-clause-outcome
fit_arguments-returns-in_err-arguments-clause-outcome t c =
    let e : c.from_residual.result ≡ Err c.in_err-arguments.field-0.0 = handed_on c.from_residual.result c.in_err-arguments.field-0.0 c.from_residual.ensures.1 in
    rw e (fault_weaker _ _ (λ f. ArgumentsTo _ _ _ _ _ _ c.args.place (Found c.args.effect c.args.method) c.args.values.now.items (inferred.Fails f)) (λ f g. (fits.Fails f, all_fit_as (sym c.as_slice.ensures) g, refl)) c.in_err-arguments.ensures.outcome)

pub fit_arguments-returns-in-Have-clause-outcome : goal.fit_arguments-returns-in-Have-clause-outcome
fit_arguments-returns-in-Have-clause-outcome t c =
    let all = all_fit_as (sym c.as_slice.ensures) (subst (AllFitTo _ _ _ _ _ _ _ _) (ap fits_of c.in-Have.is) c.in_ok-arguments.ensures.outcome) in
    inferred_weaker c.called.result _ (ArgumentsTo _ _ _ _ _ _ c.args.place (Found c.args.effect c.args.method) c.args.values.now.items) (λ u e. (fits.Have c.in-Have.arguments, all, e)) c.called.ensures

pub fit_arguments-returns-in-Misfit-clause-outcome : goal.fit_arguments-returns-in-Misfit-clause-outcome
fit_arguments-returns-in-Misfit-clause-outcome t c =
    rw c.fails.ensures (fits.Misfit c.in-Misfit.field-0, all_fit_as (sym c.as_slice.ensures) (subst (AllFitTo _ _ _ _ _ _ _ _) (ap fits_of c.in-Misfit.is) c.in_ok-arguments.ensures.outcome), refl)

pub infer_new-fit_all-requires : goal.infer_new-fit_all-requires
infer_new-fit_all-requires t c =
    let types = c.as_slice.ensures ∙ c.in_ok-types.ensures in
    (search (rules, the_lemmas), (c.requires.walk, (c.requires.asks, (subst (Here c.args.self.now TypesInRange c.args.self.now.owner) (sym types) (new_types _ _ _ c.requires.walk.context c.args.self.now.owner c.args.literal), (new_count _ _ _ c.requires.walk.context _ _ c.args.place c.args.literal c.args.values.now.items c.requires.ready ∙ ap length (sym types), new_values _ _ _ c.requires.walk.context _ _ c.args.place c.args.literal (values_of c.args.values.now.items) c.requires.ready)))))

pub infer_new-returns-in_err-effect-clause-outcome : goal.infer_new-returns-in_err-effect-clause-outcome
infer_new-returns-in_err-effect-clause-outcome t c =
    let types = c.as_slice.ensures ∙ c.in_ok-types.ensures in
    let e : c.from_residual-in_err-effect.result ≡ Err c.in_err-effect.field-0.0 = handed_on c.from_residual-in_err-effect.result c.in_err-effect.field-0.0 c.from_residual-in_err-effect.ensures.1 in
    rw e (fault_weaker _ _ _ (λ f g. new_to _ _ _ c.requires.walk.context _ _ _ c.args.place c.args.literal c.args.values.now.items (fits.Fails f) c.requires.ready (all_fit_as (sym types) g)) c.in_err-effect.ensures.outcome)

pub infer_new-returns-in-Have-clause-outcome : goal.infer_new-returns-in-Have-clause-outcome
infer_new-returns-in-Have-clause-outcome t c =
    let types = c.as_slice.ensures ∙ c.in_ok-types.ensures in
    new_to _ _ _ c.requires.walk.context _ _ _ c.args.place c.args.literal c.args.values.now.items (fits.Have c.in-Have.effect) c.requires.ready (all_fit_as (sym types) (subst (AllFitTo _ _ _ _ _ _ _ _) (ap fits_of c.in-Have.is) c.in_ok-effect.ensures.outcome))

pub infer_new-returns-clause-outcome : goal.infer_new-returns-clause-outcome
infer_new-returns-clause-outcome t c =
    let types = c.as_slice.ensures ∙ c.in_ok-types.ensures in
    rw c.fails.ensures (new_to _ _ _ c.requires.walk.context _ _ _ c.args.place c.args.literal c.args.values.now.items (fits.Misfit c.in-Misfit.field-0) c.requires.ready (all_fit_as (sym types) (subst (AllFitTo _ _ _ _ _ _ _ _) (ap fits_of c.in-Misfit.is) c.in_ok-effect.ensures.outcome)))

pub infer_ascription-fit-requires : goal.infer_ascription-fit-requires
infer_ascription-fit-requires t c =
    (search (rules, the_lemmas), (c.requires.walk, (c.requires.asks, (ascribed_type _ _ _ c.requires.walk.context _ _ c.args.place (value_of c.args.value.now) c.args.typ.now c.requires.ready, ascribed_value _ _ _ c.requires.walk.context _ _ c.args.place (value_of c.args.value.now) c.args.typ.now c.requires.ready))))

pub infer_ascription-returns-in_err-effect-clause-outcome : goal.infer_ascription-returns-in_err-effect-clause-outcome
infer_ascription-returns-in_err-effect-clause-outcome t c =
    let e : c.from_residual.result ≡ Err c.in_err-effect.field-0.0 = handed_on c.from_residual.result c.in_err-effect.field-0.0 c.from_residual.ensures.1 in
    rw e (fault_weaker _ _ _ (λ f g. ascribed_to _ _ _ c.requires.walk.context _ _ _ c.args.place (value_of c.args.value.now) c.args.typ.now (fit.Fails f) c.requires.ready g) c.in_err-effect.ensures.outcome)

pub infer_ascription-returns-in_ok-copy-in-Has-clause-outcome : goal.infer_ascription-returns-in_ok-copy-in-Has-clause-outcome
infer_ascription-returns-in_ok-copy-in-Has-clause-outcome t c =
    subst (InfersTo _ _ _ _ _ _ _) (ap (λ t. inferred.Least t c.in-Has.effect) (sym c.in_ok-copy-in-Has.ensures)) (ascribed_to _ _ _ c.requires.walk.context _ _ _ c.args.place (value_of c.args.value.now) c.args.typ.now (fit.Has c.in-Has.effect) c.requires.ready (subst (FitsTo _ _ _ _ _ _ _ _) (ap fit_of c.in-Has.is) c.in_ok-effect.ensures.outcome))

pub infer_ascription-returns-in-Misfit-clause-outcome : goal.infer_ascription-returns-in-Misfit-clause-outcome
infer_ascription-returns-in-Misfit-clause-outcome t c =
    rw c.fails.ensures (ascribed_to _ _ _ c.requires.walk.context _ _ _ c.args.place (value_of c.args.value.now) c.args.typ.now fit.Misfit c.requires.ready (subst (FitsTo _ _ _ _ _ _ _ _) (ap fit_of c.in-Misfit.is) c.in_ok-effect.ensures.outcome))

pub infer_assignment-fit-requires : goal.infer_assignment-fit-requires
infer_assignment-fit-requires t c =
    (search (rules, the_lemmas), (c.requires.walk, (c.requires.asks, (var_type _ _ _ c.requires.walk.context c.args.self.now.owner c.args.self.now.owner c.args.binding c.in-Some.field.now (sym c.in-Some.ensures), assigned_value _ _ _ c.requires.walk.context _ _ c.args.place c.args.binding (value_of c.args.value.now) c.requires.ready))))

pub infer_assignment-returns-in_err-effect-in-Some-clause-outcome : goal.infer_assignment-returns-in_err-effect-in-Some-clause-outcome
infer_assignment-returns-in_err-effect-in-Some-clause-outcome t c =
    let e : c.from_residual.result ≡ Err c.in_err-effect-in-Some.field-0.0 = handed_on c.from_residual.result c.in_err-effect-in-Some.field-0.0 c.from_residual.ensures.1 in
    rw e (fault_weaker _ _ _ (λ f g. assigned_to _ _ _ c.requires.walk.context _ _ _ c.args.place c.args.binding (value_of c.args.value.now) c.in-Some.field.now (fit.Fails f) (sym c.in-Some.ensures) g) c.in_err-effect-in-Some.ensures.outcome)

pub infer_assignment-returns-in-Has-clause-outcome : goal.infer_assignment-returns-in-Has-clause-outcome
infer_assignment-returns-in-Has-clause-outcome t c =
    assigned_to _ _ _ c.requires.walk.context _ _ _ c.args.place c.args.binding (value_of c.args.value.now) c.in-Some.field.now (fit.Has c.in-Has.effect) (sym c.in-Some.ensures) (subst (FitsTo _ _ _ _ _ _ _ _) (ap fit_of c.in-Has.is) c.in_ok-effect-in-Some.ensures.outcome)

pub infer_assignment-returns-in-Misfit-clause-outcome : goal.infer_assignment-returns-in-Misfit-clause-outcome
infer_assignment-returns-in-Misfit-clause-outcome t c =
    rw c.fails.ensures (assigned_to _ _ _ c.requires.walk.context _ _ _ c.args.place c.args.binding (value_of c.args.value.now) c.in-Some.field.now fit.Misfit (sym c.in-Some.ensures) (subst (FitsTo _ _ _ _ _ _ _ _) (ap fit_of c.in-Misfit.is) c.in_ok-effect-in-Some.ensures.outcome))

pub infer_assignment-returns-in_err-probe-in-None-clause-outcome : goal.infer_assignment-returns-in_err-probe-in-None-clause-outcome
infer_assignment-returns-in_err-probe-in-None-clause-outcome t c =
    let e : c.from_residual-in_err-probe-in-None.result ≡ Err c.in_err-probe-in-None.field-0.0 = handed_on c.from_residual-in_err-probe-in-None.result c.in_err-probe-in-None.field-0.0 c.from_residual-in_err-probe-in-None.ensures.1 in
    rw e (fault_weaker _ _ _ (λ f g. unassigned_to _ _ _ c.requires.walk.context _ _ _ c.args.place c.args.binding (value_of c.args.value.now) (Some f) (sym c.in-None.ensures) g) c.in_err-probe-in-None.ensures.outcome)

pub infer_assignment-returns-in_ok-probe-in-None-clause-outcome : goal.infer_assignment-returns-in_ok-probe-in-None-clause-outcome
infer_assignment-returns-in_ok-probe-in-None-clause-outcome t c =
    rw c.fails-in-None.ensures (unassigned_to _ _ _ c.requires.walk.context _ _ _ c.args.place c.args.binding (value_of c.args.value.now) None (sym c.in-None.ensures) c.in_ok-probe-in-None.ensures.outcome)

pub infer-returns-in-Unary-clause-outcome : goal.infer-returns-in-Unary-clause-outcome
infer-returns-in-Unary-clause-outcome t c =
    let form = ap expr_of c.in-Unary.is ∙ ap (λ x. Unary c.in-Unary.place c.in-Unary.operator (expr_of x)) (sym c.deref-in-Unary.ensures) in
    inferred_as _ _ _ _ _ _ c.infer_unary.result _ _ form c.infer_unary.ensures.outcome

pub infer-returns-in-TextCall-clause-outcome : goal.infer-returns-in-TextCall-clause-outcome
infer-returns-in-TextCall-clause-outcome t c =
    let form = ap expr_of c.in-TextCall.is ∙ expr_text_call c.in-TextCall.place c.in-TextCall.operator c.in-TextCall.values in
    inferred_as _ _ _ _ _ _ c.infer_text_call.result _ _ form c.infer_text_call.ensures.outcome

pub infer-returns-in-New-clause-outcome : goal.infer-returns-in-New-clause-outcome
infer-returns-in-New-clause-outcome t c =
    let form = ap expr_of c.in-New.is ∙ expr_new c.in-New.place c.in-New.literal c.in-New.values in
    inferred_as _ _ _ _ _ _ c.infer_new.result _ _ form c.infer_new.ensures.outcome

pub infer-returns-in-Ascribe-clause-outcome : goal.infer-returns-in-Ascribe-clause-outcome
infer-returns-in-Ascribe-clause-outcome t c =
    let form = ap expr_of c.in-Ascribe.is ∙ ap (λ x. Ascribe c.in-Ascribe.place (value_of x) c.in-Ascribe.typ) (sym c.deref-in-Ascribe.ensures) in
    inferred_as _ _ _ _ _ _ c.infer_ascription.result _ _ form c.infer_ascription.ensures.outcome

pub infer-returns-in-Assign-clause-outcome : goal.infer-returns-in-Assign-clause-outcome
infer-returns-in-Assign-clause-outcome t c =
    let form = ap expr_of c.in-Assign.is ∙ ap (λ x. Assign c.in-Assign.place c.in-Assign.binding (value_of x)) (sym c.deref-in-Assign.ensures) in
    inferred_as _ _ _ _ _ _ c.infer_assignment.result _ _ form c.infer_assignment.ensures.outcome

pub infer-infer_unary-requires : goal.infer-infer_unary-requires
infer-infer_unary-requires t c =
    let form = ap expr_of c.in-Unary.is ∙ ap (λ x. Unary c.in-Unary.place c.in-Unary.operator (expr_of x)) (sym c.deref-in-Unary.ensures) in
    (search (rules, the_lemmas), (c.requires.walk, (c.requires.asks, (subst (ExprReady _ _ _ _ _) form c.requires.ready))))

pub infer-infer_text_call-requires : goal.infer-infer_text_call-requires
infer-infer_text_call-requires t c =
    let form = ap expr_of c.in-TextCall.is ∙ expr_text_call c.in-TextCall.place c.in-TextCall.operator c.in-TextCall.values in
    (search (rules, the_lemmas), (c.requires.walk, (c.requires.asks, (subst (ExprReady _ _ _ _ _) form c.requires.ready))))

pub infer-infer_new-requires : goal.infer-infer_new-requires
infer-infer_new-requires t c =
    let form = ap expr_of c.in-New.is ∙ expr_new c.in-New.place c.in-New.literal c.in-New.values in
    (search (rules, the_lemmas), (c.requires.walk, (c.requires.asks, (subst (ExprReady _ _ _ _ _) form c.requires.ready))))

pub infer-infer_ascription-requires : goal.infer-infer_ascription-requires
infer-infer_ascription-requires t c =
    let form = ap expr_of c.in-Ascribe.is ∙ ap (λ x. Ascribe c.in-Ascribe.place (value_of x) c.in-Ascribe.typ) (sym c.deref-in-Ascribe.ensures) in
    (search (rules, the_lemmas), (c.requires.walk, (c.requires.asks, (subst (ExprReady _ _ _ _ _) form c.requires.ready))))

pub infer-infer_assignment-requires : goal.infer-infer_assignment-requires
infer-infer_assignment-requires t c =
    let form = ap expr_of c.in-Assign.is ∙ ap (λ x. Assign c.in-Assign.place c.in-Assign.binding (value_of x)) (sym c.deref-in-Assign.ensures) in
    (search (rules, the_lemmas), (c.requires.walk, (c.requires.asks, (subst (ExprReady _ _ _ _ _) form c.requires.ready))))

pub infer-infer-requires-in-Call : goal.infer-infer-requires-in-Call
infer-infer-requires-in-Call t c =
    let form = ap expr_of c.in-Call.is ∙ expr_call c.in-Call.place c.in-Call.receiver c.in-Call.name c.in-Call.values in
    (search (rules, the_lemmas), (c.requires.walk, (c.requires.asks, subst (ExprReady _ _ _ _ _) (ap expr_of (sym c.deref-in-Call.ensures)) (call_receiver _ _ _ c.requires.walk.context _ _ c.in-Call.place (expr_of c.in-Call.receiver.value) c.in-Call.name (values_of c.in-Call.values.items) (subst (ExprReady _ _ _ _ _) form c.requires.ready)))))

pub infer-returns-in_err-receiver-in-Call-clause-outcome : goal.infer-returns-in_err-receiver-in-Call-clause-outcome
infer-returns-in_err-receiver-in-Call-clause-outcome t c =
    let form = ap expr_of c.in-Call.is ∙ expr_call c.in-Call.place c.in-Call.receiver c.in-Call.name c.in-Call.values in
    let x = expr_of c.in-Call.receiver.value in
    let e : c.from_residual-in_err-receiver-in-Call.result ≡ Err c.in_err-receiver-in-Call.field-0.0 = handed_on c.from_residual-in_err-receiver-in-Call.result c.in_err-receiver-in-Call.field-0.0 c.from_residual-in_err-receiver-in-Call.ensures.1 in
    rw e (fault_weaker _ _ _ (λ f g. infers_as form (call_fails _ _ _ c.requires.walk.context _ _ _ c.in-Call.place x c.in-Call.name (values_of c.in-Call.values.items) f (infers_as (ap expr_of (sym c.deref-in-Call.ensures)) g))) c.in_err-receiver-in-Call.ensures.outcome)

pub infer-infer_call-requires : goal.infer-infer_call-requires
infer-infer_call-requires t c =
    let p = program_of c.args.self.now.core.now in
    let k = c.args.self.now.number in
    let form = ap expr_of c.in-Call.is ∙ expr_call c.in-Call.place c.in-Call.receiver c.in-Call.name c.in-Call.values in
    let x = expr_of c.in-Call.receiver.value in
    let u = inferred.Least c.in_ok-receiver-in-Call.receiver.typ c.in_ok-receiver-in-Call.receiver.effect in
    let first = infers_as (ap expr_of (sym c.deref-in-Call.ensures)) c.in_ok-receiver-in-Call.ensures.outcome in
    (search (rules, the_lemmas), (c.requires.walk, (c.infer-in-Call.ensures.asks, (first.range, call_arguments p k _ c.requires.walk.context _ _ _ c.in-Call.place x c.in-Call.name (values_of c.in-Call.values.items) u (subst (ExprReady _ _ _ _ _) form c.requires.ready) first))))

pub infer-returns-in_ok-receiver-in-Call-clause-outcome : goal.infer-returns-in_ok-receiver-in-Call-clause-outcome
infer-returns-in_ok-receiver-in-Call-clause-outcome t c =
    let p = program_of c.args.self.now.core.now in
    let k = c.args.self.now.number in
    let form = ap expr_of c.in-Call.is ∙ expr_call c.in-Call.place c.in-Call.receiver c.in-Call.name c.in-Call.values in
    let x = expr_of c.in-Call.receiver.value in
    let u = inferred.Least c.in_ok-receiver-in-Call.receiver.typ c.in_ok-receiver-in-Call.receiver.effect in
    let first = infers_as (ap expr_of (sym c.deref-in-Call.ensures)) c.in_ok-receiver-in-Call.ensures.outcome in
    inferred_weaker c.infer_call.result _ _ (λ v a. infers_as form (called_to p k _ c.requires.walk.context _ _ _ _ c.in-Call.place x c.in-Call.name c.in-Call.values.items u v a.0 first a.1 a.2)) c.infer_call.ensures.outcome

pub infer_call-infer_arguments-requires : goal.infer_call-infer_arguments-requires
infer_call-infer_arguments-requires t c =
    let p = program_of c.args.self.now.core.now in
    let k = c.args.self.now.number in
    let xs = c.args.values.now in
    let u = inferred.Least c.args.receiver.typ c.args.receiver.effect in
    let w = c.in_ok-target.target in
    let target = subst (λ n. IsTargetOf p k u c.args.name.now n w) (c.len-arity.ensures ∙ xs.ok.0) c.in_ok-target.ensures in
    (search (rules, the_lemmas), (c.requires.walk, (c.requires.asks, (callable p k _ c.requires.walk.context c.args.self.now.owner c.args.name.now xs.items u w c.requires.range target, c.requires.ready))))

pub infer_call-returns-clause-outcome : goal.infer_call-returns-clause-outcome
infer_call-returns-clause-outcome t c =
    let p = program_of c.args.self.now.core.now in
    let k = c.args.self.now.number in
    let xs = c.args.values.now in
    let u = inferred.Least c.args.receiver.typ c.args.receiver.effect in
    let w = c.in_ok-target.target in
    let target = subst (λ n. IsTargetOf p k u c.args.name.now n w) (c.len-arity.ensures ∙ xs.ok.0) c.in_ok-target.ensures in
    inferred_weaker c.infer_arguments.result _ _ (λ v a. (w, target, a)) c.infer_arguments.ensures.outcome

pub fit-returns-in_err-least-in-Plain-clause-outcome : goal.fit-returns-in_err-least-in-Plain-clause-outcome
fit-returns-in_err-least-in-Plain-clause-outcome t c =
    let form = ap value_of c.in-Plain.is in
    let e : c.from_residual.result ≡ Err c.in_err-least-in-Plain.field-0.0 = handed_on c.from_residual.result c.in_err-least-in-Plain.field-0.0 c.from_residual.ensures.1 in
    rw e (fault_weaker _ _ _ (λ f g. fits_as form (plain_fits _ _ _ c.requires.walk.context _ _ _ (expr_of c.in-Plain.expr) (inferred.Fails f) c.args.typ.now (fit.Fails f) g (true, tt, refl))) c.in_err-least-in-Plain.ensures.outcome)

pub fit-fitted-requires-clause-least : goal.fit-fitted-requires-clause-least
fit-fitted-requires-clause-least t c =
    asked_type _ _ _ c.infer.new.known.pairs.about c.infer.ensures.asks c.in_ok-least-in-Plain.least.typ c.in_ok-least-in-Plain.ensures.outcome.range

pub fit-fitted-requires-clause-expected : goal.fit-fitted-requires-clause-expected
fit-fitted-requires-clause-expected t c =
    asked_type _ _ _ c.infer.new.known.pairs.about c.infer.ensures.asks c.args.typ.now c.requires.expected

pub fit-returns-in_ok-fitted-in-Plain-clause-outcome : goal.fit-returns-in_ok-fitted-in-Plain-clause-outcome
fit-returns-in_ok-fitted-in-Plain-clause-outcome t c =
    let form = ap value_of c.in-Plain.is in
    let l = inferred.Least c.in_ok-least-in-Plain.least.typ c.in_ok-least-in-Plain.least.effect in
    let u = fit_of c.in_ok-fitted-in-Plain.field-0 in
    fits_as form (plain_fits _ _ _ c.requires.walk.context _ _ _ (expr_of c.in-Plain.expr) l c.args.typ.now u c.in_ok-least-in-Plain.ensures.outcome (fitted_in _ _ _ c.infer.new.known.pairs.about c.infer.ensures.asks l c.args.typ.now u c.in_ok-fitted-in-Plain.ensures.outcome))

pub fit-infer-requires-in-If : goal.fit-infer-requires-in-If
fit-infer-requires-in-If t c =
    let q = c.in-If.place in
    let form = ap value_of c.in-If.is ∙ value_if c.in-If.place c.in-If.test c.in-If.first c.in-If.second in
    let cond = expr_of c.in-If.test.value in
    let first = block_of c.in-If.first in
    let second = block_of c.in-If.second in
    let ready = subst (ValueReady _ _ _ _ _) form c.requires.ready in
    (search (rules, the_lemmas), (c.requires.walk, (c.requires.asks, subst (ExprReady _ _ _ _ _) (ap expr_of (sym c.deref.ensures)) (test_ready _ _ _ c.requires.walk.context _ q cond first second _ ready))))

pub fit-returns-in_err-least-in-If-clause-outcome : goal.fit-returns-in_err-least-in-If-clause-outcome
fit-returns-in_err-least-in-If-clause-outcome t c =
    let q = c.in-If.place in
    let form = ap value_of c.in-If.is ∙ value_if c.in-If.place c.in-If.test c.in-If.first c.in-If.second in
    let cond = expr_of c.in-If.test.value in
    let first = block_of c.in-If.first in
    let second = block_of c.in-If.second in
    let e : c.from_residual-in_err-least-in-If.result ≡ Err c.in_err-least-in-If.field-0.0 = handed_on c.from_residual-in_err-least-in-If.result c.in_err-least-in-If.field-0.0 c.from_residual-in_err-least-in-If.ensures.1 in
    rw e (fault_weaker _ _ _ (λ f g. fits_as form (if_fails_at_test _ _ _ c.requires.walk.context _ q cond first second _ _ c.args.typ.now f (infers_as (ap expr_of (sym c.deref.ensures)) g))) c.in_err-least-in-If.ensures.outcome)

pub fit-fitted-requires-in-If-clause-least : goal.fit-fitted-requires-in-If-clause-least
fit-fitted-requires-in-If-clause-least t c =
    asked_type _ _ _ c.infer-in-If.new.known.pairs.about c.infer-in-If.ensures.asks c.in_ok-least-in-If.least.typ c.in_ok-least-in-If.ensures.outcome.range

pub fit-fitted-requires-in-If-clause-expected : goal.fit-fitted-requires-in-If-clause-expected
fit-fitted-requires-in-If-clause-expected t c =
    asked_type _ _ _ c.infer-in-If.new.known.pairs.about c.infer-in-If.ensures.asks Bool tt

pub fit-fit_block-requires : goal.fit-fit_block-requires
fit-fit_block-requires t c =
    let q = c.in-If.place in
    let form = ap value_of c.in-If.is ∙ value_if c.in-If.place c.in-If.test c.in-If.first c.in-If.second in
    let cond = expr_of c.in-If.test.value in
    let first = block_of c.in-If.first in
    let second = block_of c.in-If.second in
    let l = inferred.Least c.in_ok-least-in-If.least.typ c.in_ok-least-in-If.least.effect in
    let ready = subst (ValueReady _ _ _ _ _) form c.requires.ready in
    let tested = infers_as (ap expr_of (sym c.deref.ensures)) c.in_ok-least-in-If.ensures.outcome in
    (search (rules, the_lemmas), (c.requires.walk, (c.fitted-in-If.ensures.same ∙ c.infer-in-If.ensures.asks, (c.requires.expected, first_ready _ _ _ c.requires.walk.context _ q cond first second _ _ l ready tested))))

pub fit-returns-in_err-first-in-If-clause-outcome : goal.fit-returns-in_err-first-in-If-clause-outcome
fit-returns-in_err-first-in-If-clause-outcome t c =
    let q = c.in-If.place in
    let form = ap value_of c.in-If.is ∙ value_if c.in-If.place c.in-If.test c.in-If.first c.in-If.second in
    let cond = expr_of c.in-If.test.value in
    let first = block_of c.in-If.first in
    let second = block_of c.in-If.second in
    let tested = infers_as (ap expr_of (sym c.deref.ensures)) c.in_ok-least-in-If.ensures.outcome in
    let e : c.from_residual-in_err-first-in-If.result ≡ Err c.in_err-first-in-If.field-0.0 = handed_on c.from_residual-in_err-first-in-If.result c.in_err-first-in-If.field-0.0 c.from_residual-in_err-first-in-If.ensures.1 in
    rw e (fault_weaker _ _ _ (λ f g. fits_as form (if_fails_at_first _ _ _ c.requires.walk.context _ q cond first second _ _ _ c.args.typ.now c.in_ok-least-in-If.least.typ c.in_ok-least-in-If.least.effect f tested g)) c.in_err-first-in-If.ensures.outcome)

pub fit-fit_block-requires-in-If : goal.fit-fit_block-requires-in-If
fit-fit_block-requires-in-If t c =
    let q = c.in-If.place in
    let form = ap value_of c.in-If.is ∙ value_if c.in-If.place c.in-If.test c.in-If.first c.in-If.second in
    let cond = expr_of c.in-If.test.value in
    let first = block_of c.in-If.first in
    let second = block_of c.in-If.second in
    let l = inferred.Least c.in_ok-least-in-If.least.typ c.in_ok-least-in-If.least.effect in
    let ready = subst (ValueReady _ _ _ _ _) form c.requires.ready in
    let tested = infers_as (ap expr_of (sym c.deref.ensures)) c.in_ok-least-in-If.ensures.outcome in
    let m1 = fit_of c.in_ok-first-in-If.first in
    (search (rules, the_lemmas), (c.requires.walk, (c.fit_block.ensures.asks, (c.requires.expected, second_ready _ _ _ c.requires.walk.context _ q cond first second _ _ _ l c.args.typ.now m1 ready tested c.in_ok-first-in-If.ensures.outcome))))

pub fit-returns-in_err-second-in-If-clause-outcome : goal.fit-returns-in_err-second-in-If-clause-outcome
fit-returns-in_err-second-in-If-clause-outcome t c =
    let q = c.in-If.place in
    let form = ap value_of c.in-If.is ∙ value_if c.in-If.place c.in-If.test c.in-If.first c.in-If.second in
    let cond = expr_of c.in-If.test.value in
    let first = block_of c.in-If.first in
    let second = block_of c.in-If.second in
    let l = inferred.Least c.in_ok-least-in-If.least.typ c.in_ok-least-in-If.least.effect in
    let tested = infers_as (ap expr_of (sym c.deref.ensures)) c.in_ok-least-in-If.ensures.outcome in
    let e1 = fit_of c.in_ok-test-in-If.test in
    let m1 = fit_of c.in_ok-first-in-If.first in
    let d = fitted_in _ _ _ c.infer-in-If.new.known.pairs.about c.infer-in-If.ensures.asks l Bool e1 c.in_ok-test-in-If.ensures.outcome in
    let e : c.from_residual-in_err-second-in-If.result ≡ Err c.in_err-second-in-If.field-0.0 = handed_on c.from_residual-in_err-second-in-If.result c.in_err-second-in-If.field-0.0 c.from_residual-in_err-second-in-If.ensures.1 in
    rw e (fault_weaker _ _ _ (λ f g. fits_as form (subst (FitsTo _ _ _ _ _ _ (If q cond first second) c.args.typ.now) (second_fails_last q c.in_ok-test-in-If.test c.in_ok-first-in-If.first f) (if_fits _ _ _ c.requires.walk.context _ q cond first second _ _ _ _ l c.args.typ.now e1 m1 (fit.Fails f) tested d c.in_ok-first-in-If.ensures.outcome g))) c.in_err-second-in-If.ensures.outcome)

pub fit-returns-in_ok-second-in-If-clause-outcome : goal.fit-returns-in_ok-second-in-If-clause-outcome
fit-returns-in_ok-second-in-If-clause-outcome t c =
    let q = c.in-If.place in
    let form = ap value_of c.in-If.is ∙ value_if c.in-If.place c.in-If.test c.in-If.first c.in-If.second in
    let cond = expr_of c.in-If.test.value in
    let first = block_of c.in-If.first in
    let second = block_of c.in-If.second in
    let l = inferred.Least c.in_ok-least-in-If.least.typ c.in_ok-least-in-If.least.effect in
    let tested = infers_as (ap expr_of (sym c.deref.ensures)) c.in_ok-least-in-If.ensures.outcome in
    let e1 = fit_of c.in_ok-test-in-If.test in
    let m1 = fit_of c.in_ok-first-in-If.first in
    let n1 = fit_of c.in_ok-second-in-If.second in
    let d = fitted_in _ _ _ c.infer-in-If.new.known.pairs.about c.infer-in-If.ensures.asks l Bool e1 c.in_ok-test-in-If.ensures.outcome in
    fit_weaker c.chosen.result _ _ (λ z same. fits_as form (subst (FitsTo _ _ _ _ _ _ (If q cond first second) c.args.typ.now) (sym same) (if_fits _ _ _ c.requires.walk.context _ q cond first second _ _ _ _ l c.args.typ.now e1 m1 n1 tested d c.in_ok-first-in-If.ensures.outcome c.in_ok-second-in-If.ensures.outcome))) c.chosen.ensures

pub probe-returns-in_err-infer-in-Plain-clause-outcome : goal.probe-returns-in_err-infer-in-Plain-clause-outcome
probe-returns-in_err-infer-in-Plain-clause-outcome t c =
    let form = ap value_of c.in-Plain.is in
    let e : c.from_residual.result ≡ Err c.in_err-infer-in-Plain.field-0.0 = handed_on c.from_residual.result c.in_err-infer-in-Plain.field-0.0 c.from_residual.ensures.1 in
    rw e (fault_weaker _ _ _ (λ f g. probes_as form (plain_probes _ _ _ c.requires.walk.context _ _ _ (expr_of c.in-Plain.expr) (inferred.Fails f) g)) c.in_err-infer-in-Plain.ensures.outcome)

pub probe-returns-in_ok-infer-in-Plain-clause-outcome : goal.probe-returns-in_ok-infer-in-Plain-clause-outcome
probe-returns-in_ok-infer-in-Plain-clause-outcome t c =
    let form = ap value_of c.in-Plain.is in
    probes_as form (plain_probes _ _ _ c.requires.walk.context _ _ _ (expr_of c.in-Plain.expr) (inferred.Least c.in_ok-infer-in-Plain.field-0.typ c.in_ok-infer-in-Plain.field-0.effect) c.in_ok-infer-in-Plain.ensures.outcome)

pub probe-infer-requires-in-If : goal.probe-infer-requires-in-If
probe-infer-requires-in-If t c =
    let test = expr_of c.in-If.test.value in
    let first = block_of c.in-If.first in
    let second = block_of c.in-If.second in
    let form = ap value_of c.in-If.is ∙ value_if c.in-If.field-0 c.in-If.test c.in-If.first c.in-If.second in
    (search (rules, the_lemmas), (c.requires.walk, (c.requires.asks, subst (ExprReady _ _ _ _ _) (ap expr_of (sym c.deref.ensures)) (test_ready _ _ _ c.requires.walk.context _ c.in-If.field-0 test first second _ (subst (ValueReady _ _ _ _ _) form c.requires.ready)))))

pub probe-returns-in_err-infer-in-If-clause-outcome : goal.probe-returns-in_err-infer-in-If-clause-outcome
probe-returns-in_err-infer-in-If-clause-outcome t c =
    let test = expr_of c.in-If.test.value in
    let first = block_of c.in-If.first in
    let second = block_of c.in-If.second in
    let form = ap value_of c.in-If.is ∙ value_if c.in-If.field-0 c.in-If.test c.in-If.first c.in-If.second in
    let e : c.from_residual-in_err-infer-in-If.result ≡ Err c.in_err-infer-in-If.field-0.0 = handed_on c.from_residual-in_err-infer-in-If.result c.in_err-infer-in-If.field-0.0 c.from_residual-in_err-infer-in-If.ensures.1 in
    rw e (fault_weaker _ _ _ (λ f g. probes_as form (if_probe_fails_at_test _ _ _ c.requires.walk.context _ c.in-If.field-0 test first second _ _ f (infers_as (ap expr_of (sym c.deref.ensures)) g))) c.in_err-infer-in-If.ensures.outcome)

pub probe-probe_block-requires : goal.probe-probe_block-requires
probe-probe_block-requires t c =
    let test = expr_of c.in-If.test.value in
    let first = block_of c.in-If.first in
    let second = block_of c.in-If.second in
    let form = ap value_of c.in-If.is ∙ value_if c.in-If.field-0 c.in-If.test c.in-If.first c.in-If.second in
    let l = inferred.Least c.in_ok-infer-in-If.field-0.typ c.in_ok-infer-in-If.field-0.effect in
    let tested = infers_as (ap expr_of (sym c.deref.ensures)) c.in_ok-infer-in-If.ensures.outcome in
    (search (rules, the_lemmas), (c.requires.walk, (c.infer-in-If.ensures.asks, first_ready _ _ _ c.requires.walk.context _ c.in-If.field-0 test first second _ _ l (subst (ValueReady _ _ _ _ _) form c.requires.ready) tested)))

pub probe-returns-in_err-probe_block-in-If-clause-outcome : goal.probe-returns-in_err-probe_block-in-If-clause-outcome
probe-returns-in_err-probe_block-in-If-clause-outcome t c =
    let test = expr_of c.in-If.test.value in
    let first = block_of c.in-If.first in
    let second = block_of c.in-If.second in
    let form = ap value_of c.in-If.is ∙ value_if c.in-If.field-0 c.in-If.test c.in-If.first c.in-If.second in
    let tested = infers_as (ap expr_of (sym c.deref.ensures)) c.in_ok-infer-in-If.ensures.outcome in
    let e : c.from_residual-in_err-probe_block-in-If.result ≡ Err c.in_err-probe_block-in-If.field-0.0 = handed_on c.from_residual-in_err-probe_block-in-If.result c.in_err-probe_block-in-If.field-0.0 c.from_residual-in_err-probe_block-in-If.ensures.1 in
    rw e (fault_weaker _ _ _ (λ f g. probes_as form (if_probe_fails_at_first _ _ _ c.requires.walk.context _ c.in-If.field-0 test first second _ _ _ c.in_ok-infer-in-If.field-0.typ c.in_ok-infer-in-If.field-0.effect f tested g)) c.in_err-probe_block-in-If.ensures.outcome)

pub probe-probe_block-requires-in-If : goal.probe-probe_block-requires-in-If
probe-probe_block-requires-in-If t c =
    let test = expr_of c.in-If.test.value in
    let first = block_of c.in-If.first in
    let second = block_of c.in-If.second in
    let form = ap value_of c.in-If.is ∙ value_if c.in-If.field-0 c.in-If.test c.in-If.first c.in-If.second in
    let l = inferred.Least c.in_ok-infer-in-If.field-0.typ c.in_ok-infer-in-If.field-0.effect in
    let tested = infers_as (ap expr_of (sym c.deref.ensures)) c.in_ok-infer-in-If.ensures.outcome in
    (search (rules, the_lemmas), (c.requires.walk, (c.probe_block.ensures.asks, second_probe_ready _ _ _ c.requires.walk.context _ c.in-If.field-0 test first second _ _ _ l None (subst (ValueReady _ _ _ _ _) form c.requires.ready) tested c.in_ok-probe_block-in-If.ensures.outcome)))

pub probe-returns-in_ok-probe_block-in-If-clause-outcome : goal.probe-returns-in_ok-probe_block-in-If-clause-outcome
probe-returns-in_ok-probe_block-in-If-clause-outcome t c =
    let test = expr_of c.in-If.test.value in
    let first = block_of c.in-If.first in
    let second = block_of c.in-If.second in
    let form = ap value_of c.in-If.is ∙ value_if c.in-If.field-0 c.in-If.test c.in-If.first c.in-If.second in
    let l = inferred.Least c.in_ok-infer-in-If.field-0.typ c.in_ok-infer-in-If.field-0.effect in
    let tested = infers_as (ap expr_of (sym c.deref.ensures)) c.in_ok-infer-in-If.ensures.outcome in
    passed_weaker c.probe_block-in-If.result _ _ (λ z g. probes_as form (if_probes _ _ _ c.requires.walk.context _ c.in-If.field-0 test first second _ _ _ _ l None z tested c.in_ok-probe_block-in-If.ensures.outcome g)) c.probe_block-in-If.ensures.outcome

pub fit_all-loop-i-init : goal.fit_all-loop-i-init
fit_all-loop-i-init t c =
    let xs = c.args.values.now.items in
    let ts = c.args.types.now in
    record { walked = subst (Fitting _ _ _ _ _ _ _ _ _) (ap fits.Have (sym c.empty.ensures)) (fitting_start _ _ _ c.requires.walk.context _ xs ts _ c.requires.as_many c.requires.ready); asks = c.requires.asks }

pub fit_all-fit-requires : goal.fit_all-fit-requires
fit_all-fit-requires t c =
    let xs = c.args.values.now.items in
    let ts = c.args.types.now in
    let i = c.loop-i.i in
    let lt : i < length xs = search rules in
    let there : slice_get xs i ≡ Some c.index.result.now = slice_get_read xs _ i c.index.result.now refl lt c.index.ensures in
    let typed : slice_get ts i ≡ Some c.index-types-i.result = slice_get_read ts _ i c.index-types-i.result refl (subst (λ n. i < n) c.requires.as_many lt) c.index-types-i.is in
    (search (rules, the_lemmas), (c.requires.walk, (c.loop-i.invariant.asks, (type_at _ _ _ c.requires.walk.context c.args.self.now.owner ts i c.index-types-i.result c.requires.expected typed, fitting_ready _ _ _ c.requires.walk.context _ xs ts _ _ i (fits_of c.loop-i.sofar) c.index.result.now c.loop-i.invariant.walked there))))

pub fit_all-returns-in_err-next-clause-outcome : goal.fit_all-returns-in_err-next-clause-outcome
fit_all-returns-in_err-next-clause-outcome t c =
    let xs = c.args.values.now.items in
    let ts = c.args.types.now in
    let i = c.loop-i.i in
    let lt : i < length xs = search rules in
    let there : slice_get xs i ≡ Some c.index.result.now = slice_get_read xs _ i c.index.result.now refl lt c.index.ensures in
    let typed : slice_get ts i ≡ Some c.index-types-i.result = slice_get_read ts _ i c.index-types-i.result refl (subst (λ n. i < n) c.requires.as_many lt) c.index-types-i.is in
    let e : c.from_residual.result ≡ Err c.in_err-next.field-0.0 = handed_on c.from_residual.result c.in_err-next.field-0.0 c.from_residual.ensures.1 in
    rw e (fault_weaker _ _ _ (λ f g. fitting_fails _ _ _ c.requires.walk.context _ xs ts _ _ _ i (fits_of c.loop-i.sofar) c.index.result.now c.index-types-i.result f c.loop-i.invariant.walked there typed g) c.in_err-next.ensures.outcome)

pub fit_all-loop-i-preserved : goal.fit_all-loop-i-preserved
fit_all-loop-i-preserved t c =
    let xs = c.args.values.now.items in
    let ts = c.args.types.now in
    let i = c.loop-i.i in
    let lt : i < length xs = search rules in
    let there : slice_get xs i ≡ Some c.index.result.now = slice_get_read xs _ i c.index.result.now refl lt c.index.ensures in
    let typed : slice_get ts i ≡ Some c.index-types-i.result = slice_get_read ts _ i c.index-types-i.result refl (subst (λ n. i < n) c.requires.as_many lt) c.index-types-i.is in
    record { walked = values_go_on _ _ _ c.requires.walk.context _ xs ts _ _ c.fit.new.known.vals.items i (fits_of c.loop-i.sofar) (fits_of c.in_ok-sofar.sofar) c.index.result.now c.index-types-i.result c.in_ok-next.next c.loop-i.invariant.walked there typed c.in_ok-next.ensures.outcome c.is_set.ensures c.in_ok-sofar.ensures; asks = c.fit.ensures.asks }

pub fit_all-returns-clause-outcome : goal.fit_all-returns-clause-outcome
fit_all-returns-clause-outcome t c =
    let xs = c.args.values.now.items in
    let ts = c.args.types.now in
    let i = c.loop-i.i in
    let short : length xs ≤ i = search rules in
    fitting_end _ _ _ c.requires.walk.context _ xs ts _ _ i (fits_of c.loop-i.sofar) short c.loop-i.invariant.walked

pub probe_all-loop-i-init : goal.probe_all-loop-i-init
probe_all-loop-i-init t c =
    let xs = c.args.values.now.items in
    record { walked = probing_start _ _ _ c.requires.walk.context _ xs _ c.requires.ready; asks = c.requires.asks }

pub probe_all-probe-requires : goal.probe_all-probe-requires
probe_all-probe-requires t c =
    let xs = c.args.values.now.items in
    let i = c.loop-i.i in
    let lt : i < length xs = search rules in
    let there : slice_get xs i ≡ Some c.index.result.now = slice_get_read xs _ i c.index.result.now refl lt c.index.ensures in
    (search (rules, the_lemmas), (c.requires.walk, (c.loop-i.invariant.asks, probing_ready _ _ _ c.requires.walk.context _ xs _ _ i c.index.result.now c.loop-i.invariant.walked there)))

pub probe_all-returns-in_err-probe-clause-outcome : goal.probe_all-returns-in_err-probe-clause-outcome
probe_all-returns-in_err-probe-clause-outcome t c =
    let xs = c.args.values.now.items in
    let i = c.loop-i.i in
    let lt : i < length xs = search rules in
    let there : slice_get xs i ≡ Some c.index.result.now = slice_get_read xs _ i c.index.result.now refl lt c.index.ensures in
    let e : c.from_residual.result ≡ Err c.in_err-probe.field-0.0 = handed_on c.from_residual.result c.in_err-probe.field-0.0 c.from_residual.ensures.1 in
    rw e (fault_weaker _ _ _ (λ f g. probing_fails _ _ _ c.requires.walk.context _ xs _ _ _ i c.index.result.now f c.loop-i.invariant.walked there g) c.in_err-probe.ensures.outcome)

pub probe_all-loop-i-preserved : goal.probe_all-loop-i-preserved
probe_all-loop-i-preserved t c =
    let xs = c.args.values.now.items in
    let i = c.loop-i.i in
    let lt : i < length xs = search rules in
    let there : slice_get xs i ≡ Some c.index.result.now = slice_get_read xs _ i c.index.result.now refl lt c.index.ensures in
    record { walked = probing_more _ _ _ c.requires.walk.context _ xs _ _ c.probe.new.known.vals.items i c.index.result.now c.loop-i.invariant.walked there c.in_ok-probe.ensures.outcome; asks = c.probe.ensures.asks }

pub probe_all-returns-clause-outcome : goal.probe_all-returns-clause-outcome
probe_all-returns-clause-outcome t c =
    let xs = c.args.values.now.items in
    let i = c.loop-i.i in
    let short : length xs ≤ i = search rules in
    probing_end _ _ _ c.requires.walk.context _ xs _ _ i short c.loop-i.invariant.walked

pub step-fit-requires : goal.step-fit-requires
step-fit-requires t c =
    (search (rules, the_lemmas), (c.requires.walk, (c.requires.asks, (tt, do_ready _ _ _ c.requires.walk.context _ _ c.in-Do.value (subst (StmtReady _ _ _ _ _) c.in-Do.is c.requires.ready).0 (subst (StmtReady _ _ _ _ _) c.in-Do.is c.requires.ready).1))))

pub step-returns-in_err-effect-in-Do-clause-outcome : goal.step-returns-in_err-effect-in-Do-clause-outcome
step-returns-in_err-effect-in-Do-clause-outcome t c =
    let e : c.from_residual.result ≡ Err c.in_err-effect-in-Do.field-0.0 = handed_on c.from_residual.result c.in_err-effect-in-Do.field-0.0 c.from_residual.ensures.1 in
    rw e (fault_weaker _ _ _ (λ f g. states_as c.in-Do.is (do_states _ _ _ c.requires.walk.context _ _ _ c.in-Do.value (fit.Fails f) g)) c.in_err-effect-in-Do.ensures.outcome)

pub step-returns-in-Has-clause-outcome : goal.step-returns-in-Has-clause-outcome
step-returns-in-Has-clause-outcome t c =
    states_as c.in-Do.is (do_states _ _ _ c.requires.walk.context _ _ _ c.in-Do.value (fit.Has c.in-Has.effect) (subst (FitsTo _ _ _ _ _ _ _ _) (ap fit_of c.in-Has.is) c.in_ok-effect-in-Do.ensures.outcome))

pub step-returns-in-Misfit-clause-outcome : goal.step-returns-in-Misfit-clause-outcome
step-returns-in-Misfit-clause-outcome t c =
    rw c.fails.ensures (rw c.mark.ensures (states_as c.in-Do.is (do_states _ _ _ c.requires.walk.context _ _ _ c.in-Do.value (fit.Misfit) (subst (FitsTo _ _ _ _ _ _ _ _) (ap fit_of c.in-Misfit.is) c.in_ok-effect-in-Do.ensures.outcome))))

pub step_typed-fit-requires : goal.step_typed-fit-requires
step_typed-fit-requires t c =
    (search (rules, the_lemmas), (c.requires.walk, (c.requires.asks, (typed_in_range _ _ _ c.requires.walk.context _ c.args.place c.args.val c.args.typ.now c.args.value.now _ c.requires.ready.0 c.requires.ready.1, val_ready _ _ _ c.requires.walk.context _ c.args.place c.args.val (Some c.args.typ.now) c.args.value.now _ c.requires.ready.0 c.requires.ready.1))))

pub step_typed-returns-in_err-effect-clause-outcome : goal.step_typed-returns-in_err-effect-clause-outcome
step_typed-returns-in_err-effect-clause-outcome t c =
    let e : c.from_residual.result ≡ Err c.in_err-effect.field-0.0 = handed_on c.from_residual.result c.in_err-effect.field-0.0 c.from_residual.ensures.1 in
    rw e (fault_weaker _ _ _ (λ f g. typed_failing _ _ _ c.requires.walk.context _ c.args.place c.args.val c.args.typ.now c.args.value.now _ _ f g) c.in_err-effect.ensures.outcome)

pub step_typed-returns-in_ok-put-in-Has-clause-outcome : goal.step_typed-returns-in_ok-put-in-Has-clause-outcome
step_typed-returns-in_ok-put-in-Has-clause-outcome t c =
    typed_done _ _ _ c.requires.walk.context _ c.args.place c.args.val c.args.typ.now c.args.value.now _ _ _ c.in-Has.effect c.requires.ready.0 c.requires.ready.1 (subst (FitsTo _ _ _ _ _ _ _ _) (ap fit_of c.in-Has.is) c.in_ok-effect.ensures.outcome) (subst (IsPut _ _ c.args.val) c.in_ok-copy-in-Has.ensures c.in_ok-put-in-Has.ensures)

pub step_typed-returns-in-Misfit-clause-outcome : goal.step_typed-returns-in-Misfit-clause-outcome
step_typed-returns-in-Misfit-clause-outcome t c =
    rw c.fails.ensures (typed_misfits _ _ _ c.requires.walk.context _ c.args.place c.args.val c.args.typ.now c.args.value.now _ _ (subst (FitsTo _ _ _ _ _ _ _ _) (ap fit_of c.in-Misfit.is) c.in_ok-effect.ensures.outcome))

pub step_untyped-infer-requires : goal.step_untyped-infer-requires
step_untyped-infer-requires t c =
    let ready = val_ready _ _ _ c.requires.walk.context _ c.args.place c.args.val None c.args.value.now _ c.requires.ready.0 c.requires.ready.1 in
    (search (rules, the_lemmas), (c.requires.walk, (c.requires.asks, plain_ready _ _ _ c.requires.walk.context _ _ (expr_of c.in-Plain.expr) (subst (ValueReady _ _ _ _ _) (ap value_of c.in-Plain.is) ready))))

pub step_untyped-probe-requires : goal.step_untyped-probe-requires
step_untyped-probe-requires t c =
    let ready = val_ready _ _ _ c.requires.walk.context _ c.args.place c.args.val None c.args.value.now _ c.requires.ready.0 c.requires.ready.1 in
    (search (rules, the_lemmas), (c.requires.walk, (c.requires.asks, ready)))

pub step_untyped-returns-in_err-least-in-Plain-clause-outcome : goal.step_untyped-returns-in_err-least-in-Plain-clause-outcome
step_untyped-returns-in_err-least-in-Plain-clause-outcome t c =
    let e : c.from_residual.result ≡ Err c.in_err-least-in-Plain.field-0.0 = handed_on c.from_residual.result c.in_err-least-in-Plain.field-0.0 c.from_residual.ensures.1 in
    rw e (fault_weaker _ _ _ (λ f g. untyped_failing _ _ _ c.requires.walk.context _ c.args.place c.args.val c.args.value.now _ _ (expr_of c.in-Plain.expr) f (ap value_of c.in-Plain.is) g) c.in_err-least-in-Plain.ensures.outcome)

pub step_untyped-returns-in_ok-put-in-Plain-clause-outcome : goal.step_untyped-returns-in_ok-put-in-Plain-clause-outcome
step_untyped-returns-in_ok-put-in-Plain-clause-outcome t c =
    untyped_done _ _ _ c.requires.walk.context _ c.args.place c.args.val c.args.value.now _ _ _ (expr_of c.in-Plain.expr) c.in_ok-least-in-Plain.least.typ c.in_ok-least-in-Plain.least.effect c.requires.ready.0 (ap value_of c.in-Plain.is) c.requires.ready.1 c.in_ok-least-in-Plain.ensures.outcome c.in_ok-put-in-Plain.ensures

pub step_untyped-returns-in_err-probe-in-If-clause-outcome : goal.step_untyped-returns-in_err-probe-in-If-clause-outcome
step_untyped-returns-in_err-probe-in-If-clause-outcome t c =
    let form = ap value_of c.in-If.is ∙ value_if c.in-If.field-0 c.in-If.field-1 c.in-If.field-2 c.in-If.field-3 in
    let e : c.from_residual-in_err-probe-in-If.result ≡ Err c.in_err-probe-in-If.field-0.0 = handed_on c.from_residual-in_err-probe-in-If.result c.in_err-probe-in-If.field-0.0 c.from_residual-in_err-probe-in-If.ensures.1 in
    rw e (fault_weaker _ _ _ (λ f g. choice_states _ _ _ c.requires.walk.context _ c.args.place c.args.val c.args.value.now _ _ c.in-If.field-0 (expr_of c.in-If.field-1.value) (block_of c.in-If.field-2) (block_of c.in-If.field-3) (Some f) form g) c.in_err-probe-in-If.ensures.outcome)

pub step_untyped-returns-in_ok-probe-in-If-clause-outcome : goal.step_untyped-returns-in_ok-probe-in-If-clause-outcome
step_untyped-returns-in_ok-probe-in-If-clause-outcome t c =
    let form = ap value_of c.in-If.is ∙ value_if c.in-If.field-0 c.in-If.field-1 c.in-If.field-2 c.in-If.field-3 in
    rw c.fails.ensures (choice_states _ _ _ c.requires.walk.context _ c.args.place c.args.val c.args.value.now _ _ c.in-If.field-0 (expr_of c.in-If.field-1.value) (block_of c.in-If.field-2) (block_of c.in-If.field-3) None form c.in_ok-probe-in-If.ensures.outcome)

pub steps-loop-i-init : goal.steps-loop-i-init
steps-loop-i-init t c =
    let xs = c.args.block.now.statements.items in
    let last = value_of c.args.block.now.last.value in
    record { walked = subst (Stepping _ _ _ _ _ _ _ _ _) (sym c.empty-sofar.ensures) (stepping_start _ _ _ c.requires.walk.context _ xs last _ c.requires.ready); asks = c.requires.asks }

pub steps-step-requires : goal.steps-step-requires
steps-step-requires t c =
    let xs = c.args.block.now.statements.items in
    let last = value_of c.args.block.now.last.value in
    let i = c.loop-i.i in
    let sofar = c.loop-i.sofar in
    let lt : i < length xs = search rules in
    let there : slice_get xs i ≡ Some c.index.result.now = slice_get_read xs _ i c.index.result.now refl lt c.index.ensures in
    (search (rules, the_lemmas), (c.requires.walk, (c.loop-i.invariant.asks, (stmts_block (drop (i + 1) xs) (Last last), stepping_ready _ _ _ c.requires.walk.context _ xs last _ _ i sofar c.index.result.now c.loop-i.invariant.walked there))))

pub steps-returns-in_err-next-clause-outcome : goal.steps-returns-in_err-next-clause-outcome
steps-returns-in_err-next-clause-outcome t c =
    let xs = c.args.block.now.statements.items in
    let last = value_of c.args.block.now.last.value in
    let i = c.loop-i.i in
    let sofar = c.loop-i.sofar in
    let lt : i < length xs = search rules in
    let there : slice_get xs i ≡ Some c.index.result.now = slice_get_read xs _ i c.index.result.now refl lt c.index.ensures in
    let e : c.from_residual.result ≡ Err c.in_err-next.field-0.0 = handed_on c.from_residual.result c.in_err-next.field-0.0 c.from_residual.ensures.1 in
    rw e (fault_weaker _ _ _ (λ f g. stepping_fails _ _ _ c.requires.walk.context _ xs last _ _ _ i sofar c.index.result.now f c.loop-i.invariant.walked there g) c.in_err-next.ensures.outcome)

pub steps-loop-i-preserved : goal.steps-loop-i-preserved
steps-loop-i-preserved t c =
    let xs = c.args.block.now.statements.items in
    let last = value_of c.args.block.now.last.value in
    let i = c.loop-i.i in
    let sofar = c.loop-i.sofar in
    let lt : i < length xs = search rules in
    let there : slice_get xs i ≡ Some c.index.result.now = slice_get_read xs _ i c.index.result.now refl lt c.index.ensures in
    record { walked = subst (Stepping _ _ _ _ _ _ _ _ _) (sym c.in_ok-sofar.ensures) (stepping_more _ _ _ c.requires.walk.context _ xs last _ _ c.step.new.known.vals.items i sofar c.in_ok-next.next c.index.result.now c.loop-i.invariant.walked there c.in_ok-next.ensures.outcome); asks = c.step.ensures.asks }

pub steps-returns-clause-outcome : goal.steps-returns-clause-outcome
steps-returns-clause-outcome t c =
    let xs = c.args.block.now.statements.items in
    let last = value_of c.args.block.now.last.value in
    let i = c.loop-i.i in
    let short : length xs ≤ i = search rules in
    stepping_end _ _ _ c.requires.walk.context _ xs last _ _ i c.loop-i.sofar short c.loop-i.invariant.walked

pub fit_block-returns-in_err-before-clause-outcome : goal.fit_block-returns-in_err-before-clause-outcome
fit_block-returns-in_err-before-clause-outcome t c =
    let xs = c.args.block.now.statements.items in
    let last = value_of c.args.block.now.last.value in
    let e : c.from_residual.result ≡ Err c.in_err-before.field-0.0 = handed_on c.from_residual.result c.in_err-before.field-0.0 c.from_residual.ensures.1 in
    rw e (fault_weaker _ _ _ (λ f g. block_fails _ _ _ c.requires.walk.context _ xs last _ _ c.args.typ.now f g) c.in_err-before.ensures.outcome)

pub fit_block-returns-in_err-last-clause-outcome : goal.fit_block-returns-in_err-last-clause-outcome
fit_block-returns-in_err-last-clause-outcome t c =
    let xs = c.args.block.now.statements.items in
    let last = value_of c.args.block.now.last.value in
    let e : c.from_residual-in_err-last.result ≡ Err c.in_err-last.field-0.0 = handed_on c.from_residual-in_err-last.result c.in_err-last.field-0.0 c.from_residual-in_err-last.ensures.1 in
    rw e (fault_weaker _ _ _ (λ f g. block_fits _ _ _ c.requires.walk.context _ xs last _ _ _ c.in_ok-before.before c.args.typ.now (fit.Fails f) c.in_ok-before.ensures.outcome (fits_as (ap value_of (sym c.deref.ensures)) g)) c.in_err-last.ensures.outcome)

pub fit_block-returns-in_ok-united-in-Has-clause-outcome : goal.fit_block-returns-in_ok-united-in-Has-clause-outcome
fit_block-returns-in_ok-united-in-Has-clause-outcome t c =
    let xs = c.args.block.now.statements.items in
    let last = value_of c.args.block.now.last.value in
    subst (BlockFitsTo _ _ _ _ _ _ _ _) (ap fit.Has (sym c.in_ok-united-in-Has.ensures)) (block_fits _ _ _ c.requires.walk.context _ xs last _ _ _ c.in_ok-before.before c.args.typ.now (fit.Has c.in-Has.last) c.in_ok-before.ensures.outcome (subst (FitsTo _ _ _ _ _ _ _ _) (ap fit_of c.in-Has.is) (fits_as (ap value_of (sym c.deref.ensures)) c.in_ok-last.ensures.outcome)))

pub fit_block-returns-in-Misfit-clause-outcome : goal.fit_block-returns-in-Misfit-clause-outcome
fit_block-returns-in-Misfit-clause-outcome t c =
    let xs = c.args.block.now.statements.items in
    let last = value_of c.args.block.now.last.value in
    block_fits _ _ _ c.requires.walk.context _ xs last _ _ _ c.in_ok-before.before c.args.typ.now (fit.Misfit) c.in_ok-before.ensures.outcome (subst (FitsTo _ _ _ _ _ _ _ _) (ap fit_of c.in-Misfit.is) (fits_as (ap value_of (sym c.deref.ensures)) c.in_ok-last.ensures.outcome))

pub probe_block-returns-in_err-steps-clause-outcome : goal.probe_block-returns-in_err-steps-clause-outcome
probe_block-returns-in_err-steps-clause-outcome t c =
    let xs = c.args.block.now.statements.items in
    let last = value_of c.args.block.now.last.value in
    let e : c.from_residual.result ≡ Err c.in_err-steps.field-0.0 = handed_on c.from_residual.result c.in_err-steps.field-0.0 c.from_residual.ensures.1 in
    rw e (fault_weaker _ _ _ (λ f g. block_probe_fails _ _ _ c.requires.walk.context _ xs last _ _ f g) c.in_err-steps.ensures.outcome)

pub probe_block-returns-clause-outcome : goal.probe_block-returns-clause-outcome
probe_block-returns-clause-outcome t c =
    let xs = c.args.block.now.statements.items in
    let last = value_of c.args.block.now.last.value in
    passed_weaker c.probe.result _ _ (λ z g. block_probes _ _ _ c.requires.walk.context _ xs last _ _ _ c.in_ok-steps.field-0 z c.in_ok-steps.ensures.outcome (probes_as (ap value_of (sym c.deref.ensures)) g)) c.probe.ensures.outcome

pub infer-unreachable-requires-in-None-type_of_binding : goal.infer-unreachable-requires-in-None-type_of_binding
infer-unreachable-requires-in-None-type_of_binding t c =
    let s = scope_of c.args.self.now.scope.now in
    let o = c.args.self.now.owner in
    let named = name_known _ _ _ c.requires.walk.context _ _ c.in-Name.field-0 c.in-Name.binding (subst (ExprReady _ _ _ _ _) (ap expr_of c.in-Name.is) c.requires.ready) in
    none_some named.0 (c.in-None-type_of_binding.ensures ∙ ap (λ z. type_of_binding s z o c.in-Name.binding) c.deref.ensures.value ∙ named.1)

pub infer-returns-in_ok-copy-in-Some-type_of_binding-clause-outcome : goal.infer-returns-in_ok-copy-in-Some-type_of_binding-clause-outcome
infer-returns-in_ok-copy-in-Some-type_of_binding-clause-outcome t c =
    let s = scope_of c.args.self.now.scope.now in
    let o = c.args.self.now.owner in
    let form = ap expr_of c.in-Name.is in
    let copied = c.in_ok-copy-in-Some-type_of_binding.field-0 in
    let is = ap (λ z. type_of_binding s z o c.in-Name.binding) (sym c.deref.ensures.value) ∙ sym c.in-Some-type_of_binding.ensures ∙ ap Some (sym c.in_ok-copy-in-Some-type_of_binding.ensures) in
    least_as form c.least-in-Some-type_of_binding.ensures (name_to _ _ _ c.requires.walk.context _ _ c.in-Name.field-0 c.in-Name.binding copied (subst (ExprReady _ _ _ _ _) form c.requires.ready) is)

------------------------------------------------------------
-- The table of pairs is about the same at each end

pub infer-returns-in-Int-clause-asks : goal.infer-returns-in-Int-clause-asks
infer-returns-in-Int-clause-asks t c = c.requires.asks

pub infer-returns-in-Text-clause-asks : goal.infer-returns-in-Text-clause-asks
infer-returns-in-Text-clause-asks t c = c.requires.asks

pub infer-returns-in-Bool-clause-asks : goal.infer-returns-in-Bool-clause-asks
infer-returns-in-Bool-clause-asks t c = c.requires.asks

pub infer-returns-in-Unit-clause-asks : goal.infer-returns-in-Unit-clause-asks
infer-returns-in-Unit-clause-asks t c = c.requires.asks

pub infer-returns-in-Some-clause-asks : goal.infer-returns-in-Some-clause-asks
infer-returns-in-Some-clause-asks t c = c.requires.asks

pub infer_unary-returns-in_err-operand-clause-asks : goal.infer_unary-returns-in_err-operand-clause-asks
infer_unary-returns-in_err-operand-clause-asks t c = c.infer.ensures.asks

pub infer_unary-returns-in-Some-clause-asks : goal.infer_unary-returns-in-Some-clause-asks
infer_unary-returns-in-Some-clause-asks t c = c.infer.ensures.asks

pub infer_unary-returns-clause-asks : goal.infer_unary-returns-clause-asks
infer_unary-returns-clause-asks t c = c.infer.ensures.asks

pub infer-returns-in_err-first-in-Binary-clause-asks : goal.infer-returns-in_err-first-in-Binary-clause-asks
infer-returns-in_err-first-in-Binary-clause-asks t c = c.infer.ensures.asks

pub infer-returns-in_ok-first-in-Binary-clause-asks : goal.infer-returns-in_ok-first-in-Binary-clause-asks
infer-returns-in_ok-first-in-Binary-clause-asks t c = c.infer_second.ensures.asks

pub infer_second-returns-in_err-second-clause-asks : goal.infer_second-returns-in_err-second-clause-asks
infer_second-returns-in_err-second-clause-asks t c = c.infer.ensures.asks

pub infer_second-returns-clause-asks : goal.infer_second-returns-clause-asks
infer_second-returns-clause-asks t c = c.infer.ensures.asks

pub infer_text_call-returns-in_err-effect-clause-asks : goal.infer_text_call-returns-in_err-effect-clause-asks
infer_text_call-returns-in_err-effect-clause-asks t c = c.fit_all.ensures.asks

pub infer_text_call-returns-in-Have-clause-asks : goal.infer_text_call-returns-in-Have-clause-asks
infer_text_call-returns-in-Have-clause-asks t c = c.fit_all.ensures.asks

pub infer_text_call-returns-clause-asks : goal.infer_text_call-returns-clause-asks
infer_text_call-returns-clause-asks t c = c.fit_all.ensures.asks

pub infer_arguments-returns-in-Without-clause-asks : goal.infer_arguments-returns-in-Without-clause-asks
infer_arguments-returns-in-Without-clause-asks t c = c.probe_arguments.ensures.asks

pub infer_arguments-returns-in-Found-clause-asks : goal.infer_arguments-returns-in-Found-clause-asks
infer_arguments-returns-in-Found-clause-asks t c = c.fit_arguments.ensures.asks

pub probe_arguments-returns-in_err-probe_all-clause-asks : goal.probe_arguments-returns-in_err-probe_all-clause-asks
probe_arguments-returns-in_err-probe_all-clause-asks t c = c.probe_all.ensures.asks

pub probe_arguments-returns-clause-asks : goal.probe_arguments-returns-clause-asks
probe_arguments-returns-clause-asks t c = c.probe_all.ensures.asks

pub fit_arguments-returns-in_err-arguments-clause-asks : goal.fit_arguments-returns-in_err-arguments-clause-asks
fit_arguments-returns-in_err-arguments-clause-asks t c = c.fit_all.ensures.asks

pub fit_arguments-returns-in-Have-clause-asks : goal.fit_arguments-returns-in-Have-clause-asks
fit_arguments-returns-in-Have-clause-asks t c = c.fit_all.ensures.asks

pub fit_arguments-returns-in-Misfit-clause-asks : goal.fit_arguments-returns-in-Misfit-clause-asks
fit_arguments-returns-in-Misfit-clause-asks t c = c.fit_all.ensures.asks

pub infer_new-returns-in_err-effect-clause-asks : goal.infer_new-returns-in_err-effect-clause-asks
infer_new-returns-in_err-effect-clause-asks t c = c.fit_all.ensures.asks

pub infer_new-returns-in-Have-clause-asks : goal.infer_new-returns-in-Have-clause-asks
infer_new-returns-in-Have-clause-asks t c = c.fit_all.ensures.asks

pub infer_new-returns-clause-asks : goal.infer_new-returns-clause-asks
infer_new-returns-clause-asks t c = c.fit_all.ensures.asks

pub infer_ascription-returns-in_err-effect-clause-asks : goal.infer_ascription-returns-in_err-effect-clause-asks
infer_ascription-returns-in_err-effect-clause-asks t c = c.fit.ensures.asks

pub infer_ascription-returns-in_ok-copy-in-Has-clause-asks : goal.infer_ascription-returns-in_ok-copy-in-Has-clause-asks
infer_ascription-returns-in_ok-copy-in-Has-clause-asks t c = c.fit.ensures.asks

pub infer_ascription-returns-in-Misfit-clause-asks : goal.infer_ascription-returns-in-Misfit-clause-asks
infer_ascription-returns-in-Misfit-clause-asks t c = c.fit.ensures.asks

pub infer_assignment-returns-in_err-effect-in-Some-clause-asks : goal.infer_assignment-returns-in_err-effect-in-Some-clause-asks
infer_assignment-returns-in_err-effect-in-Some-clause-asks t c = c.fit.ensures.asks

pub infer_assignment-returns-in-Has-clause-asks : goal.infer_assignment-returns-in-Has-clause-asks
infer_assignment-returns-in-Has-clause-asks t c = c.fit.ensures.asks

pub infer_assignment-returns-in-Misfit-clause-asks : goal.infer_assignment-returns-in-Misfit-clause-asks
infer_assignment-returns-in-Misfit-clause-asks t c = c.fit.ensures.asks

pub infer_assignment-returns-in_err-probe-in-None-clause-asks : goal.infer_assignment-returns-in_err-probe-in-None-clause-asks
infer_assignment-returns-in_err-probe-in-None-clause-asks t c = c.probe.ensures.asks

pub infer_assignment-returns-in_ok-probe-in-None-clause-asks : goal.infer_assignment-returns-in_ok-probe-in-None-clause-asks
infer_assignment-returns-in_ok-probe-in-None-clause-asks t c = c.probe.ensures.asks

pub infer-returns-in-Unary-clause-asks : goal.infer-returns-in-Unary-clause-asks
infer-returns-in-Unary-clause-asks t c = c.infer_unary.ensures.asks

pub infer-returns-in-TextCall-clause-asks : goal.infer-returns-in-TextCall-clause-asks
infer-returns-in-TextCall-clause-asks t c = c.infer_text_call.ensures.asks

pub infer-returns-in-New-clause-asks : goal.infer-returns-in-New-clause-asks
infer-returns-in-New-clause-asks t c = c.infer_new.ensures.asks

pub infer-returns-in-Ascribe-clause-asks : goal.infer-returns-in-Ascribe-clause-asks
infer-returns-in-Ascribe-clause-asks t c = c.infer_ascription.ensures.asks

pub infer-returns-in-Assign-clause-asks : goal.infer-returns-in-Assign-clause-asks
infer-returns-in-Assign-clause-asks t c = c.infer_assignment.ensures.asks

pub infer-returns-in_err-receiver-in-Call-clause-asks : goal.infer-returns-in_err-receiver-in-Call-clause-asks
infer-returns-in_err-receiver-in-Call-clause-asks t c = c.infer-in-Call.ensures.asks

pub infer-returns-in_ok-receiver-in-Call-clause-asks : goal.infer-returns-in_ok-receiver-in-Call-clause-asks
infer-returns-in_ok-receiver-in-Call-clause-asks t c = c.infer_call.ensures.asks

pub infer_call-returns-clause-asks : goal.infer_call-returns-clause-asks
infer_call-returns-clause-asks t c = c.infer_arguments.ensures.asks

pub fit-returns-in_err-least-in-Plain-clause-asks : goal.fit-returns-in_err-least-in-Plain-clause-asks
fit-returns-in_err-least-in-Plain-clause-asks t c = c.infer.ensures.asks

pub fit-returns-in_ok-fitted-in-Plain-clause-asks : goal.fit-returns-in_ok-fitted-in-Plain-clause-asks
fit-returns-in_ok-fitted-in-Plain-clause-asks t c = c.fitted.ensures.same ∙ c.infer.ensures.asks

pub fit-returns-in_err-least-in-If-clause-asks : goal.fit-returns-in_err-least-in-If-clause-asks
fit-returns-in_err-least-in-If-clause-asks t c = c.infer-in-If.ensures.asks

pub fit-returns-in_err-first-in-If-clause-asks : goal.fit-returns-in_err-first-in-If-clause-asks
fit-returns-in_err-first-in-If-clause-asks t c = c.fit_block.ensures.asks

pub fit-returns-in_err-second-in-If-clause-asks : goal.fit-returns-in_err-second-in-If-clause-asks
fit-returns-in_err-second-in-If-clause-asks t c = c.fit_block-in-If.ensures.asks

pub fit-returns-in_ok-second-in-If-clause-asks : goal.fit-returns-in_ok-second-in-If-clause-asks
fit-returns-in_ok-second-in-If-clause-asks t c = c.fit_block-in-If.ensures.asks

pub probe-returns-in_err-infer-in-Plain-clause-asks : goal.probe-returns-in_err-infer-in-Plain-clause-asks
probe-returns-in_err-infer-in-Plain-clause-asks t c = c.infer.ensures.asks

pub probe-returns-in_ok-infer-in-Plain-clause-asks : goal.probe-returns-in_ok-infer-in-Plain-clause-asks
probe-returns-in_ok-infer-in-Plain-clause-asks t c = c.infer.ensures.asks

pub probe-returns-in_err-infer-in-If-clause-asks : goal.probe-returns-in_err-infer-in-If-clause-asks
probe-returns-in_err-infer-in-If-clause-asks t c = c.infer-in-If.ensures.asks

pub probe-returns-in_err-probe_block-in-If-clause-asks : goal.probe-returns-in_err-probe_block-in-If-clause-asks
probe-returns-in_err-probe_block-in-If-clause-asks t c = c.probe_block.ensures.asks

pub probe-returns-in_ok-probe_block-in-If-clause-asks : goal.probe-returns-in_ok-probe_block-in-If-clause-asks
probe-returns-in_ok-probe_block-in-If-clause-asks t c = c.probe_block-in-If.ensures.asks

pub fit_all-returns-in_err-next-clause-asks : goal.fit_all-returns-in_err-next-clause-asks
fit_all-returns-in_err-next-clause-asks t c = c.fit.ensures.asks

pub fit_all-returns-clause-asks : goal.fit_all-returns-clause-asks
fit_all-returns-clause-asks t c = c.loop-i.invariant.asks

pub probe_all-returns-in_err-probe-clause-asks : goal.probe_all-returns-in_err-probe-clause-asks
probe_all-returns-in_err-probe-clause-asks t c = c.probe.ensures.asks

pub probe_all-returns-clause-asks : goal.probe_all-returns-clause-asks
probe_all-returns-clause-asks t c = c.loop-i.invariant.asks

pub step-returns-in_err-effect-in-Do-clause-asks : goal.step-returns-in_err-effect-in-Do-clause-asks
step-returns-in_err-effect-in-Do-clause-asks t c = c.fit.ensures.asks

pub step-returns-in-Has-clause-asks : goal.step-returns-in-Has-clause-asks
step-returns-in-Has-clause-asks t c = c.fit.ensures.asks

pub step-returns-in-Misfit-clause-asks : goal.step-returns-in-Misfit-clause-asks
step-returns-in-Misfit-clause-asks t c = c.fit.ensures.asks

pub step_typed-returns-in_err-effect-clause-asks : goal.step_typed-returns-in_err-effect-clause-asks
step_typed-returns-in_err-effect-clause-asks t c = c.fit.ensures.asks

pub step_typed-returns-in_ok-put-in-Has-clause-asks : goal.step_typed-returns-in_ok-put-in-Has-clause-asks
step_typed-returns-in_ok-put-in-Has-clause-asks t c = c.fit.ensures.asks

pub step_typed-returns-in-Misfit-clause-asks : goal.step_typed-returns-in-Misfit-clause-asks
step_typed-returns-in-Misfit-clause-asks t c = c.fit.ensures.asks

pub step_untyped-returns-in_err-least-in-Plain-clause-asks : goal.step_untyped-returns-in_err-least-in-Plain-clause-asks
step_untyped-returns-in_err-least-in-Plain-clause-asks t c = c.infer.ensures.asks

pub step_untyped-returns-in_ok-put-in-Plain-clause-asks : goal.step_untyped-returns-in_ok-put-in-Plain-clause-asks
step_untyped-returns-in_ok-put-in-Plain-clause-asks t c = c.infer.ensures.asks

pub step_untyped-returns-in_err-probe-in-If-clause-asks : goal.step_untyped-returns-in_err-probe-in-If-clause-asks
step_untyped-returns-in_err-probe-in-If-clause-asks t c = c.probe.ensures.asks

pub step_untyped-returns-in_ok-probe-in-If-clause-asks : goal.step_untyped-returns-in_ok-probe-in-If-clause-asks
step_untyped-returns-in_ok-probe-in-If-clause-asks t c = c.probe.ensures.asks

pub steps-returns-in_err-next-clause-asks : goal.steps-returns-in_err-next-clause-asks
steps-returns-in_err-next-clause-asks t c = c.step.ensures.asks

pub steps-returns-clause-asks : goal.steps-returns-clause-asks
steps-returns-clause-asks t c = c.loop-i.invariant.asks

pub fit_block-returns-in_err-before-clause-asks : goal.fit_block-returns-in_err-before-clause-asks
fit_block-returns-in_err-before-clause-asks t c = c.steps.ensures.asks

pub fit_block-returns-in_err-last-clause-asks : goal.fit_block-returns-in_err-last-clause-asks
fit_block-returns-in_err-last-clause-asks t c = c.fit.ensures.asks

pub fit_block-returns-in_ok-united-in-Has-clause-asks : goal.fit_block-returns-in_ok-united-in-Has-clause-asks
fit_block-returns-in_ok-united-in-Has-clause-asks t c = c.fit.ensures.asks

pub fit_block-returns-in-Misfit-clause-asks : goal.fit_block-returns-in-Misfit-clause-asks
fit_block-returns-in-Misfit-clause-asks t c = c.fit.ensures.asks

pub probe_block-returns-in_err-steps-clause-asks : goal.probe_block-returns-in_err-steps-clause-asks
probe_block-returns-in_err-steps-clause-asks t c = c.steps.ensures.asks

pub probe_block-returns-clause-asks : goal.probe_block-returns-clause-asks
probe_block-returns-clause-asks t c = c.probe.ensures.asks

pub infer-returns-in_ok-copy-in-Some-type_of_binding-clause-asks : goal.infer-returns-in_ok-copy-in-Some-type_of_binding-clause-asks
infer-returns-in_ok-copy-in-Some-type_of_binding-clause-asks t c = c.requires.asks
