use Rattle.std.proofs.Common.{◌≡◌, [], Err, Some, None, length, sym, ap, subst, ◌∙◌}
use Rattle.wy_types.specs.Program.{program_of, scope_of, start_of}
use Rattle.wy_types.specs.View.{values_of, block_of}
use Rattle.wy_types.specs.declared.types.TypeRef.TheVariants.{Unit as Nothing}
use Rattle.wy_rules.specs.Typing.{field_types}
use Rattle.wy_judge.specs.Fit as fit
use Rattle.wy_judge.specs.Fits as fits
use Rattle.wy_judge.specs.Results.{fit_of, fits_of}
use Rattle.wy_judge.specs.Judging.{TypesInRange, AllFitTo, BlockFitsTo}
use Rattle.wy_judge.specs.Lacks.{IsBodyFaultOf}
use Rattle.wy_judge.specs.Tables.{ValuesReady, BlockReady}
use Rattle.wy_judge.proofs.Results.{handed_on, fault_weaker, passed_weaker}
use Rattle.wy_judge.specs.Walking.{StartsTo}
use Rattle.wy_judge.proofs.ArmsOfObjects.{new_types}
use Rattle.wy_judge.proofs.ScopeParts.{init_as_body, starts_by_fields, starts_by_block, starts_fail_in_fields, starts_fail_in_block}
use Rattle.wy_judge.proofs.Starting.{values_start, initialisers_as_many, block_start}
use Rattle.wy_judge.proofs.walk.Walk.judge_start.Goals as goal

pub fit_all-requires-clause-expected : goal.fit_all-requires-clause-expected
fit_all-requires-clause-expected c =
    let p = program_of c.args.self.now.core.now in
    let k = c.args.self.now.number in
    let s = scope_of c.args.self.now.scope.now in
    let h = c.requires.walk.context in
    let types = c.as_slice.ensures ∙ c.in_ok-types-in-Init.ensures in
    subst (λ ts. TypesInRange p k s c.args.self.now.owner ts) (sym types) (new_types p k s h c.args.self.now.owner 0)

pub fit_all-requires-clause-as_many : goal.fit_all-requires-clause-as_many
fit_all-requires-clause-as_many c =
    let p = program_of c.args.self.now.core.now in
    let k = c.args.self.now.number in
    let s = scope_of c.args.self.now.scope.now in
    let h = c.requires.walk.context in
    let types = c.as_slice.ensures ∙ c.in_ok-types-in-Init.ensures in
    initialisers_as_many p k s h c.in-Init.values.items (ap start_of c.in-Init.is) ∙ ap length (sym types)

pub fit_all-requires-clause-ready : goal.fit_all-requires-clause-ready
fit_all-requires-clause-ready c =
    let p = program_of c.args.self.now.core.now in
    let k = c.args.self.now.number in
    let s = scope_of c.args.self.now.scope.now in
    let h = c.requires.walk.context in
    subst (λ o. ValuesReady p k s o c.args.known.now.vals.items (values_of c.in-Init.values.items)) (sym c.requires.owner)
    (subst (λ t. ValuesReady p k s None t (values_of c.in-Init.values.items)) (sym c.requires.empty) (values_start p k s h (values_of c.in-Init.values.items) (ap start_of c.in-Init.is)))

pub fit_block-requires-clause-ready : goal.fit_block-requires-clause-ready
fit_block-requires-clause-ready c =
    let p = program_of c.args.self.now.core.now in
    let k = c.args.self.now.number in
    let s = scope_of c.args.self.now.scope.now in
    let h = c.requires.walk.context in
    subst (λ o. BlockReady p k s o c.args.known.now.vals.items (block_of c.in-Run.block)) (sym c.requires.owner)
    (subst (λ t. BlockReady p k s None t (block_of c.in-Run.block)) (sym c.requires.empty) (block_start p k s h (block_of c.in-Run.block) (ap start_of c.in-Run.is)))

pub returns-in_err-initialisers-in-Init-clause-outcome : goal.returns-in_err-initialisers-in-Init-clause-outcome
returns-in_err-initialisers-in-Init-clause-outcome c =
    let p = program_of c.args.self.now.core.now in
    let k = c.args.self.now.number in
    let s = scope_of c.args.self.now.scope.now in
    let old = c.args.known.now.vals.items in
    let new = c.fit_all.new.known.vals.items in
    let types = c.as_slice.ensures ∙ c.in_ok-types-in-Init.ensures in
    let r = c.in_err-initialisers-in-Init.field-0.0 in
    let e : c.from_residual-in_err-initialisers-in-Init.result ≡ Err r = handed_on c.from_residual-in_err-initialisers-in-Init.result r c.from_residual-in_err-initialisers-in-Init.ensures.1 in
    let xs = c.in-Init.values.items in
    let o = c.args.self.now.owner in
    rw e (fault_weaker r (λ f. AllFitTo p k s o old new xs c.as_slice.result.now (fits.Fails f)) (λ f. StartsTo p k s [] new (Some f))
    (λ f h. starts_fail_in_fields p k s c.requires.walk.context xs old new f (ap start_of c.in-Init.is) c.requires.empty (subst (λ w. AllFitTo p k s w old new xs (field_types s 0) (fits.Fails f)) c.requires.owner (subst (λ ts. AllFitTo p k s o old new xs ts (fits.Fails f)) types h)))
    c.in_err-initialisers-in-Init.ensures.outcome)

pub returns-in_err-at_unit-in-Run-clause-outcome : goal.returns-in_err-at_unit-in-Run-clause-outcome
returns-in_err-at_unit-in-Run-clause-outcome c =
    let p = program_of c.args.self.now.core.now in
    let k = c.args.self.now.number in
    let s = scope_of c.args.self.now.scope.now in
    let old = c.args.known.now.vals.items in
    let new = c.fit_block.new.known.vals.items in
    let b = block_of c.in-Run.block in
    let r = c.in_err-at_unit-in-Run.field-0.0 in
    let e : c.from_residual-in_err-at_unit-in-Run.result ≡ Err r = handed_on c.from_residual-in_err-at_unit-in-Run.result r c.from_residual-in_err-at_unit-in-Run.ensures.1 in
    let o = c.args.self.now.owner in
    rw e (fault_weaker r (λ f. BlockFitsTo p k s o old new b Nothing (fit.Fails f)) (λ f. StartsTo p k s [] new (Some f))
    (λ f h. starts_fail_in_block p k s c.requires.walk.context b old new f (ap start_of c.in-Run.is) c.requires.empty (subst (λ w. BlockFitsTo p k s w old new b Nothing (fit.Fails f)) c.requires.owner h))
    c.in_err-at_unit-in-Run.ensures.outcome)

pub returns-in_ok-initialisers-in-Init-clause-outcome : goal.returns-in_ok-initialisers-in-Init-clause-outcome
returns-in_ok-initialisers-in-Init-clause-outcome c =
    let p = program_of c.args.self.now.core.now in
    let k = c.args.self.now.number in
    let s = scope_of c.args.self.now.scope.now in
    let old = c.args.known.now.vals.items in
    let new = c.fit_all.new.known.vals.items in
    let u = fits_of c.in_ok-initialisers-in-Init.initialisers in
    let types = c.as_slice.ensures ∙ c.in_ok-types-in-Init.ensures in
    let at = subst (λ w. AllFitTo p k s w old new c.in-Init.values.items c.as_slice.result.now u) c.requires.owner c.in_ok-initialisers-in-Init.ensures.outcome in
    let all = subst (λ ts. AllFitTo p k s None old new c.in-Init.values.items ts u) types at in
    passed_weaker c.judge_fit.result (λ o. IsBodyFaultOf p k s s.start_place s.start_effect (fit_of c.as_fit.result) o) (λ o. StartsTo p k s [] new o)
    (λ o r. starts_by_fields p k s c.requires.walk.context c.in-Init.values.items old new u o (ap start_of c.in-Init.is) c.requires.empty all
    (init_as_body p k s s.start_place s.start_effect u o (subst (λ w. IsBodyFaultOf p k s s.start_place s.start_effect w o) c.as_fit.ensures r)))
    c.judge_fit.ensures

pub returns-in_ok-at_unit-in-Run-clause-outcome : goal.returns-in_ok-at_unit-in-Run-clause-outcome
returns-in_ok-at_unit-in-Run-clause-outcome c =
    let p = program_of c.args.self.now.core.now in
    let k = c.args.self.now.number in
    let s = scope_of c.args.self.now.scope.now in
    let old = c.args.known.now.vals.items in
    let new = c.fit_block.new.known.vals.items in
    let u = fit_of c.in_ok-at_unit-in-Run.at_unit in
    let ran = subst (λ w. BlockFitsTo p k s w old new (block_of c.in-Run.block) Nothing u) c.requires.owner c.in_ok-at_unit-in-Run.ensures.outcome in
    passed_weaker c.judge_fit-in-Run.result (λ o. IsBodyFaultOf p k s s.start_place s.start_effect u o) (λ o. StartsTo p k s [] new o)
    (λ o r. starts_by_block p k s c.requires.walk.context (block_of c.in-Run.block) old new u o (ap start_of c.in-Run.is) c.requires.empty ran r)
    c.judge_fit-in-Run.ensures
