use Rattle.std.proofs.Common.{◌≡◌, ◌≤◌, ◌<◌, Err, length, sym, ap, ◌∙◌, arith, rules}
use Rattle.std.proofs.lemmas.List.{length-map}
use Rattle.wy_types.specs.declared.resolved.Scope.{Scope}
use Rattle.wy_types.specs.Program.{program_of, scope_of}
use Rattle.wy_rules.specs.Refusals.{turn_of, is_its_turn}
use Rattle.wy_judge.specs.Checking.{module_turn}
use Rattle.wy_judge.proofs.Programs.{scope_read, one_more_goes_on, all_go_on}
use Rattle.wy_judge.proofs.Checks.{checked_goes_on, first_refusal}
use Rattle.wy_judge.proofs.ListsPut.{one_more_list, no_more_list, all_lists_put}
use Rattle.wy_judge.proofs.Results.{handed_on}
use Rattle.wy_judge.proofs.checking.check_modules.Goals as goal
use Rattle.wy_judge.proofs.checking.check_modules.Goals.{then-is_its_turn+in_ok-checked, else-is_its_turn}

pub returns-in_err-checked-clause-first : goal.returns-in_err-checked-clause-first
returns-in_err-checked-clause-first c =
    let p = program_of c.args.core.now in
    let turn = module_turn c.args.plain in
    let k = c.loop-number.number in
    let x = c.index-scopes-number.result in
    let r = c.in_err-checked.field-0.0 in
    let there = scope_read c.args.core.now c.as_slice-scopes.result.now k x c.as_slice-scopes.ensures c.loop-number-test.true c.index-scopes-number.is in
    let its = ap (λ (v : Scope). is_its_turn turn (turn_of v.kind)) c.index-scopes-number.is ∙ (sym c.is_its_turn.ensures ∙ c.if-is_its_turn.true) in
    let e : c.from_residual.result ≡ Err r = handed_on c.from_residual.result r c.from_residual.ensures.1 in
    rw e (first_refusal p turn k (scope_of x) r there its c.loop-number.invariant.before c.in_err-checked.ensures.refusal)

pub loop-number-preserved : goal.loop-number-preserved
loop-number-preserved c =
    let p = program_of c.args.core.now in
    let turn = module_turn c.args.plain in
    let k = c.loop-number.number in
    let x = c.index-scopes-number.result in
    let there = scope_read c.args.core.now c.as_slice-scopes.result.now k x c.as_slice-scopes.ensures c.loop-number-test.true c.index-scopes-number.is in
    let same_kind = ap (λ (v : Scope). is_its_turn turn (turn_of v.kind)) c.index-scopes-number.is in
    record {
      before = one_more_goes_on p turn k (scope_of x) c.loop-number.invariant.before there
          (elim c.if-is_its_turn.branch [
            | then-is_its_turn+in_ok-checked w ↦ λ its. checked_goes_on p k (scope_of x) _ there w.in_ok-checked.ensures.passes
            | else-is_its_turn w ↦ λ its. (let same = c.is_its_turn.ensures in let other = w.if-is_its_turn.false in cc)
          ]);
      lists = elim c.if-is_its_turn.branch [
        | then-is_its_turn+in_ok-checked w ↦
            let its = same_kind ∙ (sym c.is_its_turn.ensures ∙ w.if-is_its_turn.true) in
            let lt : k < length c.loop-number.lists = search rules in
            rw w.lists-is (rw w.put_list.ensures (one_more_list p turn c.args.lists.now c.loop-number.lists k (scope_of x) there c.loop-number.invariant.lists its _ w.in_ok-checked.ensures.passes lt))
        | else-is_its_turn w ↦
            let other = same_kind ∙ (sym c.is_its_turn.ensures ∙ w.if-is_its_turn.false) in
            rw w.lists-is (no_more_list p turn c.args.lists.now c.loop-number.lists k (scope_of x) there c.loop-number.invariant.lists other)
      ];
    }

pub returns-clause-all : goal.returns-clause-all
returns-clause-all c =
    let p = program_of c.args.core.now in
    let same = ap length c.as_slice-scopes.ensures in
    let short : length p.scopes ≤ c.loop-number.number = omega (arith, length-map c.args.core.now.scopes scope_of) in
    all_go_on p (module_turn c.args.plain) c.loop-number.number short c.loop-number.invariant.before

pub returns-clause-puts : goal.returns-clause-puts
returns-clause-puts c =
    let p = program_of c.args.core.now in
    let same = ap length c.as_slice-scopes.ensures in
    let short : length p.scopes ≤ c.loop-number.number = omega (arith, length-map c.args.core.now.scopes scope_of) in
    all_lists_put p (module_turn c.args.plain) _ _ c.loop-number.number short c.loop-number.invariant.lists
