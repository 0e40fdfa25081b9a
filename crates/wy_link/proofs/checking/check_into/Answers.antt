use Rattle.std.proofs.Common.{◌≡◌, ◌-◌, Err, length, subst, ◌∙◌, sym, arith}
use Rattle.std.proofs.lemmas.List.{length-map}
use Rattle.wy_types.specs.Program.{program_of, scope_of}
use Rattle.wy_judge.proofs.ListsPut.{all_are_locals}
use Rattle.wy_judge.proofs.Programs.{IsLastAt, last_of}
use Rattle.wy_judge.proofs.Results.{handed_on}
use Rattle.wy_link.proofs.Programs.{types_refused, instances_refused, before_lines}
use Rattle.wy_link.proofs.checking.check_into.Goals as goal

pub returns-in_err-keep_limit-clause-refusal : goal.returns-in_err-keep_limit-clause-refusal
returns-in_err-keep_limit-clause-refusal c =
    let p = program_of c.args.core.now in
    let same : length c.args.core.now.scopes - 1 ≡ c.len.result - 1 = omega arith in
    let last = subst (IsLastAt p) same (last_of c.args.core.now c.requires.keeps.core) in
    let e : c.from_residual-in_err-keep_limit.result ≡ Err c.in_err-keep_limit.field-0.0 = handed_on c.from_residual-in_err-keep_limit.result c.in_err-keep_limit.field-0.0 c.from_residual-in_err-keep_limit.ensures.1 in
    rw e (types_refused p _ last c.in_ok-check_modules.ensures.all c.in_ok-check_modules-2.ensures.all c.in_err-keep_limit.field-0.0 c.in_err-keep_limit.ensures.refusal)

pub returns-in-Err-Limit-clause-refusal : goal.returns-in-Err-Limit-clause-refusal
returns-in-Err-Limit-clause-refusal c =
    let p = program_of c.args.core.now in
    let same : length c.args.core.now.scopes - 1 ≡ c.len.result - 1 = omega arith in
    let last = subst (IsLastAt p) same (last_of c.args.core.now c.requires.keeps.core) in
    rw c.in-Err-Limit.name-is (instances_refused p _ last c.in_ok-check_modules.ensures.all c.in_ok-check_modules-2.ensures.all _ c.in-Err-Limit.field-0 c.in-Err-Limit.field-0-is c.in_ok-keep_limit.ensures.within c.in-Err-Limit.ensures.refusal)

pub check_rest-requires-clause-before : goal.check_rest-requires-clause-before
check_rest-requires-clause-before c =
    let p = program_of c.args.core.now in
    let same : length c.args.core.now.scopes - 1 ≡ c.len.result - 1 = omega arith in
    let last = subst (IsLastAt p) same (last_of c.args.core.now c.requires.keeps.core) in
    before_lines p _ last c.in_ok-check_modules.ensures.all c.in_ok-check_modules-2.ensures.all c.in_ok-keep_limit.ensures.within (λ many. (let few = c.in-Ok.ensures.links.few in omega arith))

pub returns-clause-locals : goal.returns-clause-locals
returns-clause-locals c =
    let p = program_of c.args.core.now in
    let size : length c.args.lists.now ≡ length p.scopes = c.requires.lists ∙ sym (length-map c.args.core.now.scopes scope_of) in
    all_are_locals p _ _ _ _ size c.in_ok-check_modules.ensures.puts c.in_ok-check_modules-2.ensures.puts c.in_ok-check_rest.ensures.puts
