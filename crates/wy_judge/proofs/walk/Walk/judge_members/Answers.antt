use Rattle.std.proofs.Common.{◌≡◌, ◌∙◌, sym, subst}
use Rattle.wy_types.specs.Program.{program_of, scope_of}
use Rattle.wy_types.specs.Types.{is_plain}
use Rattle.wy_judge.specs.Walking.{IsMembersFault}
use Rattle.wy_judge.proofs.Contexts.{in_range}
use Rattle.wy_judge.proofs.Results.{passed_weaker}
use Rattle.wy_judge.proofs.Seals.{plain_mode, annotated_mode, plain_members, members_found}
use Rattle.wy_judge.proofs.walk.Walk.judge_members.Goals as goal

pub first_outside-requires : goal.first_outside-requires
first_outside-requires c = record { core = in_range (program_of c.args.self.now.core.now) c.args.self.now.number (scope_of c.args.self.now.scope.now) c.requires.walk.context }

pub returns-in-Plain : goal.returns-in-Plain
returns-in-Plain c =
    let s = scope_of c.args.self.now.scope.now in
    plain_members (program_of c.args.self.now.core.now) c.args.self.now.number s c.args.decl c.requires.sealed (plain_mode (is_plain s.kind) (sym c.mode_of.ensures ∙ c.in-Plain.is))

pub returns-in_ok-fault-in-Annotated : goal.returns-in_ok-fault-in-Annotated
returns-in_ok-fault-in-Annotated c =
    let p = program_of c.args.self.now.core.now in
    let k = c.args.self.now.number in
    let s = scope_of c.args.self.now.scope.now in
    let plain = annotated_mode (is_plain s.kind) (sym c.mode_of.ensures ∙ c.in-Annotated.is) in
    let bounds = c.declared_bounds-bounds in
    let sets = c.as_slice-definitions in
    let missing = c.in_ok-missing-in-Annotated in
    let found = members_found p k s c.args.decl c.requires.sealed plain bounds.result.now sets.result.now bounds.ensures sets.ensures missing.missing missing.ensures.none missing.ensures.some in
    passed_weaker c.stop_at.result (λ o. o ≡ c.in_ok-fault-in-Annotated.fault) (λ o. IsMembersFault p k s o)
    (λ o e. subst (λ z. IsMembersFault p k s z) (sym (e ∙ c.in_ok-fault-in-Annotated.ensures)) found)
    c.stop_at.ensures
