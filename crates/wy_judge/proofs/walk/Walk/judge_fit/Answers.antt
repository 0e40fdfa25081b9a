use Rattle.std.proofs.Common.{◌≡◌, sym, subst}
use Rattle.wy_effects.specs.Widened.{widened_set}
use Rattle.wy_types.specs.Program.{program_of, scope_of}
use Rattle.wy_types.specs.Types.{is_plain}
use Rattle.wy_types.specs.Bounds.{bounds_of}
use Rattle.wy_judge.specs.Lacks.{IsBodyFault, IsBodyFaultOf}
use Rattle.wy_judge.specs.Results.{fit_of}
use Rattle.wy_judge.specs.Targets.{mode_of}
use Rattle.wy_judge.proofs.Contexts.{in_range}
use Rattle.wy_judge.proofs.Results.{passed_weaker}
use Rattle.wy_judge.proofs.walk.Walk.judge_fit.Goals as goal

pub widened-wide-requires : goal.widened-wide-requires
widened-wide-requires c = in_range (program_of c.args.self.now.core.now) c.args.self.now.number (scope_of c.args.self.now.scope.now) c.requires.walk.context

pub returns : goal.returns
returns c =
    let p = program_of c.args.self.now.core.now in
    let k = c.args.self.now.number in
    let s = scope_of c.args.self.now.scope.now in
    let u = fit_of c.args.block in
    let found = c.in_ok-fault.fault in
    let wide = widened_set (bounds_of p k) c.args.declared.now in
    let m = mode_of (is_plain s.kind) in
    let here = subst (λ z. IsBodyFault m c.args.place s.atoms z u found) c.widened-wide.ensures.set (subst (λ z. IsBodyFault z c.args.place s.atoms c.widened-wide.result u found) c.mode_of-mode.ensures c.in_ok-fault.ensures) in
    passed_weaker c.stop_at.result (λ o. o ≡ found) (λ o. IsBodyFaultOf p k s c.args.place c.args.declared.now u o)
    (λ o e. subst (λ z. IsBodyFault m c.args.place s.atoms wide u z) (sym e) here)
    c.stop_at.ensures
