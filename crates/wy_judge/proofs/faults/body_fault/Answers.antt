use Rattle.std.proofs.Common.{◌≡◌, sym, subst, Option}
use Rattle.std.specs.Option.{option_map}
use Rattle.std.proofs.lemmas.Result.{IfOk-weaker}
use Rattle.wy_text.specs.declared.fault.Fault.{Fault}
use Rattle.wy_text.specs.declared.fault.RuleName.TheVariants.{TBody}
use Rattle.wy_judge.specs.Outcomes.{lack_fault}
use Rattle.wy_judge.specs.Lacks.{IsBodyFault}
use Rattle.wy_judge.specs.Results.{fit_of}
use Rattle.wy_judge.proofs.faults.body_fault.Goals as goal

pub returns-in_ok-missing-in-Has : goal.returns-in_ok-missing-in-Has
returns-in_ok-missing-in-Has c =
    let missing = option_map (λ a. a.0) c.in_ok-missing-in-Has.missing in
    IfOk-weaker c.lack_fault.result (λ o. o ≡ lack_fault c.args.place TBody c.args.atoms.now missing) (λ o. IsBodyFault c.args.mode c.args.place c.args.atoms.now c.args.declared.now (fit_of c.args.block) o)
    (λ (o : Option Fault) e. subst (λ b. IsBodyFault c.args.mode c.args.place c.args.atoms.now c.args.declared.now (fit_of b) o) (sym c.in-Has.is) (missing, c.in_ok-missing-in-Has.ensures, e))
    c.lack_fault.ensures
