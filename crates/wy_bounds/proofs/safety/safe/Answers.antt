use Rattle.std.proofs.Common.{true}
use Rattle.std.proofs.lemmas.Result.{IfOk-weaker}
use Rattle.wy_types.specs.Program.{program_of}
use Rattle.wy_bounds.proofs.Lacks.{exact}
use Rattle.wy_bounds.proofs.safety.safe.Goals as goal

pub returns-clause-exact : goal.returns-clause-exact
returns-clause-exact c = IfOk-weaker c.is_safe.result _ _ (λ v h. exact (program_of c.args.core.now) c.args.scope c.args.t.now true c.args.e.now v h) c.is_safe.ensures
