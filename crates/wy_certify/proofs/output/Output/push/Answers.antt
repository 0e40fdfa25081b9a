use Rattle.std.proofs.Common.{◌≡◌, ◌++◌, ◌∷◌, [], subst, rules}
use Rattle.wy_certify.specs.Gathered.{Gathered, Adds}
use Rattle.wy_certify.specs.Step.{step_of, steps_of}
use Rattle.wy_certify.proofs.Adding.{added}
use Rattle.wy_certify.proofs.output.Output.push.Goals as goal

pub returns-else-is_err : goal.returns-else-is_err
returns-else-is_err c =
    let h : c.push.new.self ≡ c.self.inside.list ++ c.args.step ∷ [] = search rules in
    let new : Gathered = record { list = steps_of c.push.new.self; wanting = c.self.inside.wanting } in
    subst (λ (o : Gathered). Adds (step_of c.args.step ∷ []) o new) c.self.view_is (record { enough = λ whole. whole; added = λ whole. added c.self.inside.list c.push.new.self c.args.step h; holds = λ whole. tt })
