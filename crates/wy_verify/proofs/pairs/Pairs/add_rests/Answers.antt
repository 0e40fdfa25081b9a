use Rattle.wy_verified.specs.Kinds.{Pair}
use Rattle.wy_verify.specs.Closing.{IsGrown, IsAdded, exchanged, rests_on}
use Rattle.wy_verify.proofs.Covering.{added_at}
use Rattle.wy_verify.proofs.Finding.{on_ok}
use Rattle.wy_verify.proofs.pairs.Pairs.add_rests.Goals as goal

pub returns : goal.returns
returns c =
    let m = c.add_parameters.new.self in
    let one : Pair = (c.result-found.result, c.result-asked.result) in
    on_ok c.add.result (IsAdded m one c.add.new.self) (IsGrown c.args.self.now c.add.new.self (rests_on c.args.left.now c.args.right.now))
    (λ a. added_at c.args.self.now m c.add.new.self (exchanged c.args.left.now.params c.args.right.now.params) c.result-found.result c.args.left.now.result c.result-asked.result c.args.right.now.result
    c.result-found.ensures c.result-asked.ensures c.in_ok-add_parameters.ensures a)
    c.add.ensures
