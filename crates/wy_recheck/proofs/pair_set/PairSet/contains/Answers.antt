use Rattle.std.proofs.Common.{ℕ, List, subst}
use Rattle.wy_text.specs.Members.{In}
use Rattle.wy_proving.specs.Certified.{Pair}
use Rattle.wy_recheck.specs.PairSet.{Tells}
use Rattle.wy_recheck.proofs.PairKeys.{tells_there}
use Rattle.wy_recheck.proofs.pair_set.PairSet.contains.Goals as goal

pub returns : goal.returns
returns c =
    let q : Pair = (c.args.left.now, c.args.right.now) in
    let P : List (List ℕ) → Type 0 = λ l. Tells l (λ pairs. In {X = Pair} q pairs) c.contains.result in
    subst P c.self.view_is (tells_there c.self.inside.keys.keys q c.in_ok-key.key c.in_ok-key.ensures c.contains.result c.contains.ensures)
