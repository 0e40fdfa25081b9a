use Rattle.std.proofs.Common.{ℕ, List, sym, subst}
use Rattle.wy_proving.specs.Certified.{Pair}
use Rattle.wy_recheck.specs.PairSet.{StandsFor}
use Rattle.wy_recheck.proofs.PairKeys.{inserted}
use Rattle.wy_recheck.proofs.pair_set.PairSet.insert.Goals as goal

pub returns : goal.returns
returns c = λ pairs st.
    let q : Pair = (c.args.left.now, c.args.right.now) in
    let P : List (List ℕ) → Type 0 = λ l. StandsFor l pairs in
    inserted c.self.inside.keys.keys q c.in_ok-key.key c.in_ok-key.ensures pairs (subst P (sym c.self.view_is) st) c.insert.new.self.keys c.in_ok-insert.ensures.keys
