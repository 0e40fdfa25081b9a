use Rattle.std.proofs.Common.{◌∙◌, ℕ, List, ap, subst, sym}
use Rattle.wy_verified.specs.Kinds.{Pair}
use Rattle.wy_verify.specs.Closing.{IsAdded, kind_key}
use Rattle.wy_verify.proofs.Keys.{found_added}
use Rattle.wy_verify.proofs.pairs.Pairs.add.Goals as goal

pub returns-then-contains : goal.returns-then-contains
returns-then-contains c =
    let P : List Pair → Type 0 = λ l. IsAdded c.args.self.now (c.args.left, c.args.right) l in
    subst P (sym c.in_ok-spend.ensures)
    (found_added c.args.left c.args.right (c.key_of.result, c.key_of-2.result) c.self.inside.keys.keys c.self.inside.pairs.items c.args.self.now c.contains.result
    (ap (λ (k : ℕ × ℕ × ℕ). let p : (ℕ × ℕ × ℕ) × (ℕ × ℕ × ℕ) = (k, c.key_of-2.result) in p) c.key_of.ensures ∙
    ap (λ (k : ℕ × ℕ × ℕ). let p : (ℕ × ℕ × ℕ) × (ℕ × ℕ × ℕ) = (kind_key c.args.left, k) in p) c.key_of-2.ensures)
    c.self.invariant c.self.view_is c.if-contains.true c.contains.ensures)
