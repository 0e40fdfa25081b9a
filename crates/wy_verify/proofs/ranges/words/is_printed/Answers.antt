use Rattle.std.proofs.Common.{◌≡◌, [], ℕ, List, sym, subst, rules}
use Rattle.wy_text.specs.Members.{In}
use Rattle.wy_verify.proofs.RangeTests.{reworded}
use Rattle.wy_verify.proofs.ranges.words.is_printed.Goals as goal

pub returns-then-not-is_empty : goal.returns-then-not-is_empty
returns-then-not-is_empty c =
    let e = c.as_bytes-bytes.ensures in
    let some : c.args.text.now ≡ [] → ⊥ = search rules in
    reworded c.are_printed_bytes.result c.are_printed_bytes.ensures
    (λ all. (some, λ b i. all b (subst (λ (l : List ℕ). In b l) (sym e) i)))
    (λ p b i. p.1 b (subst (λ (l : List ℕ). In b l) e i))
