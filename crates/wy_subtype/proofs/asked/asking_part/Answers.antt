use Rattle.std.proofs.Common.{◌≡◌, ℕ, List, subst, rules}
use Rattle.wy_types.specs.declared.types.TypeRef.{TypeRef}
use Rattle.wy_types.specs.Types.{signature}
use Rattle.wy_subtype.specs.Steps.{Pair}
use Rattle.wy_subtype.specs.Asked.{AreExchanged}
use Rattle.wy_subtype.proofs.Stepping.{asks_by_none}
use Rattle.wy_subtype.proofs.asked.asking_part.Goals as goal

pub returns-clause-none : goal.returns-clause-none
returns-clause-none c =
    let q : Pair = (c.args.s.now, c.args.t.now) in
    let L : List TypeRef → Type 0 = λ l. (i : ℕ) → AreExchanged l c.as_slice-2.result.now i q → ⊥ in
    let R : List TypeRef → Type 0 = λ l. (i : ℕ) → AreExchanged c.args.left.now.params l i q → ⊥ in
    let others : (q.0 ≡ c.args.left.now.result) × (q.1 ≡ c.args.right.now.result) → ⊥ = λ h. (let y = c.if-are_results.ensures.1 h in search rules) in
    asks_by_none (signature c.args.left.now) (signature c.args.right.now) q (subst R c.as_slice-2.ensures (subst L c.as_slice.ensures c.in_default.ensures.none)) others
