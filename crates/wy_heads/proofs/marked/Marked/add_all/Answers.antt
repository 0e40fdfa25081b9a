use Rattle.std.proofs.Common.{ℕ, ◌∙◌, ◌∷◌, [], ◌<◌, List, length, take, get_or, rules, subst, refl, arith}
use Rattle.wy_text.proofs.Lists.{In-read}
use Rattle.wy_heads.specs.Leading.{Adds}
use Rattle.wy_symbols.proofs.Turns.{taken}
use Rattle.wy_heads.proofs.Searching.{adds_then}
use Rattle.wy_heads.proofs.marked.Marked.add_all.Goals as goal

pub add-requires : goal.add-requires
add-requires c =
    let lt : c.loop-number.number-index < length c.args.numbers.now = search rules in
    let k = get_or c.args.numbers.now c.loop-number.number-index 0 in
    let below = c.requires k (In-read c.args.numbers.now c.loop-number.number-index 0 k lt refl) in
    omega (arith, below, c.loop-number.invariant.bound)

pub loop-number-preserved : goal.loop-number-preserved
loop-number-preserved c =
    let lt : c.loop-number.number-index < length c.args.numbers.now = search rules in
    let k = get_or c.args.numbers.now c.loop-number.number-index 0 in
    let P : List ℕ → Type 0 = λ l. Adds c.args.self.now.list l c.add.new.self.list in
    record {
      bound = c.in_ok-add.ensures.bound ∙ c.loop-number.invariant.bound;
      added = subst P (taken c.args.numbers.now c.loop-number.number-index k lt (search rules))
          (adds_then c.args.self.now.list c.loop-number.self.list c.add.new.self.list (take c.loop-number.number-index c.args.numbers.now) (k ∷ []) c.loop-number.invariant.added c.in_ok-add.ensures.added);
    }
