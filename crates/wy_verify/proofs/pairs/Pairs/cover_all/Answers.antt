use Rattle.std.proofs.Common.{◌∙◌, ℕ, List, [], ◌∷◌, take, sym, ap, subst}
use Rattle.wy_verify.specs.Closing.{IsCovered, IsCovering}
use Rattle.wy_verify.specs.Judging.{kind_numbers}
use Rattle.wy_verify.proofs.Covering.{covered_more, take_read}
use Rattle.wy_verify.proofs.Standing.{next_number}
use Rattle.wy_verify.proofs.pairs.Pairs.cover_all.Goals as goal

pub loop-at-preserved : goal.loop-at-preserved
loop-at-preserved c =
    let image = c.args.judged.now in
    let numbers = kind_numbers image c.args.right in
    let at = c.loop-at.at in
    let one = subst (IsCovering image c.args.left c.args.right (c.in-Some.number ∷ []) c.loop-at.self c.cover.new.self) c.if-not-branch.false c.in_ok-cover.ensures in
    subst (λ (l : List ℕ). IsCovered image c.args.left c.args.right l c.args.self.now c.cover.new.self)
    (sym (ap (λ (n : ℕ). take n numbers) (sym (next_number at)) ∙ take_read numbers at c.in-Some.number (sym c.number_at.ensures ∙ c.in-Some.is)))
    (covered_more image c.args.left c.args.right (take at numbers) c.in-Some.number c.args.self.now c.loop-at.self c.cover.new.self c.loop-at.invariant one)
