use Rattle.wy_verify.specs.Closing.{IsClosing, IsCovering}
use Rattle.wy_verify.specs.Judging.{kind_numbers}
use Rattle.wy_verify.proofs.Covering.{closing}
use Rattle.wy_verify.proofs.Finding.{if_ok}
use Rattle.wy_verify.proofs.Numbered.{numbers_whole}
use Rattle.wy_verify.proofs.pairs.Pairs.close.Goals as goal

pub returns-then-is_object-2 : goal.returns-then-is_object-2
returns-then-is_object-2 c =
    let image = c.args.judged.now in
    let left = c.pair_at-pair.result.left in
    let right = c.pair_at-pair.result.right in
    if_ok c.cover_all.result (IsCovering image left right (kind_numbers image right) c.args.self.now c.cover_all.new.self) (IsClosing image c.args.self.now c.args.at c.cover_all.new.self)
    (λ b. closing image left right (kind_numbers image right) c.args.at c.args.self.now c.cover_all.new.self b c.pair_at-pair.ensures
    (c.is_object.ensures.0 c.if-is_object.true) (c.is_object-then-is_object.ensures.0 c.if-is_object-2.true) (numbers_whole image right))
    c.cover_all.ensures
