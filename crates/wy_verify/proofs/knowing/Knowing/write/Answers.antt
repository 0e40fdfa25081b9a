use Rattle.std.proofs.Common.{◌∷◌, [], ◌++◌, sym, ap, ◌∙◌}
use Rattle.wy_verify.proofs.Backwards.{written_more}
use Rattle.wy_verify.proofs.knowing.Knowing.write.Goals as goal

pub loop-index-preserved : goal.loop-index-preserved
loop-index-preserved c = record {
  operands = c.in_ok-push.ensures.items ∙ ap (λ t. t ++ c.in-Some.kind ∷ []) c.loop-index.invariant.operands ∙
      written_more c.args.x c.args.references.now c.loop-index.index c.in-Some.kind (sym c.kind_at.ensures ∙ c.in-Some.is);
  stored = c.loop-index.invariant.stored;
  set = c.loop-index.invariant.set;
}
