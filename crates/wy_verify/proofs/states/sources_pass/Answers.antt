use Rattle.std.proofs.Common.{◌≡◌, true, false, refl, sym, ◌∙◌, arith}
use Rattle.wy_verify.proofs.SourcesRead.{read_on, read_not, read_all}
use Rattle.wy_verify.proofs.states.sources_pass.Goals as goal

pub returns-then-not-source_passes : goal.returns-then-not-source_passes
returns-then-not-source_passes c = (
  (λ t. absurd cc),
  (λ all. absurd (read_not c.args.site.now c.args.known.now.stored c.args.sources.now c.loop-at.at c.source_at.result
      c.source_at.ensures
      (λ r. let z : true ≡ false = sym (c.source_passes.ensures.1 r) ∙ c.if-not-source_passes.true in cc)
      c.loop-at.invariant all)),
)

pub loop-at-preserved : goal.loop-at-preserved
loop-at-preserved c =
    read_on c.args.site.now c.args.known.now.stored c.args.sources.now c.loop-at.at c.source_at.result
    c.source_at.ensures (c.source_passes.ensures.0 c.if-not-source_passes.false) c.loop-at.invariant

pub returns : goal.returns
returns c =
    let e = c.len-at-end.ensures in
    let g = c.loop-at-test.false in (
      (λ t. read_all c.args.site.now c.args.known.now.stored c.args.sources.now c.loop-at.at (omega (arith, e, g))
          c.loop-at.invariant),
      (λ h. refl),
    )
