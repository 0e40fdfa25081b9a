use Rattle.std.proofs.Common.{refl}
use Rattle.wy_effects.proofs.Walks.{drop_none}
use Rattle.wy_types.specs.declared.resolved.OwnName.{OwnName}
use Rattle.wy_rules.specs.Acceptance.{IsLine}
use Rattle.wy_premises.specs.Tried.{OfEach}
use Rattle.wy_premises.proofs.Trying.{left_at, one_more, one_fails, none_left, told_false}
use Rattle.wy_recheck.proofs.Purity.{true_not_false}
use Rattle.wy_recheck.proofs.lines.has_no_line.Goals as goal

pub returns-then-is_line : goal.returns-then-is_line
returns-then-is_line c =
    let P : OwnName → Type 0 = λ f. IsLine f.origin → ⊥ in
    let W = OfEach P c.args.names.now in
    told_false W (one_fails P W _ _ c.name-item.result (left_at c.args.names.now c.loop-name.name-index c.name-item.result c.loop-name-test.true c.name-item.is) (λ n. n (c.is_line.ensures.0 c.if-is_line.true)) c.loop-name.invariant)

pub loop-name-preserved : goal.loop-name-preserved
loop-name-preserved c =
    let P : OwnName → Type 0 = λ f. IsLine f.origin → ⊥ in
    let W = OfEach P c.args.names.now in
    one_more P W _ _ c.name-item.result (left_at c.args.names.now c.loop-name.name-index c.name-item.result c.loop-name-test.true c.name-item.is) (λ h. true_not_false c.is_line.result (c.is_line.ensures.1 h) c.if-is_line.false) c.loop-name.invariant

pub returns : goal.returns
returns c =
    let P : OwnName → Type 0 = λ f. IsLine f.origin → ⊥ in
    let W = OfEach P c.args.names.now in
    (λ e. none_left P W _ (drop_none c.args.names.now c.loop-name.name-index c.loop-name-test.false) c.loop-name.invariant, λ w. refl)
