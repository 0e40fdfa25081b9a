use Rattle.std.proofs.Common.{◌≡◌, false, refl}
use Rattle.wy_effects.proofs.Walks.{drop_none}
use Rattle.wy_types.specs.declared.resolved.Field.{Field}
use Rattle.wy_premises.specs.Tried.{OfEach}
use Rattle.wy_premises.proofs.Trying.{left_at, one_more, one_fails, none_left, told_false}
use Rattle.wy_recheck.proofs.Purity.{true_not_false}
use Rattle.wy_recheck.proofs.lines.has_no_var.Goals as goal

pub returns-then-field : goal.returns-then-field
returns-then-field c =
    let P : Field → Type 0 = λ f. f.mutable ≡ false in
    let W = OfEach P c.args.fields.now in
    told_false W (one_fails P W _ _ c.field-item.result (left_at c.args.fields.now c.loop-field.field-index c.field-item.result c.loop-field-test.true c.field-item.is) (true_not_false c.field-item.result.mutable c.if-field.true) c.loop-field.invariant)

pub loop-field-preserved : goal.loop-field-preserved
loop-field-preserved c =
    let P : Field → Type 0 = λ f. f.mutable ≡ false in
    let W = OfEach P c.args.fields.now in
    one_more P W _ _ c.field-item.result (left_at c.args.fields.now c.loop-field.field-index c.field-item.result c.loop-field-test.true c.field-item.is) (c.if-field.false) c.loop-field.invariant

pub returns : goal.returns
returns c =
    let P : Field → Type 0 = λ f. f.mutable ≡ false in
    let W = OfEach P c.args.fields.now in
    (λ e. none_left P W _ (drop_none c.args.fields.now c.loop-field.field-index c.loop-field-test.false) c.loop-field.invariant, λ w. refl)
