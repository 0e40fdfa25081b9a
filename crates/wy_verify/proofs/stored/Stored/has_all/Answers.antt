use Rattle.std.proofs.Common.{◌≡◌, true, false, refl, sym, ◌∙◌, inl, inr, subst, arith}
use Rattle.std.proofs.lemmas.List.{take_all}
use Rattle.wy_text.specs.Members.{In}
use Rattle.wy_text.proofs.Lists.{In-slice_get}
use Rattle.wy_verify.proofs.Jumping.{is_in-In, In-is_in, In-next}
use Rattle.wy_verify.proofs.stored.Stored.has_all.Goals as goal

pub returns-then-not-has : goal.returns-then-not-has
returns-then-not-has c = (
  (λ t. absurd cc),
  (λ w.
      let there = w c.number_at.result
      (In-slice_get c.args.slots.now c.loop-index.index c.number_at.result c.number_at.ensures) in
      let z : true ≡ false = sym (In-is_in c.number_at.result c.args.self.now there) ∙ sym c.has.ensures ∙ c.if-not-has.true
      in cc),
)

pub loop-index-preserved : goal.loop-index-preserved
loop-index-preserved c = λ y i.
    elim (In-next y c.args.slots.now c.loop-index.index c.number_at.result c.number_at.ensures i) [
      | inl h ↦ c.loop-index.invariant y h
      | inr e ↦ subst (λ y. In y c.args.self.now) e
          (is_in-In c.number_at.result c.args.self.now (sym c.has.ensures ∙ c.if-not-has.false))
    ]

pub returns : goal.returns
returns c =
    let e = c.len-index-end.ensures in
    let g = c.loop-index-test.false in (
      (λ t y i. c.loop-index.invariant y
          (subst (In y) (sym (take_all c.loop-index.index c.args.slots.now (omega (arith, e, g)))) i)),
      (λ w. refl),
    )
