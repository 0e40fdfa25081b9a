use Rattle.std.proofs.Common.{[], ◌∷◌, ◌++◌, ◌≡◌, ◌∙◌, ◌<◌, List, ℕ, Some, arith, refl, ap, append-nil, subst}
use Rattle.std.specs.Prelude.{slice_get}
use Rattle.std.proofs.lemmas.Option.{slice_get_read}
use Rattle.wy_types.specs.declared.path.Step.{Step}
use Rattle.wy_bounds.specs.Worklist.{Traces}
use Rattle.wy_bounds.proofs.Working.{traces_step}
use Rattle.wy_bounds.proofs.reaching.steps_back.Goals as goal

pub loop-k-smaller : goal.loop-k-smaller
loop-k-smaller c =
    c.requires.back c.loop-k.k c.index-entries-k.result c.loop-k-test.true
    (slice_get_read c.args.entries.now _ c.loop-k.k c.index-entries-k.result refl c.loop-k.invariant.0 c.index-entries-k.is)

pub loop-k-preserved : goal.loop-k-preserved
loop-k-preserved c =
    let e = c.index-entries-k.result in
    let is : slice_get c.args.entries.now c.loop-k.k ≡ Some e = slice_get_read c.args.entries.now _ c.loop-k.k e refl c.loop-k.invariant.0 c.index-entries-k.is in
    let less : e.parent < c.loop-k.k = c.requires.back c.loop-k.k e c.loop-k-test.true is in
    let step : List ℕ → Step = λ name. record { method = name; part = e.step.part } in (
      omega (arith, less, c.loop-k.invariant.0),
      traces_step c.args.entries.now c.loop-k.k c.args.at e c.loop-k.steps.items c.push.new.self.items c.loop-k-test.true is
          (c.in_ok-push.ensures.items ∙ ap (λ name. c.loop-k.steps.items ++ step name ∷ []) c.in_ok-copy.ensures) c.loop-k.invariant.1,
    )

pub returns : goal.returns
returns c =
    let P : List Step → Type 0 = λ l. Traces c.args.entries.now c.args.at l in
    let z : c.loop-k.k ≡ 0 = omega arith in
    subst P (append-nil c.loop-k.steps.items) (c.loop-k.invariant.1 [] z)
