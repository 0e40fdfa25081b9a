use Rattle.std.proofs.Common.{List, ℕ, Some, subst}
use Rattle.wy_effects.specs.EffSet.{IsSet}
use Rattle.wy_recheck.specs.Standing.{StandsAs}
use Rattle.wy_recheck.proofs.Firsts.{passed_more, passed_all, not_all, all_as_read, not_as_read}
use Rattle.wy_recheck.proofs.types.standing_sets.Goals as goal

pub returns-in-None : goal.returns-in-None
returns-in-None c =
    let x = c.numbers-item.result in
    let P : List ℕ → Type 0 = λ e. IsSet c.args.atoms e → ⊥ in
    let fails = subst P c.as_slice.ensures (rw c.in-None.is at c.in_ok-standing_set.ensures) in
    not_as_read (IsSet c.args.atoms) c.args.listed.now
    (not_all (λ (e : List ℕ). e) (IsSet c.args.atoms) c.args.listed.now c.loop-numbers.numbers-index c.loop-numbers.sets c.loop-numbers.invariant x x c.loop-numbers-test.true c.numbers-item.is fails)

pub loop-numbers-preserved : goal.loop-numbers-preserved
loop-numbers-preserved c =
    let x = c.numbers-item.result in
    let P : List ℕ → Type 0 = λ e. StandsAs (IsSet c.args.atoms) e (Some c.in-Some.set) in
    let stands = subst P c.as_slice.ensures (rw c.in-Some.is at c.in_ok-standing_set.ensures) in
    passed_more (λ (e : List ℕ). e) (IsSet c.args.atoms) c.args.listed.now c.loop-numbers.numbers-index c.loop-numbers.sets c.loop-numbers.invariant x x c.loop-numbers-test.true c.numbers-item.is c.in-Some.set stands c.push.new.self
    c.in_ok-push-in-Some.ensures.ok

pub returns : goal.returns
returns c =
    all_as_read (IsSet c.args.atoms) c.args.listed.now c.loop-numbers.sets
    (passed_all (λ (e : List ℕ). e) (IsSet c.args.atoms) c.args.listed.now c.loop-numbers.numbers-index c.loop-numbers.sets c.loop-numbers.invariant c.loop-numbers-test.false)
