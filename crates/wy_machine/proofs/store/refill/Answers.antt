use Rattle.std.proofs.Common.{◌≡◌, ◌+◌, ◌<◌, suc, length, set, refl, sym, subst, arith}
use Rattle.std.proofs.lemmas.Option.{slice_get_read}
use Rattle.wy_code.specs.Stores.{Thing}
use Rattle.wy_machine.proofs.Refilling.{AreRefilled, none_refilled, as_many, all_refilled, same_size, one_refilled}
use Rattle.wy_machine.proofs.store.refill.Goals as goal

pub loop-at-init : goal.loop-at-init
loop-at-init c = none_refilled c.args.first.now c.args.objects.now.items c.requires.kept c.requires.all

pub index_mut-requires : goal.index_mut-requires
index_mut-requires c = omega (arith, c.loop-at-test.true, as_many c.loop-at.at c.args.first.now c.loop-at.objects.items c.loop-at.invariant, c.loop-at.objects.ok.0)

pub refill-requires : goal.refill-requires
refill-requires c =
    let xs = c.args.first.now in
    let ys = c.loop-at.objects.items in
    let within : c.loop-at.at < length ys = omega (arith, c.loop-at-test.true, as_many c.loop-at.at xs ys c.loop-at.invariant) in
    same_size c.loop-at.at xs ys c.index-first-at.result c.index_mut.result.now c.loop-at.invariant
    (slice_get_read xs (length xs) c.loop-at.at c.index-first-at.result refl c.loop-at-test.true c.index-first-at.is)
    (slice_get_read ys (length ys) c.loop-at.at c.index_mut.result.now refl within c.index_mut.ensures.value)

pub loop-at-preserved : goal.loop-at-preserved
loop-at-preserved c =
    let xs = c.args.first.now in
    let ys = c.loop-at.objects.items in
    let within : c.loop-at.at < length ys = omega (arith, c.loop-at-test.true, as_many c.loop-at.at xs ys c.loop-at.invariant) in
    let next : suc c.loop-at.at ≡ c.loop-at.at + 1 = omega arith in
    subst (λ n. AreRefilled n xs (set ys c.loop-at.at c.refill.new.self)) next
    (subst (λ (t : Thing). AreRefilled (suc c.loop-at.at) xs (set ys c.loop-at.at t)) (sym c.refill.ensures)
    (one_refilled c.loop-at.at xs ys c.index-first-at.result c.index_mut.result.now c.loop-at.invariant
    (slice_get_read xs (length xs) c.loop-at.at c.index-first-at.result refl c.loop-at-test.true c.index-first-at.is)
    (slice_get_read ys (length ys) c.loop-at.at c.index_mut.result.now refl within c.index_mut.ensures.value)))

pub returns : goal.returns
returns c = all_refilled c.loop-at.at c.args.first.now c.loop-at.objects.items c.loop-at.invariant c.loop-at-test.false
