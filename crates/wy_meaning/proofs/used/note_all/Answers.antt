use Rattle.std.proofs.Common.{◌≡◌, ◌+◌, ◌<◌, suc, length, arith}
use Rattle.wy_meaning.specs.Accounts.{noted}
use Rattle.wy_meaning.proofs.UsedLemmas.{turn}
use Rattle.wy_meaning.proofs.used.note_all.Goals as goal

pub loop-account-preserved : goal.loop-account-preserved
loop-account-preserved c =
    rw c.note.ensures
    (let next : c.loop-account.account-index + 1 ≡ suc c.loop-account.account-index = omega arith in
    let less : c.loop-account.account-index < length c.loop-account.accounts = omega (arith, c.loop-account-test.true, c.loop-account.auto.accounts) in
    rw next
    (turn (noted c.args.place) c.loop-account.accounts c.args.accounts.now c.loop-account.account-index c.account-item.result
    less c.loop-account.invariant.0 c.loop-account.invariant.1))
