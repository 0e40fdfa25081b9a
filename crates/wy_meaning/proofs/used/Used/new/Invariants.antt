use Rattle.std.proofs.Common.{◌≡◌}
use Rattle.std.specs.Prelude.{replicate}
use Rattle.wy_meaning.specs.Accounts.{no_account}
use Rattle.wy_meaning.proofs.used.Used.new.Given as goal

-- each account so far is that of an instance of which nothing was used
abbrev pub invariant-loop : goal.invariant-loop
invariant-loop l = l.accounts.items ≡ replicate l.counter no_account
