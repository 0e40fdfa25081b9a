-- Going round and round through a list.
use Rattle.std.proofs.Common.{◌≡◌, ◌+◌, ◌%◌, ℕ, suc, sym, ◌∙◌, ap, add-one}
use Rattle.std.proofs.Math.Nat.{suc-mod}

pub mod-next : (n m at : ℕ) → at ≡ n % m → (n + 1) % m ≡ (at + 1) % m
mod-next n m at e = rw (add-one, add-one) (suc-mod n m ∙ ap (λ k. suc k % m) (sym e))
