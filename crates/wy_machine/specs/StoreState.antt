-- The store of a machine at a moment.
use Rattle.std.specs.Prelude.{ℕ, List}
use Rattle.wy_code.specs.Stores.{Thing}

-- the objects, how many of them `New` made, the texts that were built, the number of the instance that starts next, and
-- the instances' objects as they are before any has started
pub record StoreState : Type 0 where
  pub objects : List Thing
  pub made : ℕ
  pub texts : List (List ℕ)
  pub next : ℕ
  pub first : List Thing
