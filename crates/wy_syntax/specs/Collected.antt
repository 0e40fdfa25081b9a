-- What a walk collects, and whether memory was wanting on the way.
use Rattle.std.specs.Prelude.{◌≡◌, Bool, false, List, ◌++◌}

pub record Collected (X : Type 0) : Type 0 where
  pub list : List X
  pub wanting : Bool

-- these are added, but for want of memory
pub record Adds {X : Type 0} (items : List X) (old new : Collected X) : Type 0 where
  pub enough : new.wanting ≡ false → old.wanting ≡ false
  pub added : new.wanting ≡ false → new.list ≡ old.list ++ items
