-- What is collected step by step, and whether memory was wanting on the way.
use Rattle.std.specs.Prelude.{Bool, List}

pub record Collected (X : Type 0) : Type 0 where
  pub list : List X
  pub wanting : Bool
