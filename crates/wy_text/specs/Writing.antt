-- What writing a text does to a sink.
use Rattle.std.specs.Prelude.{◌≡◌, ◌≤◌, ◌<◌, ℕ, List, ◌++◌, length}
use Rattle.wy_text.specs.Outside.{SinkState, gained}

-- the text was written up to this rest
pub record WritesUpTo (text rest : List ℕ) (before after : SinkState) : Type 0 where
  pub front : List ℕ
  pub split : text ≡ front ++ rest
  pub taken : after.taken ≡ gained before.taken front
  pub counted : before.faults ≤ after.faults

-- something of the text was not written
pub record StopsShort (text : List ℕ) (before after : SinkState) : Type 0 where
  pub rest : List ℕ
  pub written : WritesUpTo text rest before after
  pub some : 0 < length rest
