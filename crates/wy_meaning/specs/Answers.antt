-- What the test of an answer says.
use Rattle.std.specs.Prelude.{◌≡◌, ◌↔◌, true}
use Rattle.wy_device.specs.Device.{IsAnswerNamed}
use Rattle.wy_device.specs.Requests.{fits_within}
use Rattle.wy_device.specs.Traps.{text_limit}
use Rattle.wy_device.specs.declared.operation.Answer.{Answer}
use Rattle.wy_device.specs.declared.operation.OpName.{OpName}

-- a run takes exactly those answers that an operation may have
abbrev pub TakesWhatFits : Type 0
TakesWhatFits = (o : OpName) (a : Answer) → (fits_within text_limit o a ≡ true) ↔ IsAnswerNamed o a
