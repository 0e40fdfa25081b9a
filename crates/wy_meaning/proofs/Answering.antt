-- The test of an answer takes what an operation may have.
use Rattle.std.proofs.Common.{◌≡◌, ◌↔◌, ℕ, true, refl, length}
use Rattle.std.proofs.lemmas.Bool.{le-leb, leb-true}
use Rattle.wy_device.specs.Device.{IsBytesUpTo, IsTruth, IsNumber}
use Rattle.wy_device.specs.Requests.{is_text_up_to, is_truth, is_number, is_done}
use Rattle.wy_device.specs.Traps.{text_limit}
use Rattle.wy_device.specs.declared.operation.Answer.{Answer}
use Rattle.wy_device.specs.declared.operation.Answer.TheVariants.{Bytes, Truth, Number, Unit as Done}
use Rattle.wy_device.specs.declared.operation.OpName.TheVariants as name
use Rattle.wy_meaning.specs.Answers.{TakesWhatFits}

up_to : (most : ℕ) (a : Answer) → (is_text_up_to most a ≡ true) ↔ IsBytesUpTo most a
up_to most (Bytes text) = (leb-true (length text) most, le-leb (length text) most)
up_to most (Truth b) = (λ e. absurd cc, λ h. absurd h)
up_to most (Number n) = (λ e. absurd cc, λ h. absurd h)
up_to most Done = (λ e. absurd cc, λ h. absurd h)

done_fits : (a : Answer) → (is_done a ≡ true) ↔ (a ≡ Done)
done_fits Done = (λ e. refl, λ h. refl)
done_fits (Bytes text) = (λ e. absurd cc, λ h. absurd cc)
done_fits (Truth b) = (λ e. absurd cc, λ h. absurd cc)
done_fits (Number n) = (λ e. absurd cc, λ h. absurd cc)

truth_fits : (a : Answer) → (is_truth a ≡ true) ↔ IsTruth a
truth_fits (Truth b) = (λ e. tt, λ h. refl)
truth_fits Done = (λ e. absurd cc, λ h. absurd h)
truth_fits (Bytes text) = (λ e. absurd cc, λ h. absurd h)
truth_fits (Number n) = (λ e. absurd cc, λ h. absurd h)

number_fits : (a : Answer) → (is_number a ≡ true) ↔ IsNumber a
number_fits (Number n) = (λ e. tt, λ h. refl)
number_fits Done = (λ e. absurd cc, λ h. absurd h)
number_fits (Bytes text) = (λ e. absurd cc, λ h. absurd h)
number_fits (Truth b) = (λ e. absurd cc, λ h. absurd h)

pub takes_what_fits : TakesWhatFits
takes_what_fits name.ConsoleRead a = up_to 65536 a
takes_what_fits name.ConsoleWrite a = done_fits a
takes_what_fits name.FolderRead a = up_to text_limit a
takes_what_fits name.FolderHas a = truth_fits a
takes_what_fits name.FolderWrite a = done_fits a
takes_what_fits name.FolderAppend a = done_fits a
takes_what_fits name.FolderNames a = up_to text_limit a
takes_what_fits name.ClockNow a = number_fits a
takes_what_fits name.RandomWord a = number_fits a
takes_what_fits name.FolderRemove a = done_fits a
