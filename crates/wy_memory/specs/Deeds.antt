-- Lists of deeds.
use Rattle.std.specs.Prelude.{ℕ, List, count_by, is_some}
use Rattle.wy_device.specs.declared.deed.Deed.{Deed}

-- how many of them were answered, and did not fail
abbrev pub answered : List Deed → ℕ
answered deeds = count_by (λ deed. is_some deed.answer) deeds
