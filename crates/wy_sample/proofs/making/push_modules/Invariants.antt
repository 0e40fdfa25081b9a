use Rattle.std.proofs.Common.{◌≡◌, ◌+◌, ◌-◌, ◌++◌, string_bytes}
use Rattle.std.specs.List.{flat_map, range_with_len}
use Rattle.wy_sample.specs.Sample.{later_module, later_numbers}
use Rattle.wy_sample.proofs.making.push_modules.Given as goal

abbrev pub invariant-loop-number : goal.invariant-loop-number
invariant-loop-number l = string_bytes l.text ++ flat_map later_module (range_with_len l.number (l.last + 1 - l.number)) ≡ string_bytes l.initial.text ++ flat_map later_module (later_numbers l.last)
