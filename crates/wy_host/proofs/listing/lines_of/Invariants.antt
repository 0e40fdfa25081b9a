use Rattle.std.proofs.Common.{◌≡◌, ◌++◌, map}
use Rattle.std.specs.Prelude.{string_bytes}
use Rattle.wy_device.specs.Requests.{in_lines}
use Rattle.wy_host.proofs.listing.lines_of.Given as goal

abbrev pub invariant-loop-name : goal.invariant-loop-name
invariant-loop-name l = l.lines.items ++ in_lines (map string_bytes l.name-iterator) ≡ in_lines (map string_bytes l.names.keys)
