use Rattle.std.proofs.Common.{◌≡◌, ◌++◌, map}
use Rattle.wy_device.specs.Requests.{in_lines}
use Rattle.wy_memory.proofs.folder_files.lines_of.Given as goal

abbrev pub invariant-loop-name : goal.invariant-loop-name
invariant-loop-name l = l.lines.items ++ in_lines (map (λ name. name.now) l.name-iterator) ≡ in_lines (map (λ name. name.now) l.names.keys)
