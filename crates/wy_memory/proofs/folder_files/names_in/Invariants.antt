use Rattle.std.proofs.Common.{◌≡◌, List, ℕ, take}
use Rattle.std.specs.BTreeSet.{IsOrdered}
use Rattle.std.specs.Cmp.Lexicographic.{slice_cmp}
use Rattle.std.specs.List.{list_any}
use Rattle.std.specs.Ordering.{nat_cmp}
use Rattle.wy_memory.specs.FolderFiles.{is_file}
use Rattle.wy_memory.proofs.Naming.{has_name}
use Rattle.wy_memory.proofs.folder_files.names_in.Given as goal

abbrev pub invariant-loop-file : goal.invariant-loop-file
invariant-loop-file l = record {
  ascending : IsOrdered (λ x y. slice_cmp nat_cmp x.now y.now) l.names;
  same : (name : List ℕ) → has_name name l.names.keys ≡ list_any (is_file l.grant name) (take l.file-index l.files);
}
