use Rattle.wy_host.specs.FolderNames.{HoldsFileNames}
use Rattle.wy_host.proofs.plain_file.file_names.Given as goal

abbrev pub invariant-loop-entry : goal.invariant-loop-entry
invariant-loop-entry g l = HoldsFileNames l.names
