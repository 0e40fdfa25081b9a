use Rattle.std.proofs.Common.{◌≡◌, rules}
use Rattle.std.specs.Prelude.{filter, not}
use Rattle.std.proofs.lemmas.Fn.{filter_same}
use Rattle.wy_memory.specs.FolderFiles.{is_file}
use Rattle.wy_memory.proofs.Putting.{removes-filter}
use Rattle.wy_memory.proofs.folder_files.remove.Goals as goal

pub returns : goal.returns
returns c =
    let left : c.retain.new.self.items ≡ filter (λ file. not (is_file c.args.grant.now c.args.name.now file)) c.args.files.now.items =
    filter_same _ _ _ (λ x b f' k. search rules) _ _ c.retain.ensures.filtered in
    rw left (removes-filter c.args.files.now.items c.args.grant.now c.args.name.now)
