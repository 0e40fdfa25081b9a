use Rattle.std.proofs.Common.{sym, ◌∙◌, ap, arith}
use Rattle.std.specs.List.{list_any}
use Rattle.std.proofs.lemmas.List.{take_all}
use Rattle.wy_memory.specs.FolderFiles.{is_file}
use Rattle.wy_memory.proofs.Naming.{named-more, named-other, names-are}
use Rattle.wy_memory.proofs.folder_files.names_in.Goals as goal
use Rattle.wy_memory.proofs.folder_files.names_in.Goals.{then-is_in+in_ok-insert, else-is_in}

pub loop-file-preserved : goal.loop-file-preserved
loop-file-preserved c =
    elim c.if-is_in.branch [
      | then-is_in+in_ok-insert w ↦ rw w.names-is (record {
        ascending = w.in_ok-insert.ensures.ordered;
        same = named-more c.args.files.now c.args.grant.now c.loop-file.file-index c.file-item.result _ c.loop-file.names.keys _
            (omega arith) c.file-item.is (sym w.if-is_in.ensures) w.as_bytes.ensures
            (λ name. w.in_ok-insert.ensures.updates.0 (record { ref_ptr = (0, 0); now = name })) c.loop-file.invariant.same;
      })
      | else-is_in w ↦ rw w.names-is (record {
        ascending = c.loop-file.invariant.ascending;
        same = named-other c.args.files.now c.args.grant.now c.loop-file.file-index c.file-item.result c.loop-file.names.keys
            (omega arith) c.file-item.is (sym w.if-is_in.ensures) c.loop-file.invariant.same;
      })
    ]

pub returns : goal.returns
returns c = names-are c.args.files.now c.args.grant.now c.loop-file.names.keys c.loop-file.invariant.ascending
    (λ name. c.loop-file.invariant.same name ∙ ap (list_any (is_file c.args.grant.now name)) (take_all _ _ (omega arith)))
