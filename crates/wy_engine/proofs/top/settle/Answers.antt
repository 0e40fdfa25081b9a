use Rattle.std.proofs.Common.{rules, arith, ◌≡◌, ◌≤◌, ◌∙◌, refl, sym, length, map, string_bytes}
use Rattle.std.proofs.lemmas.List.{length-map}
use Rattle.wy_settings.specs.Settings.{Settings, settings_of_line}
use Rattle.wy_settings.specs.declared.command_line.Command.TheVariants as command
use Rattle.wy_engine.specs.Texts.{first_bytes}
use Rattle.wy_engine.proofs.FilesRead.{SampleMade, is_sample, made, read_well, sample_made}
use Rattle.wy_engine.proofs.ReadingOn.{reads_exactly, reads_many}
use Rattle.wy_engine.proofs.Settling.{one_of_format, settles_answered, settles_crowded, settles_starved, settles_unread, some_first}
use Rattle.wy_engine.proofs.top.settle.Goals as goal

pub answer-requires-clause-few : goal.answer-requires-clause-few
answer-requires-clause-few g c =
    let read : length c.in-Ok.texts ≤ length c.args.line.files.now = reads_many (first_bytes c.args.line.command) (map string_bytes c.args.line.files.now) (length c.args.line.files.now) _ _ c.in-Ok.texts c.in-Ok.ensures.all in
    rw c.as_slice.ensures (omega arith)

pub answer-requires-clause-one : goal.answer-requires-clause-one
answer-requires-clause-one g c = λ format.
    let read : length c.in-Ok.texts ≡ length (map string_bytes c.args.line.files.now) =
    reads_exactly (first_bytes c.args.line.command) (map string_bytes c.args.line.files.now) (length c.args.line.files.now) _ _ c.in-Ok.texts (sym (length-map c.args.line.files.now string_bytes)) c.in-Ok.ensures.all in
    rw c.as_slice.ensures (read ∙ one_of_format c.args.line.command (map string_bytes c.args.line.files.now) c.requires.fits format)

pub answer-requires-clause-some : goal.answer-requires-clause-some
answer-requires-clause-some g c = λ has.
    let read : length c.in-Ok.texts ≡ length (map string_bytes c.args.line.files.now) =
    reads_exactly (first_bytes c.args.line.command) (map string_bytes c.args.line.files.now) (length c.args.line.files.now) _ _ c.in-Ok.texts (sym (length-map c.args.line.files.now string_bytes)) c.in-Ok.ensures.all in
    let some : 1 ≤ length (map string_bytes c.args.line.files.now) = some_first c.args.line.command (map string_bytes c.args.line.files.now) c.requires.fits has in
    rw c.as_slice.ensures (omega arith)

pub returns-then-line-gt-MOST_FILES : goal.returns-then-line-gt-MOST_FILES
returns-then-line-gt-MOST_FILES g c = λ words set.
    settles_crowded _ (settings_of_line c.args.line) set (rw length-map (search rules)) refl (record { out = refl; report = refl; devices = refl }) refl

pub returns-in-Err-Unread : goal.returns-in-Err-Unread
returns-in-Err-Unread g c = λ words set.
    settles_unread _ (settings_of_line c.args.line) c.in-Err-Unread.file set (sym c.takes_files.ensures ∙ c.if-not-takes_files.false) (rw length-map (search rules)) (search rules) refl refl refl (search rules)

pub returns-in-Err-Memory : goal.returns-in-Err-Memory
returns-in-Err-Memory g c = λ words set.
    settles_starved _ (settings_of_line c.args.line) set (sym c.takes_files.ensures ∙ c.if-not-takes_files.false) (rw length-map (search rules)) (search rules) refl refl refl (search rules)

pub returns-in-Ok : goal.returns-in-Ok
returns-in-Ok g c = λ words set.
    settles_answered c.resolved_is_core.ensures c.certificates_have_one_size.ensures c.proved_is_accepted.ensures c.accepted_run_as_meant.ensures _ (settings_of_line c.args.line) c.in-Ok.texts set (rw length-map (search rules)) (read_well (sym c.takes_files.ensures ∙ c.if-not-takes_files.false) (rw length-map c.in-Ok.ensures.all))
    (rw c.as_slice.ensures at c.answer.ensures)

pub returns-then-not-takes_files : goal.returns-then-not-takes_files
returns-then-not-takes_files g c = λ words set.
    let asked : Settings = settings_of_line c.args.line in
    let is : c.args.line.command ≡ command.Sample = is_sample c.args.line.command (sym c.takes_files.ensures ∙ c.if-not-takes_files.true) in
    let there : SampleMade (map string_bytes c.args.line.files.now) = sample_made c.args.line.command (map string_bytes c.args.line.files.now) is c.requires.fits in
    settles_answered c.resolved_is_core.ensures c.certificates_have_one_size.ensures c.proved_is_accepted.ensures c.accepted_run_as_meant.ensures _ asked there.texts set (rw length-map (search rules)) (made is refl there.is) (c.answer_sample.ensures there.texts there.is)
