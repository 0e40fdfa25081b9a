use Rattle.std.proofs.Common.{◌≡◌, ◌∙◌, Err, Global, List, Option, Vec, ap, map, string_bytes, rules, sym, true, false}
use Rattle.std.specs.Option.{option_map}
use Rattle.clap.specs.Matches.{found_of}
use Rattle.clap.specs.Walk.{rows_of}
use Rattle.wy_settings.specs.Folders.{GivenFolder, given_folder}
use Rattle.wy_settings.specs.declared.command_line.GivenFolder as own
use Rattle.wy_settings.proofs.Given.{headed, none_of_faults, read_from}
use Rattle.wy_settings.proofs.reading.settings.Goals as goal

-- folders that were found, as settings have them
abbrev given_folders : Option (Vec own.GivenFolder Global) → Option (List GivenFolder)
given_folders found = option_map (λ folders. map given_folder folders.items) found

pub returns-in_err-matches-clause-usage : goal.returns-in_err-matches-clause-usage
returns-in_err-matches-clause-usage c =
    let e : c.from_residual.result ≡ Err c.in_err-matches.field-0.0 = search rules in
    rw e (λ usage. none_of_faults (map string_bytes c.args.words.now) (c.in_err-matches.ensures.usage usage))

pub returns-then-not-takes-clause-usage : goal.returns-then-not-takes-clause-usage
returns-then-not-takes-clause-usage c = λ usage.
    let rows = rows_of (found_of c.in_ok-matches.matches) in
    read_from (map string_bytes c.args.words.now) rows c.in_ok-matches.ensures.taken c.in_ok-matches.ensures.rows
    ∙ headed rows _ (map given_folder c.in-Some-given.folders.items) c.in-Ok-files_in.files.items false c.in-Some.ensures (ap given_folders (sym c.in-Some-given.is) ∙ c.in-Ok.ensures) c.in-Ok-files_in.ensures
    (search rules ∙ sym c.takes.ensures ∙ c.if-not-takes.true)

pub returns-clause-given : goal.returns-clause-given
returns-clause-given c =
    let rows = rows_of (found_of c.in_ok-matches.matches) in
    read_from (map string_bytes c.args.words.now) rows c.in_ok-matches.ensures.taken c.in_ok-matches.ensures.rows
    ∙ headed rows _ (map given_folder c.in-Some-given.folders.items) c.in-Ok-files_in.files.items true c.in-Some.ensures (ap given_folders (sym c.in-Some-given.is) ∙ c.in-Ok.ensures) c.in-Ok-files_in.ensures
    (search rules ∙ sym c.takes.ensures ∙ c.if-not-takes.false)
