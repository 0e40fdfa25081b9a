-- A call has one answer: a status by which its files or its folders end it, or one thing that it does.
use Rattle.std.proofs.Common.{◌≡◌, ◌∙◌, ℕ, List, Bool, true, false, subst, sym}
use Rattle.wy_certify.specs.CertificateLaws.{OneSize}
use Rattle.wy_settings.specs.Settings.{Settings}
use Rattle.wy_well_formed.specs.WellFormed.{ResolvedIsCore}
use Rattle.wy_engine.specs.Folders.{AsksCall, FoldersFit, StopsCall, by_files, by_folders}
use Rattle.wy_engine.specs.Judgement.{Did, ran}
use Rattle.wy_engine.specs.declared.status.Status.{Status}
use Rattle.wy_engine.proofs.OneAnswer.{ask_or_stop, one_ask, one_stop}

pub one_call_stop : ResolvedIsCore → OneSize → (asked : Settings) (files : List (List ℕ)) (end other : Status) → StopsCall asked files end → StopsCall asked files other → end ≡ other
one_call_stop law size asked files end other (by_files a) (by_files b) = one_stop law asked.command files end other a b
one_call_stop law size asked files end other (by_files a) (by_folders b is) = absurd (ask_or_stop law size asked.command files (ran b.program) end b.runs a)
one_call_stop law size asked files end other (by_folders a is) (by_files b) = absurd (ask_or_stop law size asked.command files (ran a.program) other a.runs b)
one_call_stop law size asked files end other (by_folders a is) (by_folders b is') = is ∙ sym is'

-- folders do not both fit and not fit
fit_or_lack : {b : Bool} → b ≡ true → b ≡ false → ⊥
fit_or_lack fit lack = cc

pub call_asks_or_stops : ResolvedIsCore → OneSize → (asked : Settings) (files : List (List ℕ)) (did : Did) (end : Status) → AsksCall asked files did → StopsCall asked files end → ⊥
call_asks_or_stops law size asked files did end a (by_files b) = ask_or_stop law size asked.command files did end a.files b
call_asks_or_stops law size asked files did end a (by_folders b is) =
    let fits : FoldersFit asked.folders (ran b.program) =
    subst (λ (d : Did). FoldersFit asked.folders d) (one_ask asked.command files did (ran b.program) a.files b.runs) a.folders in
    fit_or_lack fits b.lacks

pub one_call_ask : (asked : Settings) (files : List (List ℕ)) (did other : Did) → AsksCall asked files did → AsksCall asked files other → did ≡ other
one_call_ask asked files did other a b = one_ask asked.command files did other a.files b.files
