-- What a call promises of the texts that it was given: they stop it, or something is done with them.
use Rattle.std.proofs.Common.{◌≡◌, ◌⊎◌, inl, inr, ℕ, List, [], ◌∷◌, refl, sym, subst}
use Rattle.wy_syntax.specs.Trees.{ItemTree}
use Rattle.wy_types.specs.Program.{Program}
use Rattle.wy_well_formed.specs.WellFormed.{ResolvedIsCore}
use Rattle.wy_engine.specs.FileTrees.{HaveTrees}
use Rattle.wy_engine.specs.Headline.{Accepts}
use Rattle.wy_certify.specs.CertificateLaws.{OneSize}
use Rattle.wy_engine.specs.Certificates.{ProvesTexts}
use Rattle.wy_engine.specs.Certifying.{HasCertificate}
use Rattle.wy_engine.specs.Folders.{AsksCall, StopsCall}
use Rattle.wy_engine.specs.Judgement.{Asks, Did, KeepsToPolicy, Runnable, certified, checked, formatted, nothing, permitted, proved, ran, reported, running}
use Rattle.wy_engine.specs.Passing.{Passes}
use Rattle.wy_engine.specs.Status.{IsOfRun, IsOfTexts}
use Rattle.wy_engine.specs.TopCall.{TopCall}
use Rattle.wy_settings.specs.Settings.{Settings}
use Rattle.wy_settings.specs.declared.command_line.Command.{Command}
use Rattle.wy_settings.specs.declared.command_line.Command.TheVariants as command
use Rattle.wy_engine.specs.declared.running.Mode.{Mode}
use Rattle.wy_engine.specs.declared.running.Mode.TheVariants as mode
use Rattle.wy_engine.specs.declared.status.Status.TheVariants as status
use Rattle.wy_engine.proofs.CallAnswers.{call_asks_or_stops, one_call_ask, one_call_stop}
use Rattle.wy_engine.proofs.Statuses.{run_or_texts}

-- the texts that came stop the call
pub accepts_stopped : ResolvedIsCore → OneSize → (call : TopCall) (asked : Settings) (texts : List (List ℕ)) → (call.status ≡ status.Memory) ⊎ StopsCall asked texts call.status → Accepts call asked nothing texts
accepts_stopped law size call asked texts (inl is) = record {
  stopped = λ of_texts. absurd (subst IsOfTexts is of_texts);
  stops = λ end stop full. absurd (full is);
  done = inl refl;
  does = λ other asks full. absurd (full is);
}
accepts_stopped law size call asked texts (inr here) = record {
  stopped = λ _. here;
  stops = λ end stop full. one_call_stop law size asked texts call.status end here stop;
  done = inl refl;
  does = λ other asks full. absurd (call_asks_or_stops law size asked texts other call.status asks here);
}

-- .. or something is done with them
pub accepts_done : ResolvedIsCore → OneSize → (call : TopCall) (asked : Settings) (did : Did) (texts : List (List ℕ)) → AsksCall asked texts did → IsOfRun call.status → Accepts call asked did texts
accepts_done law size call asked did texts asks run = record {
  stopped = λ of_texts. absurd (run_or_texts call.status run of_texts);
  stops = λ end stop full. absurd (call_asks_or_stops law size asked texts did end asks stop);
  done = inr asks;
  does = λ other also full. one_call_ask asked texts did other asks also;
}

pub asks_check : (asked : Command) (texts : List (List ℕ)) (program : Program) → asked ≡ command.Check → Passes texts program → Asks asked texts checked
asks_check asked texts program check is = subst (λ (c : Command). Asks c texts checked) (sym check) (program, is)

pub asks_report : (asked : Command) (texts : List (List ℕ)) (program : Program) → asked ≡ command.Authority → Passes texts program → Asks asked texts (reported program)
asks_report asked texts program report is = subst (λ (c : Command). Asks c texts (reported program)) (sym report) is

pub asks_run : (asked : Command) (texts : List (List ℕ)) (way : Mode) (program : Program) → asked ≡ running way → Runnable texts program → Asks asked texts (ran program)
asks_run asked texts mode.Silent program run is = subst (λ (c : Command). Asks c texts (ran program)) (sym run) is
asks_run asked texts mode.Traced program run is = subst (λ (c : Command). Asks c texts (ran program)) (sym run) is
asks_run asked texts mode.Observed program run is = subst (λ (c : Command). Asks c texts (ran program)) (sym run) is
asks_run asked texts (mode.Summed number) program run is = subst (λ (c : Command). Asks c texts (ran program)) (sym run) is

pub asks_format : (asked : Command) (texts : List (List ℕ)) (tree : List ItemTree) → asked ≡ command.Format → HaveTrees 1 texts (tree ∷ []) → Asks asked texts (formatted tree)
asks_format asked texts tree format is = subst (λ (c : Command). Asks c texts (formatted tree)) (sym format) is

pub asks_policy : (asked : Command) (files : List (List ℕ)) → asked ≡ command.Policy → KeepsToPolicy files → Asks asked files permitted
asks_policy asked files policy is = subst (λ (c : Command). Asks c files permitted) (sym policy) is

pub asks_certify : (asked : Command) (texts : List (List ℕ)) (program : Program) → asked ≡ command.Certify → HasCertificate texts program → Asks asked texts (certified program)
asks_certify asked texts program certify is = subst (λ (c : Command). Asks c texts (certified program)) (sym certify) is

pub asks_recheck : (asked : Command) (files : List (List ℕ)) (program : Program) → asked ≡ command.Recheck → ProvesTexts files program → Asks asked files (proved program)
asks_recheck asked files program recheck is = subst (λ (c : Command). Asks c files (proved program)) (sym recheck) is
