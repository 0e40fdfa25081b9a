-- The texts among the files of a command.
use Rattle.std.proofs.Common.{◌≡◌, ◌≤◌, List, [], ◌∷◌, refl, sym, subst, arith, length}
use Rattle.wy_settings.specs.Settings.{texts_among}
use Rattle.wy_settings.specs.declared.command_line.Command.{Command}
use Rattle.wy_settings.specs.declared.command_line.Command.TheVariants as command
use Rattle.wy_engine.specs.Judgement.{running}
use Rattle.wy_engine.specs.declared.running.Mode.{Mode}
use Rattle.wy_engine.specs.declared.running.Mode.TheVariants as mode

pub among_few : {X : Type 0} (asked : Command) (files : List X) → length (texts_among asked files) ≤ length files
among_few command.Check files = omega arith
among_few command.Authority files = omega arith
among_few command.Run files = omega arith
among_few command.Trace files = omega arith
among_few command.Observe files = omega arith
among_few command.Sample files = omega arith
among_few command.Format files = omega arith
among_few command.Certify files = omega arith
among_few command.Recheck [] = omega arith
among_few command.Recheck (x ∷ xs) = omega arith
among_few command.Policy [] = omega arith
among_few command.Policy (x ∷ xs) = omega arith

-- all files are texts, where the command is neither `policy` nor `recheck`
pub all_texts : {X : Type 0} (asked named : Command) (files : List X) → asked ≡ named → texts_among named files ≡ files → texts_among asked files ≡ files
all_texts asked named files is all = subst (λ (c : Command). texts_among c files ≡ files) (sym is) all

pub all_run : {X : Type 0} (asked : Command) (way : Mode) (files : List X) → asked ≡ running way → texts_among asked files ≡ files
all_run asked mode.Silent files run = all_texts asked command.Run files run refl
all_run asked mode.Traced files run = all_texts asked command.Trace files run refl
all_run asked mode.Observed files run = all_texts asked command.Observe files run refl
all_run asked (mode.Summed number) files run = all_texts asked command.Sample files run refl

-- .. and under `policy` and `recheck` those behind the first
pub behind_first : {X : Type 0} (asked : Command) (policy : X) (texts : List X) → asked ≡ command.Policy → texts_among asked (policy ∷ texts) ≡ texts
behind_first asked policy texts is = subst (λ (c : Command). texts_among c (policy ∷ texts) ≡ texts) (sym is) refl

pub behind_certificate : {X : Type 0} (asked : Command) (bytes : X) (texts : List X) → asked ≡ command.Recheck → texts_among asked (bytes ∷ texts) ≡ texts
behind_certificate asked bytes texts is = subst (λ (c : Command). texts_among c (bytes ∷ texts) ≡ texts) (sym is) refl
